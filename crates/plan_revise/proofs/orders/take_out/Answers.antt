use Rattle.std.proofs.Common.{◌<◌, ◌∙◌, length, refl, arith}
use Rattle.std.proofs.lemmas.List.{length-set}
use Rattle.shop_base.specs.Shop.{step_at}
use Rattle.shop_base.specs.Vectors.{lists_of}
use Rattle.plan_revise.specs.Orders.{without_last, removed}
use Rattle.plan_revise.proofs.Written.{changed_step}
use Rattle.plan_revise.proofs.orders.take_out.Goals as goal

pub index_mut-requires : goal.index_mut-requires
index_mut-requires c = omega (arith, c.requires c.loop-step.step-index (omega arith), c.loop-step.invariant.size, c.loop-step.orders.ok.0)

pub loop-step-preserved : goal.loop-step-preserved
loop-step-preserved c =
    let inside : (step_at c.args.steps.now c.loop-step.step-index).machine < length c.loop-step.orders.items = omega (arith, c.requires c.loop-step.step-index (omega arith), c.loop-step.invariant.size) in
    record {
      so_far = changed_step (without_last c.args.job) c.args.steps.now c.loop-step.orders.items c.loop-step.step-index (step_at c.args.steps.now c.loop-step.step-index).machine c.index_mut.result.now c.take_last_out_of.new.order
          (removed c.args.job c.args.steps.now (lists_of c.args.orders.now.items)) (omega arith) refl inside c.index_mut.ensures.value c.take_last_out_of.ensures c.loop-step.invariant.so_far;
      size = length-set c.loop-step.orders.items (step_at c.args.steps.now c.loop-step.step-index).machine c.take_last_out_of.new.order ∙ c.loop-step.invariant.size;
    }
