use Rattle.std.proofs.Common.{inr, refl, subst}
use Rattle.shop_base.specs.Plan.{PlannedShop}
use Rattle.shop_base.specs.ShapeFault.{IsFirstShapeFault}
use Rattle.command_answers.proofs.bound_answers.named_bounded.Goals as goal

pub returns-in_ok-bad_numbers_answer-in-Err : goal.returns-in_ok-bad_numbers_answer-in-Err
returns-in_ok-bad_numbers_answer-in-Err g c = inr (
  record {
    fault = c.in-Err.fault;
    first = subst (λ (serial : PlannedShop). IsFirstShapeFault serial c.in-Err.fault) c.in_ok-serially.ensures c.in-Err.ensures.first_fault;
    line = c.in_ok-bad_numbers_answer-in-Err.ensures;
  },
  refl,
)
