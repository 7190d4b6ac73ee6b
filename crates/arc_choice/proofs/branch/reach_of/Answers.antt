use Rattle.std.proofs.Common.{◌∙◌, arith}
use Rattle.arc_choice.specs.Choices.{no_arc}
use Rattle.arc_choice.proofs.Narrowing.{arc_is, arc_rises}
use Rattle.arc_choice.proofs.Reaching.{rises_connected, rises_alone}
use Rattle.arc_choice.proofs.branch.reach_of.Goals as goal

pub loop-arc-init : goal.loop-arc-init
loop-arc-init c = record {
  nodes = omega (arith, c.in_ok-reach.ensures.nodes, c.len.ensures, c.args.question.now.first.ok.0);
  rises = λ w answers. rises_alone c.in_ok-reach.reach c.len.result w c.in_ok-reach.ensures.nodes c.in_ok-reach.ensures.bits;
}

pub loop-arc-preserved : goal.loop-arc-preserved
loop-arc-preserved c =
    let is = arc_is c.args.question.now c.deref-arc-items.result.now c.loop-arc.arc-index no_arc c.deref-arc-items.ensures.value c.loop-arc-test.true c.requires in
    record {
      nodes = c.connect.ensures.nodes ∙ c.loop-arc.invariant.nodes;
      rises = λ w answers. rises_connected c.loop-arc.reach c.connect.new.self _ _ w c.connect.ensures.nodes (omega (arith, is.from, c.loop-arc.invariant.nodes)) (omega (arith, is.to, c.loop-arc.invariant.nodes)) c.connect.ensures.bits
          (arc_rises c.args.question.now c.deref-arc-items.result.now c.loop-arc.arc-index _ w c.deref-arc-items.ensures.value c.loop-arc-test.true answers) (c.loop-arc.invariant.rises w answers);
    }
