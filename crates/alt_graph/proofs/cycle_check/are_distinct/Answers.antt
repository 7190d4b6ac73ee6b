use Rattle.std.proofs.Common.{refl, arith, below_more}
use Rattle.alt_graph.proofs.CycleParts.{untrue}
use Rattle.alt_graph.proofs.NodeLists.{distinct_at, distinct_from}
use Rattle.alt_graph.proofs.cycle_check.are_distinct.Goals as goal

pub returns-then-not-is_new : goal.returns-then-not-is_new
returns-then-not-is_new c = (λ bad. absurd (untrue bad), λ distinct. c.if-not-is_new.ensures.1 (distinct_at c.args.nodes.now distinct c.loop-place.place (omega arith)))

pub loop-place-preserved : goal.loop-place-preserved
loop-place-preserved c = below_more _ _ c.loop-place.invariant (c.if-not-is_new.ensures.0 refl)

pub returns : goal.returns
returns c = (λ _. distinct_from c.args.nodes.now (λ i lt. c.loop-place.invariant i (omega arith)), λ _. refl)
