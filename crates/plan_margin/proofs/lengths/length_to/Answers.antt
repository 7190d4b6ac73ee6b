use Rattle.alt_graph.proofs.ArcKinds.{blocking_arc_is}
use Rattle.plan_margin.proofs.GreatestLengths.{length_alone, length_both, greater_of}
use Rattle.plan_margin.proofs.lengths.length_to.Goals as goal

pub length_over-requires-clause-arc : goal.length_over-requires-clause-arc
length_over-requires-clause-arc c = (c.args.node, blocking_arc_is _ _ _ _ c.in-Some.ensures.arc)

pub length_over-requires-clause-short : goal.length_over-requires-clause-short
length_over-requires-clause-short c = c.requires.short _ _ (blocking_arc_is _ _ _ _ c.in-Some.ensures.arc)

pub returns-in-Some : goal.returns-in-Some
returns-in-Some c =
    length_both _ _ _ c.args.node _ _ _ _ _ c.in-Some.ensures.sound.shaped c.length_in_job-along.ensures c.in-Some.ensures.arc c.length_over.ensures
    (greater_of c.max.result c.length_in_job-along.result c.length_over.result c.max.ensures)

pub returns-in-None : goal.returns-in-None
returns-in-None c = length_alone _ _ _ c.args.node _ c.length_in_job-along.ensures c.in-None.ensures.arc
