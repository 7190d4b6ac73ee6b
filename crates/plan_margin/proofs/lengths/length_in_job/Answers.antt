use Rattle.std.proofs.Common.{◌*◌, ap}
use Rattle.alt_graph.proofs.ArcKinds.{job_arc_is}
use Rattle.plan_margin.proofs.GreatestLengths.{length_first, length_along}
use Rattle.plan_margin.proofs.lengths.length_in_job.Goals as goal

pub length_over-requires-clause-arc : goal.length_over-requires-clause-arc
length_over-requires-clause-arc c =
    let arc = rw c.shaped.ensures.plan at c.in-Some.ensures.arc in
    (c.args.node, job_arc_is _ _ _ _ arc)

pub length_over-requires-clause-short : goal.length_over-requires-clause-short
length_over-requires-clause-short c =
    let arc = rw c.shaped.ensures.plan at c.in-Some.ensures.arc in
    c.requires.short _ _ (job_arc_is _ _ _ _ arc)

pub returns-in-Some : goal.returns-in-Some
returns-in-Some c =
    let arc = rw c.shaped.ensures.plan at c.in-Some.ensures.arc in
    length_along _ _ _ c.args.node _ _ _ c.shaped.ensures.sound.shaped arc c.length_over.ensures

pub returns-in-None : goal.returns-in-None
returns-in-None c =
    let release = rw c.shaped-in-None.ensures.plan at c.release_of.ensures.release in
    length_first _ _ _ c.args.node _ c.requires.node (rw c.shaped.ensures.plan at c.in-None.ensures.arc) (ap (λ n. n * 1000) release)
