use Rattle.plan_verifier.proofs.judging.judge_from.Goals as goal

pub first_late-requires-clause-ranks : goal.first_late-requires-clause-ranks
first_late-requires-clause-ranks g c = let ordered = rw c.in-Ordered.is at c.requires.ordered in ordered.times.ranks

pub late-requires-clause-ranks : goal.late-requires-clause-ranks
late-requires-clause-ranks g c = let ordered = rw c.in-Ordered.is at c.requires.ordered in ordered.times.ranks

pub late-requires-clause-job : goal.late-requires-clause-job
late-requires-clause-job g c = c.in-Some.ensures.inside

pub returns-in-Some : goal.returns-in-Some
returns-in-Some g c = let ordered = rw c.in-Ordered.is at c.requires.ordered in c.late.ensures (g.B.Bounds.bounds c.args.bounds.now) ordered c.in-Some.ensures

pub returns-in-None : goal.returns-in-None
returns-in-None g c = let ordered = rw c.in-Ordered.is at c.requires.ordered in (ordered, c.in-None.ensures)

pub returns-in-Cyclic : goal.returns-in-Cyclic
returns-in-Cyclic g c = rw c.in-Cyclic.is at c.requires.cyclic
