use Rattle.alt_graph.proofs.WholePlans.{times_ranks}
use Rattle.plan_verifier.proofs.Reasons.{verified_greatest, makespan_is}
use Rattle.plan_verifier.proofs.verified.Verified.makespan.Goals as goal

pub makespan-requires : goal.makespan-requires
makespan-requires c = times_ranks _ _ c.self.invariant.ordered.times

pub returns : goal.returns
returns c = rw (← c.self.view_is) (makespan_is _ _ _ (verified_greatest _ c.self.invariant) c.makespan.ensures)
