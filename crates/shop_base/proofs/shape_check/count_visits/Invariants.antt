use Rattle.shop_base.proofs.Marking.{AreVisitsBelow}
use Rattle.shop_base.proofs.shape_check.count_visits.Given as goal

-- the visits of the jobs looked at are counted
abbrev pub invariant-loop-job : goal.invariant-loop-job
invariant-loop-job l = AreVisitsBelow l.visits l.shop.routes l.job
