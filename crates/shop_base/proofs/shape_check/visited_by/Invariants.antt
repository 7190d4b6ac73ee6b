use Rattle.std.proofs.Common.{◌≡◌, length}
use Rattle.shop_base.specs.declared.limits.TheConstants.{MAX_MACHINES}
use Rattle.shop_base.specs.Marks.{AreTheCounts, route_visits}
use Rattle.shop_base.proofs.shape_check.visited_by.Given as goal

-- it is counted how often the steps looked at visit each machine
abbrev pub invariant-loop-k : goal.invariant-loop-k
invariant-loop-k l = AreTheCounts l.visited (route_visits l.route l.k) × (length l.visited ≡ MAX_MACHINES)
