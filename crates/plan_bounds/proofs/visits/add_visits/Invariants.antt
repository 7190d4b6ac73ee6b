use Rattle.std.proofs.Common.{◌≡◌, drop}
use Rattle.shop_base.specs.Work.{route_work}
use Rattle.plan_bounds.specs.Bounds.{times_of, head}
use Rattle.plan_bounds.specs.Seen.{AreAllSeen}
use Rattle.plan_bounds.proofs.visits.add_visits.Given as goal

-- what is known of the steps looked at, the head of the next one, and the nominal times from there on
abbrev pub invariant-loop-place : goal.invariant-loop-place
invariant-loop-place l = let t = times_of l.shaped in
    AreAllSeen t l.job l.place l.all × (l.head ≡ head t l.job l.place) × (l.tail ≡ route_work (drop l.place l.route))
