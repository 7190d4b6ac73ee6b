use Rattle.std.proofs.Common.{ℕ, ◌<◌, ◌≤◌}
use Rattle.shop_base.specs.Plan.{Stands}
use Rattle.plan_revise.specs.Reaching.{ReachesLeaving}
use Rattle.plan_revise.proofs.reaching.Found.first_left.Given as goal

-- the visit stands at this place, and from the first one up to here no leaving is reached
abbrev pub invariant-loop-place : goal.invariant-loop-place
invariant-loop-place l = record {
  stands : Stands l.graph.plan l.machine l.place l.visit.job l.visit.place;
  before : (b : ℕ) → l.first ≤ b → b < l.place → ReachesLeaving l.graph.plan l.self.origin l.machine b → ⊥;
}
