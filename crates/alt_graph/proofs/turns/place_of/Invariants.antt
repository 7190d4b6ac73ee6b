use Rattle.std.proofs.Common.{◌≡◌, ◌+◌}
use Rattle.shop_base.specs.Plan.{places_before, visits_before}
use Rattle.alt_graph.proofs.turns.place_of.Given as goal

-- the job's places among those looked at are taken off its earlier visits
abbrev pub invariant-loop-place : goal.invariant-loop-place
invariant-loop-place l = l.earlier + places_before l.shaped l.machine l.visit.job l.place ≡ visits_before l.shaped l.visit.job l.machine l.visit.place
