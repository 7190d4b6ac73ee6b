use Rattle.std.proofs.Common.{[], ◌∷◌, refl}
use Rattle.std.proofs.lemmas.Bool.Decides.{not_from_Decides}
use Rattle.shop_base.specs.Graph.{node}
use Rattle.shop_base.specs.Examples.{in_ring}
use Rattle.shop_base.proofs.GraphTests.{arc_decides, cycle_decides}
use Rattle.shop_base.proofs.ShapeTests.{shaped_decides}
use Rattle.shop_base.proofs.worked_runs.orders_in_a_ring_make_a_cycle.Goals as goal

pub returns-clause-shaped : goal.returns-clause-shaped
returns-clause-shaped c = (shaped_decides in_ring).0 refl

pub returns-clause-cycle : goal.returns-clause-cycle
returns-clause-cycle c = (cycle_decides in_ring (node 0 1 ∷ node 2 1 ∷ node 1 1 ∷ [])).0 refl

pub returns-clause-first : goal.returns-clause-first
returns-clause-first c = (arc_decides in_ring (node 0 1) (node 2 1) 0).0 refl

pub returns-clause-second : goal.returns-clause-second
returns-clause-second c = (arc_decides in_ring (node 2 1) (node 1 1) 0).0 refl

pub returns-clause-third : goal.returns-clause-third
returns-clause-third c = (arc_decides in_ring (node 1 1) (node 0 1) 0).0 refl

pub returns-clause-reversed : goal.returns-clause-reversed
returns-clause-reversed c = not_from_Decides _ (cycle_decides in_ring (node 0 1 ∷ node 1 1 ∷ node 2 1 ∷ [])) refl

pub returns-clause-not_closed : goal.returns-clause-not_closed
returns-clause-not_closed c = not_from_Decides _ (cycle_decides in_ring (node 0 1 ∷ node 2 1 ∷ [])) refl

pub returns-clause-empty : goal.returns-clause-empty
returns-clause-empty c = not_from_Decides _ (cycle_decides in_ring []) refl

pub returns-clause-twice : goal.returns-clause-twice
returns-clause-twice c = not_from_Decides _ (cycle_decides in_ring (node 0 1 ∷ node 2 1 ∷ node 1 1 ∷ node 0 1 ∷ node 2 1 ∷ node 1 1 ∷ [])) refl
