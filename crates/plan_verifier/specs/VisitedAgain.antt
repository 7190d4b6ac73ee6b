-- The worked examples of a machine that is visited again: plans, and a run of one.
use Rattle.std.specs.Prelude.{ℕ, ◌+◌, true, List, [], ◌∷◌, take, None, Some}
use Rattle.shop_base.specs.declared.node.Node.{Node}
use Rattle.shop_base.specs.declared.move_order.Spot.TheVariants.{Out, At}
use Rattle.shop_base.specs.Shop.{JobShop}
use Rattle.shop_base.specs.Plan.{PlannedShop}
use Rattle.shop_base.specs.Cell.{Cell}
use Rattle.shop_base.specs.Run.{Event, Reported, Moved, ends_in}
use Rattle.shop_base.specs.Graph.{node}
use Rattle.shop_base.specs.Examples.{on_for, planned, arrive, finish, tidy, go, number_in}
use Rattle.plan_verifier.specs.declared.node_bound.Hold.TheVariants.{Cleaned}
use Rattle.plan_verifier.specs.declared.node_bound.NodeBound.{NodeBound}

-- a rack is rinsed in a tank, machine 0, dipped into a bath, machine 1, and rinsed in the tank again; another rack is rinsed once
abbrev pub two_racks : JobShop
two_racks = record {
  machines = 2;
  recirculates = true;
  routes = (on_for 0 3 ∷ on_for 1 2 ∷ on_for 0 3 ∷ [])
      ∷ (on_for 0 3 ∷ [])
      ∷ [];
}

-- the other rack goes first, the tank is cleaned for 6 after each, and the first rack has to be out by this moment
abbrev pub rinsed_by : ℕ → PlannedShop
rinsed_by budget = planned two_racks (budget ∷ 3 ∷ []) ((1 ∷ 0 ∷ 0 ∷ []) ∷ (0 ∷ []) ∷ []) (Some (6 ∷ 0 ∷ []))

-- the greatest lengths of paths to the nodes, and ranks
abbrev pub rinsed_moments : Node → ℕ
rinsed_moments = number_in ((9 ∷ 12 ∷ 18 ∷ 21 ∷ []) ∷ (0 ∷ 3 ∷ []) ∷ [])

abbrev pub rinsed_ranks : Node → ℕ
rinsed_ranks = number_in ((2 ∷ 3 ∷ 4 ∷ 5 ∷ []) ∷ (0 ∷ 1 ∷ []) ∷ [])

-- the longest path to the leaving of the first rack
abbrev pub rinsed_path : List Node
rinsed_path = node 1 0 ∷ node 1 1 ∷ node 0 0 ∷ node 0 1 ∷ node 0 2 ∷ node 0 3 ∷ []

-- a run in which everything is reported when it is due, until the first rack is in the bath
abbrev pub rinsed_log : List Event
rinsed_log = Reported (arrive 0 0) ∷ Reported (arrive 0 1) ∷ Moved (go 0 1 Out (At 0)) ∷ Reported (finish 3 1 0) ∷ Moved (go 3 1 (At 0) Out)
    ∷ Reported (tidy 9 0) ∷ Moved (go 9 0 Out (At 0)) ∷ Reported (finish 12 0 0) ∷ Moved (go 12 0 (At 0) (At 1)) ∷ []

-- the cell once the other rack is out, and once the first one is in the bath
abbrev pub one_out : Cell
one_out = ends_in (rinsed_by 21) (take 5 rinsed_log)

abbrev pub one_dipped : Cell
one_dipped = ends_in (rinsed_by 21) rinsed_log

-- the bound by a cleaning of the tank since a moment
abbrev pub by_tank : ℕ → NodeBound
by_tank from = record { moment = from + 6; holds = Cleaned 0 from 6; overdue = None }

-- two racks that are rinsed, dipped and rinsed again, of which the second one is to be rinsed while the first one is dipped
abbrev pub entangled : PlannedShop
entangled = planned
    (record {
      machines = 2;
      recirculates = true;
      routes = (on_for 0 3 ∷ on_for 1 2 ∷ on_for 0 3 ∷ [])
          ∷ (on_for 0 3 ∷ on_for 1 2 ∷ on_for 0 3 ∷ [])
          ∷ [];
    })
    (100 ∷ 100 ∷ []) ((0 ∷ 1 ∷ 0 ∷ 1 ∷ []) ∷ (0 ∷ 1 ∷ []) ∷ []) None
