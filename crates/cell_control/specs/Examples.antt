-- A worked example: a tank in which a rack is rinsed twice.
use Rattle.std.specs.Prelude.{ℕ, true, List, [], ◌∷◌, take, Some}
use Rattle.shop_base.specs.{Plan.PlannedShop, Cell.Cell, declared.move_order.Spot.TheVariants.Out, declared.move_order.Spot.TheVariants.At}
use Rattle.shop_base.specs.{Run.Event, Run.Reported, Run.Moved, Run.ends_in}
use Rattle.shop_base.specs.Examples.{on_for, planned, arrive, finish, tidy, go}

-- job 0 is rinsed in machine 0, has a bath in machine 1, and is rinsed again; then job 1 is rinsed. The tank is cleaned for 6
abbrev pub rinse : PlannedShop
rinse = planned
    (record { machines = 2; recirculates = true; routes = (on_for 0 3 ∷ on_for 1 2 ∷ on_for 0 3 ∷ []) ∷ (on_for 0 3 ∷ []) ∷ [] })
    (40 ∷ 40 ∷ []) ((0 ∷ 0 ∷ 1 ∷ []) ∷ (0 ∷ []) ∷ []) (Some (6 ∷ 0 ∷ []))

-- its run until job 0 has left
abbrev pub rinse_log : List Event
rinse_log = Reported (arrive 0 0) ∷ Moved (go 0 0 Out (At 0))
    ∷ Reported (arrive 0 1)
    ∷ Reported (finish 3 0 0) ∷ Moved (go 3 0 (At 0) (At 1))
    ∷ Reported (finish 5 0 1)
    ∷ Reported (tidy 9 0) ∷ Moved (go 9 0 (At 1) (At 0))
    ∷ Reported (finish 12 0 0) ∷ Moved (go 12 0 (At 0) Out)
    ∷ []

-- the cell after the first n events of that run
abbrev pub rinse_after : ℕ → Cell
rinse_after n = ends_in rinse (take n rinse_log)
