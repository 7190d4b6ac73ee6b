use Rattle.std.proofs.Common.{◌≡◌, ℕ, ◌+◌, List, [], ◌∷◌, ◌++◌, Some, refl, drop, take, arith}
use Rattle.std.proofs.lemmas.Bool.Decides.{not_from_Decides, Decides-ltb}
use Rattle.shop_base.specs.declared.move_order.Spot.TheVariants.{At}
use Rattle.shop_base.specs.Cell.{Cell, start}
use Rattle.shop_base.specs.Activity.{Operation, Cleaning}
use Rattle.shop_base.specs.Controlled.{done}
use Rattle.shop_base.specs.Run.{Event, Moved, ends_in}
use Rattle.shop_base.specs.Sound.{IsSound}
use Rattle.shop_base.specs.Graph.{node}
use Rattle.shop_base.specs.Ahead.{PathAhead, now, held, onward, GoesOnTo, settled}
use Rattle.shop_base.specs.Examples.{with_room, slow_reports, slow_log, slow_after, slow_end, slow_moments, go}
use Rattle.shop_base.proofs.Ahead.{path_left}
use Rattle.shop_base.proofs.AheadTests.{holds_decides, ahead_fit}
use Rattle.shop_base.proofs.CellTests.{events_decides, going_decides}
use Rattle.shop_base.proofs.GraphTests.{arc_decides}
use Rattle.shop_base.proofs.InTime.{path_kept}
use Rattle.shop_base.proofs.Keeping.{run-sound}
use Rattle.shop_base.proofs.RunTests.{turns_lead, moves_decides, rest_decides}
use Rattle.shop_base.proofs.ShapeTests.{shaped_decides}
use Rattle.shop_base.proofs.worked_runs.a_run_goes_on_from_there.Goals as goal

sound : IsSound with_room (slow_after 5)
sound = run-sound with_room (take 5 slow_log) ((shaped_decides with_room).0 refl) ((events_decides with_room (start with_room) (take 5 slow_log)).0 refl)

-- a path ahead to the leaving of job 0 goes on to that of job 1
along : (t n : ℕ) → PathAhead with_room (slow_after 5) t (node 0 2 ∷ []) (node 0 2) n → PathAhead with_room (slow_after 5) t (node 0 2 ∷ node 1 0 ∷ node 1 1 ∷ node 1 2 ∷ []) (node 1 2) (n + 2 + 4 + 1)
along t n path =
    onward (node 0 2 ∷ node 1 0 ∷ node 1 1 ∷ []) (node 1 1) (node 1 2) (n + 2 + 4) 1
    (onward (node 0 2 ∷ node 1 0 ∷ []) (node 1 0) (node 1 1) (n + 2) 4
    (onward (node 0 2 ∷ []) (node 0 2) (node 1 0) n 2 path ((arc_decides with_room (node 0 2) (node 1 0) 2).0 refl))
    ((arc_decides with_room (node 1 0) (node 1 1) 4).0 refl))
    ((arc_decides with_room (node 1 1) (node 1 2) 1).0 refl)

-- job 0 can move at once, so something happens
not_left : (es : List Event) (end : Cell) → GoesOnTo with_room (slow_after 4) 7 [] es end → es ≡ [] → ⊥
not_left _ _ (settled [] rs es end settles leads) is = not_from_Decides _ (rest_decides with_room (slow_after 4)) refl settles.quiescent
not_left _ _ (settled (j ∷ js) rs es end settles leads) is = cc

pub returns-clause-arrival : goal.returns-clause-arrival
returns-clause-arrival c = refl

pub returns-clause-operation : goal.returns-clause-operation
returns-clause-operation c = refl

pub returns-clause-no_other : goal.returns-clause-no_other
returns-clause-no_other c = not_from_Decides _ (holds_decides with_room (slow_after 5) (Operation 0 1) (node 1 0)) refl

pub returns-clause-cleaning : goal.returns-clause-cleaning
returns-clause-cleaning c = (holds_decides with_room (slow_after 7) (Cleaning 1) (node 1 0)).0 refl

pub returns-clause-none_waits : goal.returns-clause-none_waits
returns-clause-none_waits c = λ v stands. not_from_Decides _ (Decides-ltb 2 2) refl stands.within

pub returns-clause-path : goal.returns-clause-path
returns-clause-path c = along 8 9 (held (Operation 0 1) 9 (node 0 2) ((going_decides with_room (slow_after 5) (Operation 0 1)).0 refl) refl)

pub returns-clause-longest : goal.returns-clause-longest
returns-clause-longest c = λ nodes n path. path_kept with_room (slow_after 5) 8 slow_moments nodes (node 1 2) n sound (ahead_fit with_room (slow_after 5) 8 slow_moments refl refl refl) path

pub returns-clause-overdue : goal.returns-clause-overdue
returns-clause-overdue c = along 10 10 (now (node 0 2) (record { job = omega arith; place = omega arith }) (omega arith))

pub returns-clause-passed : goal.returns-clause-passed
returns-clause-passed c = λ nodes n path. absurd (omega (arith, (path_left with_room (slow_after 5) 8 nodes (node 0 1) n sound path).ahead))

pub returns-clause-goes_on : goal.returns-clause-goes_on
returns-clause-goes_on c = settled (0 ∷ []) (drop 3 slow_reports) (drop 5 slow_log) slow_end
    (record { moves = (moves_decides with_room (slow_after 4) 7 (0 ∷ [])).0 refl; quiescent = (rest_decides with_room (slow_after 5)).0 refl })
    (turns_lead with_room (slow_after 5) (drop 3 slow_reports) (Some (0 ∷ []) ∷ Some (1 ∷ []) ∷ Some (1 ∷ []) ∷ Some (1 ∷ []) ∷ Some [] ∷ []) refl)

pub returns-clause-later : goal.returns-clause-later
returns-clause-later c =
    let end : Cell = ends_in with_room (take 4 slow_log ++ Moved (go 8 0 (At 0) (At 1)) ∷ []) in
    settled (0 ∷ []) [] [] end (record { moves = (moves_decides with_room (slow_after 4) 8 (0 ∷ [])).0 refl; quiescent = (rest_decides with_room end).0 refl }) (done end)

pub returns-clause-not_left : goal.returns-clause-not_left
returns-clause-not_left c = λ end goes. not_left [] end goes refl
