-- The laws of a step and of every run: one list of moves fits a report, and no two jobs are on one machine.
use Rattle.std.specs.Prelude.{◌≡◌, ℕ, ◌<◌, ◌≤◌, List, [], ◌∷◌, ◌++◌, length, slice_index}
use Rattle.shop_base.specs.declared.move_order.Spot.TheVariants.{At}
use Rattle.shop_base.specs.declared.report.Report.{Report}
use Rattle.shop_base.specs.Plan.{PlannedShop, jobs, IsWellShaped}
use Rattle.shop_base.specs.Cell.{Cell, entries, IsOn}
use Rattle.shop_base.specs.Report.{CanReport}
use Rattle.shop_base.specs.Move.{CanMove, target, after_move}
use Rattle.shop_base.specs.Run.{Event, IsRun, ends_in, IsAtRest}
use Rattle.shop_base.specs.Controlled.{IsStep, IsControlledRun}
use Rattle.shop_base.specs.Sound.{IsSound}

-- from each sound cell at rest, exactly one list of moves fits each report that is possible there
abbrev pub OneListOfMovesFitsAReport : Type 0
OneListOfMovesFitsAReport = (p : PlannedShop) (c : Cell) (r : Report)
    → IsWellShaped p → IsSound p c → IsAtRest p c → CanReport p c r
    → (js : List ℕ) × IsStep p c r js × ((others : List ℕ) → IsStep p c r others → others ≡ js)

-- the controlled run of every list of reports exists, and there is only one
abbrev pub EveryListHasOneControlledRun : Type 0
EveryListHasOneControlledRun = (p : PlannedShop) (rs : List Report)
    → IsWellShaped p
    → (es : List Event) × (end : Cell) × IsControlledRun p rs es end
    × ((es' : List Event) (end' : Cell) → IsControlledRun p rs es' end' → (es' ≡ es) × (end' ≡ end))

-- no two jobs are on one machine
abbrev pub AreJobsApart : PlannedShop → Cell → Type 0
AreJobsApart p c = (i k j l m : ℕ) → IsOn p c i k m → IsOn p c j l m → i ≡ j

-- in every run, by any controller, no two jobs are on one machine
abbrev pub NoTwoJobsAreOnOneMachine : Type 0
NoTwoJobsAreOnOneMachine = (p : PlannedShop) (es : List Event) → IsWellShaped p → IsRun p es → AreJobsApart p (ends_in p es)

-- a controlled run is a run, which ends at rest with no two jobs on one machine
abbrev pub AControlledRunIsARun : Type 0
AControlledRunIsARun = (p : PlannedShop) (rs : List Report) (es : List Event) (end : Cell)
    → IsWellShaped p → IsControlledRun p rs es end
    → IsRun p es × (end ≡ ends_in p es) × IsAtRest p end × AreJobsApart p end

-- every run, by any controller, ends in a sound cell
abbrev pub EveryRunIsSound : Type 0
EveryRunIsSound = (p : PlannedShop) (es : List Event) → IsWellShaped p → IsRun p es → IsSound p (ends_in p es)

-- after a move that is possible in a run, its target was entered by those jobs of which KeepsPlan speaks
abbrev pub AMoveEntersItsTarget : Type 0
AMoveEntersItsTarget = (p : PlannedShop) (es : List Event) (j t m : ℕ)
    → IsWellShaped p → IsRun p es → CanMove p (ends_in p es) j t → target p (ends_in p es) j ≡ At m
    → entries (after_move p (ends_in p es) j t) m ≡ entries (ends_in p es) m ++ j ∷ []

-- no job is twice in the list
abbrev pub AreOnce : List ℕ → Type 0
AreOnce js = (a b : ℕ) → a < length js → b < length js → slice_index js a ≡ slice_index js b → a ≡ b

-- in a step that follows any run no job moves twice, and so its moves are at most as many as the jobs
abbrev pub NoJobMovesTwice : Type 0
NoJobMovesTwice = (p : PlannedShop) (es : List Event) (r : Report) (js : List ℕ)
    → IsWellShaped p → IsRun p es → IsStep p (ends_in p es) r js → AreOnce js × (length js ≤ jobs p)
