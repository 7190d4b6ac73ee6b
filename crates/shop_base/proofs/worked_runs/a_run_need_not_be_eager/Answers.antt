use Rattle.std.proofs.Common.{[], ◌∷◌, Some, refl, sym, ◌∙◌, ap, arith, ℕ, ◌≡◌, List, slice_index_or, Option}
use Rattle.std.proofs.lemmas.Bool.Decides.{not_from_Decides}
use Rattle.shop_base.specs.Cell.{start, Cell}
use Rattle.shop_base.specs.Run.{Event, Reported, Moved}
use Rattle.shop_base.specs.Controlled.{IsControlledRun, Leads}
use Rattle.shop_base.specs.Examples.{in_series, arrive, waiting_reports, waiting_log, waiting_after, waiting_end}
use Rattle.shop_base.specs.Report.{at}
use Rattle.shop_base.proofs.OneControlledRun.{controlled_run_once}
use Rattle.shop_base.proofs.CellTests.{events_decides}
use Rattle.shop_base.proofs.RunTests.{turns_lead, rest_decides, ended_decides, turn_events, turn_end}
use Rattle.shop_base.proofs.ShapeTests.{shaped_decides}
use Rattle.shop_base.proofs.worked_runs.a_run_need_not_be_eager.Goals as goal

-- the moves that follow the reports in their controlled run
abbrev turns : List (Option (List ℕ))
turns = Some (0 ∷ []) ∷ Some [] ∷ Some (0 ∷ []) ∷ Some (0 ∷ 1 ∷ []) ∷ Some (1 ∷ []) ∷ Some (1 ∷ []) ∷ []

abbrev moment_of : Event → ℕ
moment_of (Reported r) = at r
moment_of (Moved o) = o.at

eager : Leads in_series (start in_series) waiting_reports (turn_events in_series (start in_series) waiting_reports turns) (turn_end in_series (start in_series) waiting_reports turns)
eager = turns_lead in_series (start in_series) waiting_reports turns refl

-- the moment of the eighth event
abbrev eighth : List Event → ℕ
eighth es = moment_of (slice_index_or es 7 (Reported (arrive 0 0)))

otherwise : (end : Cell) → IsControlledRun in_series waiting_reports waiting_log end → ⊥
otherwise end leads =
    let (es, last, once) = controlled_run_once in_series waiting_reports ((shaped_decides in_series).0 refl) in
    let same : waiting_log ≡ turn_events in_series (start in_series) waiting_reports turns = (once.only waiting_log end leads).0 ∙ sym (once.only _ _ eager).0 in
    let moments : ◌≡◌ {A = ℕ} 5 4 = ap eighth same in
    omega arith

pub returns-clause-run : goal.returns-clause-run
returns-clause-run c = (events_decides in_series (start in_series) waiting_log).0 refl

pub returns-clause-not_at_rest : goal.returns-clause-not_at_rest
returns-clause-not_at_rest c = not_from_Decides _ (rest_decides in_series (waiting_after 7)) refl

pub returns-clause-not_controlled : goal.returns-clause-not_controlled
returns-clause-not_controlled c = otherwise

pub returns-clause-ended : goal.returns-clause-ended
returns-clause-ended c = (ended_decides in_series waiting_end).0 refl
