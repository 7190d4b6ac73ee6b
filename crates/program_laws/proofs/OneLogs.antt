-- What a crash leaves of a log is of one controlled run.
use Rattle.std.proofs.Common.{◌≡◌, ℕ, List, [], ◌++◌, ap, sym, ◌∙◌, subst, refl, append_assoc, None}
use Rattle.shop_base.specs.Plan.{PlannedShop}
use Rattle.shop_base.specs.Cell.{start}
use Rattle.shop_base.specs.Run.{IsRun}
use Rattle.shop_base.specs.Controlled.{done}
use Rattle.cell_tables.specs.declared.entry.Entry.{Entry}
use Rattle.cell_tables.specs.Events.{events_of}
use Rattle.text_lines.specs.Lines.{ended_lines}
use Rattle.event_lines.proofs.Readings.{one_reading}
use Rattle.cell_drive.specs.CutLaw.{IsRunPrefix}
use Rattle.cell_drive.specs.Recovered.{replayed_events}
use Rattle.run_journal.specs.WholeLines.{whole_lines}
use Rattle.logged_drive.specs.CrashLaw.{IsRecoveredAgain, ADrivenRunIsRecovered, ARecoveredRunIsRecovered}
use Rattle.drive_laws.proofs.GoneOnAsOne.{it_is_one_so_far, it_is_recovered_as_one, the_first_events_have_their_orders}
use Rattle.drive_laws.proofs.Resumes.{recovered_to_rest}
use Rattle.program_laws.specs.OneLogLaw.{ANewLogIsOfOneRun, ARecoveredLogIsOfOneRun}

-- what was left records the first events of a run
from_left : (p : PlannedShop) (recorded came entries : List Entry) (shown left : List ℕ) → IsRecoveredAgain p recorded came shown left → entries ≡ recorded ++ came → IsRunPrefix p (whole_lines left) entries
from_left p recorded came entries shown left again whole = record {
  recorded = recorded ++ again.kept;
  parses = again.parses;
  run = subst (λ (es : List Entry). IsRun p (events_of es)) (one_reading p (ended_lines (whole_lines left)) again.can.recorded (recorded ++ again.kept) again.can.parses again.parses) again.can.is_run;
  later = again.lost;
  whole = whole ∙ ap (λ (es : List Entry). recorded ++ es) again.came_so ∙ sym (append_assoc recorded again.kept again.lost);
}

pub a_new_log : ADrivenRunIsRecovered → ANewLogIsOfOneRun
a_new_log driven_run p protocol base lines answers closing shown pending left end shaped acceptable whole none are given is_left =
    the_first_events_have_their_orders p (whole_lines left) end.entries shaped
    (it_is_one_so_far p protocol [] 1 lines answers end shaped ([], done (start p)) are)
    (from_left p [] end.entries end.entries shown left (driven_run p protocol base lines answers closing shown pending left end shaped acceptable whole none are given is_left) refl)

pub a_recovered_log : ARecoveredRunIsRecovered → ARecoveredLogIsOfOneRun
a_recovered_log recovered_again_run p protocol base recovered lines answers closing shown pending left end whole own up are given is_left =
    let shaped = (recovered_to_rest p own.lines None recovered own.up).0 in
    let more = recovered_again_run p protocol base None recovered lines answers closing shown pending left end whole up are given is_left in
    the_first_events_have_their_orders p (whole_lines left) end.entries shaped
    (it_is_one_so_far p protocol recovered.log.entries 1 lines answers end shaped (it_is_recovered_as_one p recovered own) are)
    (from_left p (replayed_events recovered) more.came end.entries shown left more.again more.whole)
