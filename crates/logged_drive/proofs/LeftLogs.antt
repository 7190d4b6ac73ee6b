-- What a crash leaves of a log that is driven is of the plan that it names.
use Rattle.run_journal.{specs.Laws.ACrashKeepsThePlan, proofs.NamedLogs.{named_last, named_whole}}
use Rattle.logged_drive.specs.CrashLaw.{ADrivenLogIsOfItsPlan, ARecoveredLogIsOfItsPlan}
use Rattle.logged_drive.proofs.Crashes.{driven_run, recovered_again_run}

pub driven_log : ACrashKeepsThePlan → ADrivenLogIsOfItsPlan
driven_log plan_kept p protocol digits had base lines answers closing shown pending left end shaped accepted are whole named none answered given is =
    let base_whole = named_whole digits had base whole named in
    record {
      named = plan_kept digits base shown pending left base_whole (named_last digits had base are whole named) is;
      again = driven_run p protocol base lines answers closing shown pending left end shaped accepted base_whole none answered given is;
    }

pub recovered_log : ACrashKeepsThePlan → ARecoveredLogIsOfItsPlan
recovered_log plan_kept p protocol digits had base at recovered lines answers closing shown pending left end are whole named up answered given is =
    let base_whole = named_whole digits had base whole named in
    let once = recovered_again_run p protocol base at recovered lines answers closing shown pending left end base_whole up answered given is in
    (once.came, once.whole, record { named = plan_kept digits base shown pending left base_whole (named_last digits had base are whole named) is; again = once.again })
