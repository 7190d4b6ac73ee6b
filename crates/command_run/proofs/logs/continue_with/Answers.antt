use Rattle.std.proofs.Common.{Bool, Some, Result, ap, ◌∙◌, subst, refl}
use Rattle.byte_streams.specs.declared.drive_fault.DriveFault.{DriveFault}
use Rattle.cell_drive.specs.Recovered.{plan_of, replayed_events}
use Rattle.run_journal.specs.Logged.{fault_if}
use Rattle.run_journal.proofs.Fronts.{if_some-both, if_some-map}
use Rattle.command_run.specs.Logs.{Driven, IsLoggedAnswer}
use Rattle.command_run.proofs.HeldLogs.{gone_on_to_end, keeps_in_log}
use Rattle.command_run.proofs.logs.continue_with.Goals as goal

pub continue_logged-end-requires-clause-whole : goal.continue_logged-end-requires-clause-whole
continue_logged-end-requires-clause-whole g c = if_some-map g.B.InitialState.before (λ t from. from.0) c.requires.recoverable

pub returns : goal.returns
returns g c =
    let had = c.continue_logged-end.ensures in
    let run = had.went_on in
    let end = c.continue_logged-end.result.end in
    let log_failed = c.continue_logged-end.result.log_failed in
    let p = plan_of c.args.run in
    let events = replayed_events c.args.run in
    let answer = subst (λ (done : Result Bool DriveFault). IsLoggedAnswer log_failed done c.logged_end-outcome.result) c.is_rest_done.ensures c.logged_end-outcome.ensures in
    let up = if_some-both g.B.InitialState.before (λ t from is. is p from.1 from.2) c.requires.recoverable had.recoverable in
    rw (← c.streams.view_is) (record {
      went_on = record {
        end = Some (Driven p events run.held);
        is = (refl, record { end = end; log_failed = log_failed; held = run.held; shows = run.shows; output_failed = had.output_failed; memory = had.memory; answer = answer; log = refl });
        held = (
          had.log_fault ∙ ap fault_if run.shows.log,
          tt,
          keeps_in_log _ _ _ _ p events run.held g.B.InitialState.before run.in_step had.crash up (gone_on_to_end log_failed end c.logged_end-outcome.result answer had.in_log),
        );
      };
    })
