use Rattle.std.proofs.Common.{[], Bool, Some, Result, ap, ◌∙◌, subst, refl}
use Rattle.byte_streams.specs.declared.drive_fault.DriveFault.{DriveFault}
use Rattle.run_journal.specs.Logged.{fault_if}
use Rattle.run_journal.proofs.Fronts.{if_some-both}
use Rattle.command_run.specs.Logs.{Driven, IsLoggedAnswer}
use Rattle.command_run.proofs.HeldLogs.{driven_to_end, keeps_in_log, line_unprinted, line_whole}
use Rattle.command_run.proofs.logs.drive_with.Goals as goal

pub drive_logged-end-requires-clause-whole : goal.drive_logged-end-requires-clause-whole
drive_logged-end-requires-clause-whole g c = line_whole c.args.begun.verified.planned g.B.InitialState.before c.requires.line

pub returns : goal.returns
returns g c =
    let had = c.drive_logged-end.ensures in
    let run = had.drove in
    let end = c.drive_logged-end.result.end in
    let log_failed = c.drive_logged-end.result.log_failed in
    let answer = subst (λ (done : Result Bool DriveFault). IsLoggedAnswer log_failed done c.logged_end-outcome.result) c.is_done.ensures c.logged_end-outcome.ensures in
    let up = if_some-both g.B.InitialState.before (λ t none is. is none) (line_unprinted c.args.begun.verified.planned g.B.InitialState.before c.requires.line) had.recoverable in
    rw (← c.streams.view_is) (record {
      drove = record {
        end = Some (Driven c.args.begun.verified.planned [] run.held);
        is = (refl, record { end = end; log_failed = log_failed; held = run.held; shows = run.shows; output_failed = had.output_failed; memory = had.memory; answer = answer; log = refl });
        held = (had.log_fault ∙ ap fault_if run.shows.log, tt, keeps_in_log _ _ _ _ c.args.begun.verified.planned [] run.held g.B.InitialState.before run.in_step had.crash up (driven_to_end log_failed end c.logged_end-outcome.result answer had.in_log));
      };
    })
