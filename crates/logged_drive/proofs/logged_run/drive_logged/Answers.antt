use Rattle.std.proofs.Common.{sym, ap, ◌∙◌}
use Rattle.cell_drive.specs.InProtocol.{IsDriveIn}
use Rattle.run_journal.specs.Logged.{fault_if}
use Rattle.logged_drive.proofs.LoggedSteps.{all_in_log, at_end, at_start, began, keeps_shown, rewritten, write_failed}
use Rattle.logged_drive.proofs.Given.{recovered_after}
use Rattle.logged_drive.proofs.LoggedSteps as law
use Rattle.logged_drive.proofs.logged_run.drive_logged.Goals as goal

pub returns-clause-drove : goal.returns-clause-drove
returns-clause-drove g c =
    let drives = IsDriveIn c.args.begun.protocol c.args.begun.verified in
    let new = c.new-writer.ensures in
    let parts = c.into_parts-log.ensures in
    rewritten drives _ _ _ _ _ _ _ _ _ _ new.written (record {
      held = c.drive_begun-end.new.writer;
      shows = record {
        drove = began drives _ c.new-writer.result _ _ new.pending new.unfailed.0 c.drive_begun-end.ensures.driven;
        log = c.has_log_failed-log_failed.ensures;
        output = parts.written;
        shown = parts.shown;
      };
      in_step = parts.in_step;
    })

pub returns-clause-crash : goal.returns-clause-crash
returns-clause-crash g c =
    let parts = c.into_parts-log.ensures in
    keeps_shown c.a_crash_keeps_what_was_shown.ensures g.B.InitialState.before _ _ c.drive_begun-end.new.writer _ parts.written c.requires.whole parts.in_step

pub returns-clause-recoverable : goal.returns-clause-recoverable
returns-clause-recoverable g c =
    let drives = IsDriveIn c.args.begun.protocol c.args.begun.verified in
    let new = c.new-writer.ensures in
    let parts = c.into_parts-log.ensures in
    recovered_after c.args.begun.protocol c.args.begun.verified c.is_of_accepted_plan.ensures g.B.InitialState.before _ _ c.drive_begun-end.new.writer _ _ _ _ _ parts.written c.requires.whole
    (at_start g.B.InitialState.before _ _ _ new.written c.requires.before) (began drives _ c.new-writer.result _ _ new.pending new.unfailed.0 c.drive_begun-end.ensures.driven) parts.in_step

pub returns-clause-in_log : goal.returns-clause-in_log
returns-clause-in_log g c = at_end c.drive_begun-end.result (λ same.
    let parts = c.into_parts-log.ensures in
    let unfailed = same ∙ c.new-writer.ensures.unfailed.0 in
    all_in_log g.B.InitialState.before _ _ c.drive_begun-end.new.writer _ parts.written unfailed (parts.durable unfailed) parts.in_step) (law.unfailed _ _ _ _ _ c.drive_begun-end.ensures.driven)

pub returns-clause-log_fault : goal.returns-clause-log_fault
returns-clause-log_fault g c = c.into_parts-log.ensures.log_fault ∙ sym (ap fault_if c.has_log_failed-log_failed.ensures)

pub returns-clause-output_failed : goal.returns-clause-output_failed
returns-clause-output_failed g c is unblamed =
    c.into_parts-log.ensures.output_failed (write_failed _ _ _ _ _ is c.drive_begun-end.ensures.driven) (sym c.has_log_failed-log_failed.ensures ∙ unblamed)
