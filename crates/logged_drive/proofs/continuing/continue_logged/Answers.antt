use Rattle.std.proofs.Common.{sym, ap, ◌∙◌}
use Rattle.cell_drive.specs.InProtocol.{IsContinuedIn}
use Rattle.run_journal.specs.Logged.{fault_if}
use Rattle.logged_drive.proofs.LoggedSteps.{all_in_log, at_end, at_start, began, keeps_shown, no_memory_behind, rewritten, unfailed_behind, write_failed_behind}
use Rattle.logged_drive.proofs.Given.{recovered_once_more}
use Rattle.logged_drive.proofs.continuing.continue_logged.Goals as goal

pub returns-clause-went_on : goal.returns-clause-went_on
returns-clause-went_on g c =
    let goes_on = IsContinuedIn c.args.protocol c.args.run in
    let new = c.new-writer.ensures in
    let parts = c.into_parts-log.ensures in
    rewritten goes_on _ _ _ _ _ _ _ _ _ _ new.written (record {
      held = c.continue_in-end.new.writer;
      shows = record {
        drove = began goes_on _ c.new-writer.result _ _ new.pending new.unfailed.0 c.continue_in-end.ensures;
        log = c.has_log_failed-log_failed.ensures;
        output = parts.written;
        shown = parts.shown;
      };
      in_step = parts.in_step;
    })

pub returns-clause-crash : goal.returns-clause-crash
returns-clause-crash g c =
    let parts = c.into_parts-log.ensures in
    keeps_shown c.a_crash_keeps_what_was_shown.ensures g.B.InitialState.before _ _ c.continue_in-end.new.writer _ parts.written c.requires.whole parts.in_step

pub returns-clause-recoverable : goal.returns-clause-recoverable
returns-clause-recoverable g c =
    let goes_on = IsContinuedIn c.args.protocol c.args.run in
    let new = c.new-writer.ensures in
    let parts = c.into_parts-log.ensures in
    recovered_once_more c.args.protocol c.args.run g.B.InitialState.before _ _ c.continue_in-end.new.writer _ _ _ _ _ parts.written c.requires.whole (at_start g.B.InitialState.before _ _ _ new.written c.requires.before)
    (began goes_on _ c.new-writer.result _ _ new.pending new.unfailed.0 c.continue_in-end.ensures) parts.in_step

pub returns-clause-in_log : goal.returns-clause-in_log
returns-clause-in_log g c = at_end c.continue_in-end.result (λ same.
    let parts = c.into_parts-log.ensures in
    let unfailed = same ∙ c.new-writer.ensures.unfailed.0 in
    all_in_log g.B.InitialState.before _ _ c.continue_in-end.new.writer _ parts.written unfailed (parts.durable unfailed) parts.in_step) (unfailed_behind _ _ _ _ _ c.continue_in-end.ensures)

pub returns-clause-log_fault : goal.returns-clause-log_fault
returns-clause-log_fault g c = c.into_parts-log.ensures.log_fault ∙ sym (ap fault_if c.has_log_failed-log_failed.ensures)

pub returns-clause-output_failed : goal.returns-clause-output_failed
returns-clause-output_failed g c is unblamed =
    c.into_parts-log.ensures.output_failed (write_failed_behind _ _ _ _ _ is c.continue_in-end.ensures) (sym c.has_log_failed-log_failed.ensures ∙ unblamed)

pub returns-clause-memory : goal.returns-clause-memory
returns-clause-memory g c is = no_memory_behind _ _ _ _ _ is c.continue_in-end.ensures
