use Rattle.run_journal.proofs.Fronts.{if_some-map}
use Rattle.command_run.specs.Logs.{step_of}
use Rattle.command_run.proofs.HeldLogs.{held_as}
use Rattle.command_run.proofs.logs.logged_answer.Goals as goal

pub drive_ready-requires-clause-ready : goal.drive_ready-requires-clause-ready
drive_ready-requires-clause-ready g c = c.in-Ok.ensures.ready.log

pub drive_ready-requires-clause-before : goal.drive_ready-requires-clause-before
drive_ready-requires-clause-before g c = if_some-map g.B.InitialState.before (λ t had. c.in-Ok.ensures.ready.holds c.args.streams.output.written t had) c.requires.history

pub returns-in-Ok : goal.returns-in-Ok
returns-in-Ok g c = record {
  runs = held_as _ _ _ _ _ _ _ _ _ _
      (λ end is. (is.0, c.in-Ok.ensures.ready.makes (step_of c.args.streams c.drive_ready.result.outcome c.drive_ready.result.streams end) is.1)) c.drive_ready.ensures.drove;
}

pub returns-in-Err : goal.returns-in-Err
returns-in-Err g c = record { runs = c.in-Err.ensures.undriven g.B.InitialState.before c.args.streams c.requires.history }
