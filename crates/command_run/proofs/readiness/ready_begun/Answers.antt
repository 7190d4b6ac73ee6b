use Rattle.std.specs.Prelude.{MatchOption, is_some}
use Rattle.std.proofs.Common.{◌≡◌, Err, Some, inl, inr, ap, sym, ◌∙◌, subst, refl}
use Rattle.event_lines.specs.RunDigits.{plan_line}
use Rattle.event_lines.specs.declared.run_digits.RunDigits.{RunDigits}
use Rattle.run_journal.specs.Folders.{with_log}
use Rattle.run_journal.specs.Openings.{IsUnmade, IsUnnamed}
use Rattle.run_journal.proofs.Fronts.{if_some-at, if_some-map}
use Rattle.command_run.proofs.HeldLogs.{lacks_held}
use Rattle.command_run.proofs.readiness.ready_begun.Goals as goal

pub new_log-requires-clause-empty : goal.new_log-requires-clause-empty
new_log-requires-clause-empty g c = if_some-map c.args.opened (λ log is. is.empty) c.requires.empty

pub new_log-requires-clause-durable : goal.new_log-requires-clause-durable
new_log-requires-clause-durable g c = if_some-map c.args.opened (λ log is. is.ready.durable) c.requires.empty

pub new_log-requires-clause-unfailed : goal.new_log-requires-clause-unfailed
new_log-requires-clause-unfailed g c = if_some-map c.args.opened (λ log is. is.ready.unfailed) c.requires.empty

pub new_log-requires-clause-known : goal.new_log-requires-clause-known
new_log-requires-clause-known g c = if_some-map c.args.opened (λ log is. is.known) c.requires.empty

pub returns-in-Ok : goal.returns-in-Ok
returns-in-Ok g c = record {
  ready = record {
    log = record { durable = c.in-Ok.ensures.durable; unfailed = c.in-Ok.ensures.unfailed };
    holds = λ output known had. (
      if_some-at (g.L.Logs.folder c.args.logs.now).logs had.logs (λ _. g.L.Log.LogFile.seen c.in-Ok.log ≡ Some (plan_line c.args.digits.now)) had.there c.in-Ok.ensures.known
          ∙ ap Some (ap plan_line c.requires.digits ∙ sym had.log),
      had.log,
      had.output,
    );
    makes = λ step drives. inr (record { drove = drives; made = c.in-Ok.ensures.made });
  };
  undriven = tt;
}

pub returns-in-Err : goal.returns-in-Err
returns-in-Err g c =
    let log = c.in-Err.back.log in
    let folder = g.L.Logs.folder c.args.logs.now in
    let after = g.L.Logs.folder c.new_log.new.logs in
    let unnamed = subst (λ (d : RunDigits). MatchOption log (IsUnmade (is_some c.args.opened) c.args.path.now folder after c.in-Err.back.fault)
    (λ l. IsUnnamed c.args.path.now d (with_log (is_some c.args.opened) c.args.path.now folder) after (g.L.Log.LogFile.seen l) (g.L.Log.LogFile.crash_states l) (g.L.Log.LogFile.fault l) c.in-Err.back.fault)) c.requires.digits c.in-Err.ensures.unnamed in
    let unwritten = c.in-Err.ensures.unwritten (if_some-map c.args.opened (λ log is. is.unwritten) c.requires.empty) in
    record {
      ready = tt;
      undriven = λ known before had. (
          let lacks = lacks_held g.L.Log.LogFile.seen g.L.Log.LogFile.crash_states g.L.Log.LogFile.fault g.L.Log.LogFile.written folder after c.args.path.now c.args.begun.verified.planned (is_some c.args.opened) known before.output.written _ _ c.in-Err.back.fault had log unnamed unwritten in
          record {
            end = lacks.end;
            is = (lacks.driven, inl (record { fault = c.in-Err.back.fault; is = ap Err c.from.ensures; same = refl; why = lacks.why_is }));
            held = lacks.held;
          });
    }
