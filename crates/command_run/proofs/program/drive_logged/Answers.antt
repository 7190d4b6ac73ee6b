use Rattle.std.proofs.Common.{◌≡◌, ◌==◌, ◌&&◌, if◌then◌else◌, ℕ, List, Bool, false, Option, IfSome, ap, sym, ◌∙◌, subst}
use Rattle.command_run.specs.Streams.{Devices}
use Rattle.command_run.specs.Logs.{IsHistoryOfLog, is_driven}
use Rattle.command_run.specs.Program.{kept_log_in, protocol_in, inputs_in, starts_again, status_by}
use Rattle.command_run.proofs.Choosing.{history_of_path, logged, shown_as}
use Rattle.command_run.proofs.Endings.{own_or}
use Rattle.command_run.proofs.Keepers.{kept_ends}
use Rattle.command_run.proofs.LoggedEndings.{silent_logged}
use Rattle.command_run.proofs.LogsAtEnd.{held_at_end}
use Rattle.command_run.proofs.program.drive_logged.Goals as goal

pub logged_answer-outcome-requires-clause-history : goal.logged_answer-outcome-requires-clause-history
logged_answer-outcome-requires-clause-history g c =
    let chosen = c.args.chosen.now in
    rw (c.inputs-inputs.ensures, c.protocol-protocol.ensures)
    (subst (λ (d : Devices g.row.T.Denot). IfSome g.B.InitialState.before (IsHistoryOfLog g.T.Texts.gives d.folder (inputs_in chosen) c.args.path.now (protocol_in chosen) chosen.at d.texts d.streams.output.written)) (sym c.devices.view_is)
    (history_of_path g.T.Texts.gives chosen c.args.devices c.args.path.now g.B.InitialState.before c.requires.kept c.requires.known))

pub returns : goal.returns
returns g c =
    let run = c.logged_answer-outcome.ensures.runs in
    let outcome = c.logged_answer-outcome.result.outcome in
    let again : c.starts_again-again.result ≡ starts_again (is_driven run.end) outcome = c.starts_again-again.ensures ∙ ap (λ (b : Bool). starts_again b outcome) run.is.0 in
    let status_is : c.status_with_log-status.result ≡ status_by (kept_log_in c.args.chosen.now) run.end outcome c.end-own.result =
    c.status_with_log-status.ensures ∙ ap (λ (b : Bool). if c.end-own.result == 5 && b then 6 else c.end-own.result) again
    ∙ ap (λ (k : Option (List ℕ)). status_by k run.end outcome c.end-own.result) (sym c.requires.kept) in
    rw (← c.devices.view_is) (record {
      runs = record {
        end = run.end;
        is = record {
          outcome = c.logged_answer-outcome.result.outcome;
          mid = c.logged_answer-outcome.result.streams;
          runs = record {
            shown = false;
            known = shown_as _ false _ _ (sym c.devices.view_is) c.requires.apart;
            by = logged g.T.Texts.gives c.args.chosen.now _ _ c.logged_answer-outcome.result.outcome c.logged_answer-outcome.result.streams run.end c.args.path.now c.inputs-inputs.result c.protocol-protocol.result c.requires.kept
                c.inputs-inputs.ensures c.protocol-protocol.ensures run.is.1;
          };
          input = c.end-own.ensures.input;
          own = c.end-own.result;
          ends = kept_ends c.args.chosen.now c.args.path.now c.logged_answer-outcome.result.outcome _ _ _ _ c.end-own.result c.requires.kept c.end-own.ensures.ends;
          status_is = status_is;
        };
        held = held_at_end g.L.Log.LogFile.seen g.L.Log.LogFile.crash_states g.L.Log.LogFile.fault g.L.Log.LogFile.written g.B.InitialState.before c.logged_answer-outcome.result.outcome _ _ _ _ c.end-own.result _
            c.logged_answer-outcome.result.log run.end (λ driven. silent_logged _ _ _ _ _ _ run.is.1.shaped _ run.is.1.drives driven) c.end-own.ensures.ends
            (own_or (kept_log_in c.args.chosen.now) run.end c.logged_answer-outcome.result.outcome c.end-own.result _ status_is) run.held;
      };
    })
