use Rattle.std.proofs.Common.{Ok, Err, Some, ap, sym, subst, refl}
use Rattle.byte_streams.specs.Lent.{output_of}
use Rattle.cell_drive.specs.Recovered.{Recovered}
use Rattle.run_journal.proofs.Fronts.{if_some-map}
use Rattle.command_run.specs.Logs.{IsRecoveredFromLog, Left}
use Rattle.command_run.proofs.KnownLogs.{same_run}
use Rattle.command_run.proofs.logs.replay_and_continue.Goals as goal

pub continue_with-requires-clause-recoverable : goal.continue_with-requires-clause-recoverable
continue_with-requires-clause-recoverable g c = if_some-map g.B.InitialState.before (λ t from. subst (λ (x : Recovered). IsRecoveredFromLog x t.0) (sym c.in-Ok.ensures.same) from) c.requires.recoverable

pub returns-in-Ok : goal.returns-in-Ok
returns-in-Ok g c =
    let run = c.continue_with.ensures.went_on in
    rw (← c.streams.view_is) (record {
      went_on = record {
        end = run.end;
        is = (
          run.is.0,
          record {
            replay = Ok c.in-Ok.run';
            mid = output_of g.W.Sink g.W.BufferedSink.pending c.show_again.new.output;
            replays = c.in-Ok.ensures;
            goes_on = same_run c.args.protocol _ c.in-Ok.run' _ c.in-Ok.ensures.same run.is.1;
          },
        );
        held = run.held;
      };
    })

pub returns-in-Err : goal.returns-in-Err
returns-in-Err g c =
    let ready = c.requires.ready in
    rw (← c.streams.view_is) (record {
      went_on = record {
        end = Some Left;
        is = (refl, record { replay = Err c.in-Err.fault; mid = output_of g.W.Sink g.W.BufferedSink.pending c.show_again.new.output; replays = c.in-Err.ensures; goes_on = (ap Err c.from.ensures, refl, refl) });
        held = (ready.unfailed, tt, if_some-map g.B.InitialState.before (λ t seen. (seen, ready.durable)) c.requires.seen);
      };
    })
