use Rattle.std.proofs.Common.{◌≡◌, refl, subst}
use Rattle.byte_streams.specs.declared.drive_fault.DriveFault.TheVariants.{Memory}
use Rattle.byte_streams.specs.Lent.{output_of, streams_of, sink_state}
use Rattle.cell_drive.specs.{InProtocol.IsContinuedIn, Recovered.Recovered, Resuming.due_text, Replay.replay_text}
use Rattle.cell_drive.proofs.GoneOn.{gone_on_behind, never_memory, never_replayed, not_replayed}
use Rattle.cell_drive.proofs.resume.resume_in.Goals as goal

pub returns-in-Ok-clause-resumed : goal.returns-in-Ok-clause-resumed
returns-in-Ok-clause-resumed g c =
    let recovered = c.args.recovered in
    let protocol = c.args.protocol in
    let replayed = c.in-Ok.ensures.replayed in
    let middle = output_of g.W.Sink g.W.BufferedSink.pending c.replay_in.new.writer in
    let on = subst (λ (run : Recovered). IsContinuedIn protocol run (streams_of g.R.Source g.W.Sink g.W.BufferedSink.pending c.args.reader.now c.replay_in.new.writer)
    (streams_of g.R.Source g.W.Sink g.W.BufferedSink.pending c.continue_in.new.reader c.continue_in.new.writer) c.continue_in.result) c.in-Ok.ensures.run c.continue_in.ensures in
    gone_on_behind protocol recovered (streams_of g.R.Source g.W.Sink g.W.BufferedSink.pending c.args.reader.now c.args.writer.now) middle _ c.continue_in.result
    (replay_text protocol recovered) (due_text recovered) replayed.0 replayed.1 on

pub returns-in-Ok-clause-memory : goal.returns-in-Ok-clause-memory
returns-in-Ok-clause-memory g c memory = never_memory c.args.protocol c.in-Ok.run' (due_text c.in-Ok.run') _ _ c.continue_in.result c.continue_in.ensures memory

pub returns-in-Err-clause-resumed : goal.returns-in-Err-clause-resumed
returns-in-Err-clause-resumed g c =
    not_replayed Recovered c.args.protocol c.args.recovered (streams_of g.R.Source g.W.Sink g.W.BufferedSink.pending c.args.reader.now c.args.writer.now)
    (streams_of g.R.Source g.W.Sink g.W.BufferedSink.pending c.args.reader.now c.replay_in.new.writer) c.in-Err.fault (replay_text c.args.protocol c.args.recovered) (due_text c.args.recovered) c.in-Err.ensures.replayed refl

pub returns-in-Err-clause-memory : goal.returns-in-Err-clause-memory
returns-in-Err-clause-memory g c memory =
    let is : c.in-Err.fault ≡ Memory = cc in
    never_replayed Recovered (replay_text c.args.protocol c.args.recovered) (sink_state g.W.Sink c.args.writer.now) (sink_state g.W.Sink c.replay_in.new.writer) c.in-Err.fault is c.in-Err.ensures.replayed
