-- A run that goes on, whose events were written again before.
use Rattle.std.proofs.{Common.{◌≡◌, List, ℕ, ◌++◌, Result, Err, inl, inr, ◌∙◌, refl, subst}, KnownBytes.Appends-trans}
use Rattle.std.specs.Io.KnownBytes.{Appends}
use Rattle.byte_streams.specs.declared.drive_fault.DriveFault.{DriveFault, TheVariants.{Read, Write, InputTooLong, Memory}}
use Rattle.byte_streams.specs.Lent.{Output, Streams, SinkState, output_sink}
use Rattle.cell_drive.specs.{declared.protocol.Protocol.Protocol, declared.resume.RestEnd.RestEnd, Recovered.Recovered}
use Rattle.cell_drive.specs.{Resuming.{IsContinuedRun, WritesAndContinues}, Replay.IsReplayWritten}
use Rattle.cell_drive.proofs.CellTexts.{took_first, took_second}

module _ (protocol : Protocol) (recovered : Recovered) where
  -- a text was written, and then the run has gone on
  pub gone_on_behind : (before : Streams) (middle : Output) (after : Streams) (outcome : Result RestEnd DriveFault) (replayed rest : List ℕ)
      → Appends before.output.written middle.written replayed → middle.failed ≡ before.output.failed
      → WritesAndContinues protocol rest recovered (record { input = before.input; output = middle }) after outcome → WritesAndContinues protocol (replayed ++ rest) recovered before after outcome
  gone_on_behind before middle after outcome replayed rest wrote unfailed (inl cut) =
      inl (cut.0, cut.1, cut.2, took_second before.output.written middle.written after.output.written replayed rest wrote cut.3)
  gone_on_behind before middle after outcome replayed rest wrote unfailed (inr on) = inr (record {
    from = on.from;
    middle = on.middle;
    again = Appends-trans before.output.written middle.written on.middle.written replayed rest wrote on.again;
    unfailed = on.unfailed ∙ unfailed;
    end = on.end;
    streamed = on.streamed;
    came_to = on.came_to;
  })

  -- memory doesn't run out by that
  pub never_memory : (text : List ℕ) (before after : Streams) (outcome : Result RestEnd DriveFault) → WritesAndContinues protocol text recovered before after outcome → outcome ≡ Err Memory → ⊥
  never_memory text before after outcome (inl cut) same = let write = cut.0 in absurd (cc)
  never_memory text before after outcome (inr on) same =
      let is : IsContinuedRun protocol text recovered before after (Err Memory) = subst (λ (o : Result RestEnd DriveFault). IsContinuedRun protocol text recovered before after o) same on in
      is.streamed.comes_to

-- a text wasn't written whole, and nothing was read
pub not_replayed : (T : Type 0) (protocol : Protocol) (recovered : Recovered) (before after : Streams) (fault : DriveFault) (text rest : List ℕ)
    → IsReplayWritten {T = T} text (output_sink before.output) (output_sink after.output) (Err fault) → after.input ≡ before.input → WritesAndContinues protocol (text ++ rest) recovered before after (Err fault)
not_replayed T protocol recovered before after Write text rest cut unread = inl (refl, cut.0, unread, took_first before.output.written after.output.written text rest cut.1)
not_replayed T protocol recovered before after Read text rest cut unread = absurd cut
not_replayed T protocol recovered before after InputTooLong text rest cut unread = absurd cut
not_replayed T protocol recovered before after Memory text rest cut unread = absurd cut

-- memory doesn't run out by that
pub never_replayed : (T : Type 0) (text : List ℕ) (before after : SinkState) (fault : DriveFault) → fault ≡ Memory → IsReplayWritten {T = T} text before after (Err fault) → ⊥
never_replayed T text before after fault is replayed = subst (λ (f : DriveFault). IsReplayWritten {T = T} text before after (Err f)) is replayed
