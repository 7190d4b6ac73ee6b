-- The devices that are lent to a call, as they are seen before it and after it.
use Rattle.std.specs.Prelude.{◌≡◌, ℕ, List, Option, Bool, Result, OnOk}
use Rattle.byte_streams.specs.declared.sink.Sink.{Ghosts as SinkOf}
use Rattle.byte_streams.specs.Sinks.{Wrote}
use Rattle.byte_streams.specs.declared.source.Source.{Ghosts as SourceOf}

-- what a taker of bytes has accepted, where that is known, and whether a write has failed
pub record SinkState : Type 0 where
  pub written : Option (List ℕ)
  pub failed : Bool

-- what an input still has to give, where that is known, and whether a read has failed
pub record Input : Type 0 where
  pub left : Option (List ℕ)
  pub failed : Bool

-- what an output has accepted, where that is known, whether a write has failed, and what isn't shown yet
pub record Output : Type 0 where
  pub written : Option (List ℕ)
  pub failed : Bool
  pub pending : List ℕ

-- an input and an output
pub record Streams : Type 0 where
  pub input : Input
  pub output : Output

-- the streams that a call is lent, before it and after it
pub record Lent : Type 0 where
  pub before : Streams
  pub after : Streams

-- the devices as they are seen
abbrev pub sink_state : {W : Type 0} → SinkOf W → W → SinkState
sink_state sink device = record { written = sink.written device; failed = sink.failed device }

abbrev pub input_of : {R : Type 0} → SourceOf R → R → Input
input_of source device = record { left = source.left device; failed = source.failed device }

abbrev pub output_of : {W : Type 0} → SinkOf W → (W → List ℕ) → W → Output
output_of sink pending device = record { written = sink.written device; failed = sink.failed device; pending = pending device }

abbrev pub streams_of : {R W : Type 0} → SourceOf R → SinkOf W → (W → List ℕ) → R → W → Streams
streams_of source sink pending reader writer = record { input = input_of source reader; output = output_of sink pending writer }

-- a reader and a writer that a call is lent, as it finds them and as it leaves them
abbrev pub lent : {R W : Type 0} → SourceOf R → SinkOf W → (W → List ℕ) → R → W → R → W → Lent
lent source sink pending reader writer reader_left writer_left =
    record { before = streams_of source sink pending reader writer; after = streams_of source sink pending reader_left writer_left }

-- an output as a taker
abbrev pub output_sink : Output → SinkState
output_sink output = record { written = output.written; failed = output.failed }

-- a text was written to the device: all of it, or its first bytes up to a write that failed
abbrev pub WroteTo : {W T E : Type 0} → SinkOf W → Result T E → W → W → List ℕ → Type 0
WroteTo sink outcome before after text = Wrote outcome (sink.failed after) (sink.written before) (sink.written after) text

-- one of these texts was written: all of it and no write failed, or its first bytes up to a write that failed
pub record WroteOne {T E : Type 0} (texts : List ℕ → Type 0) (outcome : Result T E) (before after : SinkState) : Type 0 where
  pub text : List ℕ
  pub is_text : texts text
  pub wrote : Wrote outcome after.failed before.written after.written text
  pub unfailed : OnOk outcome (after.failed ≡ before.failed)

-- so it was with the device
abbrev pub WroteOneTo : {W T E : Type 0} → SinkOf W → Result T E → W → W → (List ℕ → Type 0) → Type 0
WroteOneTo sink outcome before after texts = WroteOne texts outcome (sink_state sink before) (sink_state sink after)
