-- Devices of std's, as a giver and as a taker of bytes.
use Rattle.std.specs.Prelude.{ℕ}
use Rattle.std.specs.Io.Buffered.{writer_inner, writer_capacity}
use Rattle.byte_streams.specs.declared.from_read.FromRead.{FromRead}
use Rattle.byte_streams.specs.declared.buffered.Buffered.{Buffered}
use Rattle.byte_streams.specs.declared.into_sink.IntoSink.{IntoSink}

-- the device that takes
abbrev pub device_behind : {W : Type 0} → IntoSink W → W
device_behind s = s.device

-- the device that gives
abbrev pub device_of : {R : Type 0} → FromRead R → R
device_of s = s.device

-- the device for which bytes are gathered
abbrev pub buffered_device : {W : Type 0} → Buffered W → W
buffered_device s = writer_inner s.writer

-- how many are gathered at most
abbrev pub buffered_most : {W : Type 0} → Buffered W → ℕ
buffered_most s = writer_capacity s.writer
