-- What lies outside of the program, as it is seen before and after a step.
use Rattle.run_journal.specs.Folders.{Folder}
pub use Rattle.byte_streams.specs.Lent.{Input, Output, Streams, SinkState as Errors, input_of, output_of, streams_of, sink_state as errors_of}

-- the files, the standard streams, the error output, and the logs that are there
pub record Devices (W : Type 0) : Type 0 where
  pub texts : W
  pub streams : Streams
  pub errors : Errors
  pub folder : Folder
