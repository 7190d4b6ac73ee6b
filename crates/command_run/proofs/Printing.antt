-- What is printed on the error output.
use Rattle.std.proofs.Common.{◌≡◌, ℕ, List, Result, Ok, Err, OnOk, inl, inr}
use Rattle.byte_streams.specs.Sinks.{Wrote}
use Rattle.command_run.specs.Streams.{Errors}
use Rattle.command_run.specs.Ending.{WasPrinted}

pub printed_by : {T F : Type 0} (written : Result T F) (line : List ℕ) (before after : Errors)
    → Wrote written after.failed before.written after.written line → OnOk written (after.failed ≡ before.failed) → WasPrinted line before after
printed_by (Ok x) line before after wrote same = inl (wrote, same)
printed_by (Err fault) line before after wrote same = inr wrote
