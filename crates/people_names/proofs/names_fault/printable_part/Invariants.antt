use Rattle.std.proofs.Common.{◌≡◌, ◌++◌, drop, string_bytes}
use Rattle.people_names.specs.Keys.{printable_part}
use Rattle.people_names.proofs.names_fault.printable_part.Given as goal

abbrev pub invariant-loop-byte : goal.invariant-loop-byte
invariant-loop-byte l = string_bytes l.text ++ printable_part (drop l.byte-index l.bytes) ≡ printable_part l.bytes
