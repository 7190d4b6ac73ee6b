use Rattle.std.proofs.Common.{◌≡◌, ◌++◌, drop}
use Rattle.people_names.specs.NameLines.{basic_bytes}
use Rattle.people_names.proofs.document.push_bytes.Given as goal

abbrev pub invariant-loop-byte : goal.invariant-loop-byte
invariant-loop-byte l = l.text.items ++ basic_bytes (drop l.byte-index l.bytes) ≡ l.initial.text.items ++ basic_bytes l.bytes
