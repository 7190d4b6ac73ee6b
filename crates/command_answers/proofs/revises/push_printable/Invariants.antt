use Rattle.std.proofs.Common.{◌≡◌, ◌++◌, drop}
use Rattle.command_answers.specs.Revising.{visible_part}
use Rattle.command_answers.proofs.revises.push_printable.Given as goal

abbrev pub invariant-loop-byte : goal.invariant-loop-byte
invariant-loop-byte l = l.text.items ++ visible_part (drop l.byte-index l.value) ≡ l.initial.text.items ++ visible_part l.value
