use Rattle.std.proofs.Common.{◌≡◌, ◌≤◌, length, take}
use Rattle.run_journal.specs.WholeLines.{whole_lines}
use Rattle.run_journal.proofs.opening.whole_len.Given as goal

abbrev pub invariant-loop-len : goal.invariant-loop-len
invariant-loop-len l = record { within : l.len ≤ length l.text; same : whole_lines (take l.len l.text) ≡ whole_lines l.text }

abbrev pub decreases-loop-len : goal.decreases-loop-len
decreases-loop-len l = l.len
