use Rattle.std.proofs.Common.{◌≡◌, length}
use Rattle.run_journal.specs.TornEnds.{goes_on, begins}
use Rattle.run_journal.proofs.torn_end.begins.Given as goal

abbrev pub invariant-loop-byte : goal.invariant-loop-byte
invariant-loop-byte l = record { same : goes_on l.more l.wanted l.rest ≡ begins l.form l.bytes }

abbrev pub decreases-loop-byte : goal.decreases-loop-byte
decreases-loop-byte l = length l.rest
