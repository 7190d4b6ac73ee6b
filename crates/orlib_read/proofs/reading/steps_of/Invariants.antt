use Rattle.std.proofs.Common.{◌≡◌, ◌+◌, ◌≤◌, length}
use Rattle.orlib_read.specs.Words.{words_of}
use Rattle.orlib_read.specs.Reading.{steps_at}
use Rattle.orlib_read.proofs.Loops.{with_front}
use Rattle.orlib_read.proofs.reading.steps_of.Given as goal

abbrev pub invariant-loop-machine : goal.invariant-loop-machine
invariant-loop-machine l = record {
  steps : with_front l.route.items (steps_at l.line.number l.before (words_of l.rest)) ≡ steps_at l.line.number 0 (words_of l.line.bytes.now);
  few : l.before + length l.rest ≤ length l.line.bytes.now;
}

abbrev pub decreases-loop-machine : goal.decreases-loop-machine
decreases-loop-machine l = length l.rest
