use Rattle.std.proofs.Common.{◌≡◌, ◌≤◌, ◌+◌, ◌*◌, ◌++◌, length, drop}
use Rattle.run_picture.specs.Words.{escaped}
use Rattle.run_picture.proofs.words.put_escaped.Given as goal

-- the text from this place on is written
abbrev pub invariant-loop-place : goal.invariant-loop-place
invariant-loop-place g l = record {
  within : l.place ≤ length l.text;
  written : l.line ≡ escaped (drop l.place l.text) ++ l.initial.line;
  length : length l.line + 5 * l.place ≤ 5 * length l.text + length l.initial.line;
}

abbrev pub decreases-loop-place : goal.decreases-loop-place
decreases-loop-place g l = l.place
