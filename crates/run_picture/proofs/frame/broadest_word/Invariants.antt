use Rattle.std.proofs.Common.{◌≡◌, ◌≤◌}
use Rattle.run_picture.specs.Frame.{broadest_word}
use Rattle.run_picture.proofs.frame.broadest_word.Given as goal

-- the broadest of the machines so far
abbrev pub invariant-loop-machine : goal.invariant-loop-machine
invariant-loop-machine l = record {
  broadest : l.most ≡ broadest_word l.names l.machine;
  narrow : l.most ≤ 4800;
}
