use Rattle.std.proofs.Common.{◌≡◌, take}
use Rattle.orlib_read.proofs.compare.are_same_steps.Given as goal

abbrev pub invariant-loop-place : goal.invariant-loop-place
invariant-loop-place l = take l.place l.a ≡ take l.place l.b
