use Rattle.std.proofs.Common.{◌≡◌, take}
use Rattle.orlib_read.proofs.compare.is_same_shop.Given as goal

abbrev pub invariant-loop-job : goal.invariant-loop-job
invariant-loop-job l = take l.job l.a.routes ≡ take l.job l.b.routes
