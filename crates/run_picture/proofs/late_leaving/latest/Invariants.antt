use Rattle.std.proofs.Common.{◌≡◌, max, drop}
use Rattle.run_picture.specs.Late.{latest}
use Rattle.run_picture.proofs.late_leaving.latest.Given as goal

-- the latest so far, and of the rest, is that of all
abbrev pub invariant-loop-leaving : goal.invariant-loop-leaving
invariant-loop-leaving l = max l.last (latest (drop l.leaving-index l.leavings)) ≡ latest l.leavings
