use Rattle.std.proofs.Common.{◌≡◌, max, drop}
use Rattle.run_picture.specs.LastMoments.{last_of}
use Rattle.run_picture.proofs.visit.last_moment.Given as goal

-- the greatest moment so far, and of the rest, is that of all
abbrev pub invariant-loop-visit : goal.invariant-loop-visit
invariant-loop-visit l = max l.last (last_of (drop l.visit-index l.visits)) ≡ last_of l.visits
