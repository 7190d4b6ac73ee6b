use Rattle.std.proofs.Common.{◌+◌, ◌*◌, ◌-◌, ◌≤◌, length}
use Rattle.plan_bounds.specs.Bounds.{times_of, alone_after}
use Rattle.plan_bounds.proofs.Showing.{Shows}
use Rattle.plan_bounds.proofs.alone.out_alone.Given as goal

-- the job has entered the steps looked at, no more than are ahead
abbrev pub invariant-loop-place : goal.invariant-loop-place
invariant-loop-place l = let n = l.place - l.made in
    (n ≤ length l.route - l.made) × Shows (alone_after (times_of l.shaped) l.job l.made l.at n) (l.at + n * 2000000) l.ready l.free
