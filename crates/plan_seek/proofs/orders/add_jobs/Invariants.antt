use Rattle.std.proofs.Common.{◌-◌}
use Rattle.std.specs.List.{range_with_len}
use Rattle.shop_base.specs.Vectors.{lists_of}
use Rattle.plan_seek.specs.Orders.{visitors}
use Rattle.plan_seek.specs.Growing.{IsGrown}
use Rattle.plan_seek.proofs.orders.add_jobs.Given as goal

-- the jobs so far were added
abbrev pub invariant-loop-job : goal.invariant-loop-job
invariant-loop-job l = IsGrown (lists_of l.initial.orders.items) (lists_of l.orders.items) (visitors l.shop (range_with_len l.from (l.job - l.from)))
