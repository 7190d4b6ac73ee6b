use Rattle.std.proofs.Common.{◌≡◌, length}
use Rattle.plan_net.proofs.net_of_plan.order_of.Given as goal

-- an entry for each place so far
abbrev pub invariant-loop-place : goal.invariant-loop-place
invariant-loop-place l = length l.order.items ≡ l.place
