use Rattle.std.proofs.Common.{◌≡◌, ◌≢◌, ℕ, ◌<◌, ◌≤◌, length, get_or}
use Rattle.plan_revise.proofs.orders.take_last_out_of.Given as goal

-- the order is as it was, and from this place on the job isn't in it
abbrev pub invariant-loop-place : goal.invariant-loop-place
invariant-loop-place l = record {
  same : l.order.items ≡ l.initial.order.items;
  none : (a : ℕ) → l.place ≤ a → a < length l.initial.order.items → get_or l.initial.order.items a 0 ≢ l.job;
}
