use Rattle.std.proofs.Common.{◌≡◌, ℕ, ◌+◌, ◌<◌, ◌≤◌, length, slice_get, option_map}
use Rattle.cellplan_c.specs.Numbers.{order_numbers}
use Rattle.cellplan_c.proofs.rooms.put_orders.Given as goal

abbrev pub invariant-loop-place : goal.invariant-loop-place
invariant-loop-place l = record {
  room : length l.room ≡ length l.initial.room;
  put : (i : ℕ) → i < l.place → slice_get l.room i ≡ option_map order_numbers (slice_get l.orders (l.first + i));
  kept : (i : ℕ) → l.place ≤ i → slice_get l.room i ≡ slice_get l.initial.room i;
}
