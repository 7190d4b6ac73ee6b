use Rattle.std.proofs.Common.{◌≡◌, drop, length}
use Rattle.shop_base.specs.Vectors.{lists_of}
use Rattle.plan_revise.specs.Orders.{removed}
use Rattle.plan_revise.proofs.orders.take_out.Given as goal

-- the steps that are left give the whole
abbrev pub invariant-loop-step : goal.invariant-loop-step
invariant-loop-step l = record {
  so_far : removed l.job (drop l.step-index l.steps) (lists_of l.orders.items) ≡ removed l.job l.steps (lists_of l.initial.orders.items);
  size : length l.orders.items ≡ length l.initial.orders.items;
}
