use Rattle.std.proofs.Common.{◌≡◌, map, take}
use Rattle.shop_base.specs.Vectors.{lists_of}
use Rattle.run_pruning.specs.Staying.{renumbered}
use Rattle.run_pruning.proofs.pruning.kept_orders.Given as goal

-- those of the machines so far
abbrev pub invariant-loop-machine : goal.invariant-loop-machine
invariant-loop-machine l = lists_of l.left.items ≡ map (renumbered l.kept) (take l.machine l.shaped.plan.order)
