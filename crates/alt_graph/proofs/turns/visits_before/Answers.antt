use Rattle.std.proofs.Common.{arith, nat_eq, ℕ}
use Rattle.shop_base.specs.Shop.{step_at}
use Rattle.shop_base.proofs.Counting.{count_within}
use Rattle.alt_graph.proofs.turns.visits_before.Goals as goal

pub overflow_add-visits : goal.overflow_add-visits
overflow_add-visits c = omega (arith, c.loop-step.invariant, count_within (λ (k : ℕ). nat_eq (step_at c.args.route.now k).machine c.args.machine) c.loop-step.step)
