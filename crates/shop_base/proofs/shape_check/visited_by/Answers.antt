use Rattle.std.proofs.Common.{ℕ, ◌<◌, ◌≤◌, ◌≡◌, nat_eq, slice_index, arith}
use Rattle.std.proofs.lemmas.List.{length-replicate}
use Rattle.shop_base.specs.declared.limits.TheConstants.{MAX_MACHINES}
use Rattle.shop_base.specs.Shop.{step_at}
use Rattle.shop_base.specs.Marks.{route_visits}
use Rattle.shop_base.proofs.Counting.{count_within}
use Rattle.shop_base.proofs.Marking.{times_none}
use Rattle.shop_base.proofs.shape_check.visited_by.Goals as goal

pub loop-k-init : goal.loop-k-init
loop-k-init c = (times_none MAX_MACHINES (λ k. (step_at c.args.route.now k).machine), length-replicate {A = ℕ} MAX_MACHINES 0)

pub overflow_add-visited : goal.overflow_add-visited
overflow_add-visited c =
    let m : ℕ = (step_at c.args.route.now c.loop-k.k).machine in
    let inside : m < MAX_MACHINES = c.requires.in_range c.loop-k.k c.loop-k-test.true in
    let count : slice_index c.loop-k.visited m ≡ route_visits c.args.route.now c.loop-k.k m = c.loop-k.invariant.0 m (omega (arith, c.loop-k.invariant.1, inside)) in
    let few : route_visits c.args.route.now c.loop-k.k m ≤ c.loop-k.k = count_within (λ (i : ℕ). nat_eq (step_at c.args.route.now i).machine m) c.loop-k.k in
    omega (arith, count, few, c.requires.few, c.loop-k-test.true)
