-- How late the nodes of a rest can be reached.
use Rattle.std.proofs.Common.{ℕ, ◌+◌, ◌*◌, ◌≤◌, List, arith}
use Rattle.shop_base.specs.declared.node.Node.{Node}
use Rattle.shop_base.specs.declared.limits.TheConstants.{MAX_JOBS, MAX_MACHINES, MAX_MOMENT, MAX_NOMINAL}
use Rattle.shop_base.specs.{Plan.{PlannedShop, IsWellShaped}, Cell.Cell}
use Rattle.shop_base.specs.{Activity.{Activity, Arrival, Operation, Cleaning, GoesOn}, Sound.IsSound}
use Rattle.shop_base.specs.{Graph.{IsNode, RanksRise}, Ahead.{IsAhead, PathAhead, now, held, onward}}
use Rattle.shop_base.proofs.{Bounds.operations_of-le, Visits.visits_job, InShop.{outside_in_shop, cleaned_in_shop}}
use Rattle.alt_graph.specs.{Bounds.MAX_BOUND, Times.{NodeTimes, rank_of, earliest_of}}
use Rattle.alt_graph.proofs.ArcKinds.{arc_short}
use Rattle.plan_verifier.specs.{Held.AreBegun, Rest.AreOrderedAhead}

module _ (p : PlannedShop) (c : Cell) (t : ℕ) (sound : IsSound p c) (shaped : IsWellShaped p) (begun : AreBegun c) (early : t ≤ MAX_MOMENT) where
  -- what goes on is due soon
  due_soon : (a : Activity) (due : ℕ) → GoesOn p c a due → due ≤ MAX_BOUND
  due_soon (Arrival j) due is = omega (arith, is.is_due, shaped.limits.releases j (outside_in_shop p c j sound is.outside))
  due_soon (Operation j m) due (k, is) =
      let visits = is.on.visits in
      omega (arith, is.is_due, sound.begun j, sound.last_in_range, ((shaped.shop.routes j (visits_job p j k m visits)).steps k visits.within).nominal)
  due_soon (Cleaning m) due (from, is) = omega (arith, is.is_due, begun m from is.is_cleaned, shaped.limits.cleanings m (cleaned_in_shop p c m from sound is.is_cleaned))

  -- so is each node to which a path ahead leads
  path_soon : (rank : Node → ℕ) → RanksRise p rank → (nodes : List Node) (v : Node) (n : ℕ) → PathAhead p c t nodes v n → n ≤ MAX_BOUND + MAX_NOMINAL * rank v
  path_soon rank rise _ _ _ (now v is ahead) = omega (arith, early)
  path_soon rank rise _ _ _ (held a due v goes holds) = omega (arith, due_soon a due goes)
  path_soon rank rise _ _ _ (onward nodes u v n d path arc) =
      let more : rank u + 1 ≤ rank v = omega (arith, rise u v d arc) in
      let product : MAX_NOMINAL * (rank u + 1) ≤ MAX_NOMINAL * rank v = omega (arith, more) in
      omega (arith, path_soon rank rise nodes u n path, arc_short p u v d shaped arc, product)

  -- so no earliest moment is later than a bound of a node, and a nominal time for each node of the largest shop
  pub node_soon : (times : NodeTimes) → AreOrderedAhead p c t times → (v : Node) → IsNode p v → IsAhead c v → earliest_of times v ≤ MAX_BOUND + MAX_NOMINAL * (MAX_JOBS + MAX_JOBS * MAX_MACHINES)
  node_soon times ordered v is ahead =
      let (nodes, path) = ordered.reached v is ahead in
      omega (arith, path_soon (rank_of times) ordered.ranks.rise nodes v (earliest_of times v) path, ordered.ranks.few v is, operations_of-le p.shop shaped.shop, shaped.shop.counts.few_jobs)
