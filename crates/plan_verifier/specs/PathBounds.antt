-- The bounds from which a path ahead is measured: each node ahead has one, where a path ahead can begin with it.
use Rattle.std.specs.Prelude.{ℕ, ◌+◌, nat_lt, if◌then◌else◌, map, Option, None, Some, unwrap_or}
use Rattle.std.specs.List.{range_with_len}
use Rattle.shop_base.specs.declared.node.Node.{Node}
use Rattle.shop_base.specs.Plan.{PlannedShop, jobs, steps}
use Rattle.shop_base.specs.Cell.{Cell, made}
use Rattle.shop_base.specs.Graph.{node}
use Rattle.alt_graph.specs.Bounds.{NodeBounds}
use Rattle.plan_verifier.specs.CellBounds.{rest_bounds, bound_in}

module _ (p : PlannedShop) (c : Cell) (t : ℕ) where
  -- none where the node is passed; else its bound or, where it has none, the present moment
  abbrev pub beginning_in : Node → Option ℕ
  beginning_in v = if nat_lt v.place (made c v.job) then None else Some (unwrap_or (bound_in p c t v) t)

  -- the table of these
  abbrev pub path_bounds : NodeBounds
  path_bounds = record {
    made = (rest_bounds p c t).made;
    recorded = map (λ j. map (λ k. beginning_in (node j k)) (range_with_len 0 (steps p j + 1))) (range_with_len 0 (jobs p));
  }
