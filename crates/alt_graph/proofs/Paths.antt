-- Paths of a whole plan: where they begin and end, and that no exact run is faster than one.
use Rattle.std.proofs.Common.{◌≡◌, ℕ, ◌+◌, ◌-◌, ◌<◌, List, [], ◌∷◌, ◌++◌, length, length-append, refl, sym, ap, subst, ◌∙◌, arith}
use Rattle.std.proofs.Math.Seq.{get_or-append_seam}
use Rattle.std.proofs.lemmas.List.{get_or_append_left}
use Rattle.shop_base.specs.declared.node.Node.{Node}
use Rattle.shop_base.specs.Plan.{PlannedShop, jobs, release, IsWellShaped}
use Rattle.shop_base.specs.Graph.{node, leaving, Path, begins, follows}
use Rattle.shop_base.proofs.StartAhead.{no_exact_run_is_faster-holds}
use Rattle.shop_base.specs.ExactLaw.{IsNeverGoneBefore}
use Rattle.alt_graph.specs.Evidence.{EndsIn}
use Rattle.alt_graph.specs.Places.{node_at}
use Rattle.alt_graph.proofs.NodeNumbers.{node_same}

-- a path has a node
pub path_some : (p : PlannedShop) (nodes : List Node) (v : Node) (n : ℕ) → Path p nodes v n → 0 < length nodes
path_some p _ _ _ (begins j inside) = omega arith
path_some p _ _ _ (follows nodes u v n d path arc) = omega (arith, length-append nodes (v ∷ []))

-- it begins with the first place of a job of the shop
pub path_begins : (p : PlannedShop) (nodes : List Node) (v : Node) (n : ℕ) → Path p nodes v n → ((node_at nodes 0).place ≡ 0) × ((node_at nodes 0).job < jobs p)
path_begins p _ _ _ (begins j inside) = (refl, inside)
path_begins p _ _ _ (follows nodes u v n d path arc) =
    rw (get_or_append_left nodes (v ∷ []) (node 0 0) 0 (path_some p nodes u n path)) (path_begins p nodes u n path)

-- and ends with its last node
pub path_ends : (p : PlannedShop) (nodes : List Node) (v : Node) (n i : ℕ) → Path p nodes v n → i + 1 ≡ length nodes → node_at nodes i ≡ v
path_ends p _ _ _ i (begins j inside) end = let is : i ≡ 0 = omega arith in ap (node_at (node j 0 ∷ [])) is
path_ends p _ _ _ i (follows nodes u v n d path arc) end =
    let is : i ≡ length nodes = omega (arith, length-append nodes (v ∷ [])) in
    ap (node_at (nodes ++ v ∷ [])) is ∙ get_or-append_seam nodes v [] (node 0 0)

-- so that all paths along one list end alike
pub end_same : (p : PlannedShop) (nodes : List Node) (v w : Node) (n m : ℕ) → Path p nodes v n → Path p nodes w m → w ≡ v
end_same p nodes v w n m one other =
    let last : length nodes - 1 + 1 ≡ length nodes = omega (arith, path_some p nodes v n one) in
    sym (path_ends p nodes w m (length nodes - 1) other last) ∙ path_ends p nodes v n (length nodes - 1) one last

-- a first place of a job of the shop is a path
pub first_path : (p : PlannedShop) (v : Node) → v.place ≡ 0 → v.job < jobs p → Path p (v ∷ []) v (release p v.job)
first_path p v first inside = subst (λ (w : Node). Path p (w ∷ []) w (release p v.job)) (node_same (node v.job 0) v refl (sym first)) (begins v.job inside)

-- no exact run is faster than a chain to a leaving
pub chain_no_faster : (p : PlannedShop) (nodes : List Node) (v : Node) (n : ℕ) → IsWellShaped p → Path p nodes v n
    → (j : ℕ) → EndsIn nodes (leaving p j) → IsNeverGoneBefore p j n
chain_no_faster p nodes v n shaped path j (front, is) =
    no_exact_run_is_faster-holds p j nodes n shaped (subst (λ (w : Node). Path p nodes w n) ends path)
  where
    ends : v ≡ leaving p j
    ends = sym (path_ends p nodes v n (length front) path (omega (arith, ap length is, length-append front (leaving p j ∷ []))))
        ∙ ap (λ all. node_at all (length front)) is
        ∙ get_or-append_seam front (leaving p j) [] (node 0 0)
