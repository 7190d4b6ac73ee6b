-- Chains of nodes, each before the next, walked backwards.
use Rattle.std.proofs.Common.{◌≡◌, ℕ, ◌++◌, ◌∷◌, [], List, Option, None, Some, sym, subst, append_assoc}
use Rattle.std.specs.Prelude.{reverse}
use Rattle.std.proofs.lemmas.List.{append-nil, reverse-append}
use Rattle.shop_base.specs.declared.node.Node.{Node}
use Rattle.shop_base.specs.Plan.{PlannedShop}
use Rattle.alt_graph.specs.Times.{NodeTimes, earliest_of, before_of, IsTimed, IsAttainedFrom, AreTimesFrom}
use Rattle.alt_graph.specs.Bounds.{NodeBounds, PathFrom, begins_at, goes_along}

-- a path of the greatest length to the last node goes on, over the nodes walked, to the target
abbrev pub IsWalkedTo : NodeTimes → List Node → Node → Node → Type 0
IsWalkedTo t nodes last target = (p : PlannedShop) (b : NodeBounds) → AreTimesFrom p b t → (front : List Node) → PathFrom p b front last (earliest_of t last) → PathFrom p b (front ++ reverse nodes) target (earliest_of t target)

pub goes_none : (t : NodeTimes) (v : Node) → IsWalkedTo t [] v v
goes_none t v p b are front path = subst (λ (nodes : List Node). PathFrom p b nodes v (earliest_of t v)) (sym (append-nil front)) path

-- one node further back
pub goes_on : (t : NodeTimes) (nodes : List Node) (u v target : Node) → before_of t v ≡ Some u → IsTimed t v → IsWalkedTo t nodes v target → IsWalkedTo t (nodes ++ v ∷ []) u target
goes_on t nodes u v target is timed on p b are front path =
    let attained : IsAttainedFrom p b t v (earliest_of t v) (Some u) = subst (λ (o : Option Node). IsAttainedFrom p b t v (earliest_of t v) o) is (are.attained v ((are.ranks.nodes v).1 timed)) in
    let longer : PathFrom p b (front ++ v ∷ []) v (earliest_of t v) = subst (λ (n : ℕ). PathFrom p b (front ++ v ∷ []) v n) attained.2 (goes_along front u v (earliest_of t u) attained.0 path attained.3 attained.1) in
    let whole = on p b are (front ++ v ∷ []) longer in
    let same : (front ++ v ∷ []) ++ reverse nodes ≡ front ++ reverse (nodes ++ v ∷ []) = simp (append_assoc, reverse-append) in
    subst (λ (all : List Node). PathFrom p b all target (earliest_of t target)) same whole

-- at a node with none before it, the walk is a path, backwards
pub goes_all : (t : NodeTimes) (nodes : List Node) (v target : Node) → before_of t v ≡ None → IsTimed t v → IsWalkedTo t nodes v target
    → (p : PlannedShop) (b : NodeBounds) → AreTimesFrom p b t → PathFrom p b (reverse (nodes ++ v ∷ [])) target (earliest_of t target)
goes_all t nodes v target is timed on p b are =
    let attained : IsAttainedFrom p b t v (earliest_of t v) None = subst (λ (o : Option Node). IsAttainedFrom p b t v (earliest_of t v) o) is (are.attained v ((are.ranks.nodes v).1 timed)) in
    let whole = on p b are (v ∷ []) (begins_at v (earliest_of t v) ((are.ranks.nodes v).1 timed) attained) in
    let same : (v ∷ []) ++ reverse nodes ≡ reverse (nodes ++ v ∷ []) = simp reverse-append in
    subst (λ (all : List Node). PathFrom p b all target (earliest_of t target)) same whole
