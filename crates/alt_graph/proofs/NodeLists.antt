-- Distinct nodes by their places, and arcs that lead along what is left of a list.
use Rattle.std.proofs.Common.{◌≢◌, ℕ, zero, suc, ◌<◌, List, [], ◌∷◌, length, drop, arith}
use Rattle.shop_base.specs.declared.node.Node.{Node}
use Rattle.shop_base.specs.Plan.{PlannedShop}
use Rattle.shop_base.specs.Graph.{ArcsLead, IsNew, AreDistinct}
use Rattle.alt_graph.specs.Places.{node_at, IsNewAt}

new_at : (u : Node) (ws : List Node) → IsNew u ws → (k : ℕ) → k < length ws → u ≢ node_at ws k
new_at u [] new k lt = absurd (omega arith)
new_at u (w ∷ ws) new zero lt = new.0
new_at u (w ∷ ws) new (suc k) lt = new_at u ws new.1 k (omega arith)

new_from : (u : Node) (ws : List Node) → ((k : ℕ) → k < length ws → u ≢ node_at ws k) → IsNew u ws
new_from u [] apart = tt
new_from u (w ∷ ws) apart = (apart zero (omega arith), new_from u ws (λ k lt. apart (suc k) (omega arith)))

one_more_new : (u : Node) (us : List Node) (i : ℕ) → IsNew u us → i < length us → IsNewAt us i → IsNewAt (u ∷ us) (suc i)
one_more_new u us i new lt rest zero before = new_at u us new i lt
one_more_new u us i new lt rest (suc k) before = rest k (omega arith)

-- in a list of distinct nodes, no node stands at an earlier place
pub distinct_at : (nodes : List Node) → AreDistinct nodes → (i : ℕ) → i < length nodes → IsNewAt nodes i
distinct_at [] distinct i lt = absurd (omega arith)
distinct_at (u ∷ us) distinct zero lt = λ k before. absurd (omega arith)
distinct_at (u ∷ us) distinct (suc i) lt = one_more_new u us i distinct.0 (omega arith) (distinct_at us distinct.1 i (omega arith))

pub distinct_from : (nodes : List Node) → ((i : ℕ) → i < length nodes → IsNewAt nodes i) → AreDistinct nodes
distinct_from [] all = tt
distinct_from (u ∷ us) all =
    (new_from u us (λ k lt. all (suc k) (omega arith) zero (omega arith)), distinct_from us (λ i lt k before. all (suc i) (omega arith) (suc k) (omega arith)))

-- arcs lead along a list to its end exactly where they lead along what is left of it
abbrev pub AreLedTo : PlannedShop → Node → List Node → Node → ℕ → Node → Type 0
AreLedTo p from along to i last =
    (ArcsLead p from along to → ArcsLead p last (drop i along) to) × (ArcsLead p last (drop i along) to → ArcsLead p from along to)
