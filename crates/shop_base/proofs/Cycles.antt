-- Arcs along a list: where a cycle is entered from, and that ranks which rise along every arc exclude one.
use Rattle.std.proofs.Common.{◌≡◌, ℕ, ◌<◌, List, [], ◌∷◌, arith, refl, lt_trans, ◌⊎◌, inl, inr, subst, sym}
use Rattle.shop_base.specs.declared.node.Node.{Node}
use Rattle.shop_base.specs.Plan.{PlannedShop, jobs}
use Rattle.shop_base.specs.Graph.{Arc, job_arc, blocking_arc, HasArc, IsNode, ArcsLead, IsSimpleCycle, RanksRise}
use Rattle.shop_base.proofs.Visits.{steps_job, visits_job}

-- the node is in the list
abbrev pub IsAmong : Node → List Node → Type 0
IsAmong v [] = ⊥
IsAmong v (w ∷ ws) = (v ≡ w) ⊎ IsAmong v ws

-- an arc leads from a node of the shop
pub source_node : (p : PlannedShop) (u v : Node) (d : ℕ) → Arc p u v d → IsNode p u
source_node p u v d (job_arc j k within) = record { job = steps_job p j k within; place = omega arith }
source_node p u v d (blocking_arc m a i k j l one other) = record { job = visits_job p i k m one.visits; place = omega (arith, one.visits.within) }

-- an arc leads to a job of the shop
pub target_job : (p : PlannedShop) (u v : Node) (d : ℕ) → Arc p u v d → v.job < jobs p
target_job p u v d (job_arc j k within) = steps_job p j k within
target_job p u v d (blocking_arc m a i k j l one other) = visits_job p j l m other.visits

-- arcs that lead from u to v begin with an arc from u
pub first_arc : (p : PlannedShop) (u : Node) (ws : List Node) (v : Node) → ArcsLead p u ws v → (w : Node) × HasArc p u w
first_arc p u [] v arc = (v, arc)
first_arc p u (w ∷ ws) v (arc, rest) = (w, arc)

-- where arcs lead along a list, each node of it has an arc from the node before
pub arc_before : (p : PlannedShop) (u : Node) (ws : List Node) (v x : Node) → ArcsLead p u ws v → (x ≡ v) ⊎ IsAmong x ws → (y : Node) × (IsAmong y (u ∷ ws) × HasArc p y x)
arc_before p u [] v x arc (inl same) = (u, (inl refl, subst (λ (z : Node). HasArc p u z) (sym same) arc))
arc_before p u [] v x arc (inr among) = absurd among
arc_before p u (w ∷ ws) v x (arc, rest) (inr (inl same)) = (u, (inl refl, subst (λ (z : Node). HasArc p u z) (sym same) arc))
arc_before p u (w ∷ ws) v x (arc, rest) (inr (inr among)) = let found = arc_before p w ws v x rest (inr among) in (found.0, (inr found.1.0, found.1.1))
arc_before p u (w ∷ ws) v x (arc, rest) (inl same) = let found = arc_before p w ws v x rest (inl same) in (found.0, (inr found.1.0, found.1.1))

-- each node of a cycle has an arc from a node of the cycle
pub cycle_before : (p : PlannedShop) (nodes : List Node) (x : Node) → IsSimpleCycle p nodes → IsAmong x nodes → (y : Node) × (IsAmong y nodes × HasArc p y x)
cycle_before p [] x cycle among = absurd cycle
cycle_before p (u ∷ us) x (distinct, arcs) among = arc_before p u us u x arcs among

-- a cycle has a node of the shop
pub cycle_node : (p : PlannedShop) (nodes : List Node) → IsSimpleCycle p nodes → (v : Node) × (IsAmong v nodes × IsNode p v)
cycle_node p [] cycle = absurd cycle
cycle_node p (u ∷ us) (distinct, arcs) = let found = first_arc p u us u arcs in (u, (inl refl, source_node p u found.0 found.1.0 found.1.1))

-- ranks that rise along every arc rise where arcs lead
pub ranks_rise_along : (p : PlannedShop) (rank : Node → ℕ) (u : Node) (ws : List Node) (v : Node) → RanksRise p rank → ArcsLead p u ws v → rank u < rank v
ranks_rise_along p rank u [] v rise (d, arc) = rise u v d arc
ranks_rise_along p rank u (w ∷ ws) v rise ((d, arc), rest) = lt_trans (rise u w d arc) (ranks_rise_along p rank w ws v rise rest)

-- ranks that rise along every arc exclude a cycle
pub ranks_exclude_cycle : (p : PlannedShop) (rank : Node → ℕ) (nodes : List Node) → RanksRise p rank → IsSimpleCycle p nodes → ⊥
ranks_exclude_cycle p rank [] rise cycle = cycle
ranks_exclude_cycle p rank (u ∷ us) rise (distinct, arcs) = omega (arith, ranks_rise_along p rank u us u rise arcs)
