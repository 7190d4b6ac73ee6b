-- A cycle stops every run: no node of it is ever made.
use Rattle.std.proofs.Common.{◌≡◌, ℕ, ◌<◌, ◌≤◌, List, [], ◌∷◌, refl, ap, arith, ◌⊎◌, inl, inr}
use Rattle.std.proofs.lemmas.Bool.{cases_eq, cases_lt}
use Rattle.shop_base.specs.declared.node.Node.{Node}
use Rattle.shop_base.specs.Plan.{PlannedShop, jobs, IsWellShaped}
use Rattle.shop_base.specs.Cell.{Cell, made, start, IsGone}
use Rattle.shop_base.specs.declared.job_state.JobState.{JobState}
use Rattle.shop_base.specs.Move.{CanMove, KeepsPlan, after_move}
use Rattle.shop_base.specs.Run.{Event, Reported, Moved, CanHappen, AreEvents, after, after_all, IsRun, ends_in}
use Rattle.shop_base.specs.Graph.{HasArc, IsNode, IsSimpleCycle}
use Rattle.shop_base.specs.Sound.{IsSound}
use Rattle.shop_base.specs.CycleLaw.{IsNeverDone, IsNeverMade, AreNeverMade}
use Rattle.shop_base.proofs.Changes.{IsMoved, after_move-moved}
use Rattle.shop_base.proofs.Keeping.{IsMade, after_report-like, start-made, start-sound, after-sound, needs}
use Rattle.shop_base.proofs.Cycles.{IsAmong, target_job, cycle_before, cycle_node}

-- no node of the list is made
abbrev pub NoneMade : Cell → List Node → Type 0
NoneMade c nodes = (v : Node) → IsAmong v nodes → IsMade c v → ⊥

module _ (p : PlannedShop) (nodes : List Node) (shaped : IsWellShaped p) (cycle : IsSimpleCycle p nodes) where
  -- a move that makes a node of the cycle needs the one before it
  moved-none_made : (c : Cell) (j t : ℕ) (new : Cell) → IsSound p c → CanMove p c j t → KeepsPlan p c j → IsMoved p c j t new → NoneMade c nodes → NoneMade new nodes
  moved-none_made c j t new sound can keeps moved none v among is_made = go (cases_eq v.job j) (cases_lt v.place (made c v.job))
    where
      blocked : v.job ≡ j → v.place ≡ made c j → (y : Node) × (IsAmong y nodes × HasArc p y v) → ⊥
      blocked same_job same_place (y, (earlier, (d, arc))) = none y earlier (needs p c j t y v d shaped sound can keeps arc same_job same_place)

      go : (v.job ≡ j) ⊎ (v.job ≡ j → ⊥) → (v.place < made c v.job) ⊎ (made c v.job ≤ v.place) → ⊥
      go _ (inl was) = none v among was
      go (inl same) (inr not_yet) = blocked same (omega (arith, ap (made c) same, ap (made new) same, moved.made_mine)) (cycle_before p nodes v cycle among)
      go (inr other) (inr not_yet) = omega (arith, ap (λ (x : JobState). x.made) (moved.others v.job other))

  after-none_made : (c : Cell) (e : Event) → IsSound p c → CanHappen p c e → NoneMade c nodes → NoneMade (after p c e) nodes
  after-none_made c (Reported r) sound can none = λ v among is_made. none v among (omega (arith, (after_report-like p c r sound can).made_same v.job))
  after-none_made c (Moved o) sound (can, keeps) none =
      moved-none_made c o.job o.at (after_move p c o.job o.at) sound can.can keeps (after_move-moved p c o.job o.at shaped sound can.can) none

  after_all-none_made : (c : Cell) (es : List Event) → IsSound p c → AreEvents p c es → NoneMade c nodes → NoneMade (after_all p c es) nodes
  after_all-none_made c [] sound can none = none
  after_all-none_made c (e ∷ es) sound (first, rest) none =
      after_all-none_made (after p c e) es (after-sound p c e shaped sound first) rest (after-none_made c e sound first none)

  -- at the start no node of the shop is made
  start-none_made : NoneMade (start p) nodes
  start-none_made v among is_made = go (cycle_before p nodes v cycle among)
    where
      go : (y : Node) × (IsAmong y nodes × HasArc p y v) → ⊥
      go (y, (earlier, (d, arc))) = omega (arith, start-made p v.job (target_job p y v d arc))

  -- no node of the cycle is made in any run
  pub cycle-none_made : (es : List Event) → IsRun p es → NoneMade (ends_in p es) nodes
  cycle-none_made es run = after_all-none_made (start p) es (start-sound p shaped) run start-none_made

-- nodes that no run makes
never_made : (p : PlannedShop) (vs : List Node) → ((v : Node) → IsAmong v vs → IsNeverMade p v) → AreNeverMade p vs
never_made p [] each = tt
never_made p (v ∷ vs) each = (each v (inl refl), never_made p vs λ u among. each u (inr among))

pub cycle_never_made : (p : PlannedShop) (nodes : List Node) → IsWellShaped p → IsSimpleCycle p nodes → AreNeverMade p nodes
cycle_never_made p nodes shaped cycle = never_made p nodes λ v among es run. elim (cases_lt v.place (made (ends_in p es) v.job)) [
  | inl is_made ↦ absurd (cycle-none_made p nodes shaped cycle es run v among is_made)
  | inr left ↦ left
]

pub cycle_never_done : (p : PlannedShop) (nodes : List Node) → IsWellShaped p → IsSimpleCycle p nodes → IsNeverDone p
cycle_never_done p nodes shaped cycle es run = go (cycle_node p nodes cycle)
  where
    go : (v : Node) × (IsAmong v nodes × IsNode p v) → (j : ℕ) × (j < jobs p) × (IsGone p (ends_in p es) j → ⊥)
    go (v, (among, is_node)) = (v.job, is_node.job, λ gone. cycle-none_made p nodes shaped cycle es run v among (omega (arith, is_node.place)))
