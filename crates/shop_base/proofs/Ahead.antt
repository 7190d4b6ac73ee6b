-- What is ahead of a sound cell: arcs lead on, an activity holds up a node ahead, and is due at one moment.
use Rattle.std.proofs.Common.{◌≡◌, ℕ, ◌+◌, ◌<◌, ◌≤◌, ◌⊎◌, inl, inr, List, length, Some, sym, ap, ◌∙◌, subst, arith, le_refl}
use Rattle.std.proofs.lemmas.Bool.{cases_lt}
use Rattle.shop_base.specs.declared.node.Node.{Node}
use Rattle.shop_base.specs.Plan.{PlannedShop, jobs, steps, nominal}
use Rattle.shop_base.specs.Cell.{Cell, made, entries}
use Rattle.shop_base.specs.Activity.{Activity, Arrival, Operation, Cleaning, IsAwaited, IsWorked, IsCleaned, GoesOn}
use Rattle.shop_base.specs.Graph.{Arc, job_arc, blocking_arc}
use Rattle.shop_base.specs.Sound.{IsSound}
use Rattle.shop_base.specs.Ahead.{IsAhead, HoldsUp, PathAhead, now, held, onward}
use Rattle.shop_base.proofs.Visits.{steps_job, visits_job}
use Rattle.shop_base.proofs.InShop.{outside_in_shop}

-- the node is ahead, and of the shop
pub record IsLeftIn (p : PlannedShop) (c : Cell) (v : Node) : Type 0 where
  pub ahead : IsAhead c v
  pub job : v.job < jobs p
  pub place : v.place ≤ steps p v.job

-- an arc from a node ahead leads to a node ahead
pub arc_ahead : (p : PlannedShop) (c : Cell) (u v : Node) (d : ℕ) → IsSound p c → Arc p u v d → IsAhead c u → IsAhead c v
arc_ahead p c _ _ _ sound (job_arc j k within) ahead = omega arith
arc_ahead p c _ _ _ sound (blocking_arc m a i k j l one other) ahead = elim (cases_lt l (made c j)) [
  | inr left ↦ left
  | inl passed ↦ (let entered : a + 1 < length (entries c m) = sound.made_entered m (a + 1) j l other passed in
      let before : k < made c i = sound.entered_made m a i k one (omega arith) in
      let newest : length (entries c m) ≡ a + 1 = sound.newest m a i k one (omega arith) in
      absurd (omega arith))
]

-- and of the shop
pub arc_left : (p : PlannedShop) (c : Cell) (u v : Node) (d : ℕ) → IsSound p c → Arc p u v d → IsAhead c u → IsLeftIn p c v
arc_left p c u v d sound arc ahead = record { ahead = arc_ahead p c u v d sound arc ahead; job = (ends u v d arc).0; place = (ends u v d arc).1 }
  where
    ends : (u v : Node) (d : ℕ) → Arc p u v d → (v.job < jobs p) × (v.place ≤ steps p v.job)
    ends _ _ _ (job_arc j k within) = (steps_job p j k within, omega arith)
    ends _ _ _ (blocking_arc m a i k j l one other) = (visits_job p j l m other.visits, omega (arith, other.visits.within))

-- what holds up a node holds up one ahead
pub held_left : (p : PlannedShop) (c : Cell) (a : Activity) (due : ℕ) (v : Node) → IsSound p c → GoesOn p c a due → HoldsUp p c a v → IsLeftIn p c v
held_left p c (Arrival j) due v sound awaited is =
    subst (IsLeftIn p c) (sym is) (record { ahead = le_refl (made c j); job = outside_in_shop p c j sound awaited.outside; place = omega (arith, awaited.outside) })
held_left p c (Operation j m) due v sound (k, worked) is =
    subst (IsLeftIn p c) (sym is) (record { ahead = le_refl (made c j); job = visits_job p j k m worked.on.visits; place = omega (arith, worked.on.entered, worked.on.visits.within) })
held_left p c (Cleaning m) due v sound going stands = record {
  ahead = elim (cases_lt v.place (made c v.job)) [
    | inr left ↦ left
    | inl passed ↦ absurd (omega (arith, sound.made_entered m (length (entries c m)) v.job v.place stands passed))
  ];
  job = visits_job p v.job v.place m stands.visits;
  place = omega (arith, stands.visits.within);
}

-- a path ahead leads to a node ahead
pub path_left : (p : PlannedShop) (c : Cell) (t : ℕ) (nodes : List Node) (v : Node) (n : ℕ) → IsSound p c → PathAhead p c t nodes v n → IsLeftIn p c v
path_left p c t _ _ _ sound (now v inside ahead) = record { ahead = ahead; job = inside.job; place = inside.place }
path_left p c t _ _ _ sound (held a due v going holds) = held_left p c a due v sound going holds
path_left p c t _ _ _ sound (onward nodes u v n d path arc) = arc_left p c u v d sound arc (path_left p c t nodes u n sound path).ahead

-- job j isn't there yet, or its operation goes on, and that is due at this moment
abbrev pub IsBusyUntil : PlannedShop → Cell → ℕ → ℕ → Type 0
IsBusyUntil p c j due = IsAwaited p c j due ⊎ ((k : ℕ) × (m : ℕ) × IsWorked p c j k m due)

-- at one moment alone
pub busy_once : (p : PlannedShop) (c : Cell) (j due other : ℕ) → IsBusyUntil p c j due → IsBusyUntil p c j other → due ≡ other
busy_once p c j due other (inl one) (inl two) = omega (arith, one.is_due, two.is_due)
busy_once p c j due other (inl one) (inr (k, m, two)) = absurd (omega (arith, one.outside, two.on.entered))
busy_once p c j due other (inr (k, m, one)) (inl two) = absurd (omega (arith, two.outside, one.on.entered))
busy_once p c j due other (inr (k, m, one)) (inr (l, o, two)) =
    let same : k ≡ l = omega (arith, one.on.entered, two.on.entered) in
    omega (arith, one.is_due, two.is_due, ap (nominal p j) same)

pub cleaned_once : (p : PlannedShop) (c : Cell) (m s from due other : ℕ) → IsCleaned p c m s due → IsCleaned p c m from other → due ≡ other
cleaned_once p c m s from due other one two =
    let both : Some s ≡ Some from = sym one.is_cleaned ∙ two.is_cleaned in
    let same : s ≡ from = cc in
    omega (arith, one.is_due, two.is_due)
