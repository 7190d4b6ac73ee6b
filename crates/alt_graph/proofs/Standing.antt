-- Where jobs stand in the orders, by the lookups, and what follows for blocking arcs.
use Rattle.std.proofs.Common.{◌≡◌, ℕ, ◌+◌, ◌-◌, ◌<◌, List, length, get_or, arith, refl, sym, ap, ◌∙◌, subst, inl, inr, Option, None, Some, MatchOption}
use Rattle.std.proofs.lemmas.Bool.{cases_eq, cases_lt}
use Rattle.std.proofs.lemmas.List.{get_or_read}
use Rattle.shop_base.specs.declared.node.Node.{Node}
use Rattle.shop_base.specs.Plan.{PlannedShop, steps, order, clean, Visits, Stands, IsWellShaped}
use Rattle.shop_base.proofs.Visits.{steps_job, visits_job, visits_machine, visits-stands, stands_once}
use Rattle.alt_graph.specs.declared.lookups.Lookups.{Lookups}
use Rattle.alt_graph.specs.Layout.{number_of}
use Rattle.alt_graph.specs.Places.{node_at}
use Rattle.alt_graph.specs.Lookups.{IsGap, IsVisitAt, AreVisitsOf, AreLookups}
use Rattle.alt_graph.specs.PlanGraph.{PlanGraph}
use Rattle.alt_graph.specs.Sources.{IsBlockingArc, IsTarget, AreNeighbours, IsLast}
use Rattle.alt_graph.proofs.NodeNumbers.{number_inside}

-- what holds of a graph's lookups holds of the plan that it is seen as
pub lookups_of : (p : PlannedShop) (lookups : Lookups) (firsts : List ℕ) (graph : PlanGraph) → record { plan = p; firsts = firsts } ≡ graph → AreLookups p lookups → AreLookups graph.plan lookups
lookups_of p lookups firsts graph is are = subst (λ (g : PlanGraph). AreLookups g.plan lookups) is are

-- a visit has a row
pub row_found : (p : PlannedShop) (lookups : Lookups) (v : Node) → AreLookups p lookups → v.place < steps p v.job → number_of lookups.firsts.items v < length lookups.places.items
row_found p lookups v are within =
    omega (arith, are.rows, number_inside p lookups.firsts.items are.firsts v (record { job = steps_job p v.job v.place within; place = omega (arith, within) }))

-- the visit v to machine m stands at this place among all visits
pub record IsFound (p : PlannedShop) (lookups : Lookups) (v : Node) (m at : ℕ) : Type 0 where
  pub gap : ℕ
  pub visits : AreVisitsOf p lookups.firsts.items lookups.visits.items lookups.places.items m gap
  pub place : ℕ
  pub stands : Stands p m place v.job v.place
  pub is : at ≡ gap + (place + 1)

pub place_found : (p : PlannedShop) (lookups : Lookups) (v : Node) (m row at : ℕ) → AreLookups p lookups → Visits p v.job v.place m
    → row ≡ number_of lookups.firsts.items v → at ≡ get_or lookups.places.items row at → IsFound p lookups v m at
place_found p lookups v m row at are visits is read =
    let places = lookups.places.items in
    let (a, stands) = visits-stands p v.job v.place m are.shaped visits in
    let (gap, visits_are) = are.visits m (visits_machine p v.job v.place m are.shaped visits) in
    let looked_up : at ≡ get_or places (number_of lookups.firsts.items v) 0 = get_or_read places row at (omega (arith, is, row_found p lookups v are visits.within)) read 0 ∙ ap (λ i. get_or places i 0) is in
    record { gap = gap; visits = visits_are; place = a; stands = stands; is = looked_up ∙ visits_are.found a v.job v.place stands }

module _ (p : PlannedShop) (shaped : IsWellShaped p) (lookups : Lookups) (v : Node) (m at : ℕ) (found : IsFound p lookups v m at) where
  abbrev visits : List Node
  visits = lookups.visits.items

  pub between : (0 < at) × (at + 1 < length visits)
  between = (omega (arith, found.is), omega (arith, found.is, found.stands.within, found.visits.within))

  -- no visit is of nobody
  somebody : (a i : ℕ) → IsVisitAt p m a visits i → IsGap visits i → ⊥
  somebody a i stands gap = omega (arith, visits_job p _ _ m stands.visits, gap, shaped.shop.counts.few_jobs)

  here_before : (a : ℕ) → a + 1 ≡ found.place → IsVisitAt p m a visits (at - 1)
  here_before a before =
      let i : at - 1 ≡ found.gap + (a + 1) = omega (arith, found.is, before) in
      rw i (found.visits.stand a (omega (arith, found.stands.within, before)))

  here_behind : found.place + 1 < length (order p m) → IsVisitAt p m (found.place + 1) visits (at + 1)
  here_behind within =
      let i : at + 1 ≡ found.gap + (found.place + 1 + 1) = omega (arith, found.is) in
      rw i (found.visits.stand (found.place + 1) within)

  -- the visit ahead of it
  pub none_ahead : IsGap visits (at - 1) → Stands p m 0 v.job v.place
  none_ahead gap = elim (cases_eq found.place 0) [
    | inl first ↦ subst (λ a. Stands p m a v.job v.place) first found.stands
    | inr later ↦ (let before : found.place - 1 + 1 ≡ found.place = omega (arith, later) in absurd (somebody (found.place - 1) (at - 1) (here_before (found.place - 1) before) gap))
  ]

  pub one_ahead : (IsGap visits (at - 1) → ⊥) → AreNeighbours p m (node_at visits (at - 1)) v
  one_ahead full = elim (cases_eq found.place 0) [
    | inl first ↦ (let i : at - 1 ≡ found.gap = omega (arith, found.is, first) in absurd (full (rw i found.visits.ahead)))
    | inr later ↦ (
        let before : found.place - 1 + 1 ≡ found.place = omega (arith, later) in
        (found.place - 1, here_before (found.place - 1) before, rw before found.stands))
  ]

  -- and the one behind it
  pub none_behind : IsGap visits (at + 1) → IsLast p m v
  none_behind gap = elim (cases_lt (found.place + 1) (length (order p m))) [
    | inl more ↦ absurd (somebody (found.place + 1) (at + 1) (here_behind more) gap)
    | inr last ↦ (found.place, omega (arith, last, found.stands.within), found.stands)
  ]

  pub one_behind : (IsGap visits (at + 1) → ⊥) → AreNeighbours p m v (node_at visits (at + 1))
  one_behind full = elim (cases_lt (found.place + 1) (length (order p m))) [
    | inl more ↦ (found.place, found.stands, here_behind more)
    | inr last ↦ (let i : at + 1 ≡ found.gap + (length (order p m) + 1) = omega (arith, found.is, last, found.stands.within) in absurd (full (rw i found.visits.behind)))
  ]

-- the two visits that a blocking arc joins stand next to each other
pub neighbours : (p : PlannedShop) (u v : Node) (d m : ℕ) (arc : IsBlockingArc p u v d) → m ≡ arc.machine → Stands p m arc.ahead u.job (u.place - 1) × Stands p m (arc.ahead + 1) v.job v.place
neighbours p u v d m arc same = let step : u.place - 1 ≡ arc.step = omega (arith, arc.place) in rw (same, step) (arc.left, arc.enters)

-- on the machine of either
pub left_machine : (p : PlannedShop) (u v : Node) (d m : ℕ) (arc : IsBlockingArc p u v d) → Visits p u.job (u.place - 1) m → m ≡ arc.machine
left_machine p u v d m arc visits = sym visits.here ∙ (neighbours p u v d arc.machine arc refl).0.visits.here

pub entered_machine : (p : PlannedShop) (u v : Node) (d m : ℕ) (arc : IsBlockingArc p u v d) → Visits p v.job v.place m → m ≡ arc.machine
entered_machine p u v d m arc visits = sym visits.here ∙ arc.enters.visits.here

-- no blocking arc leads to the first of an order
pub first_free : (p : PlannedShop) (m : ℕ) (v : Node) → Stands p m 0 v.job v.place → (u : Node) (d : ℕ) → IsBlockingArc p u v d → ⊥
first_free p m v stands u d arc =
    let (_, enters) = neighbours p u v d m arc (entered_machine p u v d m arc stands.visits) in
    omega (arith, stands_once p m 0 (arc.ahead + 1) v.job v.place stands enters)

-- nor one from the last
pub last_free : (p : PlannedShop) (m : ℕ) (u : Node) → IsLast p m (record { job = u.job; place = u.place - 1 }) → (v : Node) (d : ℕ) → IsBlockingArc p u v d → ⊥
last_free p m u (a, last, stands) v d arc =
    let (left, enters) = neighbours p u v d m arc (left_machine p u v d m arc stands.visits) in
    omega (arith, last, stands_once p m a arc.ahead u.job (u.place - 1) stands left, enters.within)

-- the blocking arc out of a node leads to the visit behind the one that it leaves
pub target_found : (p : PlannedShop) (m : ℕ) (u : Node) (found : Option Node) → 0 < u.place
    → MatchOption found (IsLast p m (record { job = u.job; place = u.place - 1 })) (AreNeighbours p m (record { job = u.job; place = u.place - 1 })) → IsTarget (IsBlockingArc p) u found
target_found p m u None entered last = last_free p m u last
target_found p m u (Some v) entered (a, left, enters) =
    (clean p m, record { machine = m; ahead = a; step = u.place - 1; left = left; enters = enters; place = omega (arith, entered); length = refl })
