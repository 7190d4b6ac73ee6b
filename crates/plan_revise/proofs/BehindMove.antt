-- A job that gets a step more: where a cycle comes by the jobs before its place, and where by those behind it.
use Rattle.std.proofs.Common.{◌≡◌, ◌≢◌, ℕ, zero, suc, ◌+◌, ◌-◌, ◌<◌, ◌≤◌, ◌⊎◌, inl, inr, List, [], ◌∷◌, ◌++◌, length, get_or, nat_eq, refl, sym, ap, ◌∙◌, subst, arith}
use Rattle.std.proofs.lemmas.Bool.{cases_eq, cases_lt, cases_order}
use Rattle.std.proofs.lemmas.List.{get_or-append-add}
use Rattle.shop_base.specs.declared.shop.Step.{Step}
use Rattle.shop_base.specs.declared.node.Node.{Node}
use Rattle.shop_base.specs.Shop.{step_at, no_step}
use Rattle.shop_base.specs.Plan.{PlannedShop, jobs, machines, route, steps, nominal, machine_of, order, job_at, clean, count_below, Visits, Stands}
use Rattle.shop_base.specs.Graph.{node, leaving, Arc, job_arc, blocking_arc, HasArc, ArcsLead}
use Rattle.shop_base.proofs.Visits.{stands_alike, stands_once, stands_step}
use Rattle.shop_base.proofs.Cycles.{source_node}
use Rattle.plan_verifier.specs.Accepted.{HasNoCycle}
use Rattle.plan_revise.specs.AnotherWay.{with_visit_at}
use Rattle.plan_revise.specs.Fits.{IsFit}
use Rattle.plan_revise.specs.Reaching.{Reaches, is_itself, goes_on, ReachesLeaving}
use Rattle.plan_revise.proofs.Fitting.{fit-place, fit-stands, fit-machine}
use Rattle.plan_revise.proofs.Inserted.{visit-mine, visit-others, visit-orders, visit-steps, visit-visits, visit-removed}
use Rattle.plan_revise.proofs.Places.{IsRemoved, removed-size, removed-before, removed-after, removed-count}
use Rattle.alt_graph.proofs.ClosedWalks.{leads_append, no_way_back, no_cycle_by_ways}

-- ---- nodes that are reached

-- arcs lead from u to v
abbrev pub HasWay : PlannedShop → Node → Node → Type 0
HasWay p u v = (ws : List Node) × ArcsLead p u ws v

module _ (p : PlannedShop) where
  pub reaches_more : (u v w : Node) → Reaches p u v → Reaches p v w → Reaches p u w
  reaches_more u v _ one is_itself = one
  reaches_more u v _ one (goes_on x w rest arc) = goes_on x w (reaches_more u v x one rest) arc

  pub reaches_along : (u : Node) (ws : List Node) (v : Node) → ArcsLead p u ws v → Reaches p u v
  reaches_along u [] v arc = goes_on u v is_itself arc
  reaches_along u (w ∷ ws) v (arc, rest) = reaches_more u w v (goes_on u w is_itself arc) (reaches_along w ws v rest)

  -- an arc behind them, or before them, makes arcs that lead there
  way_behind : (u v w : Node) → Reaches p u v → HasArc p v w → HasWay p u w
  way_behind u _ w is_itself arc = ([], arc)
  way_behind u _ w (goes_on x v rest last) arc = let way = way_behind u x v rest last in (way.0 ++ v ∷ [], leads_append p u way.0 v [] w way.1 arc)

  way_before : (u w v : Node) → HasArc p u w → Reaches p w v → HasWay p u v
  way_before u w _ arc is_itself = ([], arc)
  way_before u w _ arc (goes_on x v rest last) = let way = way_before u w x arc rest in (way.0 ++ x ∷ [], leads_append p u way.0 x [] v way.1 last)

  -- without a cycle no arc leads back
  pub no_arc_back : HasNoCycle p → (u v : Node) → Reaches p u v → HasArc p v u → ⊥
  no_arc_back acyclic u v reached arc = let way = way_behind u v u reached arc in no_way_back p u way.0 acyclic way.1

  module _ (fit : IsFit p) (m : ℕ) (in_shop : m < machines p) where
    -- who leaves a machine behind a node is followed by the others in its order
    pub reached_next : (u : Node) (b n : ℕ) → ReachesLeaving p u m b → b + n < length (order p m) → ReachesLeaving p u m (b + n)
    reached_next u b zero there within = let same : b ≡ b + zero = omega arith in subst (ReachesLeaving p u m) same there
    reached_next u b (suc n) there within = subst (ReachesLeaving p u m) more (one (reached_next u b n there (omega arith)))
      where
        more : b + n + 1 ≡ b + suc n
        more = omega arith

        one : ReachesLeaving p u m (b + n) → ReachesLeaving p u m (b + n + 1)
        one (i, k, stands, reached) =
            let next = fit-place p fit m (b + n + 1) (job_at p m (b + n + 1)) in_shop (omega arith) refl in
            let l : ℕ = job_at p m (b + n + 1) in
            (l, next.0, next.1, goes_on (node l next.0) (node l (next.0 + 1)) (goes_on (node i (k + 1)) (node l next.0) reached (clean p m, blocking_arc m (b + n) i k l next.0 stands next.1)) (nominal p l next.0, job_arc l next.0 next.1.visits.within))

    -- and so are entries by the entries behind them
    pub reached_entry : (b n i k l g : ℕ) → Stands p m b i k → Stands p m (b + n) l g → Reaches p (node i k) (node l g)
    reached_entry b zero i k l g one other = at (b + zero) (omega arith) other
      where
        at : (c : ℕ) → c ≡ b → Stands p m c l g → Reaches p (node i k) (node l g)
        at c same stands =
            let here : Stands p m b l g = subst (λ c. Stands p m c l g) same stands in
            let job : i ≡ l = sym one.job ∙ here.job in
            let step : k ≡ g = stands_step p m b l k g (subst (λ x. Stands p m b x k) job one) here in
            subst (Reaches p (node i k)) (ap (λ x. node x k) job ∙ ap (node l) step) is_itself
    reached_entry b (suc n) i k l g one other =
        let more : b + suc n ≡ b + n + 1 = omega arith in
        let h : ℕ = job_at p m (b + n) in
        let before = fit-place p fit m (b + n) h in_shop (omega (arith, other.within)) refl in
        goes_on (node h (before.0 + 1)) (node l g) (goes_on (node h before.0) (node h (before.0 + 1)) (reached_entry b n i k h before.0 one before.1) (nominal p h before.0, job_arc h before.0 before.1.visits.within))
        (clean p m, blocking_arc m (b + n) h before.0 l g before.1 (subst (λ c. Stands p m c l g) more other))

-- ---- a place that the job can have

-- job j can stand for the step at place a of its machine's order: behind its own places there, and the plan that is made fits
pub record IsPlaceFor (p : PlannedShop) (j : ℕ) (step : Step) (a : ℕ) : Type 0 where
  pub within : a ≤ length (order p step.machine)
  pub behind_own : (b : ℕ) → b < length (order p step.machine) → job_at p step.machine b ≡ j → b < a
  pub fits : IsFit (with_visit_at p j step a)

-- an arc of the plan that is made: one of before; or one to the job's next move from the leaving of the place before; or the step; or one from its leaving to what stood at the place
pub data ArcBehind (p : PlannedShop) (j : ℕ) (step : Step) (a : ℕ) (u v : Node) : Type 0 where
  passes : HasArc p u v → ArcBehind p j step a u v
  enters : (b i k : ℕ) → b + 1 ≡ a → Stands p step.machine b i k → u ≡ node i (k + 1) → v ≡ leaving p j → ArcBehind p j step a u v
  stays : u ≡ leaving p j → v ≡ node j (steps p j + 1) → ArcBehind p j step a u v
  leaves : u ≡ node j (steps p j + 1) → Stands p step.machine a v.job v.place → ArcBehind p j step a u v

module _ (p : PlannedShop) (j : ℕ) (step : Step) (fit : IsFit p) (inside : j < jobs p) (in_shop : step.machine < machines p) where
  module _ (a : ℕ) (can : IsPlaceFor p j step a) where
    -- the plan that is made
    abbrev q : PlannedShop
    q = with_visit_at p j step a

    removed_here : IsRemoved j (order q step.machine) a (order p step.machine)
    removed_here = visit-removed p j step a (omega (arith, in_shop, fit.counts.orders)) can.within

    longer_visits : (i k m : ℕ) → Visits p i k m → Visits q i k m
    longer_visits i k m visits = visit-visits p j step a inside i k m visits

    machine_same : (i k : ℕ) → k < steps p i → machine_of q i k ≡ machine_of p i k
    machine_same i k less = (longer_visits i k (machine_of p i k) (record { within = less; here = refl })).here

    -- ---- who stood stands, behind the job's place at the next

    lift_elsewhere : (m b i k : ℕ) → m ≢ step.machine → Stands p m b i k → Stands q m b i k
    lift_elsewhere m b i k other stands =
        let same : order q m ≡ order p m = visit-orders p j step a m other in
        stands_alike p q m b i k stands (omega (arith, ap length same, stands.within)) (λ c few. ap (λ (xs : List ℕ). get_or xs c 0) same)
        (longer_visits i k m stands.visits).within (λ l few. machine_same i l (omega (arith, few, stands.visits.within)))

    lift_front : (b i k : ℕ) → b < a → Stands p step.machine b i k → Stands q step.machine b i k
    lift_front b i k less stands =
        stands_alike p q step.machine b i k stands (omega (arith, removed-size j (order q step.machine) a (order p step.machine) removed_here, stands.within))
        (λ c few. sym (removed-before j (order q step.machine) a (order p step.machine) removed_here c (omega arith)))
        (longer_visits i k step.machine stands.visits).within (λ l few. machine_same i l (omega (arith, few, stands.visits.within)))

    lift_back : (b i k : ℕ) → a ≤ b → Stands p step.machine b i k → Stands q step.machine (b + 1) i k
    lift_back b i k behind stands = record {
      within = omega (arith, removed-size j (order q step.machine) a (order p step.machine) removed_here, stands.within);
      job = sym (removed-after j (order q step.machine) a (order p step.machine) removed_here b behind) ∙ stands.job;
      visits = longer_visits i k step.machine stands.visits;
      turn = sym (removed-count j (order q step.machine) a (order p step.machine) removed_here i b other behind) ∙ stands.turn
          ∙ sym (ap (λ (r : List Step). count_below (λ l. nat_eq (step_at r l).machine step.machine) k) (visit-others p j step a i other));
    }
      where
        other : i ≢ j
        other same = omega (arith, behind, can.behind_own b stands.within (stands.job ∙ same))

    -- ---- the job stands at its place

    own_visit : Visits q j (steps p j) step.machine
    own_visit = record {
      within = omega (arith, visit-steps p j step a inside);
      here = ap (λ (r : List Step). (step_at r (steps p j)).machine) (visit-mine p j step a inside) ∙ ap (λ k. (step_at (route p j ++ step ∷ []) k).machine) last ∙ ap (λ (s : Step). s.machine) (get_or-append-add (route p j) (step ∷ []) 0 no_step);
    }
      where
        last : steps p j ≡ length (route p j) + 0
        last = omega arith

    own_stands : Stands q step.machine a j (steps p j)
    own_stands = by (fit-place q can.fits step.machine a j in_shop removed_here.within removed_here.here)
      where
        by : (l : ℕ) × Stands q step.machine a j l → Stands q step.machine a j (steps p j)
        by (l, stands) = elim (cases_lt l (steps p j)) [
          | inl less ↦ (let found = fit-stands p fit j l step.machine (record { within = less; here = sym (machine_same j l less) ∙ stands.visits.here }) in
              let before : found.0 < a = can.behind_own found.0 found.1.within found.1.job in
              absurd (omega (arith, before, stands_once q step.machine found.0 a j l (lift_front found.0 j l before found.1) stands)))
          | inr past ↦ (let same : l ≡ steps p j = omega (arith, past, stands.visits.within, visit-steps p j step a inside) in subst (Stands q step.machine a j) same stands)
        ]

    pub arc-own : HasArc q (leaving p j) (node j (steps p j + 1))
    arc-own = (nominal q j (steps p j), job_arc j (steps p j) own_visit.within)

    pub arc-before : (b i k : ℕ) → b + 1 ≡ a → Stands p step.machine b i k → HasArc q (node i (k + 1)) (leaving p j)
    arc-before b i k at stands = (clean q step.machine, blocking_arc step.machine b i k j (steps p j) (lift_front b i k (omega arith) stands) (subst (λ c. Stands q step.machine c j (steps p j)) (sym at) own_stands))

    pub arc-behind : (l g : ℕ) → Stands p step.machine a l g → HasArc q (node j (steps p j + 1)) (node l g)
    arc-behind l g stands = (clean q step.machine, blocking_arc step.machine a j (steps p j) l g own_stands (lift_back a l g (omega arith) stands))

    -- ---- each arc of before is a way

    order_way : (b i k l g : ℕ) → Stands p step.machine b i k → Stands p step.machine (b + 1) l g → (b + 1 ≡ a) ⊎ ((b + 1 < a) ⊎ (a < b + 1)) → HasWay q (node i (k + 1)) (node l g)
    order_way b i k l g one next (inl at) = (leaving p j ∷ node j (steps p j + 1) ∷ [], (arc-before b i k at one, (arc-own, arc-behind l g (subst (λ c. Stands p step.machine c l g) at next))))
    order_way b i k l g one next (inr (inl less)) = ([], (clean q step.machine, blocking_arc step.machine b i k l g (lift_front b i k (omega arith) one) (lift_front (b + 1) l g less next)))
    order_way b i k l g one next (inr (inr more)) = ([], (clean q step.machine, blocking_arc step.machine (b + 1) i k l g (lift_back b i k (omega arith) one) (lift_back (b + 1) l g (omega arith) next)))

    pub way-of-arc : (u v : Node) → HasArc p u v → HasWay q u v
    way-of-arc u v (d, arc) = by u v d arc
      where
        by : (u v : Node) (d : ℕ) → Arc p u v d → HasWay q u v
        by _ _ _ (job_arc i k less) = ([], (nominal q i k, job_arc i k (longer_visits i k (machine_of p i k) (record { within = less; here = refl })).within))
        by _ _ _ (blocking_arc m b i k l g one next) = elim (cases_eq m step.machine) [
          | inl same ↦ order_way b i k l g (subst (λ x. Stands p x b i k) same one) (subst (λ x. Stands p x (b + 1) l g) same next) (cases_order (b + 1) a)
          | inr other ↦ ([], (clean q m, blocking_arc m b i k l g (lift_elsewhere m b i k other one) (lift_elsewhere m (b + 1) l g other next)))
        ]

    pub reaches-still : (u v : Node) → Reaches p u v → Reaches q u v
    reaches-still u _ is_itself = is_itself
    reaches-still u _ (goes_on w v rest arc) = let way = way-of-arc w v arc in reaches_more q u w v (reaches-still u w rest) (reaches_along q w way.0 v way.1)

    -- where the plan that is made has no cycle, the one before it had none
    pub no-cycle-before : HasNoCycle q → HasNoCycle p
    no-cycle-before acyclic = no_cycle_by_ways q p way-of-arc acyclic

    -- behind a job that leaves the machine only behind the job's next move there is a cycle
    pub cycle-behind : (b : ℕ) → b < a → ReachesLeaving p (leaving p j) step.machine b → HasNoCycle q → ⊥
    cycle-behind b less there acyclic = by (reached_next p fit step.machine in_shop (leaving p j) b (a - 1 - b) there (omega (arith, can.within)))
      where
        by : ReachesLeaving p (leaving p j) step.machine (b + (a - 1 - b)) → ⊥
        by (i, k, stands, reached) =
            let at : b + (a - 1 - b) + 1 ≡ a = omega arith in
            no_arc_back q acyclic (leaving p j) (node i (k + 1)) (reaches-still (leaving p j) (node i (k + 1)) reached) (arc-before (b + (a - 1 - b)) i k at stands)

    -- ---- what arcs there are

    down_front : (b i k : ℕ) → b < a → Stands q step.machine b i k → Stands p step.machine b i k
    down_front b i k less stands =
        let here : job_at p step.machine b ≡ i = removed-before j (order q step.machine) a (order p step.machine) removed_here b less ∙ stands.job in
        let found = fit-place p fit step.machine b i in_shop (omega (arith, less, can.within)) here in
        subst (Stands p step.machine b i) (stands_step q step.machine b i found.0 k (lift_front b i found.0 less found.1) stands) found.1

    down_back : (b i k : ℕ) → a ≤ b → Stands q step.machine (b + 1) i k → Stands p step.machine b i k
    down_back b i k behind stands =
        let here : job_at p step.machine b ≡ i = removed-after j (order q step.machine) a (order p step.machine) removed_here b behind ∙ stands.job in
        let found = fit-place p fit step.machine b i in_shop (omega (arith, removed-size j (order q step.machine) a (order p step.machine) removed_here, stands.within)) here in
        subst (Stands p step.machine b i) (stands_step q step.machine (b + 1) i found.0 k (lift_back b i found.0 behind found.1) stands) found.1

    down_elsewhere : (m b i k : ℕ) → m ≢ step.machine → Stands q m b i k → Stands p m b i k
    down_elsewhere m b i k other stands =
        let same : order q m ≡ order p m = visit-orders p j step a m other in
        let found = fit-place p fit m b i (fit-machine q can.fits i k m stands.visits) (omega (arith, ap length same, stands.within)) (sym (ap (λ (xs : List ℕ). get_or xs b 0) same) ∙ stands.job) in
        subst (Stands p m b i) (stands_step q m b i found.0 k (lift_elsewhere m b i found.0 other found.1) stands) found.1

    own_place : (b i k : ℕ) → b ≡ a → Stands q step.machine b i k → node i k ≡ leaving p j
    own_place b i k at stands =
        let here : Stands q step.machine a i k = subst (λ c. Stands q step.machine c i k) at stands in
        let job : i ≡ j = sym here.job ∙ removed_here.here in
        ap (λ x. node x k) job ∙ ap (node j) (stands_step q step.machine a j k (steps p j) (subst (λ x. Stands q step.machine a x k) job here) own_stands)

    order_arc : (b i k l g : ℕ) → Stands q step.machine b i k → Stands q step.machine (b + 1) l g → (b + 1 ≡ a) ⊎ ((b + 1 < a) ⊎ (a < b + 1)) → ArcBehind p j step a (node i (k + 1)) (node l g)
    order_arc b i k l g one next (inl at) = enters b i k at (down_front b i k (omega arith) one) refl (own_place (b + 1) l g at next)
    order_arc b i k l g one next (inr (inl less)) = passes (clean p step.machine, blocking_arc step.machine b i k l g (down_front b i k (omega arith) one) (down_front (b + 1) l g less next))
    order_arc b i k l g one next (inr (inr more)) = elim (cases_eq b a) [
      | inl at ↦ leaves (ap (λ (v : Node). node v.job (v.place + 1)) (own_place b i k at one)) (subst (λ c. Stands p step.machine c l g) at (down_back b l g (omega arith) next))
      | inr apart ↦ (let c : ℕ = b - 1 in
          let there : c + 1 ≡ b = omega arith in
          let before = down_back c i k (omega arith) (subst (λ x. Stands q step.machine x i k) (sym there) one) in
          passes (clean p step.machine, blocking_arc step.machine c i k l g before (subst (λ x. Stands p step.machine x l g) (sym there) (down_back b l g (omega arith) next))))
    ]

    route_arc : (i k : ℕ) → k < steps q i → ArcBehind p j step a (node i k) (node i (k + 1))
    route_arc i k less = elim (cases_eq i j) [
      | inl same ↦ elim (cases_lt k (steps p j)) [
        | inl before ↦ passes (nominal p i k, job_arc i k (omega (arith, before, ap (steps p) same)))
        | inr past ↦ (let last : k ≡ steps p j = omega (arith, past, less, ap (steps q) same, visit-steps p j step a inside) in
            stays (ap (λ x. node x k) same ∙ ap (node j) last) (ap (λ x. node x (k + 1)) same ∙ ap (λ x. node j (x + 1)) last))
      ]
      | inr other ↦ passes (nominal p i k, job_arc i k (omega (arith, less, ap length (visit-others p j step a i other))))
    ]

    pub arc-kind : (u v : Node) → HasArc q u v → ArcBehind p j step a u v
    arc-kind u v (d, arc) = by u v d arc
      where
        by : (u v : Node) (d : ℕ) → Arc q u v d → ArcBehind p j step a u v
        by _ _ _ (job_arc i k less) = route_arc i k less
        by _ _ _ (blocking_arc m b i k l g one next) = elim (cases_eq m step.machine) [
          | inl same ↦ order_arc b i k l g (subst (λ x. Stands q x b i k) same one) (subst (λ x. Stands q x (b + 1) l g) same next) (cases_order (b + 1) a)
          | inr other ↦ passes (clean p m, blocking_arc m b i k l g (down_elsewhere m b i k other one) (down_elsewhere m (b + 1) l g other next))
        ]

  -- ---- a place without a cycle before this one, where the job before this one's doesn't leave the machine behind the job's next move

  module _ (a c : ℕ) (can : IsPlaceFor p j step a) (earlier : IsPlaceFor p j step c) (no_later : c ≤ a) (acyclic : HasNoCycle (with_visit_at p j step c))
      (apart : (b : ℕ) → b + 1 ≡ a → ReachesLeaving p (leaving p j) step.machine b → ⊥) where
    abbrev here : PlannedShop
    here = with_visit_at p j step a

    abbrev there : PlannedShop
    there = with_visit_at p j step c

    -- the node is reached from the job's next move, or is its leaving, or is reached from what stands behind it
    data IsNear (v : Node) : Type 0 where
      by_plan : Reaches p (leaving p j) v → IsNear v
      by_step : v ≡ node j (steps p j + 1) → IsNear v
      by_next : (l g : ℕ) → Stands p step.machine a l g → Reaches p (node l g) v → IsNear v

    -- the leaving of the place before isn't
    before_apart : (b i k : ℕ) → b + 1 ≡ a → Stands p step.machine b i k → (u : Node) → u ≡ node i (k + 1) → IsNear u → ⊥
    before_apart b i k at stands u is (by_plan reached) = apart b at (i, k, stands, subst (Reaches p (leaving p j)) is reached)
    before_apart b i k at stands u is (by_step same) =
        let one : node i (k + 1) ≡ node j (steps p j + 1) = sym is ∙ same in
        omega (arith, ap (λ (v : Node). v.place) one, stands.visits.within, ap (λ (v : Node). steps p v.job) one)
    before_apart b i k at stands u is (by_next l g next reached) =
        no_arc_back p (no-cycle-before c earlier acyclic) (node l g) (node i (k + 1)) (subst (Reaches p (node l g)) is reached)
        (clean p step.machine, blocking_arc step.machine b i k l g stands (subst (λ x. Stands p step.machine x l g) (sym at) next))

    near_on : (u v : Node) → IsNear u → ArcBehind p j step a u v → IsNear v
    near_on u v (by_plan reached) (passes arc) = by_plan (goes_on u v reached arc)
    near_on u v (by_step same) (passes (d, arc)) = absurd (omega (arith, (source_node p u v d arc).place, ap (λ (w : Node). w.place) same, ap (λ (w : Node). steps p w.job) same))
    near_on u v (by_next l g next reached) (passes arc) = by_next l g next (goes_on u v reached arc)
    near_on u v near (enters b i k at stands is to) = absurd (before_apart b i k at stands u is near)
    near_on u v near (stays from to) = by_step to
    near_on u v near (leaves from next) = by_next v.job v.place next is_itself

    near_all : (v : Node) → Reaches here (leaving p j) v → IsNear v
    near_all _ is_itself = by_plan is_itself
    near_all _ (goes_on u v rest arc) = near_on u v (near_all u rest) (arc-kind a can u v arc)

    -- the arc comes from the leaving of the place before, or it is a way where the job stands earlier
    entry_or_way : (u v : Node) → ArcBehind p j step a u v → ((b i k : ℕ) × (b + 1 ≡ a) × Stands p step.machine b i k × (u ≡ node i (k + 1)) × (v ≡ leaving p j)) ⊎ HasWay there u v
    entry_or_way u v (passes arc) = inr (way-of-arc c earlier u v arc)
    entry_or_way u v (enters b i k at stands is to) = inl (b, i, k, at, stands, is, to)
    entry_or_way u v (stays from to) = inr ([], subst (λ w. HasArc there w v) (sym from) (subst (HasArc there (leaving p j)) (sym to) (arc-own c earlier)))
    entry_or_way u v (leaves from next) =
        let h : ℕ = job_at p step.machine c in
        let first = fit-place p fit step.machine c h in_shop (omega (arith, no_later, next.within)) refl in
        let far : c + (a - c) ≡ a = omega (arith, no_later) in
        inr (way_before there u (node h first.0) v (subst (λ w. HasArc there w (node h first.0)) (sym from) (arc-behind c earlier h first.0 first.1))
        (reaches-still c earlier (node h first.0) v (reached_entry p fit step.machine in_shop c (a - c) h first.0 v.job v.place first.1 (subst (λ x. Stands p step.machine x v.job v.place) (sym far) next))))

    -- the walk goes by the leaving of the place before
    record GoesByEntry (u v : Node) : Type 0 where
      b : ℕ
      i : ℕ
      k : ℕ
      at : b + 1 ≡ a
      stands : Stands p step.machine b i k
      to : Reaches here u (node i (k + 1))
      from : Reaches here (leaving p j) v

    walk : (u : Node) (ws : List Node) (v : Node) → ArcsLead here u ws v → GoesByEntry u v ⊎ HasWay there u v
    walk u [] v arc = by (entry_or_way u v (arc-kind a can u v arc))
      where
        by : ((b i k : ℕ) × (b + 1 ≡ a) × Stands p step.machine b i k × (u ≡ node i (k + 1)) × (v ≡ leaving p j)) ⊎ HasWay there u v → GoesByEntry u v ⊎ HasWay there u v
        by (inl (b, i, k, at, stands, is, to)) = inl (record { b = b; i = i; k = k; at = at; stands = stands; to = subst (Reaches here u) is is_itself; from = subst (Reaches here (leaving p j)) (sym to) is_itself })
        by (inr way) = inr way
    walk u (w ∷ ws) v (arc, rest) = by (entry_or_way u w (arc-kind a can u w arc)) (walk w ws v rest)
      where
        by : ((b i k : ℕ) × (b + 1 ≡ a) × Stands p step.machine b i k × (u ≡ node i (k + 1)) × (w ≡ leaving p j)) ⊎ HasWay there u w → GoesByEntry w v ⊎ HasWay there w v → GoesByEntry u v ⊎ HasWay there u v
        by (inl (b, i, k, at, stands, is, to)) _ = inl (record { b = b; i = i; k = k; at = at; stands = stands; to = subst (Reaches here u) is is_itself; from = subst (λ x. Reaches here x v) to (reaches_along here w ws v rest) })
        by (inr way) (inl goes) = inl (record { b = goes.b; i = goes.i; k = goes.k; at = goes.at; stands = goes.stands; to = reaches_more here u w (node goes.i (goes.k + 1)) (goes_on u w is_itself arc) goes.to; from = goes.from })
        by (inr way) (inr more) = inr (way.0 ++ w ∷ more.0, leads_append there u way.0 w more.0 v way.1 more.1)

    -- then this place has no cycle either
    pub no-cycle-later : HasNoCycle here
    no-cycle-later [] cycle = cycle
    no-cycle-later (u ∷ us) (distinct, leads) = by (walk u us u leads)
      where
        by : GoesByEntry u u ⊎ HasWay there u u → ⊥
        by (inl goes) = before_apart goes.b goes.i goes.k goes.at goes.stands (node goes.i (goes.k + 1)) refl (near_all (node goes.i (goes.k + 1)) (reaches_more here (leaving p j) u (node goes.i (goes.k + 1)) goes.from goes.to))
        by (inr way) = no_way_back there u way.0 acyclic way.1
