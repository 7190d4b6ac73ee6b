-- The arcs where a job that had no step gets one: each is one of before, or leads to the job, along it, or from it to what stood at its place.
use Rattle.std.proofs.Common.{◌≡◌, ◌≢◌, ℕ, zero, suc, ◌+◌, ◌<◌, ◌≤◌, ◌⊎◌, inl, inr, List, [], ◌∷◌, ◌++◌, length, get_or, nat_eq, ◌-◌, refl, sym, ap, ◌∙◌, subst, arith}
use Rattle.std.proofs.lemmas.Bool.{cases_eq, cases_order, ne_eqb}
use Rattle.shop_base.specs.declared.shop.Step.{Step}
use Rattle.shop_base.specs.declared.node.Node.{Node}
use Rattle.shop_base.specs.Shop.{step_at}
use Rattle.shop_base.specs.Plan.{PlannedShop, jobs, machines, route, steps, machine_of, order, job_at, clean, count_below, Visits, Stands}
use Rattle.shop_base.specs.Graph.{node, Arc, job_arc, blocking_arc, HasArc, ArcsLead}
use Rattle.shop_base.proofs.Visits.{stands_alike}
use Rattle.shop_base.proofs.Cycles.{source_node}
use Rattle.plan_verifier.specs.Accepted.{HasNoCycle}
use Rattle.plan_revise.specs.AnotherWay.{with_visit_at}
use Rattle.plan_revise.specs.Fits.{IsFit}
use Rattle.plan_revise.proofs.Fitting.{fit-place}
use Rattle.plan_revise.proofs.Inserted.{visit-mine, visit-others, visit-orders, visit-removed}
use Rattle.plan_revise.proofs.Places.{IsRemoved, removed-size, removed-before, removed-after, removed-count, count_no}
use Rattle.alt_graph.proofs.ClosedWalks.{leads_append, no_way_back}

-- an arc where job j got its only step, at place a of machine m: one of before between other jobs; or one to job j from the leaving of the place before; or one along job j's step; or one from its leaving to what stood at the place
pub data ArcAround (p : PlannedShop) (j m a : ℕ) (u v : Node) (d : ℕ) : Type 0 where
  passes : u.job ≢ j → v.job ≢ j → Arc p u v d → ArcAround p j m a u v d
  enters : u.job ≢ j → v.job ≡ j → (b i k : ℕ) → b + 1 ≡ a → Stands p m b i k → u ≡ node i (k + 1) → d ≡ clean p m → ArcAround p j m a u v d
  stays : u.job ≡ j → v.job ≡ j → u.place ≡ 0 → u.place < v.place → ArcAround p j m a u v d
  leaves : u.job ≡ j → u.place ≡ 1 → v.job ≢ j → Stands p m a v.job v.place → d ≡ clean p m → ArcAround p j m a u v d

module _ (p : PlannedShop) (j : ℕ) (step : Step) (a : ℕ) (fit : IsFit p) (inside : j < jobs p) (none : route p j ≡ []) (in_shop : step.machine < machines p) (within : a ≤ length (order p step.machine)) where
  -- the plan that is made
  abbrev q : PlannedShop
  q = with_visit_at p j step a

  pub mine : route q j ≡ step ∷ []
  mine = visit-mine p j step a inside ∙ ap (λ (r : List Step). r ++ step ∷ []) none

  pub own_first : (k m : ℕ) → Visits q j k m → k ≡ 0
  own_first k m visits = omega (arith, visits.within, ap length mine)

  pub own_machine : (k m : ℕ) → Visits q j k m → step.machine ≡ m
  own_machine k m visits = sym (ap (λ (r : List Step). (step_at r 0).machine) mine) ∙ ap (machine_of q j) (sym (own_first k m visits)) ∙ visits.here

  pub visits_others : (i k m : ℕ) → i ≢ j → Visits q i k m → Visits p i k m
  visits_others i k m other visits = record {
    within = omega (arith, ap length (visit-others p j step a i other), visits.within);
    here = sym (ap (λ (r : List Step). (step_at r k).machine) (visit-others p j step a i other)) ∙ visits.here;
  }

  removed_here : IsRemoved j (order q step.machine) a (order p step.machine)
  removed_here = visit-removed p j step a (omega (arith, in_shop, fit.counts.orders)) within

  -- it stood nowhere there
  not_there : (b : ℕ) → b < length (order p step.machine) → job_at p step.machine b ≢ j
  not_there b less same = let found = fit-place p fit step.machine b j in_shop less same in omega (arith, found.1.visits.within, ap length none)

  -- before its place others stand where they stood
  front : (b i k : ℕ) → b < a → Stands q step.machine b i k → (i ≢ j) × Stands p step.machine b i k
  front b i k less stands = (
    apart,
    stands_alike q p step.machine b i k stands (omega (arith, within)) (λ c few. removed-before j (order q step.machine) a (order p step.machine) removed_here c (omega arith))
        (visits_others i k step.machine apart stands.visits).within (λ l few. sym (ap (λ (r : List Step). (step_at r l).machine) (visit-others p j step a i apart))),
  )
    where
      apart : i ≢ j
      apart same = not_there b (omega (arith, within)) (removed-before j (order q step.machine) a (order p step.machine) removed_here b less ∙ stands.job ∙ same)

  -- behind it, at the place before
  back : (b i k : ℕ) → a ≤ b → Stands q step.machine (b + 1) i k → (i ≢ j) × Stands p step.machine b i k
  back b i k more stands = (
    apart,
    record {
      within = less;
      job = here;
      visits = visits_others i k step.machine apart stands.visits;
      turn = removed-count j (order q step.machine) a (order p step.machine) removed_here i b apart more ∙ stands.turn
          ∙ ap (λ (r : List Step). count_below (λ l. nat_eq (step_at r l).machine step.machine) k) (visit-others p j step a i apart);
    },
  )
    where
      less : b < length (order p step.machine)
      less = omega (arith, removed-size j (order q step.machine) a (order p step.machine) removed_here, stands.within)

      here : job_at p step.machine b ≡ i
      here = removed-after j (order q step.machine) a (order p step.machine) removed_here b more ∙ stands.job

      apart : i ≢ j
      apart same = not_there b less (here ∙ same)

  -- at it stands the job
  at_place : (b i k : ℕ) → b ≡ a → Stands q step.machine b i k → i ≡ j
  at_place b i k same stands = sym stands.job ∙ ap (job_at q step.machine) same ∙ removed_here.here

  -- on another machine all is as it was
  pub elsewhere : (m b i k : ℕ) → m ≢ step.machine → Stands q m b i k → (i ≢ j) × Stands p m b i k
  elsewhere m b i k other stands = (
    apart,
    stands_alike q p m b i k stands (omega (arith, ap length same, stands.within)) (λ c few. sym (ap (λ (xs : List ℕ). get_or xs c 0) same))
        (visits_others i k m apart stands.visits).within (λ l few. sym (ap (λ (r : List Step). (step_at r l).machine) (visit-others p j step a i apart))),
  )
    where
      same : order q m ≡ order p m
      same = visit-orders p j step a m other

      apart : i ≢ j
      apart is = other (sym (own_machine k m (subst (λ i. Visits q i k m) is stands.visits)))

  -- and each that stood stands, behind the job's place at the next
  lifted_visits : (i k m : ℕ) → Visits p i k m → (i ≢ j) × Visits q i k m
  lifted_visits i k m visits = (
    apart,
    record {
      within = omega (arith, ap length (visit-others p j step a i apart), visits.within);
      here = ap (λ (r : List Step). (step_at r k).machine) (visit-others p j step a i apart) ∙ visits.here;
    },
  )
    where
      apart : i ≢ j
      apart same = omega (arith, visits.within, ap (steps p) same, ap length none)

  pub lift-elsewhere : (m b i k : ℕ) → m ≢ step.machine → Stands p m b i k → Stands q m b i k
  lift-elsewhere m b i k other stands =
      let more = lifted_visits i k m stands.visits in
      let same : order q m ≡ order p m = visit-orders p j step a m other in
      stands_alike p q m b i k stands (omega (arith, ap length same, stands.within)) (λ c few. ap (λ (xs : List ℕ). get_or xs c 0) same) more.1.within (λ l few. ap (λ (r : List Step). (step_at r l).machine) (visit-others p j step a i more.0))

  pub lift-front : (b i k : ℕ) → b < a → Stands p step.machine b i k → Stands q step.machine b i k
  lift-front b i k less stands =
      let more = lifted_visits i k step.machine stands.visits in
      stands_alike p q step.machine b i k stands (omega (arith, removed-size j (order q step.machine) a (order p step.machine) removed_here, stands.within))
      (λ c few. sym (removed-before j (order q step.machine) a (order p step.machine) removed_here c (omega arith))) more.1.within (λ l few. ap (λ (r : List Step). (step_at r l).machine) (visit-others p j step a i more.0))

  pub lift-back : (b i k : ℕ) → a ≤ b → Stands p step.machine b i k → Stands q step.machine (b + 1) i k
  lift-back b i k behind stands =
      let more = lifted_visits i k step.machine stands.visits in
      record {
        within = omega (arith, removed-size j (order q step.machine) a (order p step.machine) removed_here, stands.within);
        job = sym (removed-after j (order q step.machine) a (order p step.machine) removed_here b behind) ∙ stands.job;
        visits = more.1;
        turn = sym (removed-count j (order q step.machine) a (order p step.machine) removed_here i b more.0 behind) ∙ stands.turn
            ∙ sym (ap (λ (r : List Step). count_below (λ l. nat_eq (step_at r l).machine step.machine) k) (visit-others p j step a i more.0));
      }

  -- the job stands at its place
  pub own-visit : Visits q j 0 step.machine
  own-visit = record { within = omega (arith, ap length mine); here = ap (λ (r : List Step). (step_at r 0).machine) mine }

  pub own-stands : Stands q step.machine a j 0
  own-stands = record {
    within = removed_here.within;
    job = removed_here.here;
    visits = own-visit;
    turn = count_no (λ b. nat_eq (job_at q step.machine b) j) a (λ b less. ne_eqb (job_at q step.machine b) j (λ same. not_there b (omega (arith, within)) (removed-before j (order q step.machine) a (order p step.machine) removed_here b less ∙ same)));
  }

  here_arc : (b i k l g : ℕ) → Stands q step.machine b i k → Stands q step.machine (b + 1) l g → (b + 1 ≡ a) ⊎ ((b + 1 < a) ⊎ (a < b + 1)) → ArcAround p j step.machine a (node i (k + 1)) (node l g) (clean q step.machine)
  here_arc b i k l g one next (inl at) =
      let before = front b i k (omega arith) one in
      enters before.0 (at_place (b + 1) l g at next) b i k at before.1 refl refl
  here_arc b i k l g one next (inr (inl less)) =
      let before = front b i k (omega arith) one in
      let after = front (b + 1) l g less next in
      passes before.0 after.0 (blocking_arc step.machine b i k l g before.1 after.1)
  here_arc b i k l g one next (inr (inr more)) = by (cases_eq b a)
    where
      after : (l ≢ j) × Stands p step.machine b l g
      after = back b l g (omega arith) next

      by : (b ≡ a) ⊎ (b ≢ a) → ArcAround p j step.machine a (node i (k + 1)) (node l g) (clean q step.machine)
      by (inl same) = leaves (at_place b i k same one) (omega (arith, own_first k step.machine (subst (λ i. Visits q i k step.machine) (at_place b i k same one) one.visits))) after.0 (subst (λ c. Stands p step.machine c l g) same after.1) refl
      by (inr apart) =
          let c : ℕ = b - 1 in
          let there : c + 1 ≡ b = omega arith in
          let before = back c i k (omega arith) (subst (λ x. Stands q step.machine x i k) (sym there) one) in
          passes before.0 after.0 (blocking_arc step.machine c i k l g before.1 (subst (λ x. Stands p step.machine x l g) (sym there) after.1))

  pub arc-around : (u v : Node) (d : ℕ) → Arc q u v d → ArcAround p j step.machine a u v d
  arc-around _ _ _ (job_arc i k less) = elim (cases_eq i j) [
    | inl same ↦ stays same same (omega (arith, less, ap (steps q) same, ap length mine)) (omega arith)
    | inr other ↦ (let is_route = visit-others p j step a i other in
        passes other other (subst (λ d. Arc p (node i k) (node i (k + 1)) d) (sym (ap (λ (r : List Step). (step_at r k).nominal) is_route)) (job_arc i k (omega (arith, ap length is_route)))))
  ]
  arc-around _ _ _ (blocking_arc m b i k l g one next) = elim (cases_eq m step.machine) [
    | inl same ↦ subst (λ x. ArcAround p j step.machine a (node i (k + 1)) (node l g) (clean q x)) (sym same)
        (here_arc b i k l g (subst (λ x. Stands q x b i k) same one) (subst (λ x. Stands q x (b + 1) l g) same next) (cases_order (b + 1) a))
    | inr other ↦ (let before = elsewhere m b i k other one in
        let after = elsewhere m (b + 1) l g other next in
        passes before.0 after.0 (blocking_arc m b i k l g before.1 after.1))
  ]

  -- ---- no cycle comes

  -- node x stands in for node u: it is u, or u is of job j, and an arc leads from x to what stood at its place
  abbrev StandsIn : Node → Node → Type 0
  StandsIn u x = ((u.job ≢ j) × (u ≡ x)) ⊎ ((u.job ≡ j) × ((l g : ℕ) → Stands p step.machine a l g → HasArc p x (node l g)))

  abbrev HasWay : Node → Node → Type 0
  HasWay x v = (ys : List Node) × ArcsLead p x ys v

  last_arc : (u v x : Node) (d : ℕ) → ArcAround p j step.machine a u v d → StandsIn u x → v.job ≢ j → HasWay x v
  last_arc u v x d (passes apart other arc) (inl (_, same)) away = ([], subst (λ (y : Node). HasArc p y v) same (d, arc))
  last_arc u v x d (passes apart other arc) (inr (of, next)) away = absurd (apart of)
  last_arc u v x d (enters apart to b i k at stands is long) from away = absurd (away to)
  last_arc u v x d (stays of to first rises) from away = absurd (away to)
  last_arc u v x d (leaves of last other stands is) (inl (apart, _)) away = absurd (apart of)
  last_arc u v x d (leaves of last other stands is) (inr (_, next)) away = ([], next v.job v.place stands)

  one_arc : (u w x v : Node) (d : ℕ) → ArcAround p j step.machine a u w d → StandsIn u x → ((y : Node) → StandsIn w y → HasWay y v) → HasWay x v
  one_arc u w x v d (passes apart other arc) (inl (_, same)) rest = let more = rest w (inl (other, refl)) in (w ∷ more.0, (subst (λ (y : Node). HasArc p y w) same (d, arc), more.1))
  one_arc u w x v d (passes apart other arc) (inr (of, next)) rest = absurd (apart of)
  one_arc u w x v d (enters apart to b i k at before is long) (inl (_, same)) rest =
      rest x (inr (to, λ l g stands. subst (λ (y : Node). HasArc p y (node l g)) (sym is ∙ same) (clean p step.machine, blocking_arc step.machine b i k l g before (subst (λ c. Stands p step.machine c l g) (sym at) stands))))
  one_arc u w x v d (enters apart to b i k at before is long) (inr (of, next)) rest = absurd (apart of)
  one_arc u w x v d (stays of to first rises) (inl (apart, _)) rest = absurd (apart of)
  one_arc u w x v d (stays of to first rises) (inr (_, next)) rest = rest x (inr (to, next))
  one_arc u w x v d (leaves of last other stands is) (inl (apart, _)) rest = absurd (apart of)
  one_arc u w x v d (leaves of last other stands is) (inr (_, next)) rest = let more = rest w (inl (other, refl)) in (w ∷ more.0, (next w.job w.place stands, more.1))

  -- arcs that lead to another job's node are a way of before
  way_around : (u : Node) (ws : List Node) (v x : Node) → ArcsLead q u ws v → StandsIn u x → v.job ≢ j → HasWay x v
  way_around u [] v x (d, arc) from away = last_arc u v x d (arc-around u v d arc) from away
  way_around u (w ∷ ws) v x ((d, arc), rest) from away = one_arc u w x v d (arc-around u w d arc) from (λ y in_for. way_around w ws v y rest in_for away)

  module _ (acyclic : HasNoCycle p) where
    others_closed : (u : Node) (us : List Node) → ArcsLead q u us u → u.job ≢ j → ⊥
    others_closed u us leads other = let way = way_around u us u u leads (inl (other, refl)) other in no_way_back p u way.0 acyclic way.1

    turned : (u w : Node) (ws : List Node) (n d : ℕ) → ArcAround p j step.machine a u w d → u.job ≡ j → 2 ≤ u.place + suc n → ArcsLead q w (ws ++ u ∷ []) w → (w.job ≡ j → 2 ≤ w.place + n → ⊥) → ⊥
    turned u w ws n d (passes apart other arc) of enough leads again = apart of
    turned u w ws n d (enters apart to b i k at stands is long) of enough leads again = apart of
    turned u w ws n d (stays _ to first rises) of enough leads again = again to (omega arith)
    turned u w ws n d (leaves _ last other stands is) of enough leads again = others_closed w (ws ++ u ∷ []) leads other

    alone : (u : Node) (d : ℕ) → ArcAround p j step.machine a u u d → u.job ≡ j → ⊥
    alone u d (passes apart other arc) of = apart of
    alone u d (enters apart to b i k at stands is long) of = apart of
    alone u d (stays _ to first rises) of = omega arith
    alone u d (leaves _ last other stands is) of = other of

    -- a closed walk from a node of the job goes on to its last node, and from there to another job
    own_closed : (n : ℕ) (u : Node) (us : List Node) → ArcsLead q u us u → u.job ≡ j → 2 ≤ u.place + n → ⊥
    own_closed n u [] (d, arc) of enough = alone u d (arc-around u u d arc) of
    own_closed zero u (w ∷ ws) ((d, arc), rest) of enough = omega (arith, (source_node q u w d arc).place, ap (steps q) of, ap length mine)
    own_closed (suc n) u (w ∷ ws) ((d, arc), rest) of enough =
        let leads : ArcsLead q w (ws ++ u ∷ []) w = leads_append q w ws u [] w rest (d, arc) in
        turned u w ws n d (arc-around u w d arc) of enough leads (λ to more. own_closed n w (ws ++ u ∷ []) leads to more)

    pub visit-no_cycle : HasNoCycle q
    visit-no_cycle [] cycle = cycle
    visit-no_cycle (u ∷ us) (distinct, leads) = elim (cases_eq u.job j) [
      | inl of ↦ own_closed 2 u us leads of (omega arith)
      | inr other ↦ others_closed u us leads other
    ]
