-- The greatest lengths of walks ahead, in fine units: they are moments that a plan without a cycle gives.
use Rattle.std.proofs.Common.{◌≡◌, ℕ, zero, suc, ◌+◌, ◌*◌, ◌<◌, ◌≤◌, ◌⊎◌, inl, inr, max, nat_lt, if◌then◌else◌, List, [], ◌∷◌, ◌++◌, length, Option, Some, arith, refl, sym, ap, ◌∙◌, subst, add-one, le_refl, lt-ltb, le-ltb}
use Rattle.std.proofs.lemmas.Bool.{cases_lt}
use Rattle.shop_base.specs.declared.node.Node.{Node}
use Rattle.shop_base.specs.declared.limits.TheConstants.{MAX_MOMENT, MAX_NOMINAL, MAX_CLEAN, MAX_RELEASE}
use Rattle.shop_base.specs.Plan.{PlannedShop, jobs, steps, machine_of, nominal, clean, order, job_at, Visits, Stands, IsOrder, IsWellShaped}
use Rattle.shop_base.specs.Cell.{Cell, job_in, made, entries, cleaning}
use Rattle.shop_base.specs.Movers.{due_of_job, due_of_cleaning}
use Rattle.shop_base.specs.Sound.{IsSound}
use Rattle.shop_base.specs.Graph.{node, leaving, Arc, job_arc, blocking_arc, IsNode}
use Rattle.shop_base.specs.Ahead.{IsAhead, next_node, PathAhead, onward}
use Rattle.shop_base.proofs.Visits.{visits-stands, visits-order, visits-sound, visits_machine, stands_once, stands_step}
use Rattle.shop_base.proofs.CellFacts.{job_due, due_cleaning}
use Rattle.shop_base.proofs.Cycles.{source_node}
use Rattle.shop_base.proofs.Ahead.{arc_left}
use Rattle.shop_base.proofs.Keeping.{run-sound}
use Rattle.plan_verifier.specs.Accepted.{HasNoCycle}
use Rattle.plan_verifier.specs.CellBounds.{cleaned_at}
use Rattle.plan_verifier.specs.Held.{later_than}
use Rattle.plan_verifier.proofs.PathsAhead.{begun_at, begun_next, beginning_in_table, beginning_ahead, beginning_path}
use Rattle.plan_verifier.proofs.Tables.{later_is, later_above, later_other, cleaned_holds, holds_cleaned}
use Rattle.plan_limits.specs.declared.moments.TheConstants.{FINE}
use Rattle.plan_limits.specs.Stages.{Stage, stage_of, HasSoundMoments}
use Rattle.plan_limits.specs.Limits.{KeepsLimitsFrom}
use Rattle.plan_limits.specs.LimitsLaw.{AreFineMoments, LeaveWithin, EveryPlanGivesMoments}
use Rattle.plan_limits.proofs.Between.{fine_moments}
use Rattle.plan_limits.proofs.Counts.{number_count, numbers_few}
use Rattle.plan_limits.proofs.Closed.{Back, back_few}

module _ (p : PlannedShop) (c : Cell) (t : ℕ) (shaped : IsWellShaped p) (sound : IsSound p c) where
  -- a moment that a node has by what goes on: it is the length of a path ahead to it, where it is ahead
  abbrev moment : Node → ℕ
  moment v = later_than (begun_at p c t v) (cleaned_at p c v)

  begun_later : (v : Node) → made c v.job < v.place → begun_at p c t v ≡ t
  begun_later v later = rw (lt-ltb (made c v.job) v.place later) refl

  moment_path : (v : Node) → IsNode p v → IsAhead c v → PathAhead p c t (v ∷ []) v (moment v)
  moment_path v is ahead = beginning_path p c t shaped sound v (moment v) is (beginning_in_table p c t shaped sound v is ∙ beginning_ahead p c t v ahead)

  -- the first moment of a node
  abbrev start : Node → ℕ
  start v = moment v * FINE

  -- what an arc from a node allows, nothing where that is passed
  abbrev from : Node → ℕ → ℕ
  from u n = if nat_lt u.place (made c u.job) then 0 else n

  from_ahead : (u : Node) (n : ℕ) → IsAhead c u → from u n ≡ n
  from_ahead u n ahead = let here : made c u.job ≤ u.place = ahead in rw (le-ltb u.place (made c u.job) here) refl

  from_passed : (u : Node) (n : ℕ) → u.place < made c u.job → from u n ≡ 0
  from_passed u n passed = rw (lt-ltb u.place (made c u.job) passed) refl

  -- what the arc of a job into its place k allows
  abbrev over_job : (Node → ℕ) → ℕ → ℕ → ℕ
  over_job f j zero = 0
  over_job f j (suc k) = from (node j k) (f (node j k) + (nominal p j k * FINE + 1))

  -- what the job at place a of an order allows the next one
  abbrev behind : (Node → ℕ) → (m : ℕ) → IsOrder p m → (a : ℕ) → (a < length (order p m)) ⊎ (length (order p m) ≤ a) → ℕ
  behind f m is a (inl within) = from (node (job_at p m a) ((is.on_route a within).0 + 1)) (f (node (job_at p m a) ((is.on_route a within).0 + 1)) + (clean p m * FINE + 1))
  behind f m is a (inr past) = 0

  abbrev over_place : (Node → ℕ) → (m : ℕ) → IsOrder p m → ℕ → ℕ
  over_place f m is zero = 0
  over_place f m is (suc a) = behind f m is a (cases_lt a (length (order p m)))

  -- step k of a job as a visit
  visit : (j k : ℕ) → k < steps p j → Visits p j k (machine_of p j k)
  visit j k within = record { within = within; here = refl }

  -- what the blocking arc into place k of job j allows
  abbrev over_order : (Node → ℕ) → (j k : ℕ) → (k < steps p j) ⊎ (steps p j ≤ k) → ℕ
  over_order f j k (inl within) =
      over_place f (machine_of p j k) (visits-order p j k (machine_of p j k) shaped (visit j k within)) (visits-stands p j k (machine_of p j k) shaped (visit j k within)).0
  over_order f j k (inr out) = 0

  step : (Node → ℕ) → Node → ℕ
  step f v = max (start v) (max (over_job f v.job v.place) (over_order f v.job v.place (cases_lt v.place (steps p v.job))))

  -- the greatest fine length of a walk of at most n arcs
  far : ℕ → Node → ℕ
  far zero v = start v
  far (suc n) v = step (far n) v

  -- ---- each arc from a node ahead is kept by a step

  job_step : (f : Node → ℕ) (j k n : ℕ) → n ≡ suc k → IsAhead c (node j k) → over_job f j n ≡ f (node j k) + (nominal p j k * FINE + 1)
  job_step f j k n is ahead = ap (over_job f j) is ∙ from_ahead (node j k) (f (node j k) + (nominal p j k * FINE + 1)) ahead

  place_step : (f : Node → ℕ) (m a n i k : ℕ) (is : IsOrder p m) → n ≡ suc a → Stands p m a i k → IsAhead c (node i (k + 1)) → over_place f m is n ≡ f (node i (k + 1)) + (clean p m * FINE + 1)
  place_step f m a n i k is same stands ahead = ap (over_place f m is) same ∙ at (cases_lt a (length (order p m)))
    where
      allowed : Node → ℕ
      allowed u = f u + (clean p m * FINE + 1)

      at : (d : (a < length (order p m)) ⊎ (length (order p m) ≤ a)) → behind f m is a d ≡ f (node i (k + 1)) + (clean p m * FINE + 1)
      at (inr past) = absurd (omega (arith, stands.within))
      at (inl within) =
          let there : Stands p m a i (is.on_route a within).0 = subst (λ (x : ℕ). Stands p m a x (is.on_route a within).0) stands.job (is.on_route a within).1 in
          let l : (is.on_route a within).0 ≡ k = stands_step p m a i (is.on_route a within).0 k there stands in
          let u : node (job_at p m a) ((is.on_route a within).0 + 1) ≡ node i (k + 1) = ap (λ (x : ℕ). node x ((is.on_route a within).0 + 1)) stands.job ∙ ap (λ (x : ℕ). node i (x + 1)) l in
          ap (λ (x : Node). from x (f x + (clean p m * FINE + 1))) u ∙ from_ahead (node i (k + 1)) (f (node i (k + 1)) + (clean p m * FINE + 1)) ahead

  order_step : (f : Node → ℕ) (m a i k j l : ℕ) → Stands p m a i k → Stands p m (a + 1) j l → IsAhead c (node i (k + 1)) → (d : (l < steps p j) ⊎ (steps p j ≤ l)) → over_order f j l d ≡ f (node i (k + 1)) + (clean p m * FINE + 1)
  order_step f m a i k j l one other ahead (inr out) = absurd (omega (arith, other.visits.within))
  order_step f m a i k j l one other ahead (inl within) =
      let n : ℕ = machine_of p j l in
      let same : m ≡ n = sym other.visits.here in
      let one' : Stands p n a i k = subst (λ (x : ℕ). Stands p x a i k) same one in
      let other' : Stands p n (a + 1) j l = subst (λ (x : ℕ). Stands p x (a + 1) j l) same other in
      let found = visits-stands p j l n shaped (visit j l within) in
      let place : found.0 ≡ suc a = stands_once p n found.0 (a + 1) j l found.1 other' ∙ add-one a in
      place_step f n a found.0 i k (visits-order p j l n shaped (visit j l within)) place one' ahead ∙ ap (λ (x : ℕ). f (node i (k + 1)) + (clean p x * FINE + 1)) (sym same)

  arc_step : (f : Node → ℕ) (u v : Node) (d : ℕ) → IsAhead c u → Arc p u v d → f u + (d * FINE + 1) ≤ step f v
  unfolding step
  arc_step f _ _ _ ahead (job_arc j k within) = omega (arith, job_step f j k (k + 1) (add-one k) ahead)
  arc_step f _ _ _ ahead (blocking_arc m a i k j l one other) = omega (arith, order_step f m a i k j l one other ahead (cases_lt l (steps p j)))

  start_step : (f : Node → ℕ) (v : Node) → start v ≤ step f v
  unfolding step
  start_step f v = omega arith

  start_far : (n : ℕ) (v : Node) → start v ≤ far n v
  unfolding far
  start_far zero v = le_refl (start v)
  start_far (suc n) v = start_step (far n) v

  -- ---- and a step is reached by such an arc, or is the first moment

  abbrev IsReached : (Node → ℕ) → Node → ℕ → Type 0
  IsReached f v x = (x ≤ start v) ⊎ ((u : Node) × (d : ℕ) × Arc p u v d × IsAhead c u × (x ≤ f u + (d * FINE + 1)))

  greater : (f : Node → ℕ) (v : Node) (x y : ℕ) → IsReached f v x → IsReached f v y → IsReached f v (max x y)
  greater f v x y one other = elim (cases_lt x y) [
    | inl less ↦ subst (IsReached f v) (let is : y ≡ max x y = omega arith in is) other
    | inr more ↦ subst (IsReached f v) (let is : x ≡ max x y = omega arith in is) one
  ]

  -- by an arc from a node ahead, and no arc from a passed one
  reached_by : (f : Node → ℕ) (u v : Node) (d : ℕ) → Arc p u v d → IsReached f v (from u (f u + (d * FINE + 1)))
  reached_by f u v d arc = elim (cases_lt u.place (made c u.job)) [
    | inl passed ↦ inl (omega (arith, from_passed u (f u + (d * FINE + 1)) passed))
    | inr ahead ↦ inr (u, d, arc, ahead, omega (arith, from_ahead u (f u + (d * FINE + 1)) ahead))
  ]

  job_reached : (f : Node → ℕ) (j k : ℕ) → k ≤ steps p j → IsReached f (node j k) (over_job f j k)
  job_reached f j zero within = inl (omega arith)
  job_reached f j (suc k) within = reached_by f (node j k) (node j (suc k)) (nominal p j k) (subst (λ (n : ℕ). Arc p (node j k) (node j n) (nominal p j k)) (add-one k) (job_arc j k (omega arith)))

  place_reached : (f : Node → ℕ) (m a j k : ℕ) (is : IsOrder p m) → Stands p m a j k → IsReached f (node j k) (over_place f m is a)
  place_reached f m zero j k is stands = inl (omega arith)
  place_reached f m (suc a) j k is stands = at (cases_lt a (length (order p m)))
    where
      at : (d : (a < length (order p m)) ⊎ (length (order p m) ≤ a)) → IsReached f (node j k) (behind f m is a d)
      at (inr past) = inl (omega arith)
      at (inl within) =
          let found = is.on_route a within in
          let one : Stands p m a (job_at p m a) found.0 = found.1 in
          reached_by f (node (job_at p m a) (found.0 + 1)) (node j k) (clean p m) (blocking_arc m a (job_at p m a) found.0 j k one (subst (λ (n : ℕ). Stands p m n j k) (sym (add-one a)) stands))

  order_reached : (f : Node → ℕ) (j k : ℕ) (d : (k < steps p j) ⊎ (steps p j ≤ k)) → IsReached f (node j k) (over_order f j k d)
  order_reached f j k (inr out) = inl (omega arith)
  order_reached f j k (inl within) =
      place_reached f (machine_of p j k) (visits-stands p j k (machine_of p j k) shaped (visit j k within)).0 j k (visits-order p j k (machine_of p j k) shaped (visit j k within)) (visits-stands p j k (machine_of p j k) shaped (visit j k within)).1

  step_reached : (f : Node → ℕ) (v : Node) → IsNode p v → IsReached f v (step f v)
  unfolding step
  step_reached f v is =
      greater f v (start v) (max (over_job f v.job v.place) (over_order f v.job v.place (cases_lt v.place (steps p v.job)))) (inl (le_refl _))
      (greater f v (over_job f v.job v.place) (over_order f v.job v.place (cases_lt v.place (steps p v.job))) (job_reached f v.job v.place is.place) (order_reached f v.job v.place (cases_lt v.place (steps p v.job))))

  -- ---- where a longer walk allows more, it is as long

  grows : (n : ℕ) (v : Node) → IsNode p v → far n v < far (suc n) v → (us : List Node) × (Back p v us × (n < length us))
  unfolding far
  grows zero v is more = go (step_reached (far zero) v is)
    where
      go : IsReached (far zero) v (step (far zero) v) → (us : List Node) × (Back p v us × (0 < length us))
      go (inl first) = absurd (omega arith)
      go (inr (u, d, arc, ahead, by)) = (u ∷ [], (((d, arc), tt), omega arith))
  grows (suc n) v is more = go (grows n) (step_reached (far (suc n)) v is)
    where
      go : ((u : Node) → IsNode p u → far n u < far (suc n) u → (us : List Node) × (Back p u us × (n < length us)))
          → IsReached (far (suc n)) v (step (far (suc n)) v) → (us : List Node) × (Back p v us × (suc n < length us))
      go again (inl first) = absurd (omega (arith, start_far (suc n) v))
      go again (inr (u, d, arc, ahead, by)) =
          let before : far n u + (d * FINE + 1) ≤ step (far n) v = arc_step (far n) u v d ahead arc in
          let found = again u (source_node p u v d arc) (omega arith) in
          (u ∷ found.0, (((d, arc), found.1.0), omega (arith, found.1.1)))

  -- ---- some path ahead is as long, but for its arcs

  -- the moment is at most the length of a path ahead to the node, and n more in fine units
  record IsBelow (v : Node) (x n : ℕ) : Type 0 where
    nodes : List Node
    size : ℕ
    path : PathAhead p c t nodes v size
    less : x ≤ size * FINE + n

  start_below : (v : Node) (x n : ℕ) → IsNode p v → IsAhead c v → x ≤ start v → IsBelow v x n
  start_below v x n is ahead first = record { nodes = v ∷ []; size = moment v; path = moment_path v is ahead; less = omega (arith, first) }

  far_below : (n : ℕ) (v : Node) → IsNode p v → IsAhead c v → IsBelow v (far n v) n
  unfolding far
  far_below zero v is here = start_below v (start v) 0 is here (le_refl (start v))
  far_below (suc n) v is here = go (far_below n) (step_reached (far n) v is)
    where
      go : ((u : Node) → IsNode p u → IsAhead c u → IsBelow u (far n u) n) → IsReached (far n) v (step (far n) v) → IsBelow v (step (far n) v) (suc n)
      go again (inl first) = start_below v (step (far n) v) (suc n) is here first
      go again (inr (u, d, arc, ahead, by)) =
          let b = again u (source_node p u v d arc) ahead in
          record { nodes = b.nodes ++ v ∷ []; size = b.size + d; path = onward b.nodes u v b.size d b.path arc; less = omega (arith, by, b.less) }

  -- more arcs than there are numbers allow no more
  far_enough : HasNoCycle p → (v : Node) → IsNode p v → step (far (number_count p)) v ≤ far (number_count p) v
  unfolding far
  far_enough acyclic v is = elim (cases_lt (far (number_count p) v) (step (far (number_count p)) v)) [
    | inl more ↦ (let found = grows (number_count p) v is more in absurd (omega (arith, back_few p shaped acyclic v found.0 is found.1.0, found.1.1)))
    | inr enough ↦ enough
  ]

  -- ---- no moment is large

  arc_short : (u v : Node) (d : ℕ) → Arc p u v d → d ≤ MAX_NOMINAL + MAX_CLEAN
  arc_short _ _ _ (job_arc j k within) = omega (arith, (visits-sound p j k (machine_of p j k) shaped (visit j k within)).nominal)
  arc_short _ _ _ (blocking_arc m a i k j l one other) = omega (arith, shaped.limits.cleanings m (visits_machine p i k m shaped one.visits))

  module _ (timed : HasSoundMoments (stage_of p c t)) where
    -- what goes on with a job is due in time
    due_small : (j due : ℕ) → j < jobs p → due_of_job p j (job_in c j) ≡ Some due → due ≤ MAX_MOMENT + MAX_RELEASE
    due_small j due inside comes_due = elim (job_due p c j due comes_due) [
      | inl awaited ↦ omega (arith, awaited.is_due, shaped.limits.releases j inside)
      | inr (m, (k, worked)) ↦ omega (arith, worked.is_due, sound.begun j, sound.last_in_range, (visits-sound p j k m shaped worked.on.visits).nominal)
    ]

    begun_small : (v : Node) → IsNode p v → IsAhead c v → begun_at p c t v ≤ MAX_MOMENT + MAX_RELEASE
    begun_small v is ahead = elim (cases_lt (made c v.job) v.place) [
      | inl later ↦ omega (arith, begun_later v later, timed.present)
      | inr other ↦ (
          let next : made c v.job ≡ v.place = let here : made c v.job ≤ v.place = ahead in omega arith in
          elim (later_is t (due_of_job p v.job (job_in c v.job))) [
            | inl same ↦ omega (arith, begun_next p c t v next, same, timed.present)
            | inr (due, comes_due, same) ↦ omega (arith, begun_next p c t v next, same, due_small v.job due is.job comes_due)
          ])
    ]

    cleaned_small : (v : Node) (due : ℕ) → cleaned_at p c v ≡ Some due → due ≤ MAX_MOMENT + MAX_RELEASE
    cleaned_small v due comes_due =
        let (m, going_on, holds) = cleaned_holds p c v due comes_due in
        omega (arith, going_on.1.is_due, timed.cleanings m going_on.0 going_on.1.is_cleaned, shaped.limits.cleanings m (visits_machine p v.job v.place m shaped holds.visits))

    start_small : (v : Node) → IsNode p v → IsAhead c v → start v ≤ (MAX_MOMENT + MAX_RELEASE) * FINE
    start_small v is ahead = elim (later_is (begun_at p c t v) (cleaned_at p c v)) [
      | inl same ↦ omega (arith, same, begun_small v is ahead)
      | inr (due, comes_due, same) ↦ omega (arith, same, cleaned_small v due comes_due)
    ]

    far_small : (n : ℕ) (v : Node) → IsNode p v → IsAhead c v → far n v ≤ (MAX_MOMENT + MAX_RELEASE) * FINE + n * ((MAX_NOMINAL + MAX_CLEAN) * FINE + 1)
    unfolding far
    far_small zero v is here = omega (arith, start_small v is here)
    far_small (suc n) v is here = go (far_small n) (step_reached (far n) v is)
      where
        go : ((u : Node) → IsNode p u → IsAhead c u → far n u ≤ (MAX_MOMENT + MAX_RELEASE) * FINE + n * ((MAX_NOMINAL + MAX_CLEAN) * FINE + 1)) → IsReached (far n) v (step (far n) v)
            → step (far n) v ≤ (MAX_MOMENT + MAX_RELEASE) * FINE + suc n * ((MAX_NOMINAL + MAX_CLEAN) * FINE + 1)
        go again (inl first) = omega (arith, first, start_small v is here)
        go again (inr (u, d, arc, ahead, by)) = omega (arith, by, arc_short u v d arc, again u (source_node p u v d arc) ahead)

    -- ---- so the greatest lengths of walks are such moments

    abbrev all : Node → ℕ
    all = far (number_count p)

    next_kept : (j : ℕ) → j < jobs p → made c j ≤ steps p j → later_than t (due_of_job p j (job_in c j)) * FINE ≤ all (next_node c j)
    next_kept j inside here = omega (arith, start_far (number_count p) (next_node c j), begun_next p c t (next_node c j) refl, later_above (begun_at p c t (next_node c j)) (cleaned_at p c (next_node c j)))

    cleaned_kept : (m i k due : ℕ) → Stands p m (length (entries c m)) i k → due_of_cleaning p m (cleaning c m) ≡ Some due → due * FINE ≤ all (node i k)
    cleaned_kept m i k due stands comes_due =
        let at : cleaned_at p c (node i k) ≡ Some due = holds_cleaned p c (node i k) due m (due_cleaning p c m due comes_due) stands in
        omega (arith, start_far (number_count p) (node i k), later_other (begun_at p c t (node i k)) due (cleaned_at p c (node i k)) at)

    all_fine : HasNoCycle p → AreFineMoments (stage_of p c t) all
    all_fine acyclic = fine_moments p c shaped sound all
        (λ u v d ahead arc. (let to = arc_left p c u v d sound arc ahead in
        omega (arith, arc_step all u v d ahead arc, far_enough acyclic v (record { job = to.job; place = to.place }))))
        t next_kept cleaned_kept
        (λ j k inside ahead within. omega (arith, far_small (number_count p) (node j k) (record { job = inside; place = within }) ahead, numbers_few p shaped))

    all_within : (limits : List (Option ℕ)) → KeepsLimitsFrom (stage_of p c t) p limits → LeaveWithin (stage_of p c t) limits all
    all_within limits keeps j n inside here limited =
        let is : IsNode p (leaving p j) = record { job = inside; place = le_refl (steps p j) } in
        let b = far_below (number_count p) (leaving p j) is here in
        let by : b.size ≤ n = keeps.jobs j n inside (λ gone. omega (arith, gone, here)) limited b.nodes b.size b.path in
        omega (arith, b.less, by, numbers_few p shaped)

-- a plan that goes on from a cell and keeps limits gives such moments
pub every_plan_gives_moments-holds : EveryPlanGivesMoments
every_plan_gives_moments-holds s p limits timed goes keeps =
    let same : stage_of p s.cell s.present ≡ s = λ i. record { times = goes.same i; cell = s.cell; present = s.present } in
    let sound : IsSound p s.cell = subst (IsSound p) (sym goes.cell) (run-sound p goes.run goes.shaped goes.is_run) in
    let here : HasSoundMoments (stage_of p s.cell s.present) = subst HasSoundMoments (sym same) timed in
    let keeps_here : KeepsLimitsFrom (stage_of p s.cell s.present) p limits = subst (λ (x : Stage). KeepsLimitsFrom x p limits) (sym same) keeps in
    let w : Node → ℕ = all p s.cell s.present goes.shaped sound here in (
      w,
      subst (λ (x : Stage). AreFineMoments x w) same (all_fine p s.cell s.present goes.shaped sound here keeps.acyclic),
      subst (λ (x : Stage). LeaveWithin x limits w) same (all_within p s.cell s.present goes.shaped sound here limits keeps_here),
    )
