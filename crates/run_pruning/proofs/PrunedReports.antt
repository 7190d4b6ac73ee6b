-- Without jobs that are gone as many reports are left.
use Rattle.std.proofs.Common.{◌≡◌, ℕ, zero, suc, ◌+◌, ◌-◌, ◌<◌, ◌≤◌, ◌⊎◌, inl, inr, List, ◌++◌, length, length-append, get_or, Option, Bool, true, false, cond, is_some, nat_lt, refl, sym, ap, ap₂, ◌∙◌, subst, arith, lt-ltb}
use Rattle.std.proofs.lemmas.List.{get_or-append-add}
use Rattle.shop_base.specs.declared.shop.Step.{Step}
use Rattle.shop_base.specs.declared.job_state.JobState.{JobState}
use Rattle.shop_base.specs.Plan.{PlannedShop, jobs, machines, steps, order, job_at, clean, count_below, IsWellShaped}
use Rattle.shop_base.specs.Cell.{Cell, made, entries, cleaning, IsOn, IsGone, IsFree}
use Rattle.shop_base.specs.Ends.{sum_below}
use Rattle.shop_base.specs.ReportsLeft.{busy, job_reports_left, departures, cleanings_left, reports_left}
use Rattle.shop_base.specs.Sound.{IsSound}
use Rattle.shop_base.proofs.Visits.{visits_job, on_or_not}
use Rattle.shop_base.proofs.Sums.{sum_below_same}
use Rattle.shop_base.proofs.Counting.{count_passed, count_failed}
use Rattle.shop_base.proofs.Departures.{departures_free, departures_on}
use Rattle.run_pruning.specs.Staying.{stays, new_number, renumbered}
use Rattle.run_pruning.specs.Pruned.{pruned, last_in, pruned_cell}
use Rattle.run_pruning.proofs.Left.{stays_at, length-renumbered, renumbered-append}
use Rattle.run_pruning.proofs.PrunedShops.{jobs_left, route_kept, order_left}
use Rattle.run_pruning.proofs.PrunedCells.{entries_left, job_left}
use Rattle.run_pruning.proofs.AheadStays.{stays_here, place_stays}
use Rattle.run_pruning.proofs.PrunedSteps.{newest_in, on_left, free_left}

-- a sum over the jobs that stay, by their new numbers, is that over all jobs where the others add nothing
sum_left : (marks : List Bool) (f g : ℕ → ℕ) (n : ℕ) → ((j : ℕ) → j < n → stays marks j ≡ true → g (new_number marks j) ≡ f j) → ((j : ℕ) → j < n → stays marks j ≡ false → f j ≡ 0)
    → sum_below g (new_number marks n) ≡ sum_below f n
sum_left marks f g zero same none = refl
sum_left marks f g (suc n) same none = go (stays marks n) refl (sum_left marks f g n (λ j less. same j (omega (arith, less))) (λ j less. none j (omega (arith, less)))) (same n (omega arith)) (none n (omega arith))
  where
    go : (b : Bool) → stays marks n ≡ b → sum_below g (new_number marks n) ≡ sum_below f n → (stays marks n ≡ true → g (new_number marks n) ≡ f n) → (stays marks n ≡ false → f n ≡ 0)
        → sum_below g (new_number marks (suc n)) ≡ sum_below f (suc n)
    go true is before here gone =
        let next : new_number marks (suc n) ≡ suc (new_number marks n) = omega (arith, count_passed (stays marks) n is) in
        rw next (omega (arith, before, here is))
    go false is before here gone =
        let next : new_number marks (suc n) ≡ new_number marks n = count_failed (stays marks) n is in
        rw next (omega (arith, before, gone is))

-- where each number passes all count
count_all : (f : ℕ → Bool) (n : ℕ) → ((i : ℕ) → i < n → f i ≡ true) → count_below f n ≡ n
count_all f zero all = refl
count_all f (suc n) all = omega (arith, count_passed f n (all n (omega arith)), count_all f n (λ i less. all i (omega (arith, less))))

module _ (p : PlannedShop) (marks : List Bool) (count : length marks ≡ jobs p) (shaped : IsWellShaped p) (c : Cell) (sound : IsSound p c) (u : ℕ) (sooner : u ≤ c.last)
    (shaped_left : IsWellShaped (pruned marks p)) (sound_left : IsSound (pruned marks p) (pruned_cell marks c u))
    (gone : (j : ℕ) → j < jobs p → stays marks j ≡ false → IsGone p c j) (cleanings : (m : ℕ) → cleaning (pruned_cell marks c u) m ≡ cleaning c m) where
  abbrev q : PlannedShop
  q = pruned marks p

  abbrev d : Cell
  d = pruned_cell marks c u

  job_kept : (j : ℕ) → stays marks j ≡ true → job_reports_left q d (new_number marks j) ≡ job_reports_left p c j
  job_kept j kept =
      ap₂ (λ (r : List Step) (s : JobState). (length r - s.made) + cond s.ready 0 (cond (nat_lt (length r) s.made) 0 1)) (route_kept p marks count j kept) (job_left marks c u j kept)

  job_gone : (j : ℕ) → j < jobs p → stays marks j ≡ false → job_reports_left p c j ≡ 0
  job_gone j inside dropped =
      let out : IsGone p c j = gone j inside dropped in
      let idle : busy p c j ≡ 0 = ap₂ (λ x y. cond x 0 (cond y 0 1)) (sound.gone_not_ready j out) (lt-ltb (steps p j) (made c j) out) in
      omega (arith, out, idle)

  jobs_same : sum_below (job_reports_left q d) (jobs q) ≡ sum_below (job_reports_left p c) (jobs p)
  jobs_same = ap (sum_below (job_reports_left q d)) (jobs_left p marks count ∙ ap (new_number marks) count)
      ∙ sum_left marks (job_reports_left p c) (job_reports_left q d) (jobs p) (λ j less kept. job_kept j kept) job_gone

  -- what is ahead of a machine is of jobs that stay
  ahead_stays : (m : ℕ) (rest : List ℕ) → m < machines p → order p m ≡ entries c m ++ rest → (i : ℕ) → i < length rest → stays_at marks rest i ≡ true
  ahead_stays m rest inside e i less =
      let a : ℕ = length (entries c m) + i in
      let same : job_at p m a ≡ get_or rest i 0 = ap (λ (js : List ℕ). get_or js a 0) e ∙ get_or-append-add (entries c m) rest i 0 in
      ap (stays marks) (sym same) ∙ place_stays p marks shaped c sound gone m a inside (omega arith) (omega (arith, less, ap length e, length-append (entries c m) rest))

  -- so as many visits are ahead of it
  ahead_same : (m : ℕ) → m < machines p → length (order q m) + length (entries c m) ≡ length (order p m) + length (entries d m)
  ahead_same m inside =
      let (rest, e) = sound.in_order m in
      let all : length (renumbered marks rest) ≡ length rest = length-renumbered marks rest ∙ count_all (stays_at marks rest) (length rest) (ahead_stays m rest inside e) in
      let whole : length (order q m) ≡ length (renumbered marks (entries c m)) + length (renumbered marks rest) =
      ap length (order_left p marks count m ∙ ap (renumbered marks) e ∙ renumbered-append marks (entries c m) rest) ∙ length-append (renumbered marks (entries c m)) (renumbered marks rest) in
      omega (arith, all, whole, ap length (entries_left marks c u m), ap length e, length-append (entries c m) rest)

  held_or_free : (m : ℕ) → ((j : ℕ) × (k : ℕ) × IsOn p c j k m) ⊎ IsFree p c m
  held_or_free m = elim (on_or_not p c (last_in (entries c m)) m) [
    | inl (k, on) ↦ inl (last_in (entries c m), k, on)
    | inr off ↦ inr (λ j k on. off k (subst (λ x. IsOn p c x k m) (sym (newest_in p c j k m shaped sound on)) on))
  ]

  departures_same : (m : ℕ) → m < machines p → length (order q m) - departures q d m ≡ length (order p m) - departures p c m
  departures_same m inside = elim (held_or_free m) [
    | inl (j, k, on) ↦ (let there : IsOn q d (new_number marks j) k m = on_left p marks count shaped c sound u sooner j k m (stays_here p marks shaped c sound gone j (visits_job p j k m on.visits) (omega (arith, on.entered, on.visits.within))) on in
        omega (arith, ahead_same m inside, departures_on p c j k m shaped sound on, departures_on q d (new_number marks j) k m shaped_left sound_left there))
    | inr free ↦ omega (arith, ahead_same m inside, departures_free p c m free, departures_free q d m (free_left p marks count shaped c sound u sooner m free))
  ]

  machine_same : (m : ℕ) → m < machines p → cleanings_left q d m ≡ cleanings_left p c m
  machine_same m inside = ap₂ (λ (n : ℕ) (o : Option ℕ). cond (nat_lt 0 (clean p m)) (n + cond (is_some o) 1 0) 0) (departures_same m inside) (cleanings m)

  pub reports_left_same : reports_left q d ≡ reports_left p c
  reports_left_same = omega (arith, jobs_same, sum_below_same (cleanings_left q d) (cleanings_left p c) (machines p) machine_same)
