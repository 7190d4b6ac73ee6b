-- Moments in fine units that keep every arc ahead: of two jobs on one machine, one has left before the other enters.
use Rattle.std.proofs.Common.{◌≡◌, ◌≢◌, ℕ, zero, suc, ◌+◌, ◌-◌, ◌*◌, ◌^◌, ◌<◌, ◌≤◌, ◌⊎◌, inl, inr, length, Some, arith, subst}
use Rattle.std.proofs.lemmas.Bool.{cases_order, cases_lt}
use Rattle.shop_base.specs.declared.node.Node.{Node}
use Rattle.shop_base.specs.Plan.{PlannedShop, jobs, steps, order, job_at, clean, Visits, Stands, IsOrder, IsWellShaped}
use Rattle.shop_base.specs.Cell.{Cell, job_in, made, entries, cleaning}
use Rattle.shop_base.specs.Movers.{due_of_job, due_of_cleaning}
use Rattle.shop_base.specs.Sound.{IsSound}
use Rattle.shop_base.specs.Graph.{node, Arc, job_arc, blocking_arc}
use Rattle.shop_base.specs.Ahead.{IsAhead, next_node}
use Rattle.shop_base.proofs.Visits.{visits-stands, visits-order, stands_same, stands_step, stands_in_turn}
use Rattle.plan_bounds.specs.Bounds.{times_of, IsVisit}
use Rattle.plan_verifier.specs.Held.{later_than}
use Rattle.plan_limits.specs.declared.moments.TheConstants.{FINE}
use Rattle.plan_limits.specs.Stages.{stage_of}
use Rattle.plan_limits.specs.LimitsLaw.{AreFineMoments}

module _ (p : PlannedShop) (c : Cell) (shaped : IsWellShaped p) (sound : IsSound p c) (w : Node → ℕ)
    (keeps : (u v : Node) (d : ℕ) → IsAhead c u → Arc p u v d → w u + (d * FINE + 1) ≤ w v) where
  -- job i has left machine m behind its step k when job j enters it by its step l
  abbrev Leaves : ℕ → ℕ → ℕ → ℕ → ℕ → Type 0
  Leaves m i k j l = w (node i (k + 1)) + (clean p m * FINE + 1) ≤ w (node j l)

  -- of two jobs in an order the first, if it hasn't left yet, has left before the second enters, however many are between them
  between : (d m a i k j l : ℕ) → IsOrder p m → Stands p m a i k → Stands p m (a + suc d) j l → made c i ≤ k + 1 → Leaves m i k j l
  between zero m a i k j l is one other ahead = keeps (node i (k + 1)) (node j l) (clean p m) ahead (blocking_arc m a i k j l one other)
  between (suc d) m a i k j l is one other ahead =
      let b : ℕ = a + suc d in
      let next : a + suc (suc d) ≡ b + 1 = omega arith in
      let last : Stands p m (b + 1) j l = subst (λ (n : ℕ). Stands p m n j l) next other in
      let within : b < length (order p m) = omega (arith, last.within) in
      let x : ℕ = job_at p m b in
      let found = is.on_route b within in
      let here : Stands p m b x found.0 = found.1 in
      let there : made c x ≤ found.0 = goes_on d m a i k x found.0 is one here ahead in
      omega (
        arith,
        between d m a i k x found.0 is one here ahead,
        keeps (node x found.0) (node x (found.0 + 1)) _ there (job_arc x found.0 here.visits.within),
        keeps (node x (found.0 + 1)) (node j l) (clean p m) (omega (arith, there)) (blocking_arc m b x found.0 j l here last),
      )
    where
      -- those behind a job that hasn't left haven't entered
      goes_on : (d m a i k j l : ℕ) → IsOrder p m → Stands p m a i k → Stands p m (a + suc d) j l → made c i ≤ k + 1 → made c j ≤ l
      goes_on d m a i k j l is one other ahead = elim (cases_lt l (made c j)) [
        | inr left ↦ left
        | inl passed ↦ (let entered : a + suc d < length (entries c m) = sound.made_entered m (a + suc d) j l other passed in
            let before : k < made c i = sound.entered_made m a i k one (omega arith) in
            let newest : length (entries c m) ≡ a + 1 = sound.newest m a i k one (omega arith) in
            absurd (omega arith))
      ]

  later : (m a b i k j l : ℕ) → IsOrder p m → a < b → Stands p m a i k → Stands p m b j l → made c i ≤ k + 1 → Leaves m i k j l
  later m a b i k j l is less first second ahead =
      let apart_by : b ≡ a + suc (b - (a + 1)) = omega arith in
      between (b - (a + 1)) m a i k j l is first (subst (λ (n : ℕ). Stands p m n j l) apart_by second) ahead

  -- so of two jobs that have still to enter a machine one has left before the other enters
  one_before : (m i k j l : ℕ) → i ≢ j → Visits p i k m → Visits p j l m → made c i ≤ k → made c j ≤ l → Leaves m i k j l ⊎ Leaves m j l i k
  one_before m i k j l apart one other here there = go (visits-stands p i k m shaped one) (visits-stands p j l m shaped other)
    where
      is : IsOrder p m
      is = visits-order p i k m shaped one

      go : (a : ℕ) × Stands p m a i k → (b : ℕ) × Stands p m b j l → Leaves m i k j l ⊎ Leaves m j l i k
      go (a, first) (b, second) = elim (cases_order a b) [
        | inl same ↦ absurd (apart (stands_same p m b i j k l (subst (λ (n : ℕ). Stands p m n i k) same first) second))
        | inr (inl less) ↦ inl (later m a b i k j l is less first second (omega (arith, here)))
        | inr (inr more) ↦ inr (later m b a j l i k is more second first (omega (arith, there)))
      ]

  -- a job that enters a machine again has left it before
  left_again : (m j k l : ℕ) → k < l → Visits p j k m → Visits p j l m → made c j ≤ k → Leaves m j k j l
  left_again m j k l less one other ahead = go (visits-stands p j k m shaped one) (visits-stands p j l m shaped other)
    where
      go : (a : ℕ) × Stands p m a j k → (b : ℕ) × Stands p m b j l → Leaves m j k j l
      go (a, first) (b, second) = elim (cases_order a b) [
        | inl same ↦ absurd (omega (arith, less, stands_step p m b j k l (subst (λ (n : ℕ). Stands p m n j k) same first) second))
        | inr (inl before) ↦ later m a b j k j l (visits-order p j k m shaped one) before first second (omega (arith, ahead))
        | inr (inr behind) ↦ absurd (omega (arith, less, stands_in_turn p m b a j l k second first behind))
      ]

  -- one that is on it has left before it is entered again
  holder_before : (m i k j l : ℕ) → Visits p i k m → Visits p j l m → made c i ≡ k + 1 → made c j ≤ l → Leaves m i k j l
  holder_before m i k j l one other on there = go (visits-stands p i k m shaped one) (visits-stands p j l m shaped other)
    where
      go : (a : ℕ) × Stands p m a i k → (b : ℕ) × Stands p m b j l → Leaves m i k j l
      go (a, first) (b, second) =
          let newest : length (entries c m) ≡ a + 1 = sound.newest m a i k first on in
          elim (cases_lt a b) [
            | inl less ↦ later m a b i k j l (visits-order p i k m shaped one) less first second (omega (arith, on))
            | inr more ↦ absurd (omega (arith, there, sound.entered_made m b j l second (omega (arith, more, newest))))
          ]

  -- the first to enter comes first, and the others come after it
  entry_after : (m n j l : ℕ) → Visits p j l m → made c j ≤ l → ((i k : ℕ) → Stands p m (length (entries c m)) i k → n ≤ w (node i k)) → n ≤ w (node j l)
  entry_after m n j l visit there first = go (visits-stands p j l m shaped visit)
    where
      is : IsOrder p m
      is = visits-order p j l m shaped visit

      a : ℕ
      a = length (entries c m)

      go : (b : ℕ) × Stands p m b j l → n ≤ w (node j l)
      go (b, second) = elim (cases_order a b) [
        | inl same ↦ first j l (subst (λ (x : ℕ). Stands p m x j l) (sym_of same) second)
        | inr (inl less) ↦ (
            let within : a < length (order p m) = omega (arith, less, second.within) in
            let x : ℕ = job_at p m a in
            let found = is.on_route a within in
            let here : Stands p m a x found.0 = found.1 in
            let ahead : made c x ≤ found.0 = not_entered x found.0 here in
            omega (
              arith,
              first x found.0 here,
              keeps (node x found.0) (node x (found.0 + 1)) _ ahead (job_arc x found.0 here.visits.within),
              later m a b x found.0 j l is less here second (omega (arith, ahead)),
            ))
        | inr (inr more) ↦ absurd (omega (arith, there, sound.entered_made m b j l second more))
      ]
        where
          sym_of : a ≡ b → b ≡ a
          sym_of same = omega (arith, same)

          not_entered : (x k : ℕ) → Stands p m a x k → made c x ≤ k
          not_entered x k here = elim (cases_lt k (made c x)) [
            | inl passed ↦ absurd (omega (arith, sound.made_entered m a x k here passed))
            | inr left ↦ left
          ]

  -- with the bounds of what goes on they are the moments that are looked for
  pub fine_moments : (t : ℕ) → ((j : ℕ) → j < jobs p → made c j ≤ steps p j → later_than t (due_of_job p j (job_in c j)) * FINE ≤ w (next_node c j))
      → ((m i k due : ℕ) → Stands p m (length (entries c m)) i k → due_of_cleaning p m (cleaning c m) ≡ Some due → due * FINE ≤ w (node i k))
      → ((j k : ℕ) → j < jobs p → made c j ≤ k → k ≤ steps p j → w (node j k) < 2 ^ 64) → AreFineMoments (stage_of p c t) w
  fine_moments t next cleaned small = record {
    next = next;
    cleanings = λ m j l due visit ahead going_on. entry_after m (due * FINE) j l (as_visit m j l visit) ahead (λ i k stands. cleaned m i k due stands going_on);
    routes = λ j k ahead within. keeps (node j k) (node j (k + 1)) _ ahead (job_arc j k within);
    machines = λ m i k j l apart one other here there. one_before m i k j l apart (as_visit m i k one) (as_visit m j l other) here there;
    again = λ m j k l less one other ahead. left_again m j k l less (as_visit m j k one) (as_visit m j l other) ahead;
    holders = λ m i k j l one other on there. holder_before m i k j l (as_visit m i k one) (as_visit m j l other) on there;
    small = small;
  }
    where
      as_visit : (m j k : ℕ) → IsVisit (times_of p) m j k → Visits p j k m
      as_visit m j k visit = record { within = visit.within; here = visit.here }
