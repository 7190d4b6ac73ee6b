-- What the table of a job alone shows, from step to step.
use Rattle.std.proofs.Common.{◌≡◌, ℕ, zero, suc, ◌+◌, ◌*◌, ◌-◌, ◌<◌, ◌≤◌, inl, inr, max, false, List, length, get_or, set, replicate, arith, sym, ap, subst, ◌∙◌, refl, get_or-set_same, get_or-set_other}
use Rattle.std.specs.Prelude.{if◌then◌else◌, ◌==◌}
use Rattle.std.proofs.lemmas.Bool.{cases_eq, eq-eqb, ne_eqb}
use Rattle.std.proofs.lemmas.List.{length-set, length-replicate}
use Rattle.shop_base.specs.declared.limits.TheConstants.{MAX_MACHINES}
use Rattle.shop_base.specs.declared.shop.Step.{Step}
use Rattle.shop_base.specs.Shop.{step_at}
use Rattle.shop_base.specs.Plan.{clean_in}
use Rattle.shop_base.proofs.Marking.{zero_at}
use Rattle.plan_bounds.specs.Bounds.{ShopTimes, Alone, route_in, is_left, enters_alone, after_entry, alone_after}

-- when the job is ready, and the moments from which on it can enter each machine; none of these is past the limit
pub record Shows (a : Alone) (limit at : ℕ) (table : List ℕ) : Type 0 where
  pub ready : at ≡ a.ready
  pub free : (m : ℕ) → m < length table → get_or table m 0 ≡ a.free m
  pub size : length table ≡ MAX_MACHINES
  pub small : (at ≤ limit) × ((m : ℕ) → m < length table → get_or table m 0 ≤ limit)

-- whether a machine is left for a step
none_left : (route : List Step) (k m : ℕ) → k ≡ 0 → is_left route k m ≡ false
none_left route zero m is = refl
none_left route (suc k) m is = absurd (omega (arith, is))

left_is : (route : List Step) (k i m : ℕ) → i + 1 ≡ k → is_left route k m ≡ ((step_at route i).machine == m)
left_is route zero i m is = absurd (omega (arith, is))
left_is route (suc k) i m is = ap (λ (x : ℕ). (step_at route x).machine == m) (omega (arith, is))

module _ (t : ShopTimes) (route : List Step) (a : Alone) (limit at : ℕ) (table : List ℕ) (shows : Shows a limit at table) (k enters : ℕ)
    (inside : (step_at route k).machine < MAX_MACHINES) (is : enters ≡ max at (get_or table (step_at route k).machine 0)) (short : (step_at route k).nominal ≤ 1000000) where
  entered : enters ≡ enters_alone t route k a
  entered = omega (arith, is, shows.ready, shows.free (step_at route k).machine (omega (arith, inside, shows.size)))

  early : enters ≤ limit
  early = omega (arith, is, shows.small.0, shows.small.1 (step_at route k).machine (omega (arith, inside, shows.size)))

  -- the first step of a route
  pub shows_first : k ≡ 0 → Shows (after_entry t route k a) (limit + 2000000) (enters + (step_at route k).nominal) table
  shows_first first = record {
    ready = omega (arith, entered);
    free = λ m less. rw (none_left route k m first) (shows.free m less);
    size = shows.size;
    small = (omega (arith, early, short), λ m less. omega (arith, shows.small.1 m less));
  }

  -- a later one, for which a machine is left
  pub shows_later : (i : ℕ) → i + 1 ≡ k → let left = (step_at route i).machine in left < MAX_MACHINES → clean_in t.clean left ≤ 1000000
      → Shows (after_entry t route k a) (limit + 2000000) (enters + (step_at route k).nominal) (set table left (enters + clean_in t.clean left))
  shows_later i before there few = record {
    ready = omega (arith, entered);
    free = λ m less. free m (omega (arith, less, length-set table left value));
    size = length-set table left value ∙ shows.size;
    small = (omega (arith, early, short), λ m less. small m (omega (arith, less, length-set table left value)));
  }
    where
      left : ℕ
      left = (step_at route i).machine

      value : ℕ
      value = enters + clean_in t.clean left

      put : (m : ℕ) → m ≡ left → get_or (set table left value) m 0 ≡ value
      put m same = ap (λ (x : ℕ). get_or (set table left value) x 0) same ∙ get_or-set_same table left value 0 (omega (arith, there, shows.size))

      free : (m : ℕ) → m < length table → get_or (set table left value) m 0 ≡ (if is_left route k m then enters_alone t route k a + clean_in t.clean m else a.free m)
      free m less = elim (cases_eq m left) [
        | inl same ↦ (
            let here : (if is_left route k m then enters_alone t route k a + clean_in t.clean m else a.free m) ≡ enters_alone t route k a + clean_in t.clean m = rw (left_is route k i m before, eq-eqb left m (sym same)) refl in
            omega (arith, put m same, here, entered, ap (clean_in t.clean) same))
        | inr other ↦ get_or-set_other table left m value 0 other ∙ shows.free m less ∙ sym (rw (left_is route k i m before, ne_eqb left m (λ at. other (sym at))) refl)
      ]

      small : (m : ℕ) → m < length table → get_or (set table left value) m 0 ≤ limit + 2000000
      small m less = elim (cases_eq m left) [
        | inl same ↦ omega (arith, put m same, early, few)
        | inr other ↦ omega (arith, get_or-set_other table left m value 0 other, shows.small.1 m less)
      ]

module _ (t : ShopTimes) (j made at : ℕ) where
  -- before the job enters any
  pub shows_none : Shows (alone_after t j made at (made - made)) (at + (made - made) * 2000000) at (replicate MAX_MACHINES 0)
  shows_none =
      let none : 0 ≡ made - made = omega arith in
      subst (λ (n : ℕ). Shows (alone_after t j made at n) (at + n * 2000000) at (replicate MAX_MACHINES 0)) none (record {
        ready = refl;
        free = λ m less. zero_at MAX_MACHINES m;
        size = length-replicate {A = ℕ} MAX_MACHINES 0;
        small = (omega arith, λ m less. omega (arith, zero_at MAX_MACHINES m));
      })

  -- and once it has entered one more
  pub shows_next : (k ready : ℕ) (table : List ℕ) → made ≤ k → let n = k - made in
      Shows (after_entry t (route_in t j) k (alone_after t j made at n)) (at + n * 2000000 + 2000000) ready table
      → Shows (alone_after t j made at (k + 1 - made)) (at + (k + 1 - made) * 2000000) ready table
  shows_next k ready table begun shows =
      let next : suc (k - made) ≡ k + 1 - made = omega (arith, begun) in
      let place : k ≡ made + (k - made) = omega (arith, begun) in
      let limit : at + (k - made) * 2000000 + 2000000 ≡ at + (k + 1 - made) * 2000000 = omega (arith, begun) in
      subst (λ (n : ℕ). Shows (alone_after t j made at n) (at + (k + 1 - made) * 2000000) ready table) next
      (subst (λ (x : ℕ). Shows (after_entry t (route_in t j) x (alone_after t j made at (k - made))) (at + (k + 1 - made) * 2000000) ready table) place
      (subst (λ (x : ℕ). Shows (after_entry t (route_in t j) k (alone_after t j made at (k - made))) x ready table) limit shows))
