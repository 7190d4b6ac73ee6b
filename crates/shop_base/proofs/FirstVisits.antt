-- What a step may not visit twice, and a route each of whose steps visits its machine for the first time.
use Rattle.std.proofs.Common.{◌≡◌, ℕ, ◌<◌, ◌≤◌, Bool, List, length, map, get_or, arith, true, false, ◌∙◌, sym, refl}
use Rattle.std.proofs.Math.Dec.{eqb}
use Rattle.std.specs.List.{list_any}
use Rattle.std.proofs.lemmas.List.{get_or-map, length-map}
use Rattle.std.proofs.lemmas.List.Folds.{Any-from_list_any}
use Rattle.std.proofs.lemmas.Bool.{ne_eqb, eqb-true}
use Rattle.std.proofs.lemmas.Map.Keys.{IsDistinct-from_apart}
use Rattle.std.proofs.lemmas.Map.Steps.{length-le_from_distinct_below}
use Rattle.shop_base.specs.declared.shop.Step.{Step}
use Rattle.shop_base.specs.declared.limits.TheConstants.{MAX_NOMINAL}
use Rattle.shop_base.specs.Shop.{step_at, no_step, IsSoundStep}
use Rattle.shop_base.specs.ShopFault.{AreSoundSteps, IsTwice}

module _ (machines : ℕ) (again : Bool) (route : List Step) (k : ℕ) where
  -- a sound step visits no machine that it may not
  pub sound-twice : IsSoundStep machines again route k → IsTwice again route k → ⊥
  sound-twice sound twice = go again sound twice
    where
      go : (b : Bool) → IsSoundStep machines b route k → IsTwice b route k → ⊥
      go true is same = is.elsewhere same
      go false is (i, earlier, same) = is.first_visit refl i earlier same

  -- and that is all, but for the range and the nominal time
  pub once-sound : (step_at route k).machine < machines → (IsTwice again route k → ⊥) → (step_at route k).nominal ≤ MAX_NOMINAL → IsSoundStep machines again route k
  once-sound inside once short = go again once
    where
      go : (b : Bool) → (IsTwice b route k → ⊥) → IsSoundStep machines b route k
      go true none = record { in_range = inside; elsewhere = none; first_visit = λ shut. cc; nominal = short }
      go false none = record {
        in_range = inside;
        elsewhere = λ same. none (same.0, omega (arith, same.1), same.2);
        first_visit = λ shut i earlier same. none (i, earlier, same);
        nominal = short;
      }

module _ (machines : ℕ) (route : List Step) (sound : AreSoundSteps machines false route (length route)) where
  machine_at : (k d : ℕ) → k < length route → get_or (map (λ step. step.machine) route) k d ≡ (step_at route k).machine
  machine_at k d h = get_or-map (λ step. step.machine) route k no_step d h

  machines_apart : (i k d : ℕ) → i < k → k < length (map (λ step. step.machine) route)
      → eqb (get_or (map (λ step. step.machine) route) i d) (get_or (map (λ step. step.machine) route) k d) ≡ false
  machines_apart i k d lt h =
      let inside : k < length route = omega (arith, length-map route (λ step. step.machine)) in
      let first : i < length route = omega arith in
      rw (machine_at i d first, machine_at k d inside) (ne_eqb _ _ ((sound k inside).first_visit refl i lt))

  machines_below : (q : ℕ) → list_any (eqb q) (map (λ step. step.machine) route) ≡ true → q < machines
  machines_below q found =
      let at = Any-from_list_any (eqb q) (map (λ step. step.machine) route) found in
      let inside : at.0 < length route = omega (arith, length-map route (λ step. step.machine), at.2) in
      let same : q ≡ at.1 = eqb-true q at.1 at.4 in
      let is : (step_at route at.0).machine ≡ q = sym (machine_at at.0 at.1 inside) ∙ at.3 ∙ sym same in
      let bound : (step_at route at.0).machine < machines = (sound at.0 inside).in_range in
      omega arith

  -- a route visits each machine at most once, so it has no more steps than there are machines
  pub few_firsts : length route ≤ machines
  few_firsts =
      let all = length-le_from_distinct_below (map (λ step. step.machine) route) machines (IsDistinct-from_apart eqb (map (λ step. step.machine) route) machines_apart) machines_below in
      omega (arith, all, length-map route (λ step. step.machine))
