-- Where a job comes to a machine, from the step on that it has entered last.
use Rattle.std.proofs.Common.{◌≡◌, ℕ, zero, suc, ◌+◌, ◌-◌, ◌<◌, ◌≤◌, ◌⊎◌, inl, inr, List, [], ◌∷◌, length, get_or, drop, max, None, Some, Bool, true, false, eqb, position, sym, ap, ◌∙◌, arith}
use Rattle.std.specs.List.{position_or_len}
use Rattle.std.proofs.lemmas.Bool.{eq-eqb, eqb-true, cases_Bool, cases_lt, lt-ltb}
use Rattle.std.proofs.lemmas.List.{get_or-drop, length-drop}
use Rattle.std.proofs.lemmas.List.Quantifiers.{position-Some}
use Rattle.shop_base.specs.declared.shop.Step.{Step}
use Rattle.shop_base.specs.Shop.{step_at, no_step}
use Rattle.shop_base.specs.Plan.{PlannedShop, route, machine_of, Visits}
use Rattle.plan_revise.specs.Settings.{RevisionSetting, moves_made}
use Rattle.plan_revise.specs.Stopped.{present_step, way_to, stopped, stopped_at}

-- where no element passes, all of them don't
none_pass : {X : Type 0} (p : X → Bool) (xs : List X) (d : X) → length xs ≤ position_or_len p xs → (k : ℕ) → k < length xs → p (get_or xs k d) ≡ true → ⊥
none_pass p [] d all k within pass = omega arith
none_pass p (x ∷ xs) d all zero within pass = let none : suc (length xs) ≤ 0 = rw pass at all in omega (arith, none)
none_pass p (x ∷ xs) d all (suc k) within pass = elim (cases_Bool (p x)) [
  | inl here ↦ (let none : suc (length xs) ≤ 0 = rw here at all in absurd (omega (arith, none)))
  | inr not_here ↦ (let more : suc (length xs) ≤ 1 + position_or_len p xs = rw not_here at all in none_pass p xs d (omega (arith, more)) k (omega arith) pass)
]

-- where a place isn't found, there is none
not_on : (m : ℕ) (r : List Step) → position (λ (step : Step). eqb step.machine m) r ≡ None → (k : ℕ) → k < length r → (step_at r k).machine ≡ m → ⊥
not_on m r none k within here = go (cases_lt (position_or_len (λ (step : Step). eqb step.machine m) r) (length r))
  where
    found : Some (position_or_len (λ (step : Step). eqb step.machine m) r) ≡ None → ⊥
    found same = cc

    go : (position_or_len (λ (step : Step). eqb step.machine m) r < length r) ⊎ (length r ≤ position_or_len (λ (step : Step). eqb step.machine m) r) → ⊥
    go (inl less) = let some = rw (lt-ltb (position_or_len (λ (step : Step). eqb step.machine m) r) (length r) less) at none in found some
    go (inr all) = none_pass (λ (step : Step). eqb step.machine m) r no_step all k within (eq-eqb (step_at r k).machine m here)

module _ (s : RevisionSetting) (p : PlannedShop) (m j : ℕ) where
  -- what is left of the route, from that step on
  abbrev left : List Step
  left = drop (present_step s j) (route p j)

  -- the machine of a step of what is left, and of the route
  machine_left : (k : ℕ) → (step_at left k).machine ≡ machine_of p j (present_step s j + k)
  machine_left k = ap (λ (step : Step). step.machine) (get_or-drop (present_step s j) (route p j) k no_step)

  -- so many steps further it is there
  pub way_visits : (further : ℕ) → way_to s p j m ≡ Some further → Visits p j (present_step s j + further) m
  way_visits further found =
      let at = position-Some (λ (step : Step). eqb step.machine m) left further no_step found in
      record {
        within = omega (arith, at.0, length-drop (present_step s j) (route p j));
        here = sym (machine_left further) ∙ eqb-true (step_at left further).machine m at.1;
      }

  -- and not before
  pub way_first : (further : ℕ) → way_to s p j m ≡ Some further → (k : ℕ) → present_step s j ≤ k → k < present_step s j + further → Visits p j k m → ⊥
  way_first further found k more less visits = differ (sym (at.2 (k - present_step s j) (omega arith)) ∙ eq-eqb (step_at left (k - present_step s j)).machine m here)
    where
      at : (further < length left) × (eqb (step_at left further).machine m ≡ true) × ((i : ℕ) → i < further → eqb (step_at left i).machine m ≡ false)
      at = position-Some (λ (step : Step). eqb step.machine m) left further no_step found

      back : present_step s j + (k - present_step s j) ≡ k
      back = omega arith

      here : (step_at left (k - present_step s j)).machine ≡ m
      here = machine_left (k - present_step s j) ∙ ap (machine_of p j) back ∙ visits.here

      differ : false ≡ true → ⊥
      differ e = cc

  -- where it doesn't come there, the machine isn't ahead
  pub way_none : way_to s p j m ≡ None → (k : ℕ) → present_step s j ≤ k → Visits p j k m → ⊥
  way_none none k more visits =
      let back : present_step s j + (k - present_step s j) ≡ k = omega arith in
      not_on m left none (k - present_step s j) (omega (arith, visits.within, length-drop (present_step s j) (route p j)))
      (machine_left (k - present_step s j) ∙ ap (machine_of p j) back ∙ visits.here)

-- where a job comes to a machine it is stopped
pub stop_way : (s : RevisionSetting) (p : PlannedShop) (j m made further n : ℕ) → way_to s p j m ≡ Some further → made ≡ moves_made s j → n ≡ max (made - 1 + further) made → stopped s p j n ≡ stopped_at s p j (way_to s p j m)
stop_way s p j m made further n found is count =
    ap (stopped s p j) (count ∙ ap (λ k. max (k - 1 + further) k) is) ∙ sym (ap (λ way. stopped_at s p j way) found)
