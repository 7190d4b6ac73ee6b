-- The version of a table, and its cleaning times.
use Rattle.std.proofs.Common.{◌≡◌, ℕ, ◌==◌, pos, negsuc, Bool, true, false, List, [], Option, Some, None, refl, ap, inl, inr}
use Rattle.std.proofs.lemmas.Bool.{cases_Bool, eqb-true}
use Rattle.toml.specs.Data.{Data, string, integer, float, boolean, datetime, array, table, Members}
use Rattle.plan_text.specs.declared.keys.PlanKey.TheVariants.{Clean}
use Rattle.plan_text.specs.Keys.{plan_value_at}
use Rattle.plan_text.specs.Plans.{IsVersionOf, IsCleanArray}
use Rattle.plan_text.specs.Listing.{version_faults, has_cleaning, if_cleaning, missing_faults, list_faults, faults_at}
use Rattle.plan_text.specs.Reading.{clean_in}
use Rattle.plan_text.proofs.Known.{has_times}
use Rattle.plan_text.proofs.Numbers.{list_at_found, list_at_only}

pub has_times-clean_in : (cleaning : Bool) (t : Members) → has_times (clean_in cleaning t) ≡ cleaning
has_times-clean_in true t = refl
has_times-clean_in false t = refl

number_version : (n : ℕ) (t : Members) → version_faults (Some (integer (pos n))) ≡ [] → IsVersionOf (clean_in (n == 2) t) (Some (integer (pos n)))
number_version n t h =
    elim (cases_Bool (n == 2)) [
      | inl two ↦ rw two (ap (λ m. Some (integer (pos m))) (eqb-true n 2 two))
      | inr other ↦ elim (cases_Bool (n == 1)) [
        | inl one ↦ rw other (inr (ap (λ m. Some (integer (pos m))) (eqb-true n 1 one)))
        | inr neither ↦ let e = rw (other, neither) at h in cc
      ]
    ]

pub version_found : (version : Option Data) (t : Members) → version_faults version ≡ [] → IsVersionOf (clean_in (has_cleaning version) t) version
version_found None t h = inl refl
version_found (Some (string s)) t h = cc
version_found (Some (integer (pos n))) t h = number_version n t h
version_found (Some (integer (negsuc n))) t h = cc
version_found (Some (float x)) t h = cc
version_found (Some (boolean b)) t h = cc
version_found (Some (datetime dt)) t h = cc
version_found (Some (array ds)) t h = cc
version_found (Some (table ms)) t h = cc

pub version_only : (clean : Option (List ℕ)) (version : Option Data) → IsVersionOf clean version → (version_faults version ≡ []) × (has_cleaning version ≡ has_times clean)
version_only None version h = elim h [
  | inl none ↦ rw none (refl, refl)
  | inr one ↦ rw one (refl, refl)
]
version_only (Some times) version h = rw h (refl, refl)

pub clean_found : (cleaning : Bool) (t : Members) → if_cleaning cleaning (missing_faults Clean (plan_value_at t Clean)) ≡ [] → if_cleaning cleaning (faults_at (list_faults Clean None) (plan_value_at t Clean)) ≡ []
    → IsCleanArray (clean_in cleaning t) (plan_value_at t Clean)
clean_found true t there h = list_at_found Clean (plan_value_at t Clean) there h
clean_found false t there h = tt

pub clean_only : (clean : Option (List ℕ)) (t : Members) → IsCleanArray clean (plan_value_at t Clean)
    → (if_cleaning (has_times clean) (missing_faults Clean (plan_value_at t Clean)) ≡ []) × (if_cleaning (has_times clean) (faults_at (list_faults Clean None) (plan_value_at t Clean)) ≡ []) × (clean ≡ clean_in (has_times clean) t)
clean_only None t h = (refl, refl, refl)
clean_only (Some times) t h =
    let p = list_at_only Clean (plan_value_at t Clean) times h in
    (p.0, p.1, ap (λ (numbers : List ℕ). Some numbers) p.2)
