-- The faults that stand in a list.
use Rattle.std.proofs.Common.{◌≡◌, ◌⊎◌, ℕ, zero, suc, ◌+◌, List, [], ◌∷◌, ◌++◌, Some, refl, inl, inr, arith}
use Rattle.std.proofs.lemmas.Option.{same_Some}
use Rattle.toml.specs.Data.{Data, Items, no_items, item, get_item}
use Rattle.plan_text.specs.declared.plan_fault.PlanFault.{PlanFault}
use Rattle.plan_text.specs.Listing.{each_faults}

-- the fault is one of these
abbrev pub In : PlanFault → List PlanFault → Type 0
In fault [] = ⊥
In fault (x ∷ xs) = (fault ≡ x) ⊎ In fault xs

pub in_left : (fault : PlanFault) (a b : List PlanFault) → In fault a → In fault (a ++ b)
in_left fault [] b h = absurd h
in_left fault (x ∷ a) b h = elim h [ inl here ↦ inl here | inr more ↦ inr (in_left fault a b more) ]

pub in_right : (fault : PlanFault) (a b : List PlanFault) → In fault b → In fault (a ++ b)
in_right fault [] b h = h
in_right fault (x ∷ a) b h = inr (in_right fault a b h)

pub in_either : (fault : PlanFault) (a b : List PlanFault) → In fault (a ++ b) → In fault a ⊎ In fault b
in_either fault [] b h = inr h
in_either fault (x ∷ a) b h = elim h [
  | inl here ↦ inl (inl here)
  | inr more ↦ elim (in_either fault a b more) [ inl left ↦ inl (inr left) | inr right ↦ inr right ]
]

-- ---- of each item

-- a fault of some item
pub record FromItem (faults : ℕ → Data → List PlanFault) (place : ℕ) (items : Items) (fault : PlanFault) : Type 0 where
  pub index : ℕ
  pub value : Data
  pub here : get_item index items ≡ Some value
  pub listed : In fault (faults (place + index) value)

pub each_has : (faults : ℕ → Data → List PlanFault) (place : ℕ) (items : Items) (fault : PlanFault) → In fault (each_faults faults place items) → FromItem faults place items fault
each_has faults place no_items fault h = absurd h
each_has faults place (item d ds) fault h =
    elim (in_either fault (faults place d) (each_faults faults (place + 1) ds) h) [
      | inl here ↦ let e : place + 0 ≡ place = omega arith in record { index = 0; value = d; here = refl; listed = rw e here }
      | inr more ↦
          let r = each_has faults (place + 1) ds fault more in
          let e : place + suc r.index ≡ place + 1 + r.index = omega arith in
          record { index = suc r.index; value = r.value; here = r.here; listed = rw e r.listed }
    ]

pub each_in : (faults : ℕ → Data → List PlanFault) (place : ℕ) (items : Items) (index : ℕ) (value : Data) (fault : PlanFault)
    → get_item index items ≡ Some value → In fault (faults (place + index) value) → In fault (each_faults faults place items)
each_in faults place no_items index value fault here h = cc
each_in faults place (item d ds) zero value fault here h =
    let e : d ≡ value = same_Some d value here in
    let k : place + 0 ≡ place = omega arith in
    in_left fault (faults place d) (each_faults faults (place + 1) ds) (rw e (rw k at h))
each_in faults place (item d ds) (suc index) value fault here h =
    let k : place + suc index ≡ place + 1 + index = omega arith in
    in_right fault (faults place d) (each_faults faults (place + 1) ds) (each_in faults (place + 1) ds index value fault here (rw k at h))
