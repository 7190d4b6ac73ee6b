-- Changes one after another.
use Rattle.std.specs.Prelude.{◌≡◌, ℕ, List, [], ◌∷◌, take, slice_get, Some}
use Rattle.shop_base.specs.Plan.{PlannedShop}
use Rattle.shop_base.specs.Cell.{Cell}
use Rattle.plan_revise.specs.declared.change.Change.{Change}
use Rattle.plan_revise.specs.declared.change.ChangeFault.{ChangeFault}
use Rattle.plan_revise.specs.declared.change.NotRevised.{NotRevised}
use Rattle.plan_revise.specs.declared.change.NotRevised.TheVariants.{Refused, Memory}
use Rattle.plan_revise.specs.Settings.{RevisionSetting, setting}
use Rattle.plan_revise.specs.Aside.{IsPlant}
use Rattle.plan_revise.specs.Changes.{IsChangedTo}
use Rattle.plan_revise.specs.Refusals.{IsRefusedChange}

-- the changes, each of what those before it made, make this of the shop and its plan
abbrev pub AreMade : RevisionSetting → PlannedShop → List Change → PlannedShop → Type 0
AreMade s p [] q = q ≡ p
AreMade s p (change ∷ changes) q = (next : PlannedShop) × IsChangedTo s p change next × AreMade s next changes q

-- the change at place n is the first that can't be, for this reason
pub record IsFirstRefused (s : RevisionSetting) (p : PlannedShop) (changes : List Change) (n : ℕ) (fault : ChangeFault) : Type 0 where
  pub reached : PlannedShop
  pub before : AreMade s p (take n changes) reached
  pub change : Change
  pub there : slice_get changes n ≡ Some change
  pub refused : IsRefusedChange s reached change fault

module _ (p : PlannedShop) (c : Cell) (t : ℕ) where
  -- all changes are made, by the run so far, the present moment and so many machines of the plant
  abbrev pub IsRevisedWithin : ℕ → List Change → PlannedShop → Type 0
  IsRevisedWithin plant changes q = AreMade (setting p c t plant) p changes q

  -- one of them can't be
  abbrev pub IsRefusedWithin : ℕ → List Change → ℕ → ChangeFault → Type 0
  IsRefusedWithin plant changes n fault = IsFirstRefused (setting p c t plant) p changes n fault

  -- the answer says which, unless memory ran out
  abbrev pub IsReasonNotRevisedWithin : ℕ → List Change → NotRevised → Type 0
  IsReasonNotRevisedWithin plant changes (Refused n fault) = IsRefusedWithin plant changes n fault
  IsReasonNotRevisedWithin plant changes Memory = Unit {0}

module _ (p : PlannedShop) (c : Cell) (t : ℕ) (changes : List Change) where
  -- all changes are made, by the machines of the plant
  pub record IsRevised (q : PlannedShop) : Type 0 where
    pub plant : ℕ
    pub is_plant : IsPlant p plant
    pub made : IsRevisedWithin p c t plant changes q

  -- one of them can't be
  pub record IsRefusedAt (n : ℕ) (fault : ChangeFault) : Type 0 where
    pub plant : ℕ
    pub is_plant : IsPlant p plant
    pub first : IsRefusedWithin p c t plant changes n fault

  -- the answer says which, unless memory ran out
  abbrev pub IsReasonNotRevised : NotRevised → Type 0
  IsReasonNotRevised (Refused n fault) = IsRefusedAt n fault
  IsReasonNotRevised Memory = Unit {0}
