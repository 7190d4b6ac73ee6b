-- When a plan's times are within their limits, and which of them is the first that isn't.
use Rattle.std.specs.Prelude.{ℕ, ◌<◌, List, Option, None, Some, length, slice_index}
use Rattle.shop_base.specs.declared.limits.TheConstants.{MAX_RELEASE, MAX_MOMENT, MAX_CLEAN}
use Rattle.shop_base.specs.declared.shape_fault.ShapeFault.{ShapeFault}
use Rattle.shop_base.specs.declared.shape_fault.ShapeFault.TheVariants.{ReleaseTooLarge, BudgetTooLarge, CleanTooLarge}
use Rattle.shop_base.specs.ShapeFault.{EachIsWithin}

-- each number of a list is within the limit
abbrev pub AreAllWithin : List ℕ → ℕ → Type 0
AreAllWithin numbers limit = EachIsWithin (slice_index numbers) (length numbers) limit

-- the number at this place is the first over the limit
pub record IsFirstOver (numbers : List ℕ) (limit place : ℕ) : Type 0 where
  pub in_range : place < length numbers
  pub before : EachIsWithin (slice_index numbers) place limit
  pub over : limit < slice_index numbers place

-- so are the cleaning times, where there are some
abbrev pub AreCleaningsWithin : Option (List ℕ) → Type 0
AreCleaningsWithin None = Unit {0}
AreCleaningsWithin (Some times) = AreAllWithin times MAX_CLEAN

-- there are cleaning times, and this one is the first over the limit
abbrev pub IsFirstCleaningOver : Option (List ℕ) → ℕ → Type 0
IsFirstCleaningOver None machine = ⊥
IsFirstCleaningOver (Some times) machine = IsFirstOver times MAX_CLEAN machine

module _ (release budget : List ℕ) (clean : Option (List ℕ)) where
  -- the releases, the budgets and the cleaning times are within their limits
  pub record AreTimesWithin : Type 0 where
    pub releases : AreAllWithin release MAX_RELEASE
    pub budgets : AreAllWithin budget MAX_MOMENT
    pub cleanings : AreCleaningsWithin clean

  -- this is the first time over its limit: the releases come before the budgets, and these before the cleaning times
  abbrev pub IsFirstTimeFault : ShapeFault → Type 0
  IsFirstTimeFault (ReleaseTooLarge job) = IsFirstOver release MAX_RELEASE job
  IsFirstTimeFault (BudgetTooLarge job) = AreAllWithin release MAX_RELEASE × IsFirstOver budget MAX_MOMENT job
  IsFirstTimeFault (CleanTooLarge machine) =
      AreAllWithin release MAX_RELEASE × AreAllWithin budget MAX_MOMENT × IsFirstCleaningOver clean machine
  IsFirstTimeFault other = ⊥
