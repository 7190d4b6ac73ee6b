-- What is fixed while a plan is improved: nothing of a whole plan, or what was done so far; and which of two plans that keep it is better.
use Rattle.std.specs.Prelude.{◌≡◌, ℕ, Option, None, Some}
use Rattle.shop_base.specs.{Plan.PlannedShop, Plan.IsWellShaped, Cell.Cell, Cell.start}
use Rattle.cell_tables.specs.Reordered.{BeginsWithEntries}
use Rattle.plan_net.specs.declared.ahead.PartAhead.{PartAhead}
use Rattle.plan_improve.specs.{declared.cost.Cost.Cost, Costs.IsCost, Costs.IsLess, Costs.IsAtMost, AtBound.IsBound, AtBound.Meets}
use Rattle.plan_improve.specs.{RestCosts.IsRestCost, RestOf.IsRestOf, RestOf.NothingIsDone}

-- what a run has left of a plan, as an improver gets it; nothing where no run has begun
abbrev pub Left : Type 0
Left = Option PartAhead

-- what is fixed: the cell to which what was done leads by a plan, and the present moment, that nothing was done yet, what a plan costs that keeps it and has no cycle, what an improver gets as what is left of it, and the bound of its makespan, if one is known
pub record Setting : Type 1 where
  pub cells : PlannedShop → Cell → ℕ → Type 0
  pub fresh : PlannedShop → Type 0
  pub costs : PlannedShop → Cost → Type 0
  pub leaves : PlannedShop → Left → Type 0
  pub bounds : PlannedShop → Option ℕ → Type 0

-- the bound of a whole plan
abbrev pub IsBoundThere : PlannedShop → Option ℕ → Type 0
IsBoundThere p None = ⊥
IsBoundThere p (Some n) = IsBound p n

-- nothing is fixed: whole plans are compared, and nothing is given as left
abbrev pub whole_plan : Setting
whole_plan = record { cells = λ p c t. (c ≡ start p) × (t ≡ 0); fresh = λ p. Unit {0}; costs = IsCost; leaves = λ p rest. rest ≡ None; bounds = IsBoundThere }

-- this is left of the plan from cell c and the present moment t on
abbrev pub IsRestThere : Cell → ℕ → PlannedShop → Left → Type 0
IsRestThere c t p None = ⊥
IsRestThere c t p (Some rest) = IsRestOf p c t rest

-- what was done in cell c is fixed: the rests from it and the present moment t on are compared, by plans that begin with its entries
abbrev pub rest_from : Cell → ℕ → Setting
rest_from c t = record {
  cells = λ p d u. BeginsWithEntries c p × (d ≡ c) × (u ≡ t);
  fresh = λ p. NothingIsDone p c;
  costs = IsRestCost c t;
  leaves = IsRestThere c t;
  bounds = λ p bound. bound ≡ None;
}

module _ (s : Setting) where
  -- p is better than q: it is well shaped, both keep what is fixed, neither has a cycle, and its cost is less
  pub record IsBetter (p q : PlannedShop) : Type 0 where
    pub shaped : IsWellShaped p
    pub cost : Cost
    pub other : Cost
    pub is : s.costs p cost
    pub than : s.costs q other
    pub less : IsLess cost other

  -- p is no worse than q: both keep what is fixed, neither has a cycle, and its cost is at most the other's
  pub record IsNoWorse (p q : PlannedShop) : Type 0 where
    pub cost : Cost
    pub other : Cost
    pub is : s.costs p cost
    pub than : s.costs q other
    pub most : IsAtMost cost other

  -- the plan doesn't meet its bound, or none is known
  pub record IsAboveBound (p : PlannedShop) : Type 0 where
    pub cost : Cost
    pub at_least : Option ℕ
    pub is : s.costs p cost
    pub bound : s.bounds p at_least
    pub above : Meets cost at_least → ⊥

  -- the plan meets its bound
  pub record IsAtBound (p : PlannedShop) : Type 0 where
    pub cost : Cost
    pub at_least : Option ℕ
    pub is : s.costs p cost
    pub bound : s.bounds p at_least
    pub meets : Meets cost at_least
