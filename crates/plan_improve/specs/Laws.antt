-- The laws of better plans: what is no worse stays accepted, a second search gives nothing worse than the first, and nobody betters a plan that meets its bound.
use Rattle.std.specs.Prelude.{◌↔◌, ℕ, ◌≤◌}
use Rattle.shop_base.specs.{Plan.PlannedShop, Plan.IsWellShaped, Cell.Cell, Cell.start}
use Rattle.cell_tables.specs.Reordered.{IsReordered}
use Rattle.plan_verifier.specs.{Accepted.HasNoCycle, Accepted.IsAcceptable, Accepted.IsMakespan, RestVerdicts.IsAcceptableAhead}
use Rattle.plan_improve.specs.{declared.cost.Cost.Cost, Costs.IsCost, RestCosts.IsCostFrom}
use Rattle.plan_improve.specs.Settings.{whole_plan, rest_from, IsBetter, IsNoWorse, IsAtBound}
use Rattle.plan_improve.specs.Improved.{IsNeverWorse}

-- a plan that is no worse than one to be accepted is to be accepted itself
abbrev pub AcceptedPlansStayAccepted : Type 0
AcceptedPlansStayAccepted = (p q : PlannedShop) → IsNoWorse whole_plan q p → IsAcceptable p → IsAcceptable q

-- and its makespan is no greater
abbrev pub TheirMakespansNeverGrow : Type 0
TheirMakespansNeverGrow = (p q : PlannedShop) (m n : ℕ) → IsNoWorse whole_plan q p → IsAcceptable p → IsMakespan p m → IsMakespan q n → n ≤ m

-- what a search gives of a plan without a cycle is no worse than that plan: so a second search gives nothing worse than the first one gave
abbrev pub ASecondSearchIsNoWorse : Type 0
ASecondSearchIsNoWorse = (p q : PlannedShop) → HasNoCycle p → IsNeverWorse whole_plan p q → IsNoWorse whole_plan q p

-- what is no worse than a plan that is no worse than a first one is no worse than the first one
abbrev pub NoWorseIsPassedOn : Type 0
NoWorseIsPassedOn = (p q r : PlannedShop) → IsNoWorse whole_plan q p → IsNoWorse whole_plan r q → IsNoWorse whole_plan r p

-- a plan that meets its bound can't be bettered: no plan that differs from it in its orders alone is better
abbrev pub NobodyBettersIt : Type 0
NobodyBettersIt = (p q : PlannedShop) → IsAtBound whole_plan p → IsReordered p q → IsBetter whole_plan q p → ⊥

-- a rest by a plan that is no worse than one by which it is to be accepted is to be accepted itself
abbrev pub AcceptedRestsStayAccepted : Type 0
AcceptedRestsStayAccepted = (c : Cell) (t : ℕ) (p q : PlannedShop) → IsNoWorse (rest_from c t) q p → IsAcceptableAhead p c t → IsAcceptableAhead q c t

-- the rest of a run that hasn't begun costs what the whole plan does, from moment 0 on
abbrev pub TheRestOfTheStartCostsThePlan : Type 0
TheRestOfTheStartCostsThePlan = (p : PlannedShop) (cost : Cost) → IsWellShaped p → IsCostFrom p (start p) 0 cost ↔ IsCost p cost
