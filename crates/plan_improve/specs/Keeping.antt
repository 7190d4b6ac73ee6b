-- The best plan so far with its cost, while answers are judged.
use Rattle.std.specs.Prelude.{◌≡◌, ◌⊎◌, ℕ, Option, None, Some}
use Rattle.shop_base.specs.Plan.{PlannedShop}
use Rattle.cell_tables.specs.{Reordered.IsReordered, Rests.RestOfRun}
use Rattle.plan_net.specs.declared.ahead.PartAhead.{PartAhead}
use Rattle.plan_seek.specs.Orders.{Proposal}
use Rattle.plan_improve.specs.{declared.cost.Cost.Cost, declared.best.Best.Best, declared.beginning.First.First}
use Rattle.plan_improve.specs.declared.beginning.First.TheVariants.{Begins, Stays as StaysFirst}
use Rattle.plan_improve.specs.{declared.fixed.Fixed.Fixed, declared.fixed.Fixed.TheVariants.Nothing, declared.fixed.Fixed.TheVariants.Run}
use Rattle.plan_improve.specs.{Costs.IsLess, Costs.IsAtMost, Settings.Setting, Settings.IsNoWorse, Settings.whole_plan, Settings.rest_from}
use Rattle.plan_improve.specs.{Runs.Asked, Runs.Becomes}
use Rattle.plan_improve.specs.Improved.{IsBegin, IsFound, HasNoBegin}

-- what is fixed, by the definitions, of a rest
abbrev pub setting_of : Fixed → RestOfRun PlannedShop → Setting
setting_of (Nothing at_least) r = whole_plan
setting_of (Run left) r = rest_from r.cell r.present

-- what an improver gets as what is left
abbrev pub rest_in : Fixed → Option PartAhead
rest_in (Nothing at_least) = None
rest_in (Run left) = Some left.now

-- the bound, if one is known
abbrev pub bound_if_known : Fixed → Option ℕ
bound_if_known (Nothing at_least) = Some at_least
bound_if_known (Run left) = None

-- this is fixed for a rest, whatever the orders of its plan: what is left of it, and its bound
pub record IsFixed (fixed : Fixed) (r : RestOfRun PlannedShop) : Type 0 where
  pub left : (q : PlannedShop) (cost : Cost) → IsReordered r.plan q → (setting_of fixed r).costs q cost → (setting_of fixed r).leaves q (rest_in fixed)
  pub bound : (q : PlannedShop) → IsReordered r.plan q → (setting_of fixed r).bounds q (bound_if_known fixed)

module _ (s : Setting) where
  -- the rest is the one to which what was done leads by its plan
  abbrev pub IsRestOfDone : RestOfRun PlannedShop → Type 0
  IsRestOfDone x = s.cells x.plan x.cell x.present

  -- this is the plan's cost if it has one that is less than the bound; else it has none
  abbrev pub IsCostBelow : PlannedShop → Cost → Option Cost → Type 0
  IsCostBelow p bound None = (c : Cost) → s.costs p c → IsLess c bound → ⊥
  IsCostBelow p bound (Some cost) = s.costs p cost × IsLess cost bound

  -- the plan with which a search begins, with its cost, or that there is none
  abbrev pub IsFirst : PlannedShop → First → Type 0
  IsFirst start (Begins best) = IsBegin s start best.rest.plan × IsRestOfDone best.rest × s.costs best.rest.plan best.cost
  IsFirst start (StaysFirst back) = (back.plan ≡ start) × IsRestOfDone back × HasNoBegin s start

  -- the best plan that an answer makes of one with its cost
  pub record IsNext (p : PlannedShop) (c : Cost) (answer : Proposal) (kept : Best) : Type 0 where
    pub becomes : Becomes s p answer kept.rest.plan
    pub stands : IsRestOfDone kept.rest
    pub is : s.costs kept.rest.plan kept.cost
    pub most : IsAtMost kept.cost c

  -- the best plan that an answer which may be given makes of the best one so far
  abbrev pub IsNextOf : (Proposal → Type 0) → Best → Best → Type 0
  IsNextOf may best kept = (answer : Proposal) × may answer × IsNext best.rest.plan best.cost answer kept

  -- the best plan that questions make of one with its cost
  pub record IsLast (made : Asked) (p : PlannedShop) (c : Cost) (kept : Best) : Type 0 where
    pub run : made p kept.rest.plan
    pub same : IsReordered p kept.rest.plan
    pub stands : IsRestOfDone kept.rest
    pub is : s.costs kept.rest.plan kept.cost
    pub most : IsAtMost kept.cost c

  -- the plan that questions make of the one with which the search begins: no worse than that one
  pub record IsSearched (made : Asked) (start p : PlannedShop) : Type 0 where
    pub found : IsFound s made start p
    pub same : IsReordered start p
    pub no_worse : IsNoWorse s p found.begin

  -- it is that or, where there is no plan to begin with, the start
  abbrev pub Comes : Asked → PlannedShop → PlannedShop → Type 0
  Comes made start p = (HasNoBegin s start × (p ≡ start)) ⊎ IsSearched made start p

  -- a rest by that plan
  abbrev pub IsComeTo : Asked → PlannedShop → RestOfRun PlannedShop → Type 0
  IsComeTo made start x = Comes made start x.plan × IsRestOfDone x
