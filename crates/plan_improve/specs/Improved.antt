-- Where a search for a better plan begins, and what it gives.
use Rattle.std.specs.Prelude.{◌≡◌, ◌↔◌, ℕ, ◌⊎◌}
use Rattle.shop_base.specs.{Plan.PlannedShop, Cell.Cell}
use Rattle.plan_verifier.specs.declared.verdict.Judged.{Judged}
use Rattle.plan_verifier.specs.RestVerdicts.{IsAcceptedAhead, IsReasonAhead, IsAcceptableAhead, IsRestAccepted}
use Rattle.alt_graph.specs.Solved.{HasCycle}
use Rattle.cell_tables.specs.Reordered.{reordered}
use Rattle.plan_seek.specs.Orders.{serial_order}
use Rattle.plan_improve.specs.{Settings.Setting, Settings.IsNoWorse, Runs.Asked}

module _ (s : Setting) where
  -- where the search begins: at the plan itself, or where that has a cycle and nothing was done yet, at the serial plan
  abbrev pub IsBegin : PlannedShop → PlannedShop → Type 0
  IsBegin start p = ((HasCycle start → ⊥) × (p ≡ start)) ⊎ (HasCycle start × s.fresh start × (p ≡ reordered start (serial_order start.shop)))

  -- there is no plan to begin with: this one has a cycle, and something was done
  abbrev pub HasNoBegin : PlannedShop → Type 0
  HasNoBegin start = HasCycle start × (s.fresh start → ⊥)

  -- the plan is what the questions make of the one with which the search begins
  pub record IsFound (made : Asked) (start p : PlannedShop) : Type 0 where
    pub begin : PlannedShop
    pub begins_at : IsBegin start begin
    pub run : made begin p

  -- the plan is no worse than the one with which the search begins
  abbrev pub IsNeverWorse : PlannedShop → PlannedShop → Type 0
  IsNeverWorse start p = (begin : PlannedShop) → IsBegin start begin → IsNoWorse s p begin

-- what is said of the rest from a cell and the present moment t on
pub record IsVerdictOn (p : PlannedShop) (c : Cell) (t : ℕ) (verdict : Judged) : Type 0 where
  pub accepted : IsAcceptedAhead p c t verdict
  pub refused : IsReasonAhead p c t verdict
  pub exact : IsRestAccepted verdict ↔ IsAcceptableAhead p c t
