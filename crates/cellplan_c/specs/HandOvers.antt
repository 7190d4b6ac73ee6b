-- What handing a cell over to another plan comes to.
use Rattle.std.specs.Prelude.{◌≡◌, ◌≢◌, ℕ, ◌<◌, ◌≤◌, ◌↔◌, ◌⊎◌, List, Option}
use Rattle.shop_base.specs.declared.limits.TheConstants.{MAX_MOMENT}
use Rattle.shop_base.specs.declared.node.Node.{Node}
use Rattle.shop_base.specs.declared.shape_fault.ShapeFault.{ShapeFault}
use Rattle.shop_base.specs.Plan.{PlannedShop, IsWellShaped}
use Rattle.shop_base.specs.ShapeFault.{IsFirstShapeFault}
use Rattle.shop_base.specs.Report.{IsNextMoment}
use Rattle.alt_graph.specs.Evidence.{IsCycle}
use Rattle.alt_graph.specs.Solved.{HasCycle}
use Rattle.orlib_read.specs.declared.or_fault.OrFault.{OrFault}
use Rattle.plan_text.specs.declared.plan_fault.PlanFault.{PlanFault}
use Rattle.plan_text.specs.Documents.{IsFirstPlanFault}
use Rattle.command_answers.specs.declared.command_fault.CommandFault.{CommandFault}
use Rattle.command_answers.specs.Instances.{IsFirstInstanceFault}
use Rattle.command_answers.specs.Plans.{BothParse, ParsesAsShop}
use Rattle.cell_tables.specs.declared.present_fault.PresentFault.TheVariants.{Past, TooLarge}
use Rattle.cell_tables.specs.Kept.{KeepsSoFar}
use Rattle.cell_control.specs.declared.hand_over_fault.HandOverFault.{HandOverFault}
use Rattle.cell_control.specs.declared.hand_over_fault.HandOverFault.TheVariants.{Present, IncompatiblePlan, Cycle, Memory}
use Rattle.cell_control.specs.HandedOver.{IsHandedOver}
use Rattle.cell_control.specs.Control.{Control}
use Rattle.cellplan_c.specs.Calls.{IsTextFault}

-- the status of each reason for which another plan doesn't take over
abbrev pub hand_over_status : HandOverFault → ℕ
hand_over_status (Present TooLarge) = 18
hand_over_status (Present (Past last)) = 19
hand_over_status IncompatiblePlan = 10
hand_over_status (Cycle nodes) = 1
hand_over_status Memory = 4

-- all but a cycle lets plan q take over at moment t: it is well shaped, the run so far keeps it, and the moment can be the next
pub record MayTakeOver (v : Control) (q : PlannedShop) (t : ℕ) : Type 0 where
  pub well_shaped : IsWellShaped q
  pub kept : KeepsSoFar v.planned v.cell q
  pub moment : IsNextMoment v.cell t

-- the status of handing over to plan q: that the cell is handed over, or else the first reason why not, or that memory ran out
pub data IsHandOverStatus (v : Control) (q : PlannedShop) (t status : ℕ) : Type 0 where
  takes_over : status ≡ 0 → MayTakeOver v q t → (HasCycle q → ⊥) → IsHandOverStatus v q t status
  not_shaped : (fault : ShapeFault) → status ≡ 1 → IsFirstShapeFault q fault → IsHandOverStatus v q t status
  keeps_not : status ≡ 10 → IsWellShaped q → (KeepsSoFar v.planned v.cell q → ⊥) → IsHandOverStatus v q t status
  backwards : status ≡ 19 → IsWellShaped q → KeepsSoFar v.planned v.cell q → t < v.cell.last → IsHandOverStatus v q t status
  has_cycle : (nodes : List Node) → status ≡ 1 → MayTakeOver v q t → IsCycle q nodes → IsHandOverStatus v q t status
  no_memory : status ≡ 4 → IsHandOverStatus v q t status

module _ (instance : List ℕ) (name : Option (List ℕ)) (plan : List ℕ) (t : ℕ) where
  -- the cell is handed over to the plan that the two texts give
  pub record HasHandedOver (old new : Control) : Type 0 where
    pub planned : PlannedShop
    pub parsed : BothParse instance name plan planned
    pub handed_over : IsHandedOver old planned t new
    pub same : (p : PlannedShop) → BothParse instance name plan p → new.planned ≡ p

  -- the status is of a plan that the two texts give
  pub record IsStatusOfParsed (old : Control) (status : ℕ) : Type 0 where
    pub planned : PlannedShop
    pub parsed : BothParse instance name plan planned
    pub is : IsHandOverStatus old planned t status

  -- what handing over to the plan of the two texts comes to, by its status: the moment is judged first, then the texts, and then the plan that they give
  pub record IsHandOver (status : ℕ) (old new : Control) : Type 0 where
    pub too_large : (status ≡ 18) ↔ (MAX_MOMENT < t)
    pub handed_over_by : status ≡ 0 → HasHandedOver old new
    pub fault : status ≡ 3 → (fault : CommandFault) × IsTextFault instance name plan fault
    pub first : t ≤ MAX_MOMENT → (fault : OrFault) → IsFirstInstanceFault instance name fault → (status ≡ 3) ⊎ (status ≡ 4)
    pub second : t ≤ MAX_MOMENT → (fault : PlanFault) → ParsesAsShop instance name → IsFirstPlanFault plan fault → (status ≡ 3) ⊎ (status ≡ 4)
    pub found : t ≤ MAX_MOMENT → status ≢ 3 → status ≢ 4 → IsStatusOfParsed old status
    pub only : t ≤ MAX_MOMENT → (p : PlannedShop) → BothParse instance name plan p → IsHandOverStatus old p t status
