-- What handing over to another plan comes to, by what the two texts give.
use Rattle.std.proofs.Common.{◌≡◌, ◌≢◌, ℕ, ◌<◌, ◌≤◌, ◌⊎◌, inl, inr, List, Option, Result, Ok, Err, sym, ap, ◌∙◌, subst, refl, arith}
use Rattle.std.proofs.lemmas.Bool.{cases_lt}
use Rattle.shop_base.specs.declared.limits.TheConstants.{MAX_MOMENT}
use Rattle.shop_base.specs.declared.shape_fault.ShapeFault.{ShapeFault}
use Rattle.shop_base.specs.Plan.{PlannedShop, IsWellShaped}
use Rattle.shop_base.proofs.Cycles.{ranks_exclude_cycle}
use Rattle.alt_graph.specs.Solved.{HasCycle}
use Rattle.alt_graph.specs.Times.{rank_of}
use Rattle.command_answers.specs.declared.command_fault.CommandFault.{CommandFault}
use Rattle.command_answers.specs.Parsed.{AreTextsAnswered}
use Rattle.command_answers.specs.Shapes.{IsShapedOrNot}
use Rattle.command_answers.specs.Statuses.{command_status_of}
use Rattle.cell_tables.specs.declared.present_fault.PresentFault.TheVariants.{Past, TooLarge}
use Rattle.cell_control.specs.declared.hand_over_fault.HandOverFault.{HandOverFault}
use Rattle.cell_control.specs.declared.hand_over_fault.HandOverFault.TheVariants.{Present, IncompatiblePlan, Cycle, Memory}
use Rattle.cell_control.specs.HandedOver.{IsHandedOver, IsHandOverFault}
use Rattle.cell_control.specs.Control.{Control}
use Rattle.cellplan_c.specs.HandOvers.{MayTakeOver, IsHandOverStatus, takes_over, not_shaped, keeps_not, backwards, has_cycle, no_memory, hand_over_status, IsHandOver}
use Rattle.cellplan_c.proofs.Judging.{fault_bounds}

module _ (old : Control) (t : ℕ) where
  may_take_over : (q : PlannedShop) (new : Control) → IsWellShaped q → IsHandedOver old q t new → MayTakeOver old q t
  may_take_over q new shaped handed = record {
    well_shaped = shaped;
    kept = handed.kept;
    moment = record {
      in_order = subst (λ (n : ℕ). n ≤ t) handed.is_carried.last_same handed.begun.moment.in_order;
      in_range = handed.begun.moment.in_range;
    };
  }

  acyclic : (q : PlannedShop) (new : Control) → IsHandedOver old q t new → HasCycle q → ⊥
  acyclic q new handed cycle = ranks_exclude_cycle q (rank_of new.times) cycle.0 handed.begun.ordered.ranks.rise cycle.1

  -- the cell is handed over to the plan that is given
  pub handed_over_status : (shaped : PlannedShop) (new : Control) → IsHandedOver old shaped t new → (q : PlannedShop) → IsShapedOrNot q (Ok shaped) → IsHandOverStatus old q t 0
  handed_over_status shaped new handed q is =
      let by : IsHandedOver old q t new = subst (λ (p : PlannedShop). IsHandedOver old p t new) is.0 handed in
      takes_over refl (may_take_over q new is.1 by) (acyclic q new by)

  pub handed_by : (shaped : PlannedShop) (new : Control) → IsHandedOver old shaped t new → (q : PlannedShop) → IsShapedOrNot q (Ok shaped) → IsHandedOver old q t new
  handed_by shaped new handed q is = subst (λ (p : PlannedShop). IsHandedOver old p t new) is.0 handed

  -- it isn't well shaped
  pub misshapen : (fault : ShapeFault) (q : PlannedShop) → IsShapedOrNot q (Err fault) → IsHandOverStatus old q t 1
  misshapen fault q is = not_shaped fault refl is

  fault_status : (q : PlannedShop) (fault : HandOverFault) → t ≤ MAX_MOMENT → IsWellShaped q → IsHandOverFault old.planned old.cell q t fault → IsHandOverStatus old q t (hand_over_status fault)
  fault_status q (Present TooLarge) low shaped is = absurd (omega (arith, low, is))
  fault_status q IncompatiblePlan low shaped is = keeps_not refl shaped is.1
  fault_status q (Present (Past last)) low shaped is = backwards refl shaped is.0 is.2
  fault_status q (Cycle nodes) low shaped is = has_cycle nodes.items refl (record { well_shaped = shaped; kept = is.0; moment = is.1 }) is.2
  fault_status q Memory low shaped is = no_memory refl

  -- it isn't handed over for this reason
  pub refused_status : (shaped : PlannedShop) (fault : HandOverFault) → t ≤ MAX_MOMENT → IsHandOverFault old.planned old.cell shaped t fault
      → (q : PlannedShop) → IsShapedOrNot q (Ok shaped) → IsHandOverStatus old q t (hand_over_status fault)
  refused_status shaped fault low why q is = fault_status q fault low is.1 (subst (λ (p : PlannedShop). IsHandOverFault old.planned old.cell p t fault) is.0 why)

three_or_four : (n : ℕ) → 3 ≤ n → n ≤ 4 → (n ≡ 3) ⊎ (n ≡ 4)
three_or_four n low high = elim (cases_lt n 4) [ inl less ↦ inl (omega (arith, low, less)) | inr more ↦ inr (omega (arith, high, more)) ]

module _ (instance : List ℕ) (name : Option (List ℕ)) (plan : List ℕ) (t : ℕ) where
  -- the name as it is called and as it is meant
  pub named_so : (other : Option (List ℕ)) (outcome : Result (Result PlannedShop ShapeFault) CommandFault) → other ≡ name
      → AreTextsAnswered instance other plan IsShapedOrNot outcome → AreTextsAnswered instance name plan IsShapedOrNot outcome
  named_so other outcome same are = subst (λ (n : Option (List ℕ)). AreTextsAnswered instance n plan IsShapedOrNot outcome) same are

  -- the moment is over the limit
  pub too_late : (old new : Control) → MAX_MOMENT < t → IsHandOver instance name plan t 18 old new
  too_late old new over = record {
    too_large = ((λ _. over), λ _. refl);
    handed_over_by = λ good. absurd (omega (arith, good));
    fault = λ three. absurd (omega (arith, three));
    first = λ low. absurd (omega (arith, low, over));
    second = λ low. absurd (omega (arith, low, over));
    found = λ low. absurd (omega (arith, low, over));
    only = λ low. absurd (omega (arith, low, over));
  }

  -- a text is refused, or memory ran out
  pub texts_refused : (fault : CommandFault) (status : ℕ) (old new : Control) → t ≤ MAX_MOMENT → AreTextsAnswered instance name plan IsShapedOrNot (Err fault) → status ≡ command_status_of fault
      → IsHandOver instance name plan t status old new
  texts_refused fault status old new low are is =
      let bounds = fault_bounds instance name plan fault are.fault in
      let either : (status ≡ 3) ⊎ (status ≡ 4) = three_or_four status (omega (arith, is, bounds.0)) (omega (arith, is, bounds.1)) in
      record {
        too_large = ((λ large. absurd (omega (arith, large, is, bounds.1))), λ over. absurd (omega (arith, low, over)));
        handed_over_by = λ good. absurd (omega (arith, good, is, bounds.0));
        fault = λ three. (fault, record { right = are.fault; status = sym is ∙ three });
        first = λ _ other first. either;
        second = λ _ other parses first. either;
        found = λ _ no_fault memory. absurd (elim either [ inl three ↦ no_fault three | inr four ↦ memory four ]);
        only = λ _ p parse. no_memory (is ∙ ap command_status_of (are.only p parse));
      }

  -- a plan is given, and this came of it
  pub plan_handed_over : (loaded : Result PlannedShop ShapeFault) (status : ℕ) (old new : Control) → t ≤ MAX_MOMENT → AreTextsAnswered instance name plan IsShapedOrNot (Ok loaded)
      → ((q : PlannedShop) → IsShapedOrNot q loaded → IsHandOverStatus old q t status)
      → ((q : PlannedShop) → IsShapedOrNot q loaded → status ≡ 0 → IsHandedOver old q t new)
      → status ≢ 3 → status ≢ 18 → IsHandOver instance name plan t status old new
  plan_handed_over loaded status old new low are judged handed no_fault soon = record {
    too_large = ((λ large. absurd (soon large)), λ over. absurd (omega (arith, low, over)));
    handed_over_by = λ good. record {
      planned = are.found.planned;
      parsed = are.found.parsed;
      handed_over = handed are.found.planned are.found.is good;
      same = λ p parse. (handed p (are.only p parse) good).begun.planned;
    };
    fault = λ three. absurd (no_fault three);
    first = λ _ fault is. absurd (are.first fault is);
    second = λ _ fault parses is. absurd (are.second fault parses is);
    found = λ _ _ _. record { planned = are.found.planned; parsed = are.found.parsed; is = judged are.found.planned are.found.is };
    only = λ _ p parse. judged p (are.only p parse);
  }
