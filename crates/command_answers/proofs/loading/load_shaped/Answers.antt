use Rattle.std.proofs.Common.{◌≡◌, Result, Ok, Err, IfOk, IfErr}
use Rattle.shop_base.specs.declared.shape_fault.ShapeFault.{ShapeFault}
use Rattle.shop_base.specs.Plan.{PlannedShop, IsWellShaped}
use Rattle.shop_base.specs.ShapeFault.{IsFirstShapeFault}
use Rattle.command_answers.specs.Shapes.{IsShapedOrNot}
use Rattle.command_answers.specs.Parsed.{AreTextsAnswered}
use Rattle.command_answers.proofs.Passing.{at_fault, refused_instance, refused_plan, texts_answered}
use Rattle.command_answers.proofs.loading.load_shaped.Goals as goal

-- what is shaped is the plan, or its first fault
shaped_or_not : (p : PlannedShop) (outcome : Result PlannedShop ShapeFault) → IfOk outcome (λ shaped. (shaped ≡ p) × IsWellShaped p) → IfErr outcome (IsFirstShapeFault p) → IsShapedOrNot p outcome
shaped_or_not p (Ok shaped) same first = same
shaped_or_not p (Err fault) same first = first

pub returns-in_err-named : goal.returns-in_err-named
returns-in_err-named c = at_fault (AreTextsAnswered _ _ _ IsShapedOrNot) c.from_residual.result c.in_err-named.field-0.0 c.from_residual.ensures.1
    (refused_instance _ _ _ IsShapedOrNot c.in_err-named.field-0.0 c.in_err-named.ensures)

pub returns-in_err-read : goal.returns-in_err-read
returns-in_err-read c = at_fault (AreTextsAnswered _ _ _ IsShapedOrNot) c.from_residual-in_err-read.result c.in_err-read.field-0.0 c.from_residual-in_err-read.ensures.1
    (refused_plan _ _ _ IsShapedOrNot c.in_ok-named.named c.in_err-read.field-0.0 c.in_ok-named.ensures c.in_err-read.ensures)

pub returns : goal.returns
returns c = texts_answered _ _ _ IsShapedOrNot c.in_ok-named.named c.in_ok-read.read _ c.in_ok-named.ensures c.in_ok-read.ensures
    (shaped_or_not _ c.shaped.result c.shaped.ensures.shaped c.shaped.ensures.first_fault)
