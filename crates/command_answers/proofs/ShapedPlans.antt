-- Plans that are read and found well shaped or not, and what comes of them.
use Rattle.std.proofs.Common.{◌≡◌, ◌∙◌, ℕ, List, Result, Ok, Err, IsErrAnd, ap, inl, inr, refl, subst, sym}
use Rattle.shop_base.specs.declared.shape_fault.ShapeFault.{ShapeFault}
use Rattle.shop_base.specs.Plan.{PlannedShop, IsWellShaped}
use Rattle.shop_base.specs.ShapeFault.{IsFirstShapeFault}
use Rattle.command_answers.specs.declared.answer.Answer.{Answer}
use Rattle.command_answers.specs.declared.command_fault.CommandFault.{CommandFault}
use Rattle.command_answers.specs.declared.command_fault.CommandFault.TheVariants.{Memory}
use Rattle.command_answers.specs.declared.pictures.Drawn.{Drawn}
use Rattle.command_answers.specs.declared.pictures.Drawn.TheVariants.{Picture, Line}
use Rattle.command_answers.specs.Steps.{Concludes, IsOrMemory}
use Rattle.command_answers.specs.Shapes.{IsFoundLine, IsNotShapedLine, IsRefusedLine, IsShapedOrNot, IsShapeLine}
use Rattle.command_answers.specs.Pictures.{IsLineAlone}
use Rattle.command_answers.specs.Commands.{IfShapedBy, InputPaths, ReadsBoth, Shapes, WithBoth}
use Rattle.command_answers.proofs.Passing.{at_fault, then_on}

module _ {W B : Type 0} (gives : W → List ℕ → Result (List ℕ) CommandFault → W → Type 0) (inputs : InputPaths) (next : PlannedShop → W → Result B CommandFault → W → Type 0) (before mid : W)
    (found : Result (Result PlannedShop ShapeFault) CommandFault) (shapes : Shapes gives inputs before found mid) where
  -- it is this, and then there is this step
  pub found_on : (or_not : Result PlannedShop ShapeFault) (outcome : Result B CommandFault) (after : W) → found ≡ Ok or_not
      → ((p : PlannedShop) → IsShapedOrNot p or_not → next p mid outcome after) → WithBoth gives inputs next before outcome after
  found_on or_not outcome after was step =
      then_on (ReadsBoth gives inputs) (λ p. Concludes (IsOrMemory (IsShapedOrNot p))) next before found mid outcome after (λ fault is. absurd (cc (was, is)))
      (λ p there on. subst (λ (w : W). next p w outcome after) on.1 (step p (subst (IsOrMemory (IsShapedOrNot p)) was on.0))) shapes

  -- it is well shaped
  pub shaped_on : (or_not : Result PlannedShop ShapeFault) (p : PlannedShop) (outcome : Result B CommandFault) (after : W) → found ≡ Ok or_not → or_not ≡ Ok p
      → (IsWellShaped p → next p mid outcome after) → WithBoth gives inputs next before outcome after
  shaped_on or_not p outcome after was is step = found_on (Ok p) outcome after (was ∙ ap Ok is)
      (λ q shaped. subst (λ (r : PlannedShop). next r mid outcome after) shaped.0 (step (subst IsWellShaped (sym shaped.0) shaped.1)))

  -- it has this first fault
  pub unshaped_on : (or_not : Result PlannedShop ShapeFault) (fault : ShapeFault) (outcome : Result B CommandFault) (after : W) → found ≡ Ok or_not → or_not ≡ Err fault
      → ((p : PlannedShop) → IsFirstShapeFault p fault → next p mid outcome after) → WithBoth gives inputs next before outcome after
  unshaped_on or_not fault outcome after was is step = found_on (Err fault) outcome after (was ∙ ap Ok is) step

  -- a fault of the command is passed on, and also comes where memory runs out over the plan
  pub passed_on : (fault : CommandFault) (outcome : Result B CommandFault) → found ≡ Err fault → IsErrAnd outcome (λ passed. passed ≡ fault)
      → ((p : PlannedShop) → next p mid (Err Memory) mid) → WithBoth gives inputs next before outcome mid
  passed_on fault outcome was passed step =
      at_fault (λ (r : Result B CommandFault). WithBoth gives inputs next before r mid) outcome fault passed (
      then_on (ReadsBoth gives inputs) (λ p. Concludes (IsOrMemory (IsShapedOrNot p))) next before found mid (Err fault) mid (λ why is. (let same : fault ≡ why = cc (was, is) in ap Err same, refl))
      (λ p there on. subst (λ (w : W). next p w (Err fault) mid) on.1 (let memory = subst (IsOrMemory (IsShapedOrNot p)) was on.0 in subst (λ (f : CommandFault). next p mid (Err f) mid) (sym memory) (step p))) shapes)

-- what is more than this comes, or memory ran out
pub or_memory : {A : Type 0} (Is More : A → Type 0) (outcome : Result A CommandFault) → ((a : A) → Is a → More a) → IsOrMemory Is outcome → IsOrMemory More outcome
or_memory Is More (Ok a) more is = more a is
or_memory Is More (Err fault) more is = is

-- the line of what is found is that of the plan's shape
pub line_found : (p : PlannedShop) (or_not : Result PlannedShop ShapeFault) (answer : Answer) → IsShapedOrNot p or_not → IsFoundLine or_not answer → IsShapeLine p answer
line_found p (Ok shaped) answer is line = inl (record { well_shaped = is.1; line = line.0; good = line.1 })
line_found p (Err fault) answer first line = inr (record { fault = fault; first = first; line = line })

-- the line of a fault that is a plan's first one is that of the plan
pub line_of_first : (p : PlannedShop) (fault : ShapeFault) (outcome : Result Answer CommandFault) → IsFirstShapeFault p fault → IsOrMemory (IsRefusedLine fault) outcome → IsOrMemory (IsNotShapedLine p) outcome
line_of_first p fault (Ok answer) first line = record { fault = fault; first = first; line = line }
line_of_first p fault (Err no_memory) first line = line

-- the same, where the line is drawn in place of a picture
pub line_alone : (p : PlannedShop) (fault : ShapeFault) (outcome : Result Drawn CommandFault) → IsFirstShapeFault p fault → IsOrMemory (IsLineAlone (IsRefusedLine fault)) outcome → IsOrMemory (IsLineAlone (IsNotShapedLine p)) outcome
line_alone p fault (Ok (Line answer)) first line = record { fault = fault; first = first; line = line }
line_alone p fault (Ok (Picture picture status)) first line = line
line_alone p fault (Err no_memory) first line = line

module _ {W B : Type 0} (gives : W → List ℕ → Result (List ℕ) CommandFault → W → Type 0) (Line : (Answer → Type 0) → B → Type 0) (inputs : InputPaths) (step : PlannedShop → W → Result B CommandFault → W → Type 0)
    (before mid : W) (found : Result (Result PlannedShop ShapeFault) CommandFault) (shapes : Shapes gives inputs before found mid) where
  -- there is this step
  pub followed : (or_not : Result PlannedShop ShapeFault) (p : PlannedShop) (outcome : Result B CommandFault) (after : W) → found ≡ Ok or_not → or_not ≡ Ok p → step p mid outcome after
      → WithBoth gives inputs (λ p. IfShapedBy Line p (step p)) before outcome after
  followed or_not p outcome after was is so = shaped_on gives inputs (λ q. IfShapedBy Line q (step q)) before mid found shapes or_not p outcome after was is (λ well. inl (well, so))

  -- its first fault is said
  pub refused : (or_not : Result PlannedShop ShapeFault) (fault : ShapeFault) (outcome : Result B CommandFault) → found ≡ Ok or_not → or_not ≡ Err fault
      → ((q : PlannedShop) → IsFirstShapeFault q fault → IsOrMemory (Line (IsNotShapedLine q)) outcome) → WithBoth gives inputs (λ p. IfShapedBy Line p (step p)) before outcome mid
  refused or_not fault outcome was is line =
      unshaped_on gives inputs (λ q. IfShapedBy Line q (step q)) before mid found shapes or_not fault outcome mid was is (λ q first. inr (line q first, refl))

  -- nothing is found
  pub failed : (fault : CommandFault) (outcome : Result B CommandFault) → found ≡ Err fault → IsErrAnd outcome (λ passed. passed ≡ fault)
      → WithBoth gives inputs (λ p. IfShapedBy Line p (step p)) before outcome mid
  failed fault outcome was passed = passed_on gives inputs (λ q. IfShapedBy Line q (step q)) before mid found shapes fault outcome was passed (λ q. inr (refl, refl))
