-- What a good input is answered by.
use Rattle.std.proofs.Common.{◌≡◌, ℕ, ◌≤◌, ◌++◌, List, [], Option, None, Some, Result, Ok, Err, length, length-append, append-nil, ap, sym, ◌∙◌, subst, arith}
use Rattle.std.specs.Io.KnownBytes.{Consumes, IsAtEnd}
use Rattle.shop_base.specs.Shop.{JobShop}
use Rattle.text_lines.specs.declared.limits.TheConstants.{MAX_INPUT}
use Rattle.command_answers.specs.declared.answer.Answer.{Answer}
use Rattle.command_answers.specs.declared.command_fault.CommandFault.{CommandFault}
use Rattle.command_answers.specs.declared.command_fault.CommandFault.TheVariants.{Instance, Plan, Names, Read, Write, InputTooLong, Log, LogInUse, Memory}
use Rattle.command_answers.specs.Instances.{ParsesAs}
use Rattle.command_answers.specs.Parsed.{AreFactsAnswered}
use Rattle.command_answers.specs.Steps.{AndThen, Concludes}
use Rattle.command_run.specs.Streams.{Input}
use Rattle.command_run.specs.Inputs.{IsInputRead, RunsInput}
use Rattle.command_run.specs.Laws.{IsInputAnswered}

-- an input that is read to its end gave all of its text
all_given : (after : Option (List ℕ)) (text came : List ℕ) → Consumes (Some text) after came → IsAtEnd after → (came ≡ text) × (after ≡ Some [])
all_given None text came was end = absurd was
all_given (Some ys) text came was end = (sym (was ∙ ap (λ (l : List ℕ). came ++ l) end ∙ append-nil came), ap (λ (l : List ℕ). Some l) end)

-- it gives no more than that
no_more : (after : Option (List ℕ)) (text came : List ℕ) → Consumes (Some text) after came → length came ≤ length text
no_more None text came was = absurd was
no_more (Some ys) text came was = omega (arith, ap length was, length-append came ys)

module _ (text description : List ℕ) (shop : JobShop) (parses : ParsesAs text None description shop) where
  facts_answered_first : (outcome : Result Answer CommandFault) (after : Input) → AreFactsAnswered text None outcome → after.left ≡ Some [] → IsInputAnswered shop outcome after
  facts_answered_first (Ok answer) after are whole = (are.only description shop parses, whole)
  facts_answered_first (Err fault) after are whole = subst (λ f. IsInputAnswered shop (Err f) after) (sym (are.only description shop parses)) tt

  -- what came of the reading is answered
  input_read : (before mid after : Input) (came : Result (List ℕ) CommandFault) (outcome : Result Answer CommandFault) → before.left ≡ Some text → length text ≤ MAX_INPUT
      → IsInputRead before came mid → AndThen (λ t. Concludes (AreFactsAnswered t None)) came mid outcome after → IsInputAnswered shop outcome after
  input_read before mid after (Ok t) outcome given few is on =
      let all = all_given mid.left text t (subst (λ o. Consumes o mid.left t) given is.0) is.1 in
      facts_answered_first outcome after (subst (λ x. AreFactsAnswered x None outcome) all.0 on.0) (ap (λ (i : Input). i.left) on.1 ∙ all.1)
  input_read before mid after (Err (Names names)) outcome given few is on = absurd is
  input_read before mid after (Err Read) outcome given few is on = subst (λ r. IsInputAnswered shop r after) (sym on.0) (ap (λ (i : Input). i.failed) on.1 ∙ is)
  input_read before mid after (Err InputTooLong) outcome given few is on =
      let fits = no_more mid.left text is.0 (subst (λ o. Consumes o mid.left is.0) given is.1) in absurd (omega (arith, fits, few, is.2))
  input_read before mid after (Err Memory) outcome given few is on = subst (λ r. IsInputAnswered shop r after) (sym on.0) tt
  input_read before mid after (Err (Instance fault)) outcome given few is on = absurd is
  input_read before mid after (Err (Plan fault)) outcome given few is on = absurd is
  input_read before mid after (Err Write) outcome given few is on = absurd is
  input_read before mid after (Err Log) outcome given few is on = absurd is
  input_read before mid after (Err LogInUse) outcome given few is on = absurd is

pub good_input : (before after : Input) (text description : List ℕ) (shop : JobShop) (outcome : Result Answer CommandFault) → before.left ≡ Some text → length text ≤ MAX_INPUT
    → ParsesAs text None description shop → RunsInput before outcome after → IsInputAnswered shop outcome after
good_input before after text description shop outcome given few parses run =
    input_read text description shop parses before run.mid after run.came outcome given few run.is run.goes_on
