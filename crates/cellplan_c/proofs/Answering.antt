-- An answer to two texts that is given, or the line of their fault, unless memory ran out.
use Rattle.std.proofs.Common.{◌≡◌, ℕ, List, Option, Result, Ok, Err, IfOk, IfErr, inl, inr, sym, ap, ◌∙◌, subst, refl, ◌≤◌}
use Rattle.shop_base.specs.Plan.{PlannedShop}
use Rattle.orlib_read.specs.declared.or_fault.OrFault.{OrFault}
use Rattle.plan_text.specs.declared.plan_fault.PlanFault.{PlanFault}
use Rattle.command_answers.specs.declared.answer.Answer.{Answer}
use Rattle.command_answers.specs.declared.command_fault.CommandFault.{CommandFault}
use Rattle.command_answers.specs.declared.command_fault.CommandFault.TheVariants.{Instance, Plan, Names, Read, Write, InputTooLong, Log, LogInUse, Memory}
use Rattle.command_answers.specs.Instances.{IsInstanceRefusal}
use Rattle.command_answers.specs.Plans.{IsRightOfBoth, IsPlanRefusal}
use Rattle.command_answers.specs.Parsed.{AreTextsAnswered}
use Rattle.command_answers.specs.Statuses.{command_status_of}
use Rattle.cellplan_c.specs.Calls.{IsPut, Answers, IsTextFaultReport, IsTextsReport, AreTextsReported}
use Rattle.cellplan_c.specs.FaultsWithoutLine.{HasNoLine}

put_result : (Is : Answer → Type 0) (outcome : Result Answer CommandFault) (result : ℕ) (old new : List ℕ) (needed : ℕ)
    → IfErr outcome (λ fault. (result ≡ command_status_of fault) × (needed ≡ 0) × (new ≡ old))
    → IfOk outcome (λ answer. IsPut answer.text.items answer.status result old new needed)
    → IfErr outcome (λ fault. fault ≡ Memory) → IfOk outcome Is → Answers result old new needed Is
put_result Is (Err fault) result old new needed unsaid put memory is = inl (unsaid.0 ∙ ap command_status_of memory, unsaid.1, unsaid.2)
put_result Is (Ok answer) result old new needed unsaid put memory is = inr (answer, is, put)

memory_no_line : (Is : Answer → Type 0) (outcome : Result Answer CommandFault) → IfOk outcome (IsTextFaultReport Memory) → IfOk outcome Is
memory_no_line Is (Err fault) line = tt
memory_no_line Is (Ok answer) line = absurd line.0

no_line : (Is : Answer → Type 0) (fault : CommandFault) (outcome : Result Answer CommandFault) → fault ≡ Memory
    → IfOk outcome (IsTextFaultReport fault) → IfOk outcome Is
no_line Is fault outcome is line =
    memory_no_line Is outcome (subst (λ (f : CommandFault). IfOk outcome (IsTextFaultReport f)) is line)

instance_line : (fault : CommandFault) (why : OrFault) (outcome : Result Answer CommandFault) → IsInstanceRefusal {A = Answer} (Err fault) why
    → IfOk outcome (IsTextFaultReport fault) → IfOk outcome (IsTextFaultReport (Instance why))
instance_line (Instance answered) why outcome is line = line
instance_line Memory why outcome is line = memory_no_line (IsTextFaultReport (Instance why)) outcome line
instance_line (Plan fault) why outcome is line = absurd is
instance_line (Names names) why outcome is line = absurd is
instance_line Read why outcome is line = absurd is
instance_line Write why outcome is line = absurd is
instance_line InputTooLong why outcome is line = absurd is
instance_line Log why outcome is line = absurd is
instance_line LogInUse why outcome is line = absurd is

plan_line : (fault : CommandFault) (why : PlanFault) (outcome : Result Answer CommandFault) → IsPlanRefusal {A = Answer} (Err fault) why
    → IfOk outcome (IsTextFaultReport fault) → IfOk outcome (IsTextFaultReport (Plan why))
plan_line (Plan answered) why outcome is line = line
plan_line Memory why outcome is line = memory_no_line (IsTextFaultReport (Plan why)) outcome line
plan_line (Instance fault) why outcome is line = absurd is
plan_line (Names names) why outcome is line = absurd is
plan_line Read why outcome is line = absurd is
plan_line Write why outcome is line = absurd is
plan_line InputTooLong why outcome is line = absurd is
plan_line Log why outcome is line = absurd is
plan_line LogInUse why outcome is line = absurd is

-- a fault that has a line is of a text
of_text : (fault : CommandFault) (answer : Answer) → IsTextFaultReport fault answer → command_status_of fault ≡ 3
of_text (Instance why) answer line = refl
of_text (Plan why) answer line = refl
of_text Memory answer line = absurd line.0
of_text (Names names) answer line = absurd line.0
of_text Read answer line = absurd line.0
of_text Write answer line = absurd line.0
of_text InputTooLong answer line = absurd line.0
of_text Log answer line = absurd line.0
of_text LogInUse answer line = absurd line.0

-- of the faults that two texts may have, none but out of memory is printed by no line
memory_alone : (instance : List ℕ) (name : Option (List ℕ)) (plan : List ℕ) (fault other : CommandFault)
    → IsRightOfBoth instance name plan fault → HasNoLine fault other → other ≡ Memory
memory_alone instance name plan (Instance why) other is unsaid = unsaid
memory_alone instance name plan (Plan why) other is unsaid = unsaid
memory_alone instance name plan Memory other is unsaid = unsaid
memory_alone instance name plan (Names names) other is unsaid = absurd is
memory_alone instance name plan Read other is unsaid = absurd is
memory_alone instance name plan Write other is unsaid = absurd is
memory_alone instance name plan InputTooLong other is unsaid = absurd is
memory_alone instance name plan Log other is unsaid = absurd is
memory_alone instance name plan LogInUse other is unsaid = absurd is

module _ (instance : List ℕ) (name : Option (List ℕ)) (plan : List ℕ) (Is : PlannedShop → Answer → Type 0)
    (bound : (p : PlannedShop) (answer : Answer) → Is p answer → answer.status ≤ 1) where
  memory_reported : (fault : CommandFault) (outcome : Result Answer CommandFault) → IsRightOfBoth instance name plan fault
      → IfErr outcome (HasNoLine fault) → IfErr outcome (λ other. other ≡ Memory)
  memory_reported fault (Ok answer) is unsaid = tt
  memory_reported fault (Err other) is unsaid = memory_alone instance name plan fault other is unsaid

  answer_reported : (answer : Answer) → AreTextsAnswered instance name plan Is (Ok answer)
      → AreTextsReported instance name plan Is (IfOk {E = CommandFault} (Ok answer))
  answer_reported answer are = record {
    found = inl (are.found, bound are.found.planned answer are.found.is);
    only = are.only;
    first = λ fault is. absurd (are.first fault is);
    second = λ fault parses is. absurd (are.second fault parses is);
  }

  fault_found : (fault : CommandFault) (outcome : Result Answer CommandFault) → IsRightOfBoth instance name plan fault
      → IfOk outcome (IsTextFaultReport fault) → IfOk outcome (IsTextsReport instance name plan Is)
  fault_found fault (Err other) right line = tt
  fault_found fault (Ok answer) right line = inr (fault, record { right = right; status = of_text fault answer line }, line)

  log_fault_answer : (fault : CommandFault) (outcome : Result Answer CommandFault) → AreTextsAnswered instance name plan Is (Err fault)
      → IfOk outcome (IsTextFaultReport fault) → AreTextsReported instance name plan Is (IfOk outcome)
  log_fault_answer fault outcome are line = record {
    found = fault_found fault outcome are.fault line;
    only = λ p parse. no_line (Is p) fault outcome (are.only p parse) line;
    first = λ why is. instance_line fault why outcome (are.first why is) line;
    second = λ why parses is. plan_line fault why outcome (are.second why parses is) line;
  }

  put_texts : (outcome : Result Answer CommandFault) (result : ℕ) (old new : List ℕ) (needed : ℕ)
      → IfErr outcome (λ fault. (result ≡ command_status_of fault) × (needed ≡ 0) × (new ≡ old))
      → IfOk outcome (λ answer. IsPut answer.text.items answer.status result old new needed)
      → IfErr outcome (λ fault. fault ≡ Memory)
      → AreTextsReported instance name plan Is (IfOk outcome)
      → AreTextsReported instance name plan Is (Answers result old new needed)
  put_texts outcome result old new needed unsaid put memory are = record {
    found = answers _ are.found;
    only = λ p parse. answers _ (are.only p parse);
    first = λ fault is. answers _ (are.first fault is);
    second = λ fault parses is. answers _ (are.second fault parses is);
  }
    where
      answers : (Wanted : Answer → Type 0) → IfOk outcome Wanted → Answers result old new needed Wanted
      answers Wanted is = put_result Wanted outcome result old new needed unsaid put memory is

  -- what two texts are answered, and what is put
  pub found_and_put : (answered outcome : Result Answer CommandFault) (result : ℕ) (old new : List ℕ) (needed : ℕ)
      → AreTextsAnswered instance name plan Is answered
      → IfOk answered (λ answer. outcome ≡ Ok answer)
      → IfErr answered (λ fault. IfOk outcome (IsTextFaultReport fault))
      → IfErr answered (λ fault. IfErr outcome (HasNoLine fault))
      → IfErr outcome (λ fault. (result ≡ command_status_of fault) × (needed ≡ 0) × (new ≡ old))
      → IfOk outcome (λ answer. IsPut answer.text.items answer.status result old new needed)
      → AreTextsReported instance name plan Is (Answers result old new needed)
  found_and_put (Err fault) outcome result old new needed are same line other unsaid put =
      put_texts outcome result old new needed unsaid put (memory_reported fault outcome are.fault other) (log_fault_answer fault outcome are line)
  found_and_put (Ok answer) outcome result old new needed are same line other unsaid put =
      put_texts outcome result old new needed unsaid put
      (subst (λ (t : Result Answer CommandFault). IfErr t (λ fault. fault ≡ Memory)) (sym same) tt)
      (subst (λ (t : Result Answer CommandFault). AreTextsReported instance name plan Is (IfOk t)) (sym same) (answer_reported answer are))
