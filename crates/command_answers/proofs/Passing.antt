-- A fault that is passed on, and what comes of two texts.
use Rattle.std.proofs.Common.{◌≡◌, ◌≢◌, ◌∙◌, ℕ, List, Option, Result, Ok, Err, IsErrAnd, ap, sym, subst}
use Rattle.shop_base.specs.Shop.{JobShop}
use Rattle.shop_base.specs.Plan.{ShopPlan, PlannedShop}
use Rattle.orlib_read.specs.declared.named.Named.{Named}
use Rattle.orlib_read.specs.declared.or_fault.OrFault.{OrFault}
use Rattle.orlib_read.specs.declared.or_fault.OrFault.TheVariants.{Memory as NoReaderMemory}
use Rattle.plan_text.specs.declared.plan_fault.PlanFault.{PlanFault}
use Rattle.plan_text.specs.declared.plan_fault.PlanFault.TheVariants.{Memory as OutOfMemory}
use Rattle.people_names.specs.declared.names_fault.NamesFault.{NamesFault}
use Rattle.people_names.specs.declared.names_fault.NamesFault.TheVariants.{Memory as NoNamesMemory}
use Rattle.command_answers.specs.declared.command_fault.CommandFault.{CommandFault}
use Rattle.command_answers.specs.declared.command_fault.CommandFault.TheVariants.{Instance, Plan, Names, Read, Write, InputTooLong, Log, LogInUse, Memory}
use Rattle.command_answers.specs.Instances.{Holds, IsInstanceRefusal, instance_command_fault}
use Rattle.command_answers.specs.Steps.{AndThen, IsOrMemory, Then}
use Rattle.command_answers.specs.Plans.{IsPlanRefusal, IsRightOfBoth, plan_command_fault}
use Rattle.command_answers.specs.Naming.{IsNamesRefusal, names_command_fault}
use Rattle.command_answers.specs.Parsed.{IsInstanceRead, IsPlanRead, AreTextsAnswered}

-- an answer that passes on that memory ran out holds to every property
pub passed_memory : {A : Type 0} (P : A → Type 0) (answer : Result A CommandFault) (fault : CommandFault) → fault ≡ Memory → IsErrAnd answer (λ passed. passed ≡ fault) → Holds answer P
passed_memory P (Ok a) fault memory passed = absurd passed
passed_memory P (Err answered) fault memory passed = passed ∙ memory

-- an answer that passes on what a reader printed refuses by the fault that it had to print
pub passed_instance : {A : Type 0} (answer : Result A CommandFault) (reported fault : OrFault) → (reported ≢ NoReaderMemory → reported ≡ fault)
    → IsErrAnd answer (λ passed. passed ≡ instance_command_fault reported) → IsInstanceRefusal answer fault
passed_instance (Ok a) reported fault same passed = absurd passed
passed_instance (Err answered) NoReaderMemory fault same passed = rw passed tt
passed_instance (Err answered) reported fault same passed = rw passed (same (λ memory. cc memory))

pub passed_plan : {A : Type 0} (answer : Result A CommandFault) (reported fault : PlanFault) → (reported ≢ OutOfMemory → reported ≡ fault)
    → IsErrAnd answer (λ passed. passed ≡ plan_command_fault reported) → IsPlanRefusal answer fault
passed_plan (Ok a) reported fault same passed = absurd passed
passed_plan (Err answered) OutOfMemory fault same passed = rw passed tt
passed_plan (Err answered) reported fault same passed = rw passed (same (λ memory. cc memory))

pub passed_names : {A : Type 0} (answer : Result A CommandFault) (reported fault : NamesFault) → (reported ≢ NoNamesMemory → reported ≡ fault)
    → IsErrAnd answer (λ passed. passed ≡ names_command_fault reported) → IsNamesRefusal answer fault
passed_names (Ok a) reported fault same passed = absurd passed
passed_names (Err answered) NoNamesMemory fault same passed = rw passed tt
passed_names (Err answered) reported fault same passed = rw passed (same (λ memory. cc memory))

-- what is said of a fault is said of an answer that passes it on
pub at_fault : {A : Type 0} (P : Result A CommandFault → Type 0) (answer : Result A CommandFault) (fault : CommandFault) → IsErrAnd answer (λ passed. passed ≡ fault) → P (Err fault) → P answer
at_fault P (Ok a) fault passed is = absurd passed
at_fault P (Err answered) fault passed is = subst (λ f. P (Err f)) (sym passed) is

-- what follows a step is followed by more, where its faults are passed on
pub then_on : {W A B C : Type 0} (first : W → Result A CommandFault → W → Type 0) (next : A → W → Result B CommandFault → W → Type 0) (more : A → W → Result C CommandFault → W → Type 0)
    (before : W) (found : Result B CommandFault) (mid : W) (outcome : Result C CommandFault) (after : W) → ((fault : CommandFault) → found ≡ Err fault → (outcome ≡ Err fault) × (after ≡ mid))
    → ((a : A) (there : W) → next a there found mid → more a there outcome after) → Then first next before found mid → Then first more before outcome after
then_on {W} {A} first next more before found mid outcome after fails goes run = record { came = run.came; mid = run.mid; is = run.is; goes_on = follows run.came run.mid run.goes_on }
  where
    follows : (came : Result A CommandFault) (there : W) → AndThen next came there found mid → AndThen more came there outcome after
    follows (Ok a) there on = goes a there on
    follows (Err fault) there on = (let failed = fails fault on.0 in (failed.0, failed.1 ∙ on.1))

-- ---- over two texts

module _ (instance : List ℕ) (name : Option (List ℕ)) (text : List ℕ) where
  -- the instance is refused
  pub refused_instance : {A : Type 0} (Is : PlannedShop → A → Type 0) (fault : CommandFault) → IsInstanceRead instance name (Err fault) → AreTextsAnswered instance name text Is (Err fault)
  refused_instance Is (Instance why) read = record {
    found = tt;
    only = λ p both. read.only both.description p.shop both.shop;
    fault = read.fault;
    first = read.first;
    second = λ other parses is. absurd (let memory : Instance why ≡ Memory = read.only parses.0 parses.1 parses.2 in cc memory);
  }
  refused_instance Is Memory read = record {
    found = tt;
    only = λ p both. read.only both.description p.shop both.shop;
    fault = tt;
    first = read.first;
    second = λ other parses is. tt;
  }
  refused_instance Is (Plan why) read = absurd read.fault
  refused_instance Is (Names why) read = absurd read.fault
  refused_instance Is Read read = absurd read.fault
  refused_instance Is Write read = absurd read.fault
  refused_instance Is InputTooLong read = absurd read.fault
  refused_instance Is Log read = absurd read.fault
  refused_instance Is LogInUse read = absurd read.fault

  -- the instance gives a shop, and the plan is refused
  pub refused_plan : {A : Type 0} (Is : PlannedShop → A → Type 0) (named : Named) (fault : CommandFault) → IsInstanceRead instance name (Ok named) → IsPlanRead text (Err fault)
      → AreTextsAnswered instance name text Is (Err fault)
  refused_plan Is named (Plan why) shop read = record {
    found = tt;
    only = λ p both. read.only p.plan both.plan;
    fault = ((named.description.items, named.shop, shop.found), read.fault);
    first = λ other is. absurd (shop.first other is);
    second = λ other parses is. read.first other is;
  }
  refused_plan Is named Memory shop read = record {
    found = tt;
    only = λ p both. read.only p.plan both.plan;
    fault = tt;
    first = λ other is. absurd (shop.first other is);
    second = λ other parses is. tt;
  }
  refused_plan Is named (Instance why) shop read = absurd read.fault
  refused_plan Is named (Names why) shop read = absurd read.fault
  refused_plan Is named Read shop read = absurd read.fault
  refused_plan Is named Write shop read = absurd read.fault
  refused_plan Is named InputTooLong shop read = absurd read.fault
  refused_plan Is named Log shop read = absurd read.fault
  refused_plan Is named LogInUse shop read = absurd read.fault

  same_planned : (named : Named) (plan : ShopPlan) (p : PlannedShop) → named.shop ≡ p.shop → plan ≡ p.plan → record { shop = named.shop; plan = plan } ≡ p
  same_planned named plan p shop same =
      let of_shop : JobShop → PlannedShop = λ s. record { shop = s; plan = plan } in
      let of_plan : ShopPlan → PlannedShop = λ q. record { shop = p.shop; plan = q } in
      ap of_shop shop ∙ ap of_plan same

  -- both are read, and this comes of them, or memory ran out
  pub texts_answered : {A : Type 0} (Is : PlannedShop → A → Type 0) (named : Named) (plan : ShopPlan) (outcome : Result A CommandFault) → IsInstanceRead instance name (Ok named) → IsPlanRead text (Ok plan)
      → IsOrMemory (Is (record { shop = named.shop; plan = plan })) outcome → AreTextsAnswered instance name text Is outcome
  texts_answered Is named plan (Ok a) shop read is = record {
    found = record { planned = record { shop = named.shop; plan = plan }; parsed = record { description = named.description.items; shop = shop.found; plan = read.found }; is = is };
    only = λ p both. subst (λ q. Is q a) (same_planned named plan p (shop.only both.description p.shop both.shop).1 (read.only p.plan both.plan)) is;
    fault = tt;
    first = λ other wrong. absurd (shop.first other wrong);
    second = λ other parses wrong. absurd (read.first other wrong);
  }
  texts_answered Is named plan (Err fault) shop read is = record {
    found = tt;
    only = λ p both. is;
    fault = subst (IsRightOfBoth instance name text) (sym is) tt;
    first = λ other wrong. absurd (shop.first other wrong);
    second = λ other parses wrong. absurd (read.first other wrong);
  }

  -- a fault that came is passed on
  pub passed_on : {A B : Type 0} (Is : PlannedShop → A → Type 0) (More : PlannedShop → B → Type 0) (fault : CommandFault) → AreTextsAnswered instance name text Is (Err fault)
      → AreTextsAnswered instance name text More (Err fault)
  passed_on Is More (Instance why) came = record { found = tt; only = came.only; fault = came.fault; first = came.first; second = came.second }
  passed_on Is More (Plan why) came = record { found = tt; only = came.only; fault = came.fault; first = came.first; second = came.second }
  passed_on Is More Memory came = record { found = tt; only = came.only; fault = came.fault; first = came.first; second = came.second }
  passed_on Is More (Names why) came = absurd came.fault
  passed_on Is More Read came = absurd came.fault
  passed_on Is More Write came = absurd came.fault
  passed_on Is More InputTooLong came = absurd came.fault
  passed_on Is More Log came = absurd came.fault
  passed_on Is More LogInUse came = absurd came.fault

  -- what came is followed by this, or memory ran out
  pub next_answered : {A B : Type 0} (Is : PlannedShop → A → Type 0) (More : PlannedShop → B → Type 0) (a : A) (outcome : Result B CommandFault) → AreTextsAnswered instance name text Is (Ok a)
      → ((p : PlannedShop) → Is p a → IsOrMemory (More p) outcome) → AreTextsAnswered instance name text More outcome
  next_answered Is More a (Ok b) came next = record {
    found = record { planned = came.found.planned; parsed = came.found.parsed; is = next came.found.planned came.found.is };
    only = λ p both. next p (came.only p both);
    fault = tt;
    first = λ other wrong. absurd (came.first other wrong);
    second = λ other parses wrong. absurd (came.second other parses wrong);
  }
  next_answered Is More a (Err fault) came next = (let memory : fault ≡ Memory = next came.found.planned came.found.is in record {
    found = tt;
    only = λ p both. memory;
    fault = subst (IsRightOfBoth instance name text) (sym memory) tt;
    first = λ other wrong. absurd (came.first other wrong);
    second = λ other parses wrong. absurd (came.second other parses wrong);
  })
