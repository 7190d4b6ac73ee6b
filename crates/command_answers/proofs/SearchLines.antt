-- The lines of the command `plan`.
use Rattle.std.proofs.Common.{◌≡◌, ℕ, Result, Ok, Err, sym, ap, ◌∙◌, subst, inl, inr}
use Rattle.shop_base.specs.Shop.{JobShop}
use Rattle.shop_base.specs.Plan.{PlannedShop}
use Rattle.plan_seek.specs.declared.seek_fault.SeekFault.{SeekFault}
use Rattle.plan_seek.specs.Tasks.{with_order, IsAccepted}
use Rattle.plan_seek.specs.Turns.{PlanSearch}
use Rattle.plan_seek.specs.Search.{IsSought, IsSeekFault}
use Rattle.command_answers.specs.declared.answer.Answer.{Answer}
use Rattle.command_answers.specs.declared.command_fault.CommandFault.{CommandFault}
use Rattle.command_answers.specs.declared.command_fault.CommandFault.TheVariants.{Instance, Plan, Names, Read, Write, InputTooLong, Log, LogInUse, Memory}
use Rattle.command_answers.specs.Documents.{IsDocumentAnswer}
use Rattle.command_answers.specs.Search.{IsFoundPlan, IsSearchAnswer, IsNoPlanAnswer}

module _ (s : PlanSearch) (rounds : ℕ) where
  -- a plan that was found
  found_is : (v : PlannedShop) → v ≡ with_order s.task v.plan.order → IsAccepted v → IsSought s rounds v.plan.order → IsFoundPlan s rounds v.plan
  found_is v same accepted sought =
      let with_shop : JobShop → PlannedShop = λ shop. record { shop = shop; plan = v.plan } in
      let is : with_shop s.task.shop ≡ v = ap with_shop (sym (ap (λ (x : PlannedShop). x.shop) same)) in
      record { same = is ∙ same; accepted = subst IsAccepted (sym is) accepted; sought = sought }

  -- its text is the answer
  pub found_answer : (v : PlannedShop) (answer : Result Answer CommandFault) → v ≡ with_order s.task v.plan.order → IsAccepted v
      → IsSought s rounds v.plan.order → IsDocumentAnswer v.plan 0 answer → IsSearchAnswer s rounds answer
  found_answer v (Ok answer) same accepted sought text = inl (record { plan = v.plan; found = found_is v same accepted sought; text = text })
  found_answer v (Err (Instance fault)) same accepted sought text = text
  found_answer v (Err (Names names)) same accepted sought text = text
  found_answer v (Err Read) same accepted sought text = text
  found_answer v (Err Write) same accepted sought text = text
  found_answer v (Err InputTooLong) same accepted sought text = text
  found_answer v (Err Log) same accepted sought text = text
  found_answer v (Err LogInUse) same accepted sought text = text
  found_answer v (Err (Plan fault)) same accepted sought text =
      (text.0, record { plan = v.plan; found = found_is v same accepted sought; unreadable = text.1 })
  found_answer v (Err Memory) same accepted sought text = tt

  -- the line that says why there is none is the answer
  pub no_plan_answer_is : (fault : SeekFault) (answer : Result Answer CommandFault) → IsSeekFault s rounds fault
      → IsNoPlanAnswer fault answer → IsSearchAnswer s rounds answer
  no_plan_answer_is fault (Ok answer) is line = inr (record { fault = fault; is = is; line = line })
  no_plan_answer_is fault (Err (Instance other)) is line = line
  no_plan_answer_is fault (Err (Names names)) is line = line
  no_plan_answer_is fault (Err Read) is line = line
  no_plan_answer_is fault (Err Write) is line = line
  no_plan_answer_is fault (Err InputTooLong) is line = line
  no_plan_answer_is fault (Err Log) is line = line
  no_plan_answer_is fault (Err LogInUse) is line = line
  no_plan_answer_is fault (Err (Plan other)) is line = absurd line
  no_plan_answer_is fault (Err Memory) is line = tt
