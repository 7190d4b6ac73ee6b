-- What the calls from C do.
use Rattle.std.specs.Prelude.{◌≡◌, ℕ, ◌<◌, ◌≤◌, ◌++◌, ◌⊎◌, List, Option, length, drop, codes}
use Rattle.shop_base.specs.Plan.{PlannedShop, IsWellShaped, jobs, budget}
use Rattle.shop_base.specs.Graph.{leaving}
use Rattle.shop_base.specs.Ends.{stated_number}
use Rattle.shop_base.specs.ReportsLeft.{reports_left}
use Rattle.shop_base.specs.ExactLaw.{IsNeverGoneBefore}
use Rattle.alt_graph.specs.Times.{earliest_of}
use Rattle.orlib_read.specs.declared.or_fault.OrFault.{OrFault}
use Rattle.plan_text.specs.declared.plan_fault.PlanFault.{PlanFault}
use Rattle.plan_text.specs.Documents.{IsFirstPlanFault}
use Rattle.plan_verifier.specs.Accepted.{VerifiedPlan, IsVerified, IsAcceptable, IsGreatest, IsNeverGoneAfter, IsGoneJustAt}
use Rattle.cell_control.specs.Control.{control_at_start, Control}
use Rattle.command_answers.specs.declared.answer.Answer.{Answer}
use Rattle.command_answers.specs.declared.command_fault.CommandFault.{CommandFault}
use Rattle.command_answers.specs.declared.command_fault.CommandFault.TheVariants.{Instance, Plan}
use Rattle.command_answers.specs.declared.loading.Loaded.{Loaded}
use Rattle.command_answers.specs.declared.loading.Loaded.TheVariants.{NotShaped, Judged}
use Rattle.command_answers.specs.Instances.{IsFirstInstanceFault}
use Rattle.command_answers.specs.Plans.{BothParse, ParsesAsShop, IsOfBoth, IsRightOfBoth}
use Rattle.command_answers.specs.Checks.{IsLoaded, verdict_status}
use Rattle.command_answers.specs.Statuses.{command_status_of}

-- the fault is of one of the two texts, the instance's before the plan's
pub record IsTextFault (instance : List ℕ) (name : Option (List ℕ)) (plan : List ℕ) (fault : CommandFault) : Type 0 where
  pub right : IsRightOfBoth instance name plan fault
  pub status : command_status_of fault ≡ 3

-- the text stands in front in the caller's room, and its length is answered
pub record IsLaid (text old new : List ℕ) (needed : ℕ) : Type 0 where
  pub stands : new ≡ text ++ drop (length text) old
  pub needed_is : needed ≡ length text

-- the text is longer than the caller's room, which stays as it was, and its length is answered
pub record IsLongerThanRoom (text old new : List ℕ) (needed : ℕ) : Type 0 where
  pub beyond : length old < length text
  pub unchanged : new ≡ old
  pub needed_is : needed ≡ length text

-- the status, with the text in the caller's room, or the status of too little room
abbrev pub IsPut : List ℕ → ℕ → ℕ → List ℕ → List ℕ → ℕ → Type 0
IsPut text status result old new needed =
    ((result ≡ status) × IsLaid text old new needed) ⊎ ((result ≡ 6) × IsLongerThanRoom text old new needed)

-- memory ran out, and nothing is written; or one of these answers was put
abbrev pub Answers : ℕ → List ℕ → List ℕ → ℕ → (Answer → Type 0) → Type 0
Answers result old new needed Is =
    ((result ≡ 4) × (needed ≡ 0) × (new ≡ old))
    ⊎ ((answer : Answer) × Is answer × IsPut answer.text.items answer.status result old new needed)

-- the line that the program prints of the fault of a text on its standard error
abbrev pub IsTextFaultLine : CommandFault → List ℕ → Type 0
IsTextFaultLine (Instance fault) line = (words : List ℕ) × (line ≡ codes "cellplan: instance: " ++ words ++ codes "\n")
IsTextFaultLine (Plan fault) line = (words : List ℕ) × (line ≡ codes "cellplan: plan: " ++ words ++ codes "\n")
IsTextFaultLine other line = ⊥

-- the line of this fault, with the status of a text that is refused
abbrev pub IsTextFaultReport : CommandFault → Answer → Type 0
IsTextFaultReport fault answer = IsTextFaultLine fault answer.text.items × (answer.status ≡ 3)

-- an answer to the two texts of status 0 or 1, or the line of what is wrong with them
abbrev pub IsTextsReport : List ℕ → Option (List ℕ) → List ℕ → (PlannedShop → Answer → Type 0) → Answer → Type 0
IsTextsReport instance name plan Is answer =
    (IsOfBoth instance name plan Is answer × (answer.status ≤ 1))
    ⊎ ((fault : CommandFault) × IsTextFault instance name plan fault × IsTextFaultReport fault answer)

-- an answer to the two texts is given, or the line of what is wrong with them: that of their shop and plan wherever they give them, else the line of the first fault of the instance, or of the plan's
pub record AreTextsReported (instance : List ℕ) (name : Option (List ℕ)) (plan : List ℕ) (Is : PlannedShop → Answer → Type 0)
    (Reports : (Answer → Type 0) → Type 0) : Type 0 where
  pub found : Reports (IsTextsReport instance name plan Is)
  pub only : (p : PlannedShop) → BothParse instance name plan p → Reports (Is p)
  pub first : (fault : OrFault) → IsFirstInstanceFault instance name fault → Reports (IsTextFaultReport (Instance fault))
  pub second : (fault : PlanFault) → ParsesAsShop instance name → IsFirstPlanFault plan fault → Reports (IsTextFaultReport (Plan fault))

-- the moment kept for the leaving of job j
abbrev pub kept_leaving : Control → ℕ → ℕ
kept_leaving v j = earliest_of v.times (leaving v.planned j)

-- it is the job's earliest leaving by the plan, and within its budget
pub record IsEarliestLeaving (v : Control) (j : ℕ) : Type 0 where
  pub greatest : IsGreatest v.planned (leaving v.planned j) (kept_leaving v j)
  pub in_budget : kept_leaving v j ≤ budget v.planned j
  pub no_faster : IsNeverGoneBefore v.planned j (kept_leaving v j)
  pub no_later : IsNeverGoneAfter v.planned j (kept_leaving v j)
  pub just_in_time : IsGoneJustAt v.planned j (kept_leaving v j)

-- the controller of the accepted plan that the two texts give, before the first report
pub record IsStarted (instance : List ℕ) (name : Option (List ℕ)) (plan : List ℕ) (control : Control) : Type 0 where
  pub accepted : VerifiedPlan
  pub parsed : BothParse instance name plan accepted.planned
  pub well_shaped : IsWellShaped accepted.planned
  pub acceptable : IsAcceptable accepted.planned
  pub verified : IsVerified accepted
  pub start : control ≡ control_at_start accepted
  pub same : (p : PlannedShop) → BothParse instance name plan p → control.planned ≡ p
  -- as many reports are left as the stated number, and each job keeps to its earliest leaving
  pub left : reports_left control.planned control.cell ≡ stated_number control.planned
  pub leavings : (j : ℕ) → j < jobs control.planned → IsEarliestLeaving control j

-- the status of what is said of a plan: 0 where it is accepted, else 1
abbrev pub loaded_status : Loaded → ℕ
loaded_status (NotShaped fault) = 1
loaded_status (Judged verdict) = verdict_status verdict

-- what is said of the plan that the two texts give has this status
pub record IsStatusOfBoth (instance : List ℕ) (name : Option (List ℕ)) (plan : List ℕ) (status : ℕ) : Type 0 where
  pub loaded : Loaded
  pub both : IsOfBoth instance name plan IsLoaded loaded
  pub status_is : status ≡ loaded_status loaded

-- memory ran out, or this is the status of what is said of the plan
abbrev pub IsStatusOfPlan : PlannedShop → ℕ → Type 0
IsStatusOfPlan p status = (status ≡ 4) ⊎ ((loaded : Loaded) × IsLoaded p loaded × (status ≡ loaded_status loaded))
