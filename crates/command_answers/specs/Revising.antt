-- The answers of the command `revise`.
use Rattle.std.specs.Prelude.{◌≡◌, ℕ, ◌<◌, nat_le, ◌&&◌, if◌then◌else◌, is_some, Bool, List, [], ◌∷◌, ◌++◌, ◌⊎◌, Option, None, Some, Result, Err, codes, get_or, length, slice_get, take}
use Rattle.shop_base.specs.declared.node.Node.{Node}
use Rattle.shop_base.specs.Plan.{PlannedShop}
use Rattle.shop_base.specs.Cell.{Cell}
use Rattle.shop_base.specs.Run.{Event}
use Rattle.alt_graph.specs.Evidence.{IsCycle}
use Rattle.alt_graph.specs.Solved.{HasCycle}
use Rattle.text_lines.specs.Lines.{ended_lines}
use Rattle.cell_tables.specs.Events.{events_of}
use Rattle.people_names.specs.NameBooks.{NameBook}
use Rattle.plan_revise.specs.declared.change.Change.{Change}
use Rattle.plan_revise.specs.declared.change.Change.TheVariants.{Until, Add, Route, Release, Budget, Scrap, Down, Hold}
use Rattle.plan_revise.specs.declared.change.ChangeFault.{ChangeFault}
use Rattle.plan_revise.specs.declared.change.NotRevised.{NotRevised}
use Rattle.plan_revise.specs.declared.change.NotRevised.TheVariants.{Refused, Memory as NoMemory}
use Rattle.plan_revise.specs.Names.{change_fault_name}
use Rattle.people_names.specs.declared.unnamed.JobNameFault.{JobNameFault}
use Rattle.people_names.specs.declared.unnamed.NotNamed.{NotNamed}
use Rattle.people_names.specs.declared.unnamed.NotNamed.TheVariants.{Refused as NameRefused, Memory as NoNameMemory}
use Rattle.people_names.specs.AddedNames.{job_name_fault_name}
use Rattle.run_revising.specs.declared.next.NextRun.{NextRun}
use Rattle.run_revising.specs.NextRuns.{IsNextRun, IsReasonNoNextRun}
use Rattle.command_answers.specs.declared.answer.Answer.{Answer}
use Rattle.command_answers.specs.declared.chapters.LogMisfit.{LogMisfit}
use Rattle.command_answers.specs.declared.command_fault.CommandFault.{CommandFault}
use Rattle.command_answers.specs.declared.command_fault.CommandFault.TheVariants.{Memory}
use Rattle.command_answers.specs.declared.command_fault.ChangeRefusal.{ChangeRefusal}
use Rattle.command_answers.specs.declared.command_fault.ChangeRefusal.TheVariants.{OfShop, OfName}
use Rattle.command_answers.specs.declared.command_fault.Unrevised.{Unrevised}
use Rattle.command_answers.specs.declared.command_fault.Unrevised.TheVariants.{Refused as RefusedAt, Ends}
use Rattle.command_answers.specs.Asked.{AskedRevision}
use Rattle.command_answers.specs.Chapters.{IsLogMisfit, IsMisfitLine, FitsLog, IsPrintedAs, leaves_out}
use Rattle.command_answers.specs.MadeJobs.{first_unnamed, names_given}
use Rattle.command_answers.specs.ImprovingRests.{IsLineOfCycle}
use Rattle.command_answers.specs.Rests.{RecordsRun, IsRunRefused}
use Rattle.command_answers.specs.Steps.{IsOrMemory}

-- ---- the line of a change that can't be

-- the option that asks for a change
abbrev pub flag_of : Change → List ℕ
flag_of (Until machine to) = codes "--until "
flag_of (Add route release budget) = codes "--add "
flag_of (Route job words) = codes "--route "
flag_of (Release job moment) = codes "--release "
flag_of (Budget job moment) = codes "--budget "
flag_of (Scrap job) = codes "--scrap "
flag_of (Down machine) = codes "--down "
flag_of (Hold machine to) = codes "--down "

-- a blank, or any other printable character of ASCII
abbrev pub is_visible : ℕ → Bool
is_visible b = nat_le 32 b && nat_le b 126

-- the bytes before the first that isn't printable
abbrev pub visible_part : List ℕ → List ℕ
visible_part [] = []
visible_part (b ∷ bytes) = if is_visible b then b ∷ visible_part bytes else []

-- the word of a change: the option, a blank and its value, up to the first byte that isn't printable
abbrev pub change_word : Change → List ℕ → List ℕ
change_word change value = flag_of change ++ visible_part value

-- the name of why a change can't be
abbrev pub refusal_name : ChangeRefusal → List ℕ
refusal_name (OfShop fault) = change_fault_name fault
refusal_name (OfName fault) = job_name_fault_name fault

-- `change refused WORD NAME`
abbrev pub change_refused_line : Change → List ℕ → ChangeRefusal → List ℕ
change_refused_line change value why = codes "change refused " ++ change_word change value ++ codes " " ++ refusal_name why ++ codes "\n"

-- why nothing is changed, of which `Memory` is a fault of the command
abbrev pub unrevised_of : NotRevised → Unrevised
unrevised_of (Refused place fault) = RefusedAt place (OfShop fault)
unrevised_of NoMemory = Ends Memory

-- so of the name of the job that the change at a place makes
abbrev pub unnamed_of : ℕ → NotNamed → Unrevised
unnamed_of place (NameRefused fault) = RefusedAt place (OfName fault)
unnamed_of place NoNameMemory = Ends Memory

-- that the job of the first change of which this is said doesn't get its name, if memory doesn't run out
abbrev pub IsReasonUnnamed : Option (ℕ × JobNameFault) → Unrevised → Type 0
IsReasonUnnamed first (RefusedAt place (OfName fault)) = first ≡ Some (place, fault)
IsReasonUnnamed first (RefusedAt place (OfShop fault)) = ⊥
IsReasonUnnamed first (Ends fault) = fault ≡ Memory

-- the place is that of one of the changes
abbrev pub IsPlaced : List Change → Unrevised → Type 0
IsPlaced changes (RefusedAt place why) = place < length changes
IsPlaced changes (Ends fault) = Unit {0}

-- the line of the change at a place, with the value of its word
pub record IsLineOfChange (asked : AskedRevision) (place : ℕ) (why : ChangeRefusal) (answer : Answer) : Type 0 where
  pub change : Change
  pub there : slice_get asked.changes place ≡ Some change
  pub line : answer.text.items ≡ change_refused_line change (get_or asked.values place []) why
  pub refused : answer.status ≡ 1

-- the line of a change that can't be, where that is why nothing is changed, else the fault
abbrev pub IsUnrevised : AskedRevision → Unrevised → Result Answer CommandFault → Type 0
IsUnrevised asked (RefusedAt place why) outcome = IsOrMemory (IsLineOfChange asked place why) outcome
IsUnrevised asked (Ends fault) outcome = outcome ≡ Err fault

-- ---- what is printed

-- what is printed of a run and its plan, by these names
abbrev pub IsPrinted : AskedRevision → List ℕ → NameBook → NextRun → Result Answer CommandFault → Type 0
IsPrinted asked description book next = IsPrintedAs asked.prints description asked.changes book (is_some asked.names) next

-- the line of the first of these changes whose job doesn't get its name, behind the jobs that stay
pub record IsUnnamedAnswer (asked : AskedRevision) (book : NameBook) (left : NextRun) (made : List Change) (answer : Answer) : Type 0 where
  pub place : ℕ
  pub fault : JobNameFault
  pub first : first_unnamed asked.called book left made ≡ Some (place, fault)
  pub line : IsLineOfChange asked place (OfName fault) answer

-- each job that a change makes gets its name, and what is printed has those of all
pub record IsNamedAnswer (asked : AskedRevision) (description : List ℕ) (book : NameBook) (next : NextRun) (outcome : Result Answer CommandFault) : Type 0 where
  pub named : first_unnamed asked.called book next asked.changes ≡ None
  pub printed : IsPrinted asked description (names_given asked.called book next asked.changes) next outcome

-- the jobs of all changes before one that isn't taken get their names, behind the jobs that stay, and its own line is answered
pub record IsShopAnswer (asked : AskedRevision) (book : NameBook) (left : NextRun) (place : ℕ) (fault : ChangeFault) (answer : Answer) : Type 0 where
  pub named : first_unnamed asked.called book left (take place asked.changes) ≡ None
  pub line : IsLineOfChange asked place (OfShop fault) answer

-- so, or one of them doesn't get its name
abbrev pub IsRefusedBehind : AskedRevision → NameBook → NextRun → ℕ → ChangeFault → Answer → Type 0
IsRefusedBehind asked book left place fault answer = IsShopAnswer asked book left place fault answer ⊎ IsUnnamedAnswer asked book left (take place asked.changes) answer

module _ (asked : AskedRevision) (p : PlannedShop) (c : Cell) (t : ℕ) (es : List Event) where
  -- the run and its plan after these changes
  abbrev pub IsRunAfter : List Change → NextRun → Type 0
  IsRunAfter changes next = IsNextRun p c t es changes (leaves_out asked.prints) next

  -- the change at this place is the first that the run doesn't take
  abbrev pub IsFirstNotTaken : ℕ → ChangeFault → Type 0
  IsFirstNotTaken place fault = IsReasonNoNextRun p c t es asked.changes (leaves_out asked.prints) (Refused place fault)

module _ (asked : AskedRevision) (description : List ℕ) (book : NameBook) (p : PlannedShop) (c : Cell) (t : ℕ) (es : List Event) where
  -- a change isn't taken, the first: the jobs that stay are those that stay without any change
  pub record IsChangeRefused (answer : Answer) : Type 0 where
    pub place : ℕ
    pub fault : ChangeFault
    pub first : IsFirstNotTaken asked p c t es place fault
    pub left : NextRun
    pub stay : IsRunAfter asked p c t es [] left
    pub behind : IsRefusedBehind asked book left place fault answer

  -- all changes are taken, and the jobs that they make get their names, or one doesn't
  pub record AreTaken (outcome : Result Answer CommandFault) : Type 0 where
    pub next : NextRun
    pub is : IsRunAfter asked p c t es asked.changes next
    pub named : IsNamedAnswer asked description book next outcome ⊎ IsOrMemory (IsUnnamedAnswer asked book next asked.changes) outcome

  -- what is answered by the changes: of a fault of the shop and of a name the one of the earlier change is told, and of one change the shop's
  abbrev pub IsChanged : Result Answer CommandFault → Type 0
  IsChanged outcome = AreTaken outcome ⊎ IsOrMemory IsChangeRefused outcome

  -- the line of a cycle of the plan
  pub record IsCycleAnswer (answer : Answer) : Type 0 where
    pub nodes : List Node
    pub cycle : IsCycle p nodes
    pub line : IsLineOfCycle nodes answer

  -- what is answered from the cell and the present moment on: a plan with a cycle is refused, else the changes are made
  abbrev pub IsRevisedRest : Result Answer CommandFault → Type 0
  IsRevisedRest outcome = IsOrMemory IsCycleAnswer outcome ⊎ ((HasCycle p → ⊥) × IsChanged outcome)

-- what is answered of a log: what is changed from the rest of the run that its whole lines record on, or why there is none
abbrev pub IsRunRevised : AskedRevision → List ℕ → NameBook → PlannedShop → List ℕ → Result Answer CommandFault → Type 0
IsRunRevised asked description book p log outcome =
    RecordsRun (λ c entries t. IsRevisedRest asked description book p c t (events_of entries) outcome) asked.at (ended_lines log) p
    ⊎ IsOrMemory (IsRunRefused asked.at (ended_lines log) p) outcome

-- the line of what is wrong with a log that is to be told anew
abbrev pub IsMisfitAnswer : AskedRevision → PlannedShop → List (List ℕ) → Result Answer CommandFault → Type 0
IsMisfitAnswer asked p lines outcome = (misfit : LogMisfit) × IsLogMisfit asked p lines misfit × IsOrMemory (IsMisfitLine misfit) outcome

-- so where the log fits; else the line of what is wrong with it; or memory runs out before that is known
abbrev pub IsReviseAnswer : AskedRevision → List ℕ → PlannedShop → NameBook → List ℕ → Result Answer CommandFault → Type 0
IsReviseAnswer asked description p book log outcome =
    IsMisfitAnswer asked p (ended_lines log) outcome ⊎ (FitsLog asked p (ended_lines log) × IsRunRevised asked description book p log outcome) ⊎ (outcome ≡ Err Memory)
