-- A run and its plan, revised together.
use Rattle.std.specs.Prelude.{◌≡◌, ◌⊎◌, ℕ, ◌+◌, ◌<◌, List, [], ◌∷◌, Bool, true, false, None, Some, length, replicate, if◌then◌else◌}
use Rattle.shop_base.specs.Plan.{PlannedShop, jobs}
use Rattle.shop_base.specs.Cell.{Cell}
use Rattle.shop_base.specs.Run.{Event}
use Rattle.cell_tables.specs.Events.{events_of}
use Rattle.plan_revise.specs.declared.change.Change.{Change}
use Rattle.plan_revise.specs.declared.change.ChangeFault.{ChangeFault}
use Rattle.plan_revise.specs.declared.change.ChangeFault.TheVariants.{JobGone}
use Rattle.plan_revise.specs.declared.change.NotRevised.{NotRevised}
use Rattle.plan_revise.specs.declared.change.NotRevised.TheVariants.{Refused, Memory}
use Rattle.plan_revise.specs.Aside.{IsPlant}
use Rattle.run_pruning.specs.{Pruned.pruned, Over.DropsAllThatIsOver, PruningLaw.pruned_run, PruningLaw.run_owner, Spare.without_spare}
use Rattle.run_revising.specs.declared.next.NextRun.{NextRun}
use Rattle.run_revising.specs.Renumbering.{renumbered_changes, first_left_out}
use Rattle.run_revising.specs.RunChanges.{ChangingRun, unchanged, AreRunChanges, IsFirstNotMade, IsReasonNotMade}

-- the numbers of the jobs that stay, by marks from this job on
abbrev pub numbers_kept : ℕ → List Bool → List ℕ
numbers_kept j [] = []
numbers_kept j (stays ∷ marks) = if stays then j ∷ numbers_kept (j + 1) marks else numbers_kept (j + 1) marks

module _ (plant t : ℕ) where
  -- the changes make these events and a planned shop of the run, of which q is left without the machine that isn't there, where nobody visits that
  pub record IsRevisedTo (p : PlannedShop) (es : List Event) (changes : List Change) (q : PlannedShop) (fs : List Event) : Type 0 where
    pub last : ChangingRun
    pub made : AreRunChanges plant t (unchanged p es) changes last
    pub left : q ≡ without_spare last.reached plant
    pub events : fs ≡ last.events

  -- all jobs stay
  pub record IsWholeRun (p : PlannedShop) (es : List Event) (changes : List Change) (next : NextRun) : Type 0 where
    pub revised : IsRevisedTo p es changes next.shaped (events_of next.entries.items)
    pub were : next.were.items ≡ numbers_kept 0 (replicate (jobs p) true)

-- the same for a run without jobs
module _ (plant : ℕ) (p : PlannedShop) (c : Cell) (t : ℕ) (es : List Event) (changes : List Change) where
  -- these jobs stay: all but those that are over
  abbrev pub AreAllAhead : List Bool → Type 0
  AreAllAhead kept = DropsAllThatIsOver p c (run_owner p es) kept

  -- the run of those that stay
  abbrev pub run_of : List Bool → ChangingRun
  run_of kept = unchanged (pruned kept p) (pruned_run kept p es)

  -- the jobs that are over are left out first; no change names one of them, and the changes are made of what is left
  pub record IsRunWithoutThose (next : NextRun) : Type 0 where
    pub kept : List Bool
    pub ahead : AreAllAhead kept
    pub named : first_left_out 0 kept changes ≡ None
    pub revised : IsRevisedTo plant t (pruned kept p) (pruned_run kept p es) (renumbered_changes kept changes) next.shaped (events_of next.entries.items)
    pub were : next.were.items ≡ numbers_kept 0 kept

  -- a job that is left out is named first at place n: it is gone; the changes before it are made
  pub record NamesOneLeftOut (kept : List Bool) (n : ℕ) (fault : ChangeFault) : Type 0 where
    pub there : first_left_out 0 kept changes ≡ Some n
    pub gone : fault ≡ JobGone
    pub before : ChangingRun
    pub made : AreRunChanges plant t (run_of kept) (renumbered_changes kept changes) before

  -- the jobs that are over are left out first, and the change at place n is the first that can't be
  pub record IsRefusedWithoutThose (n : ℕ) (fault : ChangeFault) : Type 0 where
    pub kept : List Bool
    pub ahead : AreAllAhead kept
    pub refused : IsFirstNotMade plant t (run_of kept) (renumbered_changes kept changes) n fault ⊎ NamesOneLeftOut kept n fault

  -- the answer says which, unless memory ran out
  abbrev pub IsReasonWithoutThose : NotRevised → Type 0
  IsReasonWithoutThose (Refused n fault) = IsRefusedWithoutThose n fault
  IsReasonWithoutThose Memory = Unit {0}

module _ (p : PlannedShop) (c : Cell) (t : ℕ) (es : List Event) (changes : List Change) where
  -- the run and its plan are revised, without the jobs that are over or with all jobs, for the machines of the plant
  abbrev pub IsNextRun : Bool → NextRun → Type 0
  IsNextRun true next = (plant : ℕ) × IsPlant p plant × IsRunWithoutThose plant p c t es changes next
  IsNextRun false next = (plant : ℕ) × IsPlant p plant × IsWholeRun plant t p es changes next

  -- or a change can't be made: the answer says which is the first, and why, unless memory ran out
  abbrev pub IsReasonNoNextRun : Bool → NotRevised → Type 0
  IsReasonNoNextRun true answer = (plant : ℕ) × IsPlant p plant × IsReasonWithoutThose plant p c t es changes answer
  IsReasonNoNextRun false answer = (plant : ℕ) × IsPlant p plant × IsReasonNotMade plant t (unchanged p es) changes answer

-- the place is that of one of the changes
abbrev pub IsAtOneOf : List Change → NotRevised → Type 0
IsAtOneOf changes (Refused n fault) = n < length changes
IsAtOneOf changes Memory = Unit {0}
