-- Changes of a run and its plan, one after another.
use Rattle.std.specs.Prelude.{◌≡◌, ℕ, List, [], ◌∷◌, ◌++◌, take, slice_get, Some}
use Rattle.shop_base.specs.Plan.{PlannedShop, jobs}
use Rattle.shop_base.specs.Run.{Event, ends_in}
use Rattle.plan_revise.specs.declared.change.Change.{Change}
use Rattle.plan_revise.specs.declared.change.Change.TheVariants.{Hold}
use Rattle.plan_revise.specs.declared.change.ChangeFault.{ChangeFault}
use Rattle.plan_revise.specs.declared.change.NotRevised.{NotRevised}
use Rattle.plan_revise.specs.declared.change.NotRevised.TheVariants.{Refused, Memory}
use Rattle.plan_revise.specs.Settings.{RevisionSetting, setting}
use Rattle.plan_revise.specs.Changes.{IsChangedTo}
use Rattle.plan_revise.specs.Refusals.{IsRefusedChange}
use Rattle.run_revising.specs.Holding.{hold_events}

-- a run that is changed: the plan that is given, its events, and what the changes so far made of that plan
pub record ChangingRun : Type 0 where
  pub given : PlannedShop
  pub events : List Event
  pub reached : PlannedShop

-- a run of which nothing is changed
abbrev pub unchanged : PlannedShop → List Event → ChangingRun
unchanged p es = record { given = p; events = es; reached = p }

module _ (plant t : ℕ) where
  -- its changes are judged by the cell at its end, at moment t in a plant with so many machines
  abbrev pub judged_by : ChangingRun → RevisionSetting
  judged_by r = setting r.given (ends_in r.given r.events) t plant

  -- the run behind a change that made this plan: where a job more holds a machine, it has entered that, and the run goes on by the new plan
  abbrev pub behind : ChangingRun → Change → PlannedShop → ChangingRun
  behind r (Hold machine to) next = unchanged next (r.events ++ hold_events (ends_in r.given r.events) machine (jobs r.reached) t)
  behind r change next = record r { reached = next }

  -- the changes, each of what those before it made, make this of the run
  abbrev pub AreRunChanges : ChangingRun → List Change → ChangingRun → Type 0
  AreRunChanges r [] last = last ≡ r
  AreRunChanges r (change ∷ changes) last = (next : PlannedShop) × IsChangedTo (judged_by r) r.reached change next × AreRunChanges (behind r change next) changes last

  -- the change at place n is the first that can't be, for this reason
  pub record IsFirstNotMade (r : ChangingRun) (changes : List Change) (n : ℕ) (fault : ChangeFault) : Type 0 where
    pub last : ChangingRun
    pub before : AreRunChanges r (take n changes) last
    pub change : Change
    pub there : slice_get changes n ≡ Some change
    pub refused : IsRefusedChange (judged_by last) last.reached change fault

  -- the answer says which, unless memory ran out
  abbrev pub IsReasonNotMade : ChangingRun → List Change → NotRevised → Type 0
  IsReasonNotMade r changes (Refused n fault) = IsFirstNotMade r changes n fault
  IsReasonNotMade r changes Memory = Unit {0}
