-- The laws of revised plans: the run so far stays a run, no cycle comes, and who is later by how much.
use Rattle.std.specs.Prelude.{◌≡◌, ◌↔◌, ℕ, ◌+◌, ◌-◌, ◌<◌, ◌≤◌, List, [], ◌∷◌, ◌++◌}
use Rattle.shop_base.specs.declared.limits.TheConstants.{MAX_MOMENT}
use Rattle.shop_base.specs.declared.node.Node.{Node}
use Rattle.shop_base.specs.Plan.{PlannedShop, jobs, clean, Visits, IsWellShaped}
use Rattle.shop_base.specs.Cell.{made}
use Rattle.shop_base.specs.Run.{Event, IsRun, ends_in}
use Rattle.shop_base.specs.Graph.{node, leaving, IsNode, RanksRise}
use Rattle.shop_base.specs.Ahead.{PathAhead, IsAhead, MomentsFitAhead}
use Rattle.shop_base.specs.Deadlines.{AreDeadlines}
use Rattle.plan_verifier.specs.Accepted.{HasNoCycle}
use Rattle.plan_verifier.specs.RestVerdicts.{IsAcceptableAhead}
use Rattle.cell_tables.specs.Carried.{IsCarried}
use Rattle.plan_revise.specs.declared.change.Change.{Change}
use Rattle.plan_revise.specs.declared.change.Change.TheVariants.{Down, Hold}
use Rattle.plan_revise.specs.Settings.{setting}
use Rattle.plan_revise.specs.Aside.{IsPlantOf, IsPutAside}
use Rattle.plan_revise.specs.Held.{IsEntryAtOnce, WaitForHold}
use Rattle.plan_revise.specs.Revised.{IsRevisedWithin}
use Rattle.plan_revise.specs.Effects.{AreAll, SparesJob, AsksNoMore}
use Rattle.plan_revise.specs.Paths.{HasLonger}

-- these events are a run of plan p, whose plant has so many machines, and at a present moment that isn't before its last one these changes make of it plan q
pub record IsRevisedRun (p : PlannedShop) (es : List Event) (t plant : ℕ) (changes : List Change) (q : PlannedShop) : Type 0 where
  pub shaped : IsWellShaped p
  pub run : IsRun p es
  pub present : (ends_in p es).last ≤ t
  pub is_plant : IsPlantOf p plant
  pub made : IsRevisedWithin p (ends_in p es) t plant changes q

-- the run so far is one of the revised plan, in the revised shop, and ends in the same cell but for what is ahead
abbrev pub TheRunSoFarStays : Type 0
TheRunSoFarStays = (p q : PlannedShop) (es : List Event) (t plant : ℕ) (changes : List Change) → IsRevisedRun p es t plant changes q → IsWellShaped q × IsRun q es × IsCarried p (ends_in p es) q (ends_in q es)

-- where the plan has no cycle, the revised plan has none
abbrev pub NoCycleComes : Type 0
NoCycleComes = (p q : PlannedShop) (es : List Event) (t plant : ℕ) (changes : List Change) → IsRevisedRun p es t plant changes q → HasNoCycle p → HasNoCycle q

-- by plan q job j leaves no later than by plan p, and makes no move later that both plans have: each path ahead is at most as long as one of before
pub record IsNoLater (p : PlannedShop) (es : List Event) (t : ℕ) (q : PlannedShop) (j : ℕ) : Type 0 where
  pub leaves : (nodes : List Node) (n : ℕ) → PathAhead q (ends_in q es) t nodes (leaving q j) n → HasLonger p (ends_in p es) t (leaving p j) n
  pub moves : (k : ℕ) (nodes : List Node) (n : ℕ) → PathAhead q (ends_in q es) t nodes (node j k) n → HasLonger p (ends_in p es) t (node j k) n

-- where nothing lasts longer, no job comes later, no machine is held, and only other jobs outside go another way, a job that was there and isn't put aside is no later, whatever is added, scrapped or down, and whatever is promised
abbrev pub NobodyElseIsLater : Type 0
NobodyElseIsLater = (p q : PlannedShop) (es : List Event) (t plant : ℕ) (changes : List Change) → IsRevisedRun p es t plant changes q
    → (j : ℕ) → AreAll (SparesJob (setting p (ends_in p es) t plant) j) (setting p (ends_in p es) t plant) p changes → j < jobs p → (IsPutAside plant q j → ⊥) → IsNoLater p es t q j

-- each of the changes is a machine that is down
abbrev pub AreDowns : List Change → Type 0
AreDowns [] = Unit {0}
AreDowns (Down machine ∷ changes) = AreDowns changes
AreDowns (change ∷ changes) = ⊥

-- no job has a machine ahead that is down, whatever was changed before it and whatever other machines are down: so no order brings a part there
abbrev pub NoPartComesToAMachineThatIsDown : Type 0
NoPartComesToAMachineThatIsDown = (p q : PlannedShop) (es : List Event) (t plant : ℕ) (before after : List Change) (machine : ℕ) → IsRevisedRun p es t plant (before ++ Down machine ∷ after) q → AreDowns after
    → (j k : ℕ) → Visits q j k machine → k < made (ends_in q es) j

-- where no change asks for more, no deadline of a job that isn't put aside comes sooner (of a plan without a cycle ranks are known that rise along its arcs)
abbrev pub NoDeadlineComesSooner : Type 0
NoDeadlineComesSooner = (p q : PlannedShop) (es : List Event) (t plant : ℕ) (changes : List Change) → IsRevisedRun p es t plant changes q → AreAll AsksNoMore (setting p (ends_in p es) t plant) p changes
    → (rank kept later : Node → ℕ) → RanksRise q rank → AreDeadlines p (ends_in p es) kept → AreDeadlines q (ends_in q es) later
    → (v : Node) → IsNode p v → IsNode q v → IsAhead (ends_in q es) v → (IsPutAside plant q v.job → ⊥) → kept v ≤ later v

-- where no change asks for more, a rest that is to be accepted stays so
abbrev pub RevisedRestsStayAccepted : Type 0
RevisedRestsStayAccepted = (p q : PlannedShop) (es : List Event) (t plant : ℕ) (changes : List Change) → IsRevisedRun p es t plant changes q → AreAll AsksNoMore (setting p (ends_in p es) t plant) p changes → t ≤ MAX_MOMENT
    → IsAcceptableAhead p (ends_in p es) t → IsAcceptableAhead q (ends_in q es) t

-- this run is revised where a machine is held until a moment, and goes on by these events, the entry of the job more
pub record IsHeldRun (p : PlannedShop) (es : List Event) (t plant machine to : ℕ) (q : PlannedShop) (entry : List Event) : Type 0 where
  pub revised : IsRevisedRun p es t plant (Hold machine to ∷ []) q
  pub is_entry : IsEntryAtOnce machine (jobs p) t entry
  pub run : IsRun q (es ++ entry)

-- then moments fit what is ahead exactly where they fitted it before, and the machine's next entry waits until the job more has held it and it is cleaned: nothing else waits but through that entry
abbrev pub AHeldMachineHoldsUpItsNextEntry : Type 0
AHeldMachineHoldsUpItsNextEntry = (p q : PlannedShop) (es : List Event) (t plant machine to : ℕ) (entry : List Event) → IsHeldRun p es t plant machine to q entry
    → (kept : Node → ℕ) → MomentsFitAhead q (ends_in q (es ++ entry)) t kept ↔ (MomentsFitAhead p (ends_in p es) t kept × WaitForHold p (ends_in p es) machine to kept)

-- so nobody else is later by more than the time from now to the end of the hold, and the cleaning time: the moments that fitted fit again, each so much later
abbrev pub NobodyIsLaterByMoreThanTheHold : Type 0
NobodyIsLaterByMoreThanTheHold = (p q : PlannedShop) (es : List Event) (t plant machine to : ℕ) (entry : List Event) → IsHeldRun p es t plant machine to q entry
    → (kept : Node → ℕ) → MomentsFitAhead p (ends_in p es) t kept
    → (later : Node → ℕ) × MomentsFitAhead q (ends_in q (es ++ entry)) t later × ((v : Node) → v.job < jobs p → later v ≡ kept v + (to - t + clean p machine))
