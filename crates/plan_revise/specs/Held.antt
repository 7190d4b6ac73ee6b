-- A job more that holds a machine, its entry, and moments by which others wait for it.
use Rattle.std.specs.Prelude.{◌≡◌, ℕ, ◌+◌, ◌≤◌, ◌⊎◌, List, [], ◌∷◌, length}
use Rattle.shop_base.specs.declared.node.Node.{Node}
use Rattle.shop_base.specs.declared.report.Report.TheVariants.{Arrive, Clean}
use Rattle.shop_base.specs.declared.move_order.Spot.TheVariants.{Out, At}
use Rattle.shop_base.specs.Plan.{PlannedShop, jobs, clean, Stands}
use Rattle.shop_base.specs.Cell.{Cell, entries}
use Rattle.shop_base.specs.Run.{Event, Reported, Moved}
use Rattle.shop_base.specs.Graph.{node}
use Rattle.plan_revise.specs.Promises.{no_promise}
use Rattle.plan_revise.specs.Placed.{added}
use Rattle.plan_revise.specs.AnotherWay.{with_visit_at}
use Rattle.plan_revise.specs.Settings.{RevisionSetting}

-- the machine alone, for so long, is the route of a job more, which is released at the present moment, has no promise, and is next in the machine's order
abbrev pub held : RevisionSetting → PlannedShop → ℕ → ℕ → PlannedShop
held s p machine time = with_visit_at (added p [] s.present no_promise) (jobs p) (record { machine = machine; nominal = time }) (length (entries s.cell machine))

-- job j comes, and goes onto the machine
abbrev pub entry_at_once : ℕ → ℕ → ℕ → List Event
entry_at_once machine j t = Reported (Arrive j t) ∷ Moved (record { job = j; source = Out; target = At machine; at = t }) ∷ []

-- these events are that, behind the end of the machine's cleaning where it is being cleaned
abbrev pub IsEntryAtOnce : ℕ → ℕ → ℕ → List Event → Type 0
IsEntryAtOnce machine j t entry = (entry ≡ entry_at_once machine j t) ⊎ (entry ≡ Reported (Clean machine t) ∷ entry_at_once machine j t)

-- by these moments the job more leaves the machine no sooner than it holds it, and the entry that was next waits for that and for the cleaning
pub record WaitForHold (p : PlannedShop) (c : Cell) (machine to : ℕ) (kept : Node → ℕ) : Type 0 where
  pub over : to ≤ kept (node (jobs p) 1)
  pub next : (j k : ℕ) → Stands p machine (length (entries c machine)) j k → kept (node (jobs p) 1) + clean p machine ≤ kept (node j k)
