-- What a schedule is printed by: a plan and the cell of a run by it, the present moment, the earliest moments, and the deadlines where the rest is accepted.
use Rattle.std.specs.Prelude.{ℕ, ◌+◌, ◌*◌, ◌≤◌, Option, None, Some, IfSome, List}
use Rattle.shop_base.specs.declared.node.Node.{Node}
use Rattle.shop_base.specs.declared.limits.TheConstants.{MAX_MOMENT, MAX_JOBS, MAX_MACHINES, MAX_NOMINAL}
use Rattle.shop_base.specs.{Plan.PlannedShop, Cell.Cell, Graph.IsNode, Ahead.IsAhead}
use Rattle.alt_graph.specs.{Bounds.MAX_BOUND, Times.NodeTimes, Times.earliest_of, Times.AreRanks}
use Rattle.alt_graph.specs.Latest.{NodeMoments, HasMoment, moment_of}
use Rattle.people_names.specs.NameBooks.{NameBook}
use Rattle.plan_schedule.specs.{declared.lines.ScheduledVisit.ScheduledVisit, Schedules.IsVisitText, ScheduleLines.IsJobText, ScheduleLines.IsCleanedText}

-- the moments of the rest of a run, and its deadlines, if it has any
pub record PlanCalendar : Type 0 where
  pub plan : PlannedShop
  pub cell : Cell
  pub present : ℕ
  pub times : NodeTimes
  pub deadlines : Option NodeMoments

abbrev pub calendar_of : PlannedShop → Cell → ℕ → NodeTimes → Option NodeMoments → PlanCalendar
calendar_of p c t times deadlines = record { plan = p; cell = c; present = t; times = times; deadlines = deadlines }

-- what is seen of a value, if there is one
abbrev pub seen : {R T : Type 0} → Option R → (R → T) → Option T
seen None see = None
seen (Some value) see = Some (see value)

-- the deadline of a node, if there are deadlines
abbrev pub due_in : Option NodeMoments → Node → Option ℕ
due_in None v = None
due_in (Some deadlines) v = Some (moment_of deadlines v)

-- the earliest moment of a node of the calendar
abbrev pub at_of : PlanCalendar → Node → ℕ
at_of k = earliest_of k.times

-- the deadline of a node of the calendar
abbrev pub due_at : PlanCalendar → Node → Option ℕ
due_at k = due_in k.deadlines

-- there are no deadlines, or one for each node of the shop
abbrev pub HasDeadlines : PlannedShop → Option NodeMoments → Type 0
HasDeadlines p deadlines = IfSome deadlines (λ moments. (v : Node) → IsNode p v → HasMoment moments v)

-- no moment of any plan without a cycle is later, nor of the rest of any run
abbrev pub the_last_moment : ℕ
the_last_moment = MAX_BOUND + MAX_NOMINAL * (MAX_JOBS + MAX_JOBS * MAX_MACHINES)

-- there is a moment for each node, none ahead is later than that one, and a deadline for each, or for none
pub record IsCalendar (k : PlanCalendar) : Type 0 where
  pub ranks : AreRanks k.plan k.times
  pub dues : HasDeadlines k.plan k.deadlines
  pub present : k.present ≤ MAX_MOMENT
  pub soon : (v : Node) → IsNode k.plan v → IsAhead k.cell v → earliest_of k.times v ≤ the_last_moment

-- the lines of a visit, of a job and of the cleaning of a machine, by a calendar
module _ (names : NameBook) (k : PlanCalendar) where
  abbrev pub IsVisitTextBy : List ℕ → ScheduledVisit → ℕ → List ℕ → Type 0
  IsVisitTextBy = IsVisitText names k.plan (at_of k) (due_at k)

  abbrev pub IsJobTextBy : ℕ → List ℕ → Type 0
  IsJobTextBy = IsJobText names k.plan k.cell k.present (at_of k) (due_at k)

  abbrev pub IsCleanedTextBy : ℕ → List ℕ → Type 0
  IsCleanedTextBy = IsCleanedText names k.plan k.cell k.present (due_at k)
