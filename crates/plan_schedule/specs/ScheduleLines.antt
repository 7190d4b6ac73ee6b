-- Which lines a schedule has, from a cell c and a present moment t on.
use Rattle.std.specs.Prelude.{◌≡◌, ℕ, ◌+◌, ◌<◌, ◌≤◌, ◌⊎◌, max, if◌then◌else◌, List, codes, length, Option, None, Some, MatchOption}
use Rattle.shop_base.specs.declared.node.Node.{Node}
use Rattle.shop_base.specs.Plan.{PlannedShop, jobs, machines, steps, order, machine_of, nominal, release, clean, Stands}
use Rattle.shop_base.specs.{Cell.Cell, Cell.made, Cell.ready, Cell.since, Cell.entries, Cell.cleaning, Cell.IsGone, Graph.node}
use Rattle.people_names.specs.NameBooks.{NameBook}
use Rattle.plan_explain.specs.Labels.{label_of}
use Rattle.plan_explain.specs.Parts.{AreBoth, AreTextsFrom}
use Rattle.plan_schedule.specs.Lines.{arrival_line, cleaning_line, left_line, arrived_line}
use Rattle.plan_schedule.specs.{Schedules.IsVisitText, Schedules.AreVisitsFrom, declared.lines.ScheduledVisit.ScheduledVisit}
use Rattle.plan_schedule.specs.declared.lines.Cleaning.{Cleaning}

module _ (p : PlannedShop) (c : Cell) (due : Node → Option ℕ) where
  -- the deadline of the entry of machine m by the next job in its order; none where no job is next
  abbrev pub IsNextDue : ℕ → Option ℕ → Type 0
  IsNextDue m deadline =
      ((length (order p m) ≤ length (entries c m)) × (deadline ≡ None)) ⊎ ((j : ℕ) × (k : ℕ) × Stands p m (length (entries c m)) j k × (deadline ≡ due (node j k)))

module _ (p : PlannedShop) (c : Cell) (t : ℕ) where
  -- when the operation that job j is in by its step k ends: when it is due, or at the present moment t where it is overdue
  abbrev pub operation_end : ℕ → ℕ → ℕ
  operation_end j k = max (since c j + nominal p j k) t

  -- when the cleaning of machine m that goes on since a moment ends: when it is due, or at the present moment where it is overdue
  abbrev pub cleaned_by : ℕ → ℕ → ℕ
  cleaned_by m from = max (from + clean p m) t

  -- the visit that job j is in, by its step k
  abbrev pub entered_of : (Node → ℕ) → (Node → Option ℕ) → ℕ → ℕ → ScheduledVisit
  entered_of at due j k = record {
    label = label_of p.shop j k;
    machine = machine_of p j k;
    from = since c j;
    to = operation_end j k;
    due = due (node j (k + 1));
    done = ready c j;
    leaves = at (node j (k + 1));
  }

  -- the cleaning of machine m that goes on
  pub record IsCleaningNow (due : Node → Option ℕ) (m : ℕ) (here : Cleaning) : Type 0 where
    pub begun : cleaning c m ≡ Some here.from
    pub place : here.machine ≡ m
    pub ends : here.to ≡ cleaned_by m here.from
    pub deadline : IsNextDue p c due m here.due

  -- it is there just where the machine is being cleaned
  abbrev pub IsCleaningOn : (Node → Option ℕ) → ℕ → Option Cleaning → Type 0
  IsCleaningOn due m here = MatchOption here (cleaning c m ≡ None) (IsCleaningNow due m)

module _ (names : NameBook) (p : PlannedShop) (c : Cell) (t : ℕ) where
  -- the line of job j, which hasn't entered: that it has arrived, or when it does, which is the present moment t where its release is past
  abbrev pub arrival_after : (Node → Option ℕ) → ℕ → List ℕ
  arrival_after due j = if ready c j then arrived_line names j else arrival_line names j (max (release p j) t) (due (node j 0))

  -- the line of machine m: that of its cleaning, if it is being cleaned
  abbrev pub IsCleanedText : (Node → Option ℕ) → ℕ → List ℕ → Type 0
  IsCleanedText due m text = (here : Option Cleaning) × IsCleaningOn p c t due m here × (text ≡ cleaning_line names (codes " cleaned since ") here)

module _ (names : NameBook) (p : PlannedShop) (c : Cell) (t : ℕ) (at : Node → ℕ) (due : Node → Option ℕ) where
  -- of a job that is gone when it left
  abbrev pub IsLeftText : ℕ → List ℕ → Type 0
  IsLeftText j text = IsGone p c j × (text ≡ left_line names j (since c j))

  -- of a job that hasn't entered its arrival, and its visits
  abbrev pub IsOutsideText : ℕ → List ℕ → Type 0
  IsOutsideText j text = (made c j ≡ 0) × AreBoth (λ line. line ≡ arrival_after names p c t due j) (AreVisitsFrom names p at due j 0 (steps p j)) text

  -- of a job on a machine, by its step k, the visit that it is in, and those ahead
  abbrev pub IsInsideText : ℕ → List ℕ → Type 0
  IsInsideText j text = (k : ℕ) × (k < steps p j) × (made c j ≡ k + 1)
      × AreBoth (IsVisitText names p at due (codes " since ") (entered_of p c t at due j k) k) (AreVisitsFrom names p at due j (k + 1) (steps p j)) text

  -- the lines of job j
  abbrev pub IsJobText : ℕ → List ℕ → Type 0
  IsJobText j text = IsLeftText j text ⊎ (IsOutsideText j text ⊎ IsInsideText j text)

  -- the lines of all jobs, ascending, and then those of the cleanings that go on, of machines ascending
  abbrev pub AreScheduleLines : List ℕ → Type 0
  AreScheduleLines = AreBoth (AreTextsFrom IsJobText 0 (jobs p)) (AreTextsFrom (IsCleanedText names p c t due) 0 (machines p))
