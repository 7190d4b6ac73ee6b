-- The visits and the cleanings ahead, by the moment of each node, and its deadline where there is one.
use Rattle.std.specs.Prelude.{◌≡◌, ℕ, false, ◌+◌, ◌<◌, List, codes, Option, None, Some, MatchOption}
use Rattle.shop_base.specs.declared.node.Node.{Node}
use Rattle.shop_base.specs.{Plan.PlannedShop, Plan.machine_of, Plan.nominal, Plan.clean, Graph.node}
use Rattle.people_names.specs.NameBooks.{NameBook}
use Rattle.plan_explain.specs.Labels.{label_of}
use Rattle.alt_graph.specs.Sources.{IsBlockingArc, IsTarget}
use Rattle.plan_explain.specs.Parts.{AreBoth, AreTextsFrom}
use Rattle.plan_schedule.specs.{declared.lines.ScheduledVisit.ScheduledVisit, declared.lines.Cleaning.Cleaning}
use Rattle.plan_schedule.specs.Lines.{visit_line, cleaning_line}

-- the deadline of a node, if there is a node
abbrev pub due_if : (Node → Option ℕ) → Option Node → Option ℕ
due_if due None = None
due_if due (Some v) = due v

-- the machine of job j's step k has no cleaning time
abbrev pub HasNoCleaning : PlannedShop → ℕ → ℕ → Type 0
HasNoCleaning p j k = clean p (machine_of p j k) ≡ 0

-- the deadline of the cleaning that begins as a job leaves a machine by its node u: that of the node by which the next job in the order enters the machine, to which the blocking arc leads; none where no job waits for the cleaning
abbrev pub IsCleaningDue : PlannedShop → (Node → Option ℕ) → Node → Option ℕ → Type 0
IsCleaningDue p due u deadline = (next : Option Node) × IsTarget (IsBlockingArc p) u next × (deadline ≡ due_if due next)

module _ (p : PlannedShop) (at : Node → ℕ) (due : Node → Option ℕ) where
  -- the visit of job j by its step k: it begins as the job enters, takes its nominal time, and has the deadline of the job's next move
  abbrev pub visit_of : ℕ → ℕ → ScheduledVisit
  visit_of j k = record {
    label = label_of p.shop j k;
    machine = machine_of p j k;
    from = at (node j k);
    to = at (node j k) + nominal p j k;
    due = due (node j (k + 1));
    done = false;
    leaves = at (node j (k + 1));
  }

  -- the cleaning behind that visit: it begins as the job leaves, and takes the cleaning time
  pub record IsCleaning (j k : ℕ) (cleaning : Cleaning) : Type 0 where
    pub cleaned : 0 < clean p (machine_of p j k)
    pub place : cleaning.machine ≡ machine_of p j k
    pub begins : cleaning.from ≡ at (node j (k + 1))
    pub ends : cleaning.to ≡ at (node j (k + 1)) + clean p (machine_of p j k)
    pub deadline : IsCleaningDue p due (node j (k + 1)) cleaning.due

  -- it is there just where the machine has a cleaning time
  abbrev pub IsCleaningBehind : ℕ → ℕ → Option Cleaning → Type 0
  IsCleaningBehind j k cleaning = MatchOption cleaning (HasNoCleaning p j k) (IsCleaning j k)

module _ (names : NameBook) (p : PlannedShop) (at : Node → ℕ) (due : Node → Option ℕ) where
  -- the line of the cleaning behind the visit of job j by its step k, if there is one
  abbrev pub IsCleaningText : ℕ → ℕ → List ℕ → Type 0
  IsCleaningText j k text = (cleaning : Option Cleaning) × IsCleaningBehind p at due j k cleaning × (text ≡ cleaning_line names (codes " cleaned from ") cleaning)

  -- the lines of a visit by its job's step k, where these words say when it begins: its own, and that of the cleaning behind it
  abbrev pub IsVisitText : List ℕ → ScheduledVisit → ℕ → List ℕ → Type 0
  IsVisitText begins visit k = AreBoth (λ line. line ≡ visit_line names begins visit) (IsCleaningText visit.label.job k)

  -- the lines of job j's visits from one place of its route up to another
  abbrev pub AreVisitsFrom : ℕ → ℕ → ℕ → List ℕ → Type 0
  AreVisitsFrom j = AreTextsFrom (λ k. IsVisitText (codes " from ") (visit_of p at due j k) k)
