-- What the lines of explanations say.
use Rattle.std.specs.Prelude.{◌≡◌, ℕ, ◌+◌, ◌<◌, ◌≤◌, ◌⊎◌, List, [], ◌∷◌, ◌++◌}
use Rattle.shop_base.specs.declared.node.Node.{Node}
use Rattle.shop_base.specs.Plan.{PlannedShop, steps, machine_of, nominal, clean, Stands}
use Rattle.shop_base.specs.{Cell.Cell, Sound.IsSound, Graph.node, Graph.HasArc, Graph.IsSimpleCycle}
use Rattle.alt_graph.specs.{Evidence.EndsIn, Sources.IsJobArc, Sources.IsBlockingArc, Sources.IsLongestArc}
use Rattle.people_names.specs.NameBooks.{NameBook}
use Rattle.plan_explain.specs.Labels.{label_of}
use Rattle.plan_verifier.specs.declared.verdict.Judged.{Judged}
use Rattle.plan_verifier.specs.{Held.IsBoundOf, declared.node_bound.NodeBound.NodeBound}
use Rattle.plan_explain.specs.declared.arcs.ArcKind.TheVariants.{Job, Blocking}
use Rattle.plan_explain.specs.{Arcs.time_of, Arcs.arc_kind, Cycles.arc_line, Cycles.cycle_lines, FirstLines.IsFirstLine, Holds.node_bound_line}
use Rattle.plan_explain.specs.Chains.{reached_line, reached_lines, IsLongestAheadTo, AreChainLines}

-- each arc of the plan is printed as it is, the longer one where two join the same nodes, of two of one length the job's own; and takes the time that is printed
pub record AreExactArcs (p : PlannedShop) : Type 0 where
  pub job : (j k : ℕ) → k < steps p j → ((c : ℕ) → IsBlockingArc p (node j k) (node j (k + 1)) c → c ≤ nominal p j k)
      → arc_kind p (node j k) (node j (k + 1)) ≡ Job (label_of p.shop j k) (machine_of p j k) (nominal p j k)
  pub blocking : (m a i k j l : ℕ) → Stands p m a i k → Stands p m (a + 1) j l → ((n : ℕ) → IsJobArc p (node i (k + 1)) (node j l) n → n < clean p m)
      → arc_kind p (node i (k + 1)) (node j l) ≡ Blocking m (label_of p.shop i k) (label_of p.shop j l) (clean p m)
  pub time : (u v : Node) → HasArc p u v → IsLongestArc p u v (time_of (arc_kind p u v))

-- of every plan
abbrev pub ArcsAreExact : Type 0
ArcsAreExact = (p : PlannedShop) → AreExactArcs p

-- the line of a node behind a longest path gives the length of the path up to it, which is that of the path before and of the longest arc between
abbrev pub EachLineIsItsPath : Type 0
EachLineIsItsPath = (names : NameBook) (p : PlannedShop) (c : Cell) (t : ℕ) (path nodes : List Node) (u v : Node) (n d : ℕ) (lines : List ℕ)
    → IsSound p c → IsLongestAheadTo p c t path u n → IsLongestArc p u v d → AreChainLines names p c t (path ++ v ∷ nodes) lines
    → (front : List ℕ) × AreChainLines names p c t path front × (lines ≡ front ++ (reached_line names (n + d) v (arc_kind p u v) ++ reached_lines names p (n + d) v nodes))

-- what holds up the node is due at moment n, and this line says so
abbrev pub IsBoundLine : NameBook → PlannedShop → Cell → ℕ → Node → ℕ → List ℕ → Type 0
IsBoundLine names p c t v n line = (bound : NodeBound) × IsBoundOf p c t v bound × (bound.moment ≡ n) × (line ≡ node_bound_line names p.shop v bound)

-- the last line of a path to v of length n: of the arc to v from the node before it, or, where there is none, of what holds v up
abbrev pub IsLastLine : NameBook → PlannedShop → Cell → ℕ → List Node → Node → ℕ → List ℕ → Type 0
IsLastLine names p c t nodes v n line =
    ((front : List Node) × (u : Node) × (nodes ≡ front ++ u ∷ v ∷ []) × (line ≡ reached_line names n v (arc_kind p u v))) ⊎ ((nodes ≡ v ∷ []) × IsBoundLine names p c t v n line)

-- the last line of a longest path's lines is of its last node, and gives its length
abbrev pub TheLastLineIsTheLength : Type 0
TheLastLineIsTheLength = (names : NameBook) (p : PlannedShop) (c : Cell) (t : ℕ) (nodes : List Node) (v : Node) (n : ℕ) (lines : List ℕ)
    → IsSound p c → IsLongestAheadTo p c t nodes v n → AreChainLines names p c t nodes lines → (front last : List ℕ) × (lines ≡ front ++ last) × IsLastLine names p c t nodes v n last

-- the last line of a cycle's lines is of the arc from its last node to its first
abbrev pub TheLinesOfACycleClose : Type 0
TheLinesOfACycleClose = (names : NameBook) (p : PlannedShop) (first : Node) (rest : List Node) → IsSimpleCycle p (first ∷ rest)
    → (lines : List ℕ) × (last : Node) × (cycle_lines names p (first ∷ rest) ≡ lines ++ arc_line names p last first) × EndsIn (first ∷ rest) last × HasArc p last first

-- a verdict has one first line: so what `check` says of a verdict and what `explain` says of it begin with the same line
abbrev pub AVerdictHasOneFirstLine : Type 0
AVerdictHasOneFirstLine = (p : PlannedShop) (c : Cell) (t : ℕ) (verdict : Judged) (one other : List ℕ) → IsFirstLine p c t verdict one → IsFirstLine p c t verdict other → one ≡ other
