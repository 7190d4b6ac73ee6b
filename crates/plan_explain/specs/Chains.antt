-- The lines of a chain ahead.
use Rattle.std.specs.Prelude.{◌≡◌, ℕ, ◌+◌, ◌^◌, ◌<◌, ◌≤◌, List, [], ◌∷◌, ◌++◌, codes}
use Rattle.shop_base.specs.{declared.node.Node.Node, NodeText.node_text, Plan.PlannedShop, Cell.Cell, Graph.HasArc, Ahead.PathAhead}
use Rattle.people_names.specs.{NameBooks.NameBook, Words.moment_word}
use Rattle.plan_verifier.specs.{Held.BeginHeldUp, Held.IsBoundOf, declared.node_bound.NodeBound.NodeBound}
use Rattle.plan_explain.specs.{declared.arcs.ArcKind.ArcKind, Arcs.words_and, Arcs.time_of, Arcs.arc_words, Arcs.arc_kind, Holds.node_bound_line}

-- when v is reached over the arc from u, which is reached at moment t
abbrev pub reached_at : PlannedShop → ℕ → Node → Node → ℕ
reached_at p t u v = t + time_of (arc_kind p u v)

-- when the last of the nodes is reached along arcs from u, which is reached at moment t
abbrev pub length_from : PlannedShop → ℕ → Node → List Node → ℕ
length_from p t u [] = t
length_from p t u (v ∷ vs) = length_from p (reached_at p t u v) v vs

-- arcs lead from u along the nodes
abbrev pub AreAlong : PlannedShop → Node → List Node → Type 0
AreAlong p u [] = Unit {0}
AreAlong p u (v ∷ vs) = HasArc p u v × AreAlong p v vs

module _ (names : NameBook) where
  -- `T B WORDS`, of a node that is reached at moment t over the arc
  abbrev pub reached_line : ℕ → Node → ArcKind → List ℕ
  reached_line t v arc = words_and (moment_word names t ∷ codes " " ∷ node_text v ∷ codes " " ∷ []) (words_and (arc_words names arc) (codes "\n"))

  -- the lines of the nodes along arcs from u, which is reached at moment t
  abbrev pub reached_lines : PlannedShop → ℕ → Node → List Node → List ℕ
  reached_lines p t u [] = []
  reached_lines p t u (v ∷ vs) = reached_line (reached_at p t u v) v (arc_kind p u v) ++ reached_lines p (reached_at p t u v) v vs

module _ (p : PlannedShop) (c : Cell) (t : ℕ) where
  -- along these nodes leads a path ahead to v of length n, the longest one, from a node that is held up
  pub record IsLongestAheadTo (nodes : List Node) (v : Node) (n : ℕ) : Type 0 where
    pub path : PathAhead p c t nodes v n
    pub begins : BeginHeldUp p c nodes
    pub greatest : (w : Node) (k : ℕ) → PathAhead p c t nodes w k → k ≤ n

  -- they are such a path, whose length is a moment
  pub record IsLongest (nodes : List Node) : Type 0 where
    pub last : Node
    pub size : ℕ
    pub is : IsLongestAheadTo nodes last size
    pub small : size < 2 ^ 64

  -- there are no nodes, or they are such a path
  abbrev pub IsChainOrNone : List Node → Type 0
  IsChainOrNone [] = Unit {0}
  IsChainOrNone (u ∷ us) = IsLongest (u ∷ us)

-- the lines of a chain: what its first node waits for, and each further node, with the length of the path up to it
abbrev pub AreChainLines : NameBook → PlannedShop → Cell → ℕ → List Node → List ℕ → Type 0
AreChainLines names p c t [] lines = lines ≡ []
AreChainLines names p c t (u ∷ us) lines = (bound : NodeBound) × IsBoundOf p c t u bound × (lines ≡ node_bound_line names p.shop u bound ++ reached_lines names p bound.moment u us)
