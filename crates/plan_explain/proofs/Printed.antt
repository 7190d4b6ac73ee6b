-- Lines that are printed one after another.
use Rattle.std.proofs.Common.{◌≡◌, ℕ, ◌+◌, ◌^◌, ◌<◌, ◌≤◌, List, ◌∷◌, ◌++◌, length, get_or, drop, add-one, drop-cons, sym, ap, subst, ◌∙◌, arith}
use Rattle.std.proofs.{Math.ListN.drop_of_length-le, lemmas.List.{append-nil, append_assoc}}
use Rattle.shop_base.specs.{declared.node.Node.Node, Plan.PlannedShop, Graph.{HasArc, ArcsLead, IsSimpleCycle}}
use Rattle.people_names.specs.NameBooks.{NameBook}
use Rattle.plan_explain.specs.{declared.arcs.ArcKind.ArcKind, Arcs.{time_of, arc_kind}, Cycles.{arc_line, arc_lines}}
use Rattle.plan_explain.specs.Chains.{AreAlong, reached_at, length_from, reached_line, reached_lines}
use Rattle.plan_explain.proofs.ArcFacts.{length_grows}

-- what is left of a list at a place of it
rest_at : (nodes : List Node) (i : ℕ) (d : Node) → i < length nodes → drop i nodes ≡ get_or nodes i d ∷ drop (i + 1) nodes
rest_at nodes i d below = drop-cons nodes i d below ∙ ap (λ (n : ℕ). get_or nodes i d ∷ drop n nodes) (sym (add-one i))

module _ (p : PlannedShop) (u : Node) (along : List Node) (i : ℕ) (d : Node) (below : i < length along) where
  abbrev next : Node
  next = get_or along i d

  abbrev rest : List Node
  rest = drop (i + 1) along

  pub arcs_next : (v : Node) → ArcsLead p u (drop i along) v → HasArc p u next × ArcsLead p next rest v
  arcs_next v arcs = subst (λ (l : List Node). ArcsLead p u l v) (rest_at along i d below) arcs

  -- one more arc's line is written
  pub arc_printed : (names : NameBook) (v : Node) (now new all : List ℕ) → now ++ arc_lines names p u (drop i along) v ≡ all → new ≡ now ++ arc_line names p u next
      → new ++ arc_lines names p next rest v ≡ all
  arc_printed names v now new all so_far pushed =
      ap (λ l. l ++ arc_lines names p next rest v) pushed ∙ append_assoc now (arc_line names p u next) (arc_lines names p next rest v)
      ∙ ap (λ (l : List Node). now ++ arc_lines names p u l v) (sym (rest_at along i d below)) ∙ so_far

  pub along_next : AreAlong p u (drop i along) → HasArc p u next × AreAlong p next rest
  along_next arcs = subst (λ (l : List Node). AreAlong p u l) (rest_at along i d below) arcs

  module _ (t n : ℕ) (arc : ArcKind) (is : arc ≡ arc_kind p u next) (time : n ≡ time_of arc) where
    same_time : n ≡ time_of (arc_kind p u next)
    same_time = time ∙ ap time_of is

    -- one more node's line is written
    pub reached_printed : (names : NameBook) (now new all : List ℕ) → now ++ reached_lines names p t u (drop i along) ≡ all → new ≡ now ++ reached_line names (t + n) next arc
        → new ++ reached_lines names p (t + n) next rest ≡ all
    reached_printed names now new all so_far pushed =
        let line = reached_line names (reached_at p t u next) next (arc_kind p u next) in
        let lines = reached_lines names p (reached_at p t u next) next rest in
        ap (λ k. new ++ reached_lines names p (t + k) next rest) same_time
        ∙ ap (λ l. l ++ lines) (pushed ∙ ap (λ k. now ++ reached_line names (t + k) next arc) same_time ∙ ap (λ a. now ++ reached_line names (reached_at p t u next) next a) is)
        ∙ append_assoc now line lines
        ∙ ap (λ (l : List Node). now ++ reached_lines names p t u l) (sym (rest_at along i d below)) ∙ so_far

    pub length_next : (size : ℕ) → length_from p t u (drop i along) ≡ size → length_from p (t + n) next rest ≡ size
    length_next size so_far =
        ap (λ k. length_from p (t + k) next rest) same_time ∙ ap (λ (l : List Node). length_from p t u l) (sym (rest_at along i d below)) ∙ so_far

    -- no moment on the way is past the last one
    pub moment_small : (size : ℕ) → length_from p t u (drop i along) ≡ size → size < 2 ^ 64 → t + n < 2 ^ 64
    moment_small size so_far small = omega (arith, length_next size so_far, small, length_grows p (t + n) next rest)

-- nothing is left
module _ (p : PlannedShop) (u : Node) (along : List Node) (i : ℕ) (past : length along ≤ i) where
  pub reached_end : (names : NameBook) (t : ℕ) (now all : List ℕ) → now ++ reached_lines names p t u (drop i along) ≡ all → now ≡ all
  reached_end names t now all so_far = sym (append-nil now) ∙ ap (λ (l : List Node). now ++ reached_lines names p t u l) (sym (drop_of_length-le along past)) ∙ so_far

  pub arcs_end : (v : Node) → ArcsLead p u (drop i along) v → HasArc p u v
  arcs_end v arcs = subst (λ (l : List Node). ArcsLead p u l v) (drop_of_length-le along past) arcs

  pub lines_end : (names : NameBook) (v : Node) (now all : List ℕ) → now ++ arc_lines names p u (drop i along) v ≡ all → now ++ arc_line names p u v ≡ all
  lines_end names v now all so_far = ap (λ (l : List Node). now ++ arc_lines names p u l v) (sym (drop_of_length-le along past)) ∙ so_far

-- the arcs of a cycle
pub cycle_arcs : (p : PlannedShop) (nodes : List Node) (first : Node) (rest : List Node) → nodes ≡ first ∷ rest → IsSimpleCycle p nodes → ArcsLead p first rest first
cycle_arcs p nodes first rest are cycle = let all : IsSimpleCycle p (first ∷ rest) = subst (IsSimpleCycle p) are cycle in all.1
