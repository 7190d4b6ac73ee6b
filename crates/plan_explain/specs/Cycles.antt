-- The lines of a cycle's arcs.
use Rattle.std.specs.Prelude.{ℕ, List, [], ◌∷◌, ◌++◌, codes}
use Rattle.shop_base.specs.{declared.node.Node.Node, NodeText.node_text, Plan.PlannedShop}
use Rattle.people_names.specs.NameBooks.{NameBook}
use Rattle.plan_explain.specs.Arcs.{words_and, arc_words, arc_kind}

module _ (names : NameBook) (p : PlannedShop) where
  -- `A B WORDS`, of the arc from u to v
  abbrev pub arc_line : Node → Node → List ℕ
  arc_line u v = words_and (node_text u ∷ codes " " ∷ node_text v ∷ codes " " ∷ []) (words_and (arc_words names (arc_kind p u v)) (codes "\n"))

  -- the lines of the arcs from u along the list, and from its end to v
  abbrev pub arc_lines : Node → List Node → Node → List ℕ
  arc_lines u [] v = arc_line u v
  arc_lines u (w ∷ ws) v = arc_line u w ++ arc_lines w ws v

  -- a line for each node of a cycle, of the arc from it to the next one; of the last to the first
  abbrev pub cycle_lines : List Node → List ℕ
  cycle_lines [] = []
  cycle_lines (u ∷ us) = arc_lines u us u
