-- The lines of bounds.
use native.Mathlib.Numerals.{unary_clauses}
use Rattle.std.proofs.Common.{◌≡◌, ℕ, ◌+◌, List, ◌++◌, get_or, refl, sym, ap, ◌∙◌}
use Rattle.std.proofs.lemmas.List.{append_assoc}
use Rattle.people_names.specs.NameBooks.{NameBook}
use Rattle.plan_bounds.specs.Bounds.{ShopTimes, job_bound}
use Rattle.command_answers.specs.BoundLines.{bound_line, bound_lines_below}

module _ (names : NameBook) (t : ShopTimes) (budgets : List ℕ) where
  -- one more line
  lines_below_more : (n : ℕ) → bound_lines_below names t budgets (n + 1) ≡ bound_lines_below names t budgets n ++ bound_line names n (job_bound t n) (get_or budgets n 0)
  lines_below_more n = simp unary_clauses refl

  -- one more job's line is written
  pub lines_more : (old text new : List ℕ) (n bound due : ℕ) → text ≡ old ++ bound_lines_below names t budgets n → bound ≡ job_bound t n → due ≡ get_or budgets n 0
      → new ≡ text ++ bound_line names n bound due → new ≡ old ++ bound_lines_below names t budgets (n + 1)
  lines_more old text new n bound due written is_bound is_budget added =
      let line = bound_line names n (job_bound t n) (get_or budgets n 0) in
      let same : bound_line names n bound due ≡ line = ap (λ b. bound_line names n b due) is_bound ∙ ap (λ b. bound_line names n (job_bound t n) b) is_budget in
      added ∙ ap (λ l. text ++ l) same ∙ ap (λ l. l ++ line) written ∙ append_assoc old (bound_lines_below names t budgets n) line ∙ ap (λ l. old ++ l) (sym (lines_below_more n))
