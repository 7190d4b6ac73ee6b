-- The words of version 2 of a driven cell's lines.
use Rattle.std.proofs.Common.{◌≡◌, ℕ, Option, None, Some, append-nil, decimal, refl}
use Rattle.shop_base.specs.declared.move_order.Spot.TheVariants.{Out, At}
use Rattle.cell_tables.specs.declared.standing.Standing.{Standing}
use Rattle.cell_tables.specs.declared.standing.Standing.TheVariants.{Awaited, Outside, Worked, Done, Gone, Cleaned, Clean}
use Rattle.cell_tables.specs.Standings.{is_overdue}
use Rattle.people_names.specs.NameBooks.{no_names}
use Rattle.people_names.specs.Words.{visit_word}
use Rattle.event_lines.specs.Words.{words_before, written}
use Rattle.event_lines.specs.StandingLines.{shown_word, standing_words}
use Rattle.run_state.specs.StateLines.{standing_line, overdue_end}
use Rattle.run_state.specs.OneForm.{IsUnderWay}

-- a visit is written so
visit_same : (job : ℕ) (step : Option ℕ) → visit_word no_names job step ≡ written (shown_word job step)
visit_same job None = append-nil (decimal job)
visit_same job (Some k) = refl

pub same_words : (t : ℕ) (standing : Standing) → IsUnderWay standing → standing_line no_names t standing ≡ words_before (standing_words standing) (overdue_end (is_overdue standing t))
same_words t (Awaited job due) under_way = refl
same_words t (Outside job Out) under_way = absurd under_way
same_words t (Outside job (At m)) under_way = refl
same_words t (Worked visit machine since due) under_way = rw (visit_same visit.job visit.step) refl
same_words t (Done visit machine Out) under_way = absurd under_way
same_words t (Done visit machine (At m)) under_way = rw (visit_same visit.job visit.step) refl
same_words t (Gone job at) under_way = absurd under_way
same_words t (Cleaned machine visit since due) under_way = rw (visit_same visit.job visit.step) refl
same_words t (Clean machine) under_way = absurd under_way
