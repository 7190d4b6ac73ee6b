use Rattle.std.proofs.Common.{[], ◌∷◌, Some, refl, arith, inl, inr, take, drop}
use Rattle.std.proofs.lemmas.Bool.Decides.{not_from_Decides}
use Rattle.shop_base.specs.Cell.{start}
use Rattle.shop_base.specs.Ends.{IsInTime}
use Rattle.shop_base.specs.Examples.{in_series, with_cleaning, finish, tidy, late_reports, late_log, late_after, late_end, cleaned_after}
use Rattle.shop_base.proofs.CellTests.{events_decides}
use Rattle.shop_base.proofs.RunTests.{turns_lead, all_punctual_decides, ended_decides, punctual_decides}
use Rattle.shop_base.proofs.worked_runs.a_late_report_is_still_a_run.Goals as goal

first_over : IsInTime in_series late_end 0 → ⊥
first_over (inl out) = omega (arith, out.by)
first_over (inr in_range) = omega (arith, in_range)

second_over : IsInTime in_series late_end 1 → ⊥
second_over (inl out) = omega (arith, out.by)
second_over (inr in_range) = omega (arith, in_range)

pub returns-clause-run : goal.returns-clause-run
returns-clause-run c = (events_decides in_series (start in_series) late_log).0 refl

pub returns-clause-controlled : goal.returns-clause-controlled
returns-clause-controlled c = turns_lead in_series (start in_series) late_reports (Some (0 ∷ []) ∷ Some [] ∷ Some (0 ∷ []) ∷ Some (0 ∷ 1 ∷ []) ∷ Some (1 ∷ []) ∷ Some (1 ∷ []) ∷ []) refl

pub returns-clause-punctual_before : goal.returns-clause-punctual_before
returns-clause-punctual_before c = (all_punctual_decides in_series (start in_series) (take 3 late_log)).0 refl

pub returns-clause-late : goal.returns-clause-late
returns-clause-late c = not_from_Decides _ (punctual_decides in_series (late_after 3) (finish 4 0 0)) refl

pub returns-clause-punctual_after : goal.returns-clause-punctual_after
returns-clause-punctual_after c = (all_punctual_decides in_series (late_after 4) (drop 4 late_log)).0 refl

pub returns-clause-ended : goal.returns-clause-ended
returns-clause-ended c = (ended_decides in_series late_end).0 refl

pub returns-clause-first_over_budget : goal.returns-clause-first_over_budget
returns-clause-first_over_budget c = first_over

pub returns-clause-second_over_budget : goal.returns-clause-second_over_budget
returns-clause-second_over_budget c = second_over

pub returns-clause-late_by_another : goal.returns-clause-late_by_another
returns-clause-late_by_another c = not_from_Decides _ (punctual_decides with_cleaning (cleaned_after 11) (tidy 13 1)) refl
