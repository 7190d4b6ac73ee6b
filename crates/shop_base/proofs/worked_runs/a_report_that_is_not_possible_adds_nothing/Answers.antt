use Rattle.std.proofs.Common.{[], ◌∷◌, Some, None, refl}
use Rattle.std.proofs.lemmas.Bool.Decides.{not_from_Decides}
use Rattle.shop_base.specs.Cell.{start}
use Rattle.shop_base.specs.Examples.{with_cleaning, arrive, finish, tidy, refused_reports, refused_after, refused_end}
use Rattle.shop_base.proofs.CellTests.{report_decides}
use Rattle.shop_base.proofs.RunTests.{turns_lead, ended_decides, punctual_decides}
use Rattle.shop_base.proofs.worked_runs.a_report_that_is_not_possible_adds_nothing.Goals as goal

pub returns-clause-controlled : goal.returns-clause-controlled
returns-clause-controlled c = turns_lead with_cleaning (start with_cleaning) refused_reports (Some (0 ∷ []) ∷ Some [] ∷ Some (0 ∷ []) ∷ Some (0 ∷ []) ∷ None ∷ None ∷ None ∷ Some (1 ∷ []) ∷ []) refl

pub returns-clause-not_cleaned : goal.returns-clause-not_cleaned
returns-clause-not_cleaned c = not_from_Decides _ (report_decides with_cleaning (refused_after 7) (tidy 5 0)) refl

pub returns-clause-no_machine : goal.returns-clause-no_machine
returns-clause-no_machine c = not_from_Decides _ (report_decides with_cleaning (refused_after 7) (tidy 5 2)) refl

pub returns-clause-past : goal.returns-clause-past
returns-clause-past c = not_from_Decides _ (report_decides with_cleaning (refused_after 7) (tidy 4 1)) refl

pub returns-clause-inside : goal.returns-clause-inside
returns-clause-inside c = not_from_Decides _ (report_decides with_cleaning (refused_after 3) (arrive 3 0)) refl

pub returns-clause-other_machine : goal.returns-clause-other_machine
returns-clause-other_machine c = not_from_Decides _ (report_decides with_cleaning (refused_after 3) (finish 3 0 1)) refl

pub returns-clause-gone_job : goal.returns-clause-gone_job
returns-clause-gone_job c = not_from_Decides _ (report_decides with_cleaning (refused_after 7) (finish 5 0 1)) refl

pub returns-clause-twice : goal.returns-clause-twice
returns-clause-twice c = not_from_Decides _ (report_decides with_cleaning (refused_after 7) (arrive 5 1)) refl

pub returns-clause-no_job : goal.returns-clause-no_job
returns-clause-no_job c = not_from_Decides _ (report_decides with_cleaning (refused_after 7) (arrive 5 2)) refl

pub returns-clause-latest : goal.returns-clause-latest
returns-clause-latest c = (report_decides with_cleaning (refused_after 7) (tidy 1_000_000_000_000 1)).0 refl

pub returns-clause-too_late : goal.returns-clause-too_late
returns-clause-too_late c = not_from_Decides _ (report_decides with_cleaning (refused_after 7) (tidy 1_000_000_000_001 1)) refl

pub returns-clause-late : goal.returns-clause-late
returns-clause-late c = not_from_Decides _ (punctual_decides with_cleaning (refused_after 7) (tidy 8 1)) refl

pub returns-clause-unfinished : goal.returns-clause-unfinished
returns-clause-unfinished c = not_from_Decides _ (ended_decides with_cleaning refused_end) refl
