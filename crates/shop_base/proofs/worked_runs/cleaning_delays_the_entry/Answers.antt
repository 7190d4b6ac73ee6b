use Rattle.std.proofs.Common.{[], ◌∷◌, Some, refl, subst, arith}
use Rattle.shop_base.specs.Graph.{node, begins}
use Rattle.shop_base.proofs.GraphTests.{path_along, moments_fit, ranks_rise, budgets_decide}
use Rattle.std.proofs.lemmas.Bool.Decides.{not_from_Decides}
use Rattle.shop_base.specs.Cell.{start}
use Rattle.shop_base.specs.Activity.{Cleaning, GoesOn}
use Rattle.shop_base.specs.declared.move_order.Spot.TheVariants.{Out, At}
use Rattle.shop_base.specs.Examples.{with_cleaning, series_ranks, cleaned_moments, go, cleaned_reports, cleaned_log, cleaned_after, cleaned_end}
use Rattle.shop_base.proofs.CellTests.{events_decides, obey_decides, keeps_decides, going_decides, free_decides, due-is}
use Rattle.shop_base.proofs.RunTests.{turns_lead, all_exact_decides, rest_decides, ended_decides, gone_decides}
use Rattle.shop_base.proofs.ShapeTests.{shaped_decides}
use Rattle.shop_base.proofs.worked_runs.cleaning_delays_the_entry.Goals as goal

pub returns-clause-shaped : goal.returns-clause-shaped
returns-clause-shaped c = (shaped_decides with_cleaning).0 refl

pub returns-clause-run : goal.returns-clause-run
returns-clause-run c = (events_decides with_cleaning (start with_cleaning) cleaned_log).0 refl

pub returns-clause-controlled : goal.returns-clause-controlled
returns-clause-controlled c = turns_lead with_cleaning (start with_cleaning) cleaned_reports (Some (0 ∷ []) ∷ Some [] ∷ Some (0 ∷ []) ∷ Some (0 ∷ []) ∷ Some (1 ∷ []) ∷ Some (1 ∷ []) ∷ Some (1 ∷ []) ∷ Some [] ∷ []) refl

pub returns-clause-exact : goal.returns-clause-exact
returns-clause-exact c = (all_exact_decides with_cleaning (start with_cleaning) cleaned_log).0 refl

pub returns-clause-schedule : goal.returns-clause-schedule
returns-clause-schedule c = record {
  shaped = (shaped_decides with_cleaning).0 refl;
  ranks = ranks_rise with_cleaning series_ranks refl;
  moments = moments_fit with_cleaning cleaned_moments refl refl;
}

pub returns-clause-budgets : goal.returns-clause-budgets
returns-clause-budgets c = (budgets_decide with_cleaning cleaned_moments).0 refl

pub returns-clause-first_path : goal.returns-clause-first_path
returns-clause-first_path c = path_along with_cleaning (node 0 0 ∷ []) 0 (node 0 0) (node 0 1 ∷ node 0 2 ∷ []) (begins 0 (omega arith)) refl

pub returns-clause-second_path : goal.returns-clause-second_path
returns-clause-second_path c = path_along with_cleaning (node 0 0 ∷ []) 0 (node 0 0) (node 0 1 ∷ node 0 2 ∷ node 1 0 ∷ node 1 1 ∷ node 1 2 ∷ []) (begins 0 (omega arith)) refl

pub returns-clause-cleaning : goal.returns-clause-cleaning
returns-clause-cleaning c = (going_decides with_cleaning (cleaned_after 7) (Cleaning 1)).0 refl

pub returns-clause-no_other_cleaning : goal.returns-clause-no_other_cleaning
returns-clause-no_other_cleaning c = λ due going. not_from_Decides _ (going_decides with_cleaning (cleaned_after 7) (Cleaning 0)) refl (subst (GoesOn with_cleaning (cleaned_after 7) (Cleaning 0)) (due-is with_cleaning (cleaned_after 7) (Cleaning 0) due going) going)

pub returns-clause-free : goal.returns-clause-free
returns-clause-free c = (free_decides with_cleaning (cleaned_after 7) 1).0 refl

pub returns-clause-second_keeps : goal.returns-clause-second_keeps
returns-clause-second_keeps c = (keeps_decides with_cleaning (cleaned_after 7) 1).0 refl

pub returns-clause-no_entry : goal.returns-clause-no_entry
returns-clause-no_entry c = not_from_Decides _ (obey_decides with_cleaning (cleaned_after 7) (go 6 1 Out (At 1))) refl

pub returns-clause-no_moment : goal.returns-clause-no_moment
returns-clause-no_moment c = λ t can. (rest_decides with_cleaning (cleaned_after 7)).0 refl 1 t can ((keeps_decides with_cleaning (cleaned_after 7) 1).0 refl)

pub returns-clause-entry : goal.returns-clause-entry
returns-clause-entry c = (obey_decides with_cleaning (cleaned_after 8) (go 7 1 Out (At 1))).0 refl

pub returns-clause-first_gone : goal.returns-clause-first_gone
returns-clause-first_gone c = (gone_decides with_cleaning (cleaned_after 13) 0).0 refl

pub returns-clause-second_gone : goal.returns-clause-second_gone
returns-clause-second_gone c = (gone_decides with_cleaning (cleaned_after 13) 1).0 refl

pub returns-clause-unfinished : goal.returns-clause-unfinished
returns-clause-unfinished c = not_from_Decides _ (ended_decides with_cleaning (cleaned_after 13)) refl

pub returns-clause-ended : goal.returns-clause-ended
returns-clause-ended c = (ended_decides with_cleaning cleaned_end).0 refl
