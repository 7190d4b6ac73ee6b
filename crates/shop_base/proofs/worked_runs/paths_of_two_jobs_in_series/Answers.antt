use Rattle.std.proofs.Common.{[], ◌∷◌, refl, arith}
use Rattle.std.proofs.lemmas.Bool.Decides.{not_from_Decides}
use Rattle.shop_base.specs.Graph.{node, begins, Path, MomentsFit, RanksRise, leaving}
use Rattle.shop_base.specs.Examples.{series_moments, series_ranks, cleaned_moments, in_series, with_cleaning, crossed}
use Rattle.shop_base.proofs.Cycles.{ranks_exclude_cycle}
use Rattle.shop_base.proofs.GraphTests.{arc_decides, has_arc_decides, path_along, moments_fit, path_within, ranks_rise, budgets_decide}
use Rattle.shop_base.proofs.ShapeTests.{serial_decides}
use Rattle.shop_base.proofs.worked_runs.paths_of_two_jobs_in_series.Goals as goal

first_path : Path in_series (node 0 0 ∷ node 0 1 ∷ node 0 2 ∷ []) (leaving in_series 0) 5
first_path = path_along in_series (node 0 0 ∷ []) 0 (node 0 0) (node 0 1 ∷ node 0 2 ∷ []) (begins 0 (omega arith)) refl

second_path : Path in_series (node 0 0 ∷ node 0 1 ∷ node 0 2 ∷ node 1 0 ∷ node 1 1 ∷ node 1 2 ∷ []) (leaving in_series 1) 10
second_path = path_along in_series (node 0 0 ∷ []) 0 (node 0 0) (node 0 1 ∷ node 0 2 ∷ node 1 0 ∷ node 1 1 ∷ node 1 2 ∷ []) (begins 0 (omega arith)) refl

fits : MomentsFit in_series series_moments
fits = moments_fit in_series series_moments refl refl

rise : RanksRise in_series series_ranks
rise = ranks_rise in_series series_ranks refl

pub returns-clause-first : goal.returns-clause-first
returns-clause-first c = first_path

pub returns-clause-second : goal.returns-clause-second
returns-clause-second c = second_path

pub returns-clause-first_longest : goal.returns-clause-first_longest
returns-clause-first_longest c = λ nodes n path. path_within in_series series_moments nodes (leaving in_series 0) n fits path

pub returns-clause-second_longest : goal.returns-clause-second_longest
returns-clause-second_longest c = λ nodes n path. path_within in_series series_moments nodes (leaving in_series 1) n fits path

pub returns-clause-cleaned : goal.returns-clause-cleaned
returns-clause-cleaned c = path_along with_cleaning (node 0 0 ∷ []) 0 (node 0 0) (node 0 1 ∷ node 0 2 ∷ node 1 0 ∷ node 1 1 ∷ node 1 2 ∷ []) (begins 0 (omega arith)) refl

pub returns-clause-longest_cleaned : goal.returns-clause-longest_cleaned
returns-clause-longest_cleaned c = λ nodes n path. path_within with_cleaning cleaned_moments nodes (leaving with_cleaning 1) n (moments_fit with_cleaning cleaned_moments refl refl) path

pub returns-clause-cleaning_arc : goal.returns-clause-cleaning_arc
returns-clause-cleaning_arc c = (arc_decides with_cleaning (node 0 2) (node 1 0) 2).0 refl

pub returns-clause-bare_arc : goal.returns-clause-bare_arc
returns-clause-bare_arc c = (arc_decides in_series (node 0 2) (node 1 0) 0).0 refl

pub returns-clause-not_from_entry : goal.returns-clause-not_from_entry
returns-clause-not_from_entry c = not_from_Decides _ (has_arc_decides in_series (node 0 0) (node 1 1)) refl

pub returns-clause-not_from_first_step : goal.returns-clause-not_from_first_step
returns-clause-not_from_first_step c = not_from_Decides _ (has_arc_decides in_series (node 0 1) (node 1 0)) refl

pub returns-clause-not_back : goal.returns-clause-not_back
returns-clause-not_back c = not_from_Decides _ (has_arc_decides in_series (node 1 1) (node 0 1)) refl

pub returns-clause-moments : goal.returns-clause-moments
returns-clause-moments c = fits

pub returns-clause-budgets : goal.returns-clause-budgets
returns-clause-budgets c = (budgets_decide in_series series_moments).0 refl

pub returns-clause-first_no_sooner : goal.returns-clause-first_no_sooner
returns-clause-first_no_sooner c = λ kept fit. path_within in_series kept (node 0 0 ∷ node 0 1 ∷ node 0 2 ∷ []) (leaving in_series 0) 5 fit first_path

pub returns-clause-second_no_sooner : goal.returns-clause-second_no_sooner
returns-clause-second_no_sooner c = λ kept fit. path_within in_series kept (node 0 0 ∷ node 0 1 ∷ node 0 2 ∷ node 1 0 ∷ node 1 1 ∷ node 1 2 ∷ []) (leaving in_series 1) 10 fit second_path

pub returns-clause-ranks : goal.returns-clause-ranks
returns-clause-ranks c = rise

pub returns-clause-no_cycle : goal.returns-clause-no_cycle
returns-clause-no_cycle c = λ nodes cycle. ranks_exclude_cycle in_series series_ranks nodes rise cycle

pub returns-clause-serial : goal.returns-clause-serial
returns-clause-serial c = (serial_decides in_series).0 refl

pub returns-clause-not_serial : goal.returns-clause-not_serial
returns-clause-not_serial c = not_from_Decides _ (serial_decides crossed) refl
