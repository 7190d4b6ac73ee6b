use Rattle.std.proofs.Common.{[], ◌∷◌, Some, refl, take}
use Rattle.std.proofs.lemmas.Bool.Decides.{not_from_Decides}
use Rattle.shop_base.specs.Cell.{start}
use Rattle.shop_base.specs.Examples.{in_series, series_reports, series_log, series_after, series_end}
use Rattle.shop_base.proofs.CellTests.{events_decides}
use Rattle.shop_base.proofs.RunTests.{turns_lead, all_punctual_decides, all_exact_decides, rest_decides, ended_decides}
use Rattle.shop_base.proofs.ShapeTests.{shaped_decides}
use Rattle.shop_base.proofs.worked_runs.two_jobs_in_series_run.Goals as goal

pub returns-clause-shaped : goal.returns-clause-shaped
returns-clause-shaped c = (shaped_decides in_series).0 refl

pub returns-clause-run : goal.returns-clause-run
returns-clause-run c = (events_decides in_series (start in_series) series_log).0 refl

pub returns-clause-controlled : goal.returns-clause-controlled
returns-clause-controlled c = turns_lead in_series (start in_series) series_reports (Some (0 ∷ []) ∷ Some [] ∷ Some (0 ∷ []) ∷ Some (0 ∷ 1 ∷ []) ∷ Some (1 ∷ []) ∷ Some (1 ∷ []) ∷ []) refl

pub returns-clause-punctual : goal.returns-clause-punctual
returns-clause-punctual c = (all_punctual_decides in_series (start in_series) series_log).0 refl

pub returns-clause-early : goal.returns-clause-early
returns-clause-early c = not_from_Decides _ (all_exact_decides in_series (start in_series) series_log) refl

pub returns-clause-second_waits : goal.returns-clause-second_waits
returns-clause-second_waits c = (rest_decides in_series (series_after 3)).0 refl

pub returns-clause-partial : goal.returns-clause-partial
returns-clause-partial c = turns_lead in_series (start in_series) (take 2 series_reports) (Some (0 ∷ []) ∷ Some [] ∷ []) refl

pub returns-clause-unfinished : goal.returns-clause-unfinished
returns-clause-unfinished c = not_from_Decides _ (ended_decides in_series (series_after 3)) refl

pub returns-clause-ended : goal.returns-clause-ended
returns-clause-ended c = (ended_decides in_series series_end).0 refl
