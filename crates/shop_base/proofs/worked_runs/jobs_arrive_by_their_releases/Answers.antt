use Rattle.std.proofs.Common.{[], ◌∷◌, Some, refl, arith}
use Rattle.std.proofs.lemmas.Bool.Decides.{not_from_Decides}
use Rattle.shop_base.specs.Cell.{start}
use Rattle.shop_base.specs.Activity.{Arrival}
use Rattle.shop_base.specs.Graph.{node, begins}
use Rattle.shop_base.specs.Examples.{with_releases, series_ranks, released_moments, arrive, released_reports, released_log, released_end}
use Rattle.shop_base.proofs.CellTests.{going_decides, report_decides}
use Rattle.shop_base.proofs.GraphTests.{path_along, moments_fit, ranks_rise, budgets_decide}
use Rattle.shop_base.proofs.RunTests.{turns_lead, all_exact_decides, punctual_decides, ended_decides}
use Rattle.shop_base.proofs.ShapeTests.{shaped_decides}
use Rattle.shop_base.proofs.worked_runs.jobs_arrive_by_their_releases.Goals as goal

pub returns-clause-shaped : goal.returns-clause-shaped
returns-clause-shaped c = (shaped_decides with_releases).0 refl

pub returns-clause-schedule : goal.returns-clause-schedule
returns-clause-schedule c = record {
  shaped = (shaped_decides with_releases).0 refl;
  ranks = ranks_rise with_releases series_ranks refl;
  moments = moments_fit with_releases released_moments refl refl;
}

pub returns-clause-budgets : goal.returns-clause-budgets
returns-clause-budgets c = (budgets_decide with_releases released_moments).0 refl

pub returns-clause-awaited : goal.returns-clause-awaited
returns-clause-awaited c = (going_decides with_releases (start with_releases) (Arrival 0)).0 refl

pub returns-clause-early : goal.returns-clause-early
returns-clause-early c = (report_decides with_releases (start with_releases) (arrive 0 0)).0 refl

pub returns-clause-late : goal.returns-clause-late
returns-clause-late c = not_from_Decides _ (punctual_decides with_releases (start with_releases) (arrive 2 1)) refl

pub returns-clause-late_by_another : goal.returns-clause-late_by_another
returns-clause-late_by_another c = not_from_Decides _ (punctual_decides with_releases (start with_releases) (arrive 2 0)) refl

pub returns-clause-controlled : goal.returns-clause-controlled
returns-clause-controlled c = turns_lead with_releases (start with_releases) released_reports (Some [] ∷ Some (0 ∷ []) ∷ Some (0 ∷ []) ∷ Some (0 ∷ 1 ∷ []) ∷ Some (1 ∷ []) ∷ Some (1 ∷ []) ∷ []) refl

pub returns-clause-exact : goal.returns-clause-exact
returns-clause-exact c = (all_exact_decides with_releases (start with_releases) released_log).0 refl

pub returns-clause-first_path : goal.returns-clause-first_path
returns-clause-first_path c = path_along with_releases (node 0 0 ∷ []) 3 (node 0 0) (node 0 1 ∷ node 0 2 ∷ []) (begins 0 (omega arith)) refl

pub returns-clause-second_path : goal.returns-clause-second_path
returns-clause-second_path c = path_along with_releases (node 0 0 ∷ []) 3 (node 0 0) (node 0 1 ∷ node 0 2 ∷ node 1 0 ∷ node 1 1 ∷ node 1 2 ∷ []) (begins 0 (omega arith)) refl

pub returns-clause-ended : goal.returns-clause-ended
returns-clause-ended c = (ended_decides with_releases released_end).0 refl
