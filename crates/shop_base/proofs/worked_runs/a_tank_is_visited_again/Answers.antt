use Rattle.std.proofs.Common.{[], ◌∷◌, Some, refl, arith}
use Rattle.shop_base.specs.Graph.{node, begins, follows}
use Rattle.shop_base.specs.Cell.{start}
use Rattle.shop_base.specs.Activity.{Cleaning}
use Rattle.shop_base.specs.Examples.{rinsing, rinsing_ranks, rinsing_moments, rinsing_reports, rinsing_log, rinsing_after, rinsing_end, finish}
use Rattle.shop_base.proofs.CellTests.{events_decides, going_decides, report_decides}
use Rattle.shop_base.proofs.GraphTests.{arc_decides, moments_fit, ranks_rise, budgets_decide}
use Rattle.shop_base.proofs.RunTests.{turns_lead, all_exact_decides, rest_decides, ended_decides}
use Rattle.shop_base.proofs.ShapeTests.{shaped_decides, serial_decides}
use Rattle.shop_base.proofs.worked_runs.a_tank_is_visited_again.Goals as goal

pub returns-clause-shaped : goal.returns-clause-shaped
returns-clause-shaped c = (shaped_decides rinsing).0 refl

pub returns-clause-serial : goal.returns-clause-serial
returns-clause-serial c = (serial_decides rinsing).0 refl

pub returns-clause-run : goal.returns-clause-run
returns-clause-run c = (events_decides rinsing (start rinsing) rinsing_log).0 refl

pub returns-clause-controlled : goal.returns-clause-controlled
returns-clause-controlled c = turns_lead rinsing (start rinsing) rinsing_reports (Some (0 ∷ []) ∷ Some [] ∷ Some (0 ∷ []) ∷ Some [] ∷ Some (0 ∷ []) ∷ Some (0 ∷ []) ∷ Some (1 ∷ []) ∷ Some (1 ∷ []) ∷ Some [] ∷ []) refl

pub returns-clause-exact : goal.returns-clause-exact
returns-clause-exact c = (all_exact_decides rinsing (start rinsing) rinsing_log).0 refl

pub returns-clause-schedule : goal.returns-clause-schedule
returns-clause-schedule c = record {
  shaped = (shaped_decides rinsing).0 refl;
  ranks = ranks_rise rinsing rinsing_ranks refl;
  moments = moments_fit rinsing rinsing_moments refl refl;
}

pub returns-clause-budgets : goal.returns-clause-budgets
returns-clause-budgets c = (budgets_decide rinsing rinsing_moments).0 refl

pub returns-clause-own_arc : goal.returns-clause-own_arc
returns-clause-own_arc c = (arc_decides rinsing (node 0 1) (node 0 2) 2).0 refl

pub returns-clause-cleaning_arc : goal.returns-clause-cleaning_arc
returns-clause-cleaning_arc c = (arc_decides rinsing (node 0 1) (node 0 2) 6).0 refl

pub returns-clause-longest : goal.returns-clause-longest
returns-clause-longest c =
    follows (node 0 0 ∷ node 0 1 ∷ []) (node 0 1) (node 0 2) 3 6
    (follows (node 0 0 ∷ []) (node 0 0) (node 0 1) 0 3 (begins 0 (omega arith)) ((arc_decides rinsing (node 0 0) (node 0 1) 3).0 refl))
    ((arc_decides rinsing (node 0 1) (node 0 2) 6).0 refl)

pub returns-clause-cleaned : goal.returns-clause-cleaned
returns-clause-cleaned c = (going_decides rinsing (rinsing_after 5) (Cleaning 0)).0 refl

pub returns-clause-waits : goal.returns-clause-waits
returns-clause-waits c = (rest_decides rinsing (rinsing_after 6)).0 refl

pub returns-clause-ended_again : goal.returns-clause-ended_again
returns-clause-ended_again c = (report_decides rinsing (rinsing_after 8) (finish 12 0 0)).0 refl

pub returns-clause-ended : goal.returns-clause-ended
returns-clause-ended c = (ended_decides rinsing rinsing_end).0 refl
