-- Runs end with the cells of controllers.
use Rattle.std.proofs.Common.{◌≡◌, ℕ, List, [], ◌∷◌, ◌++◌, sym, ◌∙◌, ap, subst, arith}
use Rattle.shop_base.specs.{declared.report.Report.Report, Plan.{PlannedShop, IsWellShaped}, Cell.{Cell, start}}
use Rattle.shop_base.specs.{Report.{at, after_report, IsNextMoment}, Run.{Event, Reported, AreEvents, after_all}}
use Rattle.shop_base.specs.Controlled.{AreMoves, after_moves, orders_for, moved, IsStep, after_step}
use Rattle.shop_base.proofs.ControlledRuns.{events_join, after_all_join, moves-events, after_all-moves}
use Rattle.cell_tables.specs.{Carried.IsCarried, Kept.KeepsSoFar, Recasts.IsRecast, Rests.IsReached}
use Rattle.cell_tables.proofs.{KeptByBoth.a_run_of_both_plans_is_kept, KeptRuns.a_kept_run_is_one_of_the_other_plan}
use Rattle.cell_tables.proofs.OneCarried.{carried_alone}
use Rattle.cell_tables.specs.declared.present_fault.PresentFault.TheVariants.{Past, TooLarge}
use Rattle.cell_control.specs.declared.hand_over_fault.HandOverFault.{HandOverFault, TheVariants.{Present, IncompatiblePlan, Cycle, Memory}}
use Rattle.cell_control.specs.HandedOver.{IsTakeOverFault, IsRestAtFault}

-- further events
more_reached : (p : PlannedShop) (c : Cell) (es : List Event) → IsReached p c → AreEvents p c es → IsReached p (after_all p c es)
more_reached p c es reached more = record {
  events = reached.events ++ es;
  run = events_join p (start p) reached.events es reached.run (subst (λ x. AreEvents p x es) (sym reached.ends) more);
  ends = after_all_join p (start p) reached.events es ∙ ap (λ x. after_all p x es) reached.ends;
}

pub moves_reached : (p : PlannedShop) (c : Cell) (t : ℕ) (js : List ℕ) → IsReached p c → AreMoves p c t js → IsReached p (after_moves p c t js)
moves_reached p c t js reached moves =
    subst (IsReached p) (after_all-moves p c t js) (more_reached p c (moved (orders_for p c t js)) reached (moves-events p c t js moves))

pub step_reached : (p : PlannedShop) (c : Cell) (r : Report) (js : List ℕ) → IsReached p c → IsStep p c r js → IsReached p (after_step p c r js)
step_reached p c r js reached step = moves_reached p (after_report c r) (at r) js (more_reached p c (Reported r ∷ []) reached (step.can, tt)) step.moves

-- a cell keeps its own plan, and stays as it is when it is recast to that
pub own_kept : (p : PlannedShop) (c : Cell) → IsWellShaped p → IsReached p c → KeepsSoFar p c p
own_kept p c shaped reached =
    subst (λ x. KeepsSoFar p x p) reached.ends
    (a_run_of_both_plans_is_kept p p reached.events shaped shaped reached.run reached.run (λ m inside none some. absurd (omega (arith, none, some))))

pub own_recast : (p : PlannedShop) (c new : Cell) → IsWellShaped p → IsReached p c → IsRecast p c p new → new ≡ c
own_recast p c new shaped reached recast =
    let kept = subst (λ x. KeepsSoFar p x p) (sym reached.ends) recast.kept in
    let (run, carried) = a_kept_run_is_one_of_the_other_plan p p reached.events shaped shaped reached.run kept in
    carried_alone p c p new c recast.carried (subst (λ x. IsCarried p x p x) reached.ends carried)

-- why there is no rest of a run by its own plan, where the moment can be the present one: memory ran out
pub own_fault : (p : PlannedShop) (c : Cell) (t : ℕ) (fault : HandOverFault) → IsWellShaped p → IsReached p c → IsNextMoment c t → IsTakeOverFault p c p t fault → IsRestAtFault c t fault
own_fault p c t (Present TooLarge) shaped reached next is = absurd (omega (arith, is, next.in_range))
own_fault p c t (Present (Past last)) shaped reached next is = absurd (omega (arith, is.2, next.in_order))
own_fault p c t IncompatiblePlan shaped reached next is = absurd (is.1 (own_kept p c shaped reached))
own_fault p c t (Cycle nodes) shaped reached next is = absurd is
own_fault p c t Memory shaped reached next is = next
