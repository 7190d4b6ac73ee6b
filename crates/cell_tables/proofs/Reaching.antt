-- Which runs lead to a rest.
use Rattle.std.proofs.Common.{[], refl, sym, subst}
use Rattle.shop_base.specs.{Plan.{PlannedShop, IsWellShaped}, Cell.{Cell, start}, Run.ends_in}
use Rattle.cell_tables.specs.{Carried.IsCarried, Kept.KeepsSoFar, Recasts.IsRecast, Rests.IsReached}
use Rattle.cell_tables.proofs.{KeptRuns.a_kept_run_is_one_of_the_other_plan, OneCarried.carried_alone}

-- the run that hasn't begun leads to the start
pub start_reached : (p : PlannedShop) → IsReached p (start p)
start_reached p = record { events = []; run = tt; ends = refl }

-- a run that is recast is a run of the other plan, which ends with the cell that is recast
pub recast_reached : (p : PlannedShop) (c : Cell) (q : PlannedShop) (new : Cell) → IsWellShaped p → IsWellShaped q → IsReached p c → IsRecast p c q new → IsReached q new
recast_reached p c q new shaped_p shaped reached recast =
    let kept = subst (λ x. KeepsSoFar p x q) (sym reached.ends) recast.kept in
    let (run, carried) = a_kept_run_is_one_of_the_other_plan p q reached.events shaped_p shaped reached.run kept in
    record {
      events = reached.events;
      run = run;
      ends = carried_alone p c q (ends_in q reached.events) new (subst (λ x. IsCarried p x q (ends_in q reached.events)) reached.ends carried) recast.carried;
    }
