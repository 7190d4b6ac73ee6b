-- What an accepted plan promises at the start of a run, and after each of its reports.
use Rattle.std.proofs.Common.{◌≡◌, List, [], ◌∷◌, ◌++◌, append-nil, le_refl, length, subst}
use Rattle.shop_base.specs.{declared.move_order.MoveOrder.MoveOrder, declared.report.Report.Report}
use Rattle.shop_base.specs.{Plan.{PlannedShop, IsWellShaped}, Cell.{Cell, start}, Run.{Event, ends_in}}
use Rattle.shop_base.specs.Controlled.{moved, Leads, IsControlledRun}
use Rattle.shop_base.proofs.{ControlledRuns.controlled_to_run, StartAhead.controlled-leavings_kept}
use Rattle.shop_base.proofs.InTime.{leaving-in_time}
use Rattle.plan_verifier.specs.Accepted.{VerifiedPlan, IsVerified, kept_at, rank_in}
use Rattle.cell_control.proofs.Promises.{rests_unstuck}
use Rattle.cell_drive.specs.OneRun.{IsBeforeReport, IsAsPromised, StaysAsPromised}
use Rattle.cell_drive.proofs.CutRuns.{cut_of_run}

-- a run that is cut before a report is the controlled run of some of its reports
cut_run : (p : PlannedShop) (c : Cell) (rs : List Report) (end : Cell) (now later : List Event) → Leads p c rs (now ++ later) end → IsBeforeReport later
    → (reports : List Report) × (mid : Cell) × Leads p c reports now mid
cut_run p c rs end now later leads before =
    let cut = cut_of_run (length now) p c end rs now later (le_refl (length now)) leads in
    (cut.reports, cut.end, alone cut.due cut.reports cut.end cut.rest cut.split cut.leads)
  where
    alone : (due : List MoveOrder) (reports : List Report) (mid : Cell) (rest : List Event) → later ≡ moved due ++ rest → Leads p c reports (now ++ moved due) mid → Leads p c reports now mid
    alone [] reports mid rest split leads = subst (λ es. Leads p c reports es mid) (append-nil now) leads
    alone (o ∷ due) reports mid rest split leads = absurd (subst IsBeforeReport split before)

-- at the end of a controlled run all is as it was promised
as_promised : (v : VerifiedPlan) (rs : List Report) (es : List Event) (end : Cell) → IsVerified v → IsControlledRun v.planned rs es end → IsAsPromised v es
as_promised v rs es end verified controlled =
    let p = v.planned in
    let shaped : IsWellShaped p = verified.schedule.shaped in
    let (run, ends, sound, rest) = controlled_to_run p rs es end shaped controlled in
    let controlled_to : IsControlledRun p rs es (ends_in p es) = subst (λ c. IsControlledRun p rs es c) ends controlled in
    let (again, same, sound_there, at_rest) = controlled_to_run p rs es (ends_in p es) shaped controlled_to in
    record {
      run = run;
      rests = rests_unstuck p (rank_in v) (ends_in p es) shaped verified.schedule.ranks sound_there at_rest;
      in_time = λ punctual j inside.
          let kept = controlled-leavings_kept p (rank_in v) (kept_at v) rs es (ends_in p es) verified.schedule controlled_to punctual j inside in
          (kept, leaving-in_time p (kept_at v) (ends_in p es) j (verified.budgets j inside) kept);
    }

pub stays_as_promised : (v : VerifiedPlan) (rs : List Report) (events : List Event) (end : Cell) → IsVerified v → IsControlledRun v.planned rs events end → StaysAsPromised v events
stays_as_promised v rs events end verified controlled es later same before =
    let run = cut_run v.planned (start v.planned) rs end es later (subst (λ fs. IsControlledRun v.planned rs fs end) same controlled) before in
    as_promised v run.0 es run.1 verified run.2
