-- How a controlled run goes on from any run: it is a run, is never stuck, and ends on the reports that were left; and a cycle stops it.
use Rattle.std.proofs.Common.{◌≡◌, ℕ, ◌+◌, ◌≤◌, List, ◌++◌, refl, sym, ap, ◌∙◌, arith}
use Rattle.shop_base.specs.declared.report.Report.{Report}
use Rattle.shop_base.specs.Plan.{PlannedShop, IsWellShaped}
use Rattle.shop_base.specs.Cell.{Cell, made, start}
use Rattle.shop_base.specs.Run.{Event, AreEvents, after_all, ends_in, IsAtRest}
use Rattle.shop_base.specs.Controlled.{after_moves, orders_for, moved}
use Rattle.shop_base.specs.Ends.{reports_in}
use Rattle.shop_base.specs.ReportsLeft.{reports_left}
use Rattle.shop_base.specs.Sound.{IsSound}
use Rattle.shop_base.specs.Ahead.{GoesOnTo, settled}
use Rattle.shop_base.specs.AheadLaw.{NeverStuckFromThere, EndsOnTheReportsLeft, ReportsLeftAddUp, ACycleStopsEveryContinuation, NoArcLeadsBack}
use Rattle.shop_base.proofs.Keeping.{run-sound}
use Rattle.shop_base.proofs.ControlledRuns.{events_join, after_all_join, moves-events, after_all-moves, after_moves-sound, leads_to_run}
use Rattle.shop_base.proofs.NeverStuck.{ended-or-goes_on, rest-not_stuck, sound-reportable}
use Rattle.shop_base.proofs.ReportsLeft.{run-reports_left, ended_where_none, none_where_ended}
use Rattle.shop_base.proofs.LowerBounds.{events_split}
use Rattle.shop_base.proofs.CycleLaw.{cycle_never_done}
use Rattle.shop_base.proofs.Ahead.{arc_ahead}
use Rattle.shop_base.proofs.LowerBounds.{made_more}

-- what goes on from a sound cell are events that can happen there, which end in a sound cell at rest
pub goes_on_to_run : (p : PlannedShop) (c : Cell) (t : ℕ) (rs : List Report) (fs : List Event) (end : Cell) → IsWellShaped p → IsSound p c → GoesOnTo p c t rs fs end
    → AreEvents p c fs × (end ≡ after_all p c fs) × IsSound p end × IsAtRest p end
goes_on_to_run p c t _ _ _ shaped sound (settled js rs es end settles leads) =
    let (events, ends, sound_end, rest) = leads_to_run p (after_moves p c t js) rs es end leads shaped (after_moves-sound p c t js shaped sound settles.moves) settles.quiescent in (
      events_join p c (moved (orders_for p c t js)) es (moves-events p c t js settles.moves) (rw (after_all-moves p c t js) events),
      ends ∙ rw (after_all_join p c (moved (orders_for p c t js)) es, after_all-moves p c t js) refl,
      sound_end,
      rest,
    )

pub never_stuck_from_there-holds : NeverStuckFromThere
never_stuck_from_there-holds p rank es t rs fs end shaped rise run goes =
    let (events, ends, sound, rest) = goes_on_to_run p (ends_in p es) t rs fs end shaped (run-sound p es shaped run) goes in (
      events_join p (start p) es fs run events,
      ends ∙ sym (after_all_join p (start p) es fs),
      rest,
      rest-not_stuck p rank end shaped rise sound rest,
      ended-or-goes_on p rank end shaped rise sound rest,
      sound-reportable p end sound,
    )

pub ends_on_the_reports_left-holds : EndsOnTheReportsLeft
ends_on_the_reports_left-holds p es t rs fs end shaped run goes =
    let (events, ends, sound, rest) = goes_on_to_run p (ends_in p es) t rs fs end shaped (run-sound p es shaped run) goes in
    let count : reports_in fs + reports_left p (after_all p (ends_in p es) fs) ≡ reports_left p (ends_in p es) = run-reports_left p (ends_in p es) fs shaped (run-sound p es shaped run) events in
    let all : reports_in fs + reports_left p end ≡ reports_left p (ends_in p es) = rw ends count in (
      omega (arith, all),
      (
        (λ ended. omega (arith, all, none_where_ended p end shaped sound ended)),
        (λ last. ended_where_none p end sound rest (omega (arith, all))),
      ),
    )

pub reports_left_add_up-holds : ReportsLeftAddUp
reports_left_add_up-holds p es fs shaped run =
    let (front, back) = events_split p (start p) es fs run in
    rw (after_all_join p (start p) es fs) (run-reports_left p (ends_in p es) fs shaped (run-sound p es shaped front) back)

pub no_arc_leads_back-holds : NoArcLeadsBack
no_arc_leads_back-holds p es u v d shaped run arc ahead = arc_ahead p (ends_in p es) u v d (run-sound p es shaped run) arc ahead

pub a_cycle_stops_every_continuation-holds : ACycleStopsEveryContinuation
a_cycle_stops_every_continuation-holds p nodes es fs shaped cycle run =
    let (front, back) = events_split p (start p) es fs run in
    let (j, inside, never) = cycle_never_done p nodes shaped cycle (es ++ fs) run in
    let more : made (ends_in p es) j ≤ made (after_all p (ends_in p es) fs) j = made_more p (ends_in p es) fs j shaped (run-sound p es shaped front) back in
    let join : made (ends_in p (es ++ fs)) j ≡ made (after_all p (ends_in p es) fs) j = ap (λ c. made c j) (after_all_join p (start p) es fs) in
    (j, inside, (λ gone. never (omega arith)), never)
