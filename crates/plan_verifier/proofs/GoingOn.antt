-- What holds of every run that goes on from a cell whose rest has ranks and earliest moments.
use Rattle.std.proofs.Common.{◌≡◌, ℕ, ◌<◌, ◌≤◌, List, ◌++◌, sym, subst, inl, inr}
use Rattle.std.proofs.lemmas.Bool.{cases_lt}
use Rattle.shop_base.specs.{declared.node.Node.Node, declared.report.Report.Report}
use Rattle.shop_base.specs.{Plan.{PlannedShop, jobs, steps, IsWellShaped}, Cell.{Cell, made, since, IsGone}}
use Rattle.shop_base.specs.{Report.IsNextMoment, Run.{Event, IsRun, ends_in}, Graph.{leaving, IsSimpleCycle}}
use Rattle.shop_base.specs.KeptMoments.{KeepsMoments, KeepsLeaving}
use Rattle.shop_base.specs.Ahead.{IsAhead, MeetBudgetsAhead, MomentsFitAhead, PathAhead, IsScheduleAhead, GoesOnTo}
use Rattle.shop_base.specs.{Deadlines.AreDeadlines, Sound.IsSound}
use Rattle.shop_base.proofs.{InTime.path_kept, Keeping.run-sound}
use Rattle.shop_base.proofs.GoingOn.{never_stuck_from_there-holds, ends_on_the_reports_left-holds, a_cycle_stops_every_continuation-holds}
use Rattle.shop_base.proofs.Within.{in_time_within-holds, each_move_is_in_time-holds, in_time_from_there-holds, just_in_time_from_there-holds, fit-can_be_kept}
use Rattle.shop_base.proofs.SomeExact.{some_continuation_is_exact-holds}
use Rattle.shop_base.proofs.Deadlines.{deadlines_are_the_latest-holds, no_deadline_is_too_early-holds, in_time_by_deadlines-holds, the_rest_stays_accepted-holds, all_out_by_deadlines-holds, deadlines_stay-holds}
use Rattle.alt_graph.specs.Times.{NodeTimes, rank_of, earliest_of}
use Rattle.plan_verifier.specs.FromThere.{IsNeverStuckFrom, IsInTimeFrom, IsNeverGoneAfterFrom, IsNeverGoneBeforeFrom, IsJustInTimeFrom, AreDeadlinesFrom, IsNeverDoneFrom}
use Rattle.plan_verifier.specs.{Leavings.{leaves_in, AreLeavingsAhead}, Rest.AreOrderedAhead}
use Rattle.plan_verifier.specs.RestVerdicts.{IsAcceptableAhead}
use Rattle.plan_verifier.proofs.{Acceptable.{leaving_node, acceptable_ahead}, PathsAhead.path_no_faster}

-- a job that isn't gone has its leaving ahead
pub leaving_ahead : (p : PlannedShop) (c : Cell) (j : ℕ) → (IsGone p c j → ⊥) → IsAhead c (leaving p j)
leaving_ahead p c j here = elim (cases_lt (steps p j) (made c j)) [
  | inl gone ↦ absurd (here gone)
  | inr ahead ↦ ahead
]

module _ (p : PlannedShop) (c : Cell) (t : ℕ) (times : NodeTimes) (ordered : AreOrderedAhead p c t times) where
  abbrev rank : Node → ℕ
  rank = rank_of times

  abbrev kept : Node → ℕ
  kept = earliest_of times

  pub leaving_path : (j : ℕ) → j < jobs p → (IsGone p c j → ⊥) → (nodes : List Node) × PathAhead p c t nodes (leaving p j) (kept (leaving p j))
  leaving_path j inside here = ordered.reached (leaving p j) (leaving_node p j inside) (leaving_ahead p c j here)

  -- the earliest moments of the leavings are the leavings
  pub leavings_ahead : AreLeavingsAhead p c t (leaves_in p times)
  leavings_ahead = record {
    left = ordered.left;
    ahead = λ j inside here. (record { reached = leaving_path j inside here; longest = λ nodes k path. ordered.greatest nodes (leaving p j) k path });
  }

  schedule : (moments : Node → ℕ) → MomentsFitAhead p c t moments → IsScheduleAhead p c t rank moments
  schedule moments fit = record { shaped = ordered.schedule.shaped; ranks = ordered.schedule.ranks; moments = fit }

  -- a statement on the cell is one on the end of the run
  pub never_stuck_from : IsNeverStuckFrom p c t
  never_stuck_from es rs fs end run same on =
      let (whole, is, rest, stuck, ended, each) = never_stuck_from_there-holds p rank es t rs fs end ordered.schedule.shaped ordered.schedule.ranks run (rw same on) in
      let (most, exact) = ends_on_the_reports_left-holds p es t rs fs end ordered.schedule.shaped run (rw same on) in
      (whole, is, rest, stuck, ended, each, rw same at most, rw same at exact)

  module _ (next : IsNextMoment c t) where
    pub in_time_from : IsInTimeFrom p c t
    in_time_from moments es rs fs end fit run same on within = (
      rw same at (each_move_is_in_time-holds p rank moments es t rs fs end run (rw same next) (rw same (schedule moments fit)) (rw same on) (rw same within)),
      λ j inside here. (in_time_within-holds p rank moments es t rs fs end ordered.schedule.shaped ordered.schedule.ranks run (rw same next)
          (fit-can_be_kept p (ends_in p es) t moments (rw same fit)) (rw same on) (rw same within) j inside (rw same here)).0,
    )

    -- the earliest moments fit
    kept_fit : IsScheduleAhead p c t rank kept
    kept_fit = schedule kept ordered.schedule.moments

    pub never_gone_after : (j : ℕ) → j < jobs p → IsNeverGoneAfterFrom p c t j (kept (leaving p j))
    never_gone_after j inside es rs fs end run same on punctual gone =
        go (in_time_from_there-holds p rank kept es t rs fs end run (rw same next) (rw same kept_fit) (rw same on) (rw same punctual) j inside).0
      where
        go : KeepsLeaving p kept end j → since end j ≤ kept (leaving p j)
        go (inl out) = out.by
        go (inr (here, soon)) = absurd (here gone)

    pub just_in_time_from : IsJustInTimeFrom p c t kept
    just_in_time_from es run same =
        let (rs, fs, end, on, punctual, late, from, out) = some_continuation_is_exact-holds p rank kept es t run (rw same next) (rw same kept_fit) in (
          rs,
          fs,
          end,
          rw same at on,
          rw same at punctual,
          rw same at late,
          from,
          λ j inside here small. (
              let (nodes, path) = leaving_path j inside here in
              let gone = out j inside small in
              (gone, just_in_time_from_there-holds p rank kept es t rs fs end run (rw same next) (rw same kept_fit) on punctual late from j nodes (rw same path) gone)),
        )

    -- the deadlines of a rest whose earliest moments meet the budgets
    pub deadlines_from : (due : Node → ℕ) → MeetBudgetsAhead p c kept → AreDeadlines p c due → AreDeadlinesFrom p c t kept due
    deadlines_from due meets deadlines = record {
      deadlines = deadlines;
      latest = λ other es run same respects within v is ahead. deadlines_are_the_latest-holds p rank due other es ordered.schedule.shaped ordered.schedule.ranks run (rw same deadlines) (rw same respects)
          (rw same within) v is (rw same ahead);
      not_before = λ es v run same is ahead. no_deadline_is_too_early-holds p rank kept due es t run (rw same kept_fit) (rw same meets) (rw same deadlines) v is (rw same ahead);
      in_time = λ es rs fs end run same on within j inside here. in_time_by_deadlines-holds p rank kept due es t rs fs end run (rw same next) (rw same kept_fit) (rw same meets) (rw same deadlines)
          (rw same on) (rw same within) j inside (rw same here);
      stays = λ es rs fs end run same on within.
          let still = the_rest_stays_accepted-holds p rank kept due es t rs fs end run (rw same next) (rw same kept_fit) (rw same meets) (rw same deadlines) (rw same on) (rw same within) in
          (stay es rs fs end run same on, still_acceptable es rs fs end run same on still.0 still.1 still.2, still);
      out = λ es rs fs end run same on own ended j inside here. all_out_by_deadlines-holds p rank kept due es t rs fs end run (rw same next) (rw same kept_fit) (rw same meets) (rw same deadlines)
          (rw same on) (rw same own) ended j inside (rw same here);
    }
      where
        stay : (es : List Event) (rs : List Report) (fs : List Event) (end : Cell) → IsRun p es → ends_in p es ≡ c → GoesOnTo p c t rs fs end → AreDeadlines p end due
        stay es rs fs end run same on =
            let all = never_stuck_from es rs fs end run same on in
            rw all.1 (deadlines_stay-holds p due es fs ordered.schedule.shaped run all.0 (rw same deadlines))

        -- by moments that still fit, which no path ahead exceeds
        still_acceptable : (es : List Event) (rs : List Report) (fs : List Event) (end : Cell) → IsRun p es → ends_in p es ≡ c → GoesOnTo p c t rs fs end
            → (moments : Node → ℕ) → KeepsMoments p moments end → MeetBudgetsAhead p end moments → IsAcceptableAhead p end end.last
        still_acceptable es rs fs end run same on moments keeps meets =
            let all = never_stuck_from es rs fs end run same on in
            let sound : IsSound p end = rw all.1 (run-sound p (es ++ fs) ordered.schedule.shaped all.0) in
            acceptable_ahead p end end.last rank moments ordered.schedule.ranks (λ nodes v n path. path_kept p end end.last moments nodes v n sound keeps path) meets

  pub never_gone_before : (j : ℕ) → j < jobs p → (IsGone p c j → ⊥) → IsNeverGoneBeforeFrom p c t j (kept (leaving p j))
  never_gone_before j inside here = (let (nodes, path) = leaving_path j inside here in path_no_faster p c t j nodes (kept (leaving p j)) ordered.schedule.shaped path)

-- a cycle stops every run that goes on
pub cycle_never_done : (p : PlannedShop) (c : Cell) (nodes : List Node) → IsWellShaped p → IsSimpleCycle p nodes → IsNeverDoneFrom p c
cycle_never_done p c nodes shaped cycle es fs same more =
    let (j, inside, here, never) = a_cycle_stops_every_continuation-holds p nodes es fs shaped cycle more in
    (j, inside, λ gone. here (subst (λ (d : Cell). IsGone p d j) (sym same) gone), never)
