-- The ready jobs: a report makes at most one job ready, and each move uses up a job's readiness.
use Rattle.std.proofs.Common.{◌≡◌, ℕ, ◌+◌, ◌<◌, ◌≤◌, List, [], ◌∷◌, length, true, false, cond, slice_index_or, ap, arith}
use Rattle.shop_base.specs.Plan.{PlannedShop, jobs, IsWellShaped}
use Rattle.shop_base.specs.Cell.{Cell, absent, ready, start}
use Rattle.shop_base.specs.declared.job_state.JobState.{JobState}
use Rattle.shop_base.specs.declared.report.Report.{Report}
use Rattle.shop_base.specs.Activity.{Activity, Arrival, Operation, Cleaning, GoesOn}
use Rattle.shop_base.specs.Report.{ended, at, CanReport, with_ready, with_clean, after_end, after_report}
use Rattle.shop_base.specs.Move.{CanMove, after_move}
use Rattle.shop_base.specs.Run.{Event, Reported, Moved, AreEvents, after_all}
use Rattle.shop_base.specs.Controlled.{AreMoves, after_moves}
use Rattle.shop_base.specs.Ends.{reports_in, moves_in}
use Rattle.shop_base.specs.Movers.{counted, ready_count}
use Rattle.shop_base.specs.Sound.{IsSound}
use Rattle.shop_base.proofs.Visits.{visits_job}
use Rattle.shop_base.proofs.Changes.{IsMoved, IsReadied, IsTidied, after_move-moved, with_ready-readied, with_clean-tidied}
use Rattle.shop_base.proofs.Keeping.{after_report-sound, after_move-sound}
use Rattle.shop_base.proofs.InShop.{outside_in_shop, ready_in_shop}
use Rattle.shop_base.proofs.ControlledRuns.{start_not_ready}
use Rattle.shop_base.proofs.Sums.{sum_below_same, sum_below_but, sum_below_zero}

is_counted : (c : Cell) (j : ℕ) → ready c j ≡ true → counted c j ≡ 1
is_counted c j is_ready = ap (λ b. cond b 1 0) is_ready

not_counted : (c : Cell) (j : ℕ) → ready c j ≡ false → counted c j ≡ 0
not_counted c j not_ready = ap (λ b. cond b 1 0) not_ready

pub start-ready_count : (p : PlannedShop) → ready_count p (start p) ≡ 0
start-ready_count p = sum_below_zero (counted (start p)) (jobs p) (λ j inside. not_counted (start p) j (start_not_ready p j))

readied-ready_count : (p : PlannedShop) (c new : Cell) (j t : ℕ) → IsReadied c j t new → j < jobs p → ready c j ≡ false → ready_count p new ≡ ready_count p c + 1
readied-ready_count p c new j t change inside not_ready =
    omega (
      arith,
      sum_below_but (counted new) (counted c) (jobs p) j inside (λ i within apart. ap {B = ℕ} (λ (s : JobState). cond s.ready 1 0) (change.others i apart)),
      is_counted new j change.ready_mine,
      not_counted c j not_ready,
    )

tidied-ready_count : (p : PlannedShop) (c new : Cell) (m t : ℕ) → IsTidied c m t new → ready_count p new ≡ ready_count p c
tidied-ready_count p c new m t change =
    sum_below_same (counted new) (counted c) (jobs p) (λ i within. ap {B = ℕ} (λ (js : List JobState). cond (slice_index_or js i absent).ready 1 0) change.jobs_same)

end-ready_count : (p : PlannedShop) (c : Cell) (a : Activity) (t due : ℕ) → IsSound p c → GoesOn p c a due → ready_count p (after_end c a t) ≤ ready_count p c + 1
end-ready_count p c (Arrival j) t due sound goes =
    let inside : j < jobs p = outside_in_shop p c j sound goes.outside in
    omega (arith, readied-ready_count p c (with_ready c j t) j t (with_ready-readied c j t goes.not_ready (omega (arith, sound.job_count))) inside goes.not_ready)
end-ready_count p c (Operation j m) t due sound (k, goes) =
    let inside : j < jobs p = visits_job p j k m goes.on.visits in
    omega (arith, readied-ready_count p c (with_ready c j t) j t (with_ready-readied c j t goes.not_ready (omega (arith, sound.job_count))) inside goes.not_ready)
end-ready_count p c (Cleaning m) t due sound (s, goes) =
    omega (arith, tidied-ready_count p c (with_clean c m t) m t (with_clean-tidied c m s t goes.is_cleaned))

-- a possible report makes at most one job ready
pub after_report-ready_count : (p : PlannedShop) (c : Cell) (r : Report) → IsSound p c → CanReport p c r → ready_count p (after_report c r) ≤ ready_count p c + 1
after_report-ready_count p c r sound can = end-ready_count p c (ended r) (at r) can.going.0 sound can.going.1

-- a move makes one ready job not ready
pub moved-ready_count : (p : PlannedShop) (c new : Cell) (j t : ℕ) → IsSound p c → CanMove p c j t → IsMoved p c j t new → ready_count p new + 1 ≡ ready_count p c
moved-ready_count p c new j t sound can change =
    omega (
      arith,
      sum_below_but (counted new) (counted c) (jobs p) j (ready_in_shop p c j sound can.is_ready)
          (λ i within apart. ap {B = ℕ} (λ (s : JobState). cond s.ready 1 0) (change.others i apart)),
      not_counted new j change.ready_mine,
      is_counted c j can.is_ready,
    )

pub after_move-ready_count : (p : PlannedShop) (c : Cell) (j t : ℕ) → IsWellShaped p → IsSound p c → CanMove p c j t
    → ready_count p (after_move p c j t) + 1 ≡ ready_count p c
after_move-ready_count p c j t shaped sound can = moved-ready_count p c (after_move p c j t) j t sound can (after_move-moved p c j t shaped sound can)

-- each of some moves uses up one job's readiness
pub after_moves-ready_count : (p : PlannedShop) (c : Cell) (t : ℕ) (js : List ℕ) → IsWellShaped p → IsSound p c → AreMoves p c t js
    → length js + ready_count p (after_moves p c t js) ≡ ready_count p c
after_moves-ready_count p c t [] shaped sound moves = omega arith
after_moves-ready_count p c t (j ∷ js) shaped sound moves =
    omega (
      arith,
      after_moves-ready_count p (after_move p c j t) t js shaped (after_move-sound p c j t shaped sound moves.0 moves.1) moves.2,
      after_move-ready_count p c j t shaped sound moves.0,
    )

-- in any run the moves, and the jobs that are ready at its end, are no more than the reports, and the jobs that were ready at its beginning
pub run-ready_count : (p : PlannedShop) (c : Cell) (es : List Event) → IsWellShaped p → IsSound p c → AreEvents p c es
    → moves_in es + ready_count p (after_all p c es) ≤ reports_in es + ready_count p c
run-ready_count p c [] shaped sound events = omega arith
run-ready_count p c (Reported r ∷ es) shaped sound events =
    omega (
      arith,
      run-ready_count p (after_report c r) es shaped (after_report-sound p c r shaped sound events.0) events.1,
      after_report-ready_count p c r sound events.0,
    )
run-ready_count p c (Moved o ∷ es) shaped sound events =
    omega (
      arith,
      run-ready_count p (after_move p c o.job o.at) es shaped (after_move-sound p c o.job o.at shaped sound events.0.0.can events.0.1) events.1,
      after_move-ready_count p c o.job o.at shaped sound events.0.0.can,
    )
