-- The reports still to come: a report lowers them by one, a move leaves them, at the start they are the stated number, and at rest they are none exactly where the run has ended.
use Rattle.std.proofs.Common.{◌≡◌, ℕ, ◌+◌, ◌-◌, ◌<◌, ◌≤◌, inl, inr, Bool, true, false, not, cond, List, [], ◌∷◌, length, length-append, Option, Some, None, is_some, nat_lt, slice_index_or, refl, sym, ap, ap₂, ◌∙◌, arith, lt-ltb, le-ltb}
use Rattle.std.proofs.Math.Path.{fun_ext}
use Rattle.std.proofs.lemmas.Bool.{cases_lt, cases_eq, cases_Bool}
use Rattle.shop_base.specs.Plan.{Stands, PlannedShop, jobs, machines, steps, order, job_at, clean, Visits, IsWellShaped}
use Rattle.shop_base.specs.Cell.{Cell, MachineState, absent, unused, job_in, made, ready, entries, cleaning, start, IsOn, IsFree, IsGone}
use Rattle.shop_base.specs.declared.job_state.JobState.{JobState}
use Rattle.shop_base.specs.declared.report.Report.{Report}
use Rattle.shop_base.specs.Activity.{Activity, Arrival, Operation, Cleaning, GoesOn, IsIdle}
use Rattle.shop_base.specs.Report.{ended, at, CanReport, with_ready, with_clean, after_end, after_report}
use Rattle.shop_base.specs.Move.{CanMove, KeepsPlan, after_move}
use Rattle.shop_base.specs.Run.{Event, Reported, Moved, AreEvents, after_all, IsAtRest}
use Rattle.shop_base.specs.Controlled.{AreMoves, after_moves, IsStep, after_step}
use Rattle.shop_base.specs.Ends.{cleanings_of, stated_number, HasEnded, reports_in}
use Rattle.shop_base.specs.ReportsLeft.{busy, job_reports_left, is_off, is_on_after, departures, cleanings_left, reports_left}
use Rattle.shop_base.specs.Sound.{IsSound}
use Rattle.shop_base.proofs.Visits.{visits_job, visits_apart, visits_or_not, on_or_not, leaves_past, past_leaves}
use Rattle.shop_base.proofs.Changes.{IsMoved, IsReadied, IsTidied, after_move-moved, with_ready-readied, with_clean-tidied, moves_within}
use Rattle.shop_base.proofs.Keeping.{after_report-sound, after_move-sound, moved-sound, start-made, target_free, alone_on}
use Rattle.shop_base.proofs.InShop.{outside_in_shop, cleaned_in_shop, start_unused}
use Rattle.shop_base.proofs.ControlledRuns.{start_not_ready}
use Rattle.shop_base.proofs.Sums.{sum_below_same, sum_below_but, sum_below-le, sum_below_zero, sum_below_more, sum_below_list}
use Rattle.shop_base.proofs.Departures.{departures_free, departures_on, elsewhere-off}

-- a ready job isn't busy
ready-not_busy : (p : PlannedShop) (c : Cell) (j : ℕ) → ready c j ≡ true → busy p c j ≡ 0
ready-not_busy p c j is_ready = ap (λ b. cond b 0 (cond (nat_lt (steps p j) (made c j)) 0 1)) is_ready

-- nor is one that is gone
gone-not_busy : (p : PlannedShop) (c : Cell) (j : ℕ) → ready c j ≡ false → IsGone p c j → busy p c j ≡ 0
gone-not_busy p c j not_ready gone = ap₂ (λ x y. cond x 0 (cond y 0 1)) not_ready (lt-ltb (steps p j) (made c j) gone)

-- any other job is
waiting-busy : (p : PlannedShop) (c : Cell) (j : ℕ) → ready c j ≡ false → made c j ≤ steps p j → busy p c j ≡ 1
waiting-busy p c j not_ready here = ap₂ (λ x y. cond x 0 (cond y 0 1)) not_ready (le-ltb (steps p j) (made c j) here)

-- a job that is as it was has as many reports left
job_kept : (p : PlannedShop) (c new : Cell) (i : ℕ) → job_in new i ≡ job_in c i → job_reports_left p new i ≡ job_reports_left p c i
job_kept p c new i kept = ap (λ (s : JobState). (steps p i - s.made) + cond s.ready 0 (cond (nat_lt (steps p i) s.made) 0 1)) kept

-- where a machine's departures and its cleaning are as they were, so are the cleanings left
cleanings_kept : (p : PlannedShop) (c new : Cell) (m : ℕ) → departures p new m ≡ departures p c m → cleaning new m ≡ cleaning c m → cleanings_left p new m ≡ cleanings_left p c m
cleanings_kept p c new m same kept =
    ap₂ (λ (n : ℕ) (s : Option ℕ). cond (nat_lt 0 (clean p m)) ((length (order p m) - n) + cond (is_some s) 1 0) 0) same kept

-- where a machine's entries are as they were, and its jobs on it as they were, so are its departures
pub departures_kept : (p : PlannedShop) (c new : Cell) (m : ℕ) → entries new m ≡ entries c m → ((i : ℕ) → is_off p new m i ≡ is_off p c m i)
    → departures p new m ≡ departures p c m
departures_kept p c new m kept same = ap₂ (λ (f : ℕ → Bool) (xs : List ℕ). length xs - cond (f (slice_index_or xs (length xs - 1) 0)) 0 1) (fun_ext same) kept

cleanings_timed : (p : PlannedShop) (c : Cell) (m : ℕ) → 0 < clean p m → cleanings_left p c m ≡ (length (order p m) - departures p c m) + cond (is_some (cleaning c m)) 1 0
cleanings_timed p c m timed = ap (λ b. cond b ((length (order p m) - departures p c m) + cond (is_some (cleaning c m)) 1 0) 0) (lt-ltb 0 (clean p m) timed)

cleanings_untimed : (p : PlannedShop) (c : Cell) (m : ℕ) → clean p m ≡ 0 → cleanings_left p c m ≡ 0
cleanings_untimed p c m untimed =
    ap (λ b. cond b ((length (order p m) - departures p c m) + cond (is_some (cleaning c m)) 1 0) 0) (le-ltb 0 (clean p m) (omega arith))

-- no more jobs have entered a machine than its order has
entries_in_order : (p : PlannedShop) (c : Cell) (m : ℕ) → IsSound p c → length (entries c m) ≤ length (order p m)
entries_in_order p c m sound = let (rest, e) = sound.in_order m in omega (arith, ap length e, length-append (entries c m) rest)

-- a machine that a job is on isn't being cleaned
pub held-not_cleaned : (p : PlannedShop) (c : Cell) (j k m : ℕ) → IsSound p c → IsOn p c j k m → cleaning c m ≡ None
held-not_cleaned p c j k m sound on = go (cleaning c m) refl
  where
    go : (s : Option ℕ) → cleaning c m ≡ s → s ≡ None
    go None e = refl
    go (Some s) e = absurd (sound.cleaned_free m s e j k on)

module _ (p : PlannedShop) (c new : Cell) (j t : ℕ) (shaped : IsWellShaped p) (sound : IsSound p c) (can : CanMove p c j t) (keeps : KeepsPlan p c j)
    (change : IsMoved p c j t new) where
  move-job : job_reports_left p new j ≡ job_reports_left p c j
  move-job = elim can.way [
    | inl leaves ↦ omega (
      arith,
      change.made_mine,
      leaves_past p c j leaves,
      moves_within p c j t sound can,
      ready-not_busy p c j can.is_ready,
      gone-not_busy p new j change.ready_mine (omega (arith, leaves_past p c j leaves, change.made_mine)),
    )
    | inr (m, enters) ↦ omega (
      arith,
      change.made_mine,
      enters.next.within,
      ready-not_busy p c j can.is_ready,
      waiting-busy p new j change.ready_mine (omega (arith, change.made_mine, enters.next.within)),
    )
  ]

  -- the machine that the job leaves holds nobody afterwards
  left_free : (k m : ℕ) → IsOn p c j k m → IsFree p new m
  left_free k m on i l other = elim (cases_eq i j) [
    | inl same ↦ (let visits : Visits p j l m = rw same at other.visits in
        visits_apart p j k l m shaped on.visits visits (omega (arith, on.entered, change.made_mine, other.entered, ap (made new) same)))
    | inr apart ↦ apart (alone_on p c i l j k m shaped sound (record { entered = sym (ap (λ (s : JobState). s.made) (change.others i apart)) ∙ other.entered; visits = other.visits }) on)
  ]

  move-left : (k m : ℕ) → IsOn p c j k m → (Visits p j (made c j) m → ⊥) → cleanings_left p new m ≡ cleanings_left p c m
  move-left k m on away = elim (cases_lt 0 (clean p m)) [
    | inl timed ↦ omega (
      arith,
      cleanings_timed p c m timed,
      cleanings_timed p new m timed,
      departures_on p c j k m shaped sound on,
      departures_free p new m (left_free k m on),
      ap length (change.not_entered m away),
      entries_in_order p c m sound,
      ap {B = ℕ} (λ (s : Option ℕ). cond (is_some s) 1 0) (held-not_cleaned p c j k m sound on),
      ap {B = ℕ} (λ (s : Option ℕ). cond (is_some s) 1 0) (change.cleaning_begins k m on timed),
    )
    | inr untimed ↦ omega (arith, cleanings_untimed p c m (omega arith), cleanings_untimed p new m (omega arith))
  ]

  -- the machine that the job enters held nobody before
  move-entered : (m : ℕ) → Visits p j (made c j) m → ((k : ℕ) → IsOn p c j k m → ⊥) → cleanings_left p new m ≡ cleanings_left p c m
  move-entered m next elsewhere = cleanings_kept p c new m
      (omega (
        arith,
        departures_free p c m (target_free p c j t m can next).0,
        departures_on p new j (made c j) m shaped (moved-sound p c j t new shaped sound can keeps change) now_on,
        ap length (change.entered m next),
        length-append (entries c m) (j ∷ []),
      ))
      (change.cleaning_elsewhere m elsewhere)
    where
      now_on : IsOn p new j (made c j) m
      now_on = record { entered = change.made_mine; visits = next }

  move-machine : (m : ℕ) → cleanings_left p new m ≡ cleanings_left p c m
  move-machine m = elim (on_or_not p c j m) [
    | inl (k, on) ↦ move-left k m on (λ next. visits_apart p j k (made c j) m shaped on.visits next on.entered)
    | inr elsewhere ↦ elim (visits_or_not p j (made c j) m) [
      | inl next ↦ move-entered m next elsewhere
      | inr away ↦ cleanings_kept p c new m (departures_kept p c new m (change.not_entered m away) (same_off elsewhere away)) (change.cleaning_elsewhere m elsewhere)
    ]
  ]
    where
      same_off : ((k : ℕ) → IsOn p c j k m → ⊥) → (Visits p j (made c j) m → ⊥) → (i : ℕ) → is_off p new m i ≡ is_off p c m i
      same_off elsewhere away i = elim (cases_eq i j) [
        | inl same ↦ ap (is_off p new m) same ∙ elsewhere-off p new j m gone_by ∙ sym (elsewhere-off p c j m elsewhere) ∙ ap (is_off p c m) (sym same)
        | inr apart ↦ ap (λ (s : JobState). not (is_on_after p m i s.made)) (change.others i apart)
      ]
        where
          gone_by : (k : ℕ) → IsOn p new j k m → ⊥
          gone_by k on = let same : k ≡ made c j = omega (arith, on.entered, change.made_mine) in away (rw same at on.visits)

  -- a move leaves the reports to come as they are
  pub move-reports_left : reports_left p new ≡ reports_left p c
  move-reports_left = ap₂ (λ x y. x + y)
      (sum_below_same (job_reports_left p new) (job_reports_left p c) (jobs p) each_job)
      (sum_below_same (cleanings_left p new) (cleanings_left p c) (machines p) (λ m inside. move-machine m))
    where
      each_job : (i : ℕ) → i < jobs p → job_reports_left p new i ≡ job_reports_left p c i
      each_job i inside = elim (cases_eq i j) [
        | inl same ↦ ap (job_reports_left p new) same ∙ move-job ∙ ap (job_reports_left p c) (sym same)
        | inr apart ↦ job_kept p c new i (change.others i apart)
      ]

-- a report that makes a job ready lowers the reports to come by one
pub readied-reports_left : (p : PlannedShop) (c new : Cell) (j t : ℕ) → IsReadied c j t new → j < jobs p → ready c j ≡ false → made c j ≤ steps p j
    → reports_left p new + 1 ≡ reports_left p c
readied-reports_left p c new j t change inside not_ready here =
    omega (
      arith,
      sum_below_but (job_reports_left p new) (job_reports_left p c) (jobs p) j inside (λ i within apart. job_kept p c new i (change.others i apart)),
      sum_below_same (cleanings_left p new) (cleanings_left p c) (machines p) (λ m within. same m),
      mine,
    )
  where
    mine : job_reports_left p new j + 1 ≡ job_reports_left p c j
    mine = omega (arith, change.made_same j, ready-not_busy p new j change.ready_mine, waiting-busy p c j not_ready here)

    same : (m : ℕ) → cleanings_left p new m ≡ cleanings_left p c m
    same m = cleanings_kept p c new m
        (departures_kept p c new m (ap (λ (ms : List MachineState). (slice_index_or ms m unused).entries) change.machines_same)
        (λ i. ap (λ n. not (is_on_after p m i n)) (change.made_same i)))
        (ap (λ (ms : List MachineState). (slice_index_or ms m unused).cleaning) change.machines_same)

-- so does one that ends a cleaning
pub tidied-reports_left : (p : PlannedShop) (c new : Cell) (m s t : ℕ) → IsSound p c → IsTidied c m t new → cleaning c m ≡ Some s
    → reports_left p new + 1 ≡ reports_left p c
tidied-reports_left p c new m s t sound change is_cleaned =
    omega (
      arith,
      sum_below_same (job_reports_left p new) (job_reports_left p c) (jobs p) (λ i within. job_kept p c new i (ap (λ (js : List JobState). slice_index_or js i absent) change.jobs_same)),
      sum_below_but (cleanings_left p new) (cleanings_left p c) (machines p) m (cleaned_in_shop p c m s sound is_cleaned)
          (λ n within apart. cleanings_kept p c new n (same n) (change.cleaning_elsewhere n apart)),
      mine,
    )
  where
    same : (n : ℕ) → departures p new n ≡ departures p c n
    same n = departures_kept p c new n (change.entries_same n) (λ i. ap (λ (js : List JobState). not (is_on_after p n i (slice_index_or js i absent).made)) change.jobs_same)

    mine : cleanings_left p new m + 1 ≡ cleanings_left p c m
    mine = omega (
      arith,
      cleanings_timed p c m (sound.cleaned_timed m s is_cleaned),
      cleanings_timed p new m (sound.cleaned_timed m s is_cleaned),
      same m,
      ap {B = ℕ} (λ (x : Option ℕ). cond (is_some x) 1 0) is_cleaned,
      ap {B = ℕ} (λ (x : Option ℕ). cond (is_some x) 1 0) change.cleaning_mine,
    )

-- so does the end of any activity
end-reports_left : (p : PlannedShop) (c : Cell) (a : Activity) (t due : ℕ) → IsSound p c → GoesOn p c a due
    → reports_left p (after_end c a t) + 1 ≡ reports_left p c
end-reports_left p c (Arrival j) t due sound goes =
    let inside : j < jobs p = outside_in_shop p c j sound goes.outside in
    readied-reports_left p c (with_ready c j t) j t (with_ready-readied c j t goes.not_ready (omega (arith, sound.job_count))) inside goes.not_ready
    (omega (arith, goes.outside))
end-reports_left p c (Operation j m) t due sound (k, goes) =
    let inside : j < jobs p = visits_job p j k m goes.on.visits in
    readied-reports_left p c (with_ready c j t) j t (with_ready-readied c j t goes.not_ready (omega (arith, sound.job_count))) inside goes.not_ready
    (omega (arith, goes.on.entered, goes.on.visits.within))
end-reports_left p c (Cleaning m) t due sound (s, goes) =
    tidied-reports_left p c (with_clean c m t) m s t sound (with_clean-tidied c m s t goes.is_cleaned) goes.is_cleaned

-- a possible report lowers the reports to come by one
pub after_report-reports_left : (p : PlannedShop) (c : Cell) (r : Report) → IsSound p c → CanReport p c r → reports_left p (after_report c r) + 1 ≡ reports_left p c
after_report-reports_left p c r sound can = end-reports_left p c (ended r) (at r) can.going.0 sound can.going.1

-- a possible, plan-keeping move leaves them as they are
pub after_move-reports_left : (p : PlannedShop) (c : Cell) (j t : ℕ) → IsWellShaped p → IsSound p c → CanMove p c j t → KeepsPlan p c j
    → reports_left p (after_move p c j t) ≡ reports_left p c
after_move-reports_left p c j t shaped sound can keeps =
    move-reports_left p c (after_move p c j t) j t shaped sound can keeps (after_move-moved p c j t shaped sound can)

-- at the start they are the stated number
pub start-reports_left : (p : PlannedShop) → reports_left p (start p) ≡ stated_number p
start-reports_left p =
    omega (
      arith,
      sum_below_same (job_reports_left p (start p)) (λ j. steps p j + 1) (jobs p) each_job,
      sum_below_more (steps p) (jobs p),
      sum_below_list length p.shop.routes [],
      sum_below_same (cleanings_left p (start p)) (cleanings_of p) (machines p) (λ m inside. each_machine m),
    )
  where
    each_job : (j : ℕ) → j < jobs p → job_reports_left p (start p) j ≡ steps p j + 1
    each_job j inside = omega (arith, start-made p j inside, waiting-busy p (start p) j (start_not_ready p j) (omega (arith, start-made p j inside)))

    each_machine : (m : ℕ) → cleanings_left p (start p) m ≡ cleanings_of p m
    each_machine m =
        let none : departures p (start p) m ≡ 0 = omega (arith, ap (λ (s : MachineState). length s.entries) (start_unused p m)) in
        let same : (length (order p m) - departures p (start p) m) + cond (is_some (cleaning (start p) m)) 1 0 ≡ length (order p m) =
        omega (arith, none, ap {B = ℕ} (λ (s : MachineState). cond (is_some s.cleaning) 1 0) (start_unused p m)) in
        ap (λ n. cond (nat_lt 0 (clean p m)) n 0) same

-- what ends in a busy job or a cleaning, at rest, is still to be reported: where nothing is, all jobs are gone
gone_where_none : (p : PlannedShop) (c : Cell) → IsSound p c → IsAtRest p c → reports_left p c ≡ 0 → (j : ℕ) → j < jobs p → IsGone p c j
gone_where_none p c sound rest none j inside = elim (cases_lt (steps p j) (made c j)) [
  | inl gone ↦ gone
  | inr here ↦ elim (cases_Bool (ready c j)) [
    | inl is_ready ↦ absurd (can_leave is_ready (omega arith))
    | inr not_ready ↦ absurd (omega (arith, waiting-busy p c j not_ready here, mine))
  ]
]
  where
    mine : job_reports_left p c j ≡ 0
    mine = omega (arith, none, sum_below-le (job_reports_left p c) (jobs p) j inside)

    can_leave : ready c j ≡ true → made c j ≤ steps p j → ⊥
    can_leave is_ready here =
        let whole : made c j ≡ steps p j = omega (arith, mine) in
        rest j c.last (record { is_ready = is_ready; way = inl (past_leaves p c j (omega arith)); moment = record { in_order = omega arith; in_range = sound.last_in_range } })
        (λ m next. absurd (omega (arith, next.within)))

idle_where_none : (p : PlannedShop) (c : Cell) → IsSound p c → ((j : ℕ) → j < jobs p → IsGone p c j) → reports_left p c ≡ 0 → IsIdle p c
idle_where_none p c sound gone none (Arrival j) due goes = omega (arith, goes.outside, gone j (outside_in_shop p c j sound goes.outside))
idle_where_none p c sound gone none (Operation j m) due (k, goes) =
    omega (arith, goes.on.entered, goes.on.visits.within, gone j (visits_job p j k m goes.on.visits))
idle_where_none p c sound gone none (Cleaning m) due (s, goes) =
    omega (
      arith,
      none,
      sum_below-le (cleanings_left p c) (machines p) m (cleaned_in_shop p c m s sound goes.is_cleaned),
      cleanings_timed p c m (sound.cleaned_timed m s goes.is_cleaned),
      ap {B = ℕ} (λ (x : Option ℕ). cond (is_some x) 1 0) goes.is_cleaned,
    )

-- at rest, where no report is to come the run has ended
pub ended_where_none : (p : PlannedShop) (c : Cell) → IsSound p c → IsAtRest p c → reports_left p c ≡ 0 → HasEnded p c
ended_where_none p c sound rest none =
    let gone = gone_where_none p c sound rest none in
    record { gone = gone; idle = idle_where_none p c sound gone none }

-- a machine that all jobs have left was entered by all jobs of its order
all_entered : (p : PlannedShop) (c : Cell) (m : ℕ) → IsWellShaped p → IsSound p c → ((j : ℕ) → j < jobs p → IsGone p c j) → m < machines p
    → length (entries c m) ≡ length (order p m)
all_entered p c m shaped sound gone inside = elim (cases_lt (length (entries c m)) (length (order p m))) [
  | inl less ↦ absurd (unfinished less ((shaped.orders m inside).on_route (length (entries c m)) less))
  | inr whole ↦ omega (arith, entries_in_order p c m sound)
]
  where
    unfinished : length (entries c m) < length (order p m) → (k : ℕ) × Stands p m (length (entries c m)) (job_at p m (length (entries c m))) k → ⊥
    unfinished less (k, stands) =
        let i = job_at p m (length (entries c m)) in
        omega (
          arith,
          sound.made_entered m (length (entries c m)) i k stands
              (omega (arith, gone i (visits_job p i k m stands.visits), stands.visits.within)),
        )

-- where the run has ended, no report is to come
pub none_where_ended : (p : PlannedShop) (c : Cell) → IsWellShaped p → IsSound p c → HasEnded p c → reports_left p c ≡ 0
none_where_ended p c shaped sound ended =
    omega (arith, sum_below_zero (job_reports_left p c) (jobs p) each_job, sum_below_zero (cleanings_left p c) (machines p) each_machine)
  where
    each_job : (j : ℕ) → j < jobs p → job_reports_left p c j ≡ 0
    each_job j inside = omega (arith, ended.gone j inside, gone-not_busy p c j (sound.gone_not_ready j (ended.gone j inside)) (ended.gone j inside))

    free : (m : ℕ) → IsFree p c m
    free m j k on = omega (arith, on.entered, on.visits.within, ended.gone j (visits_job p j k m on.visits))

    not_cleaned : (m : ℕ) (s : Option ℕ) → cleaning c m ≡ s → s ≡ None
    not_cleaned m None e = refl
    not_cleaned m (Some from) e = absurd (ended.idle (Cleaning m) (from + clean p m) (from, record { is_cleaned = e; is_due = refl }))

    each_machine : (m : ℕ) → m < machines p → cleanings_left p c m ≡ 0
    each_machine m inside = elim (cases_lt 0 (clean p m)) [
      | inl timed ↦ omega (
        arith,
        cleanings_timed p c m timed,
        departures_free p c m (free m),
        all_entered p c m shaped sound ended.gone inside,
        ap {B = ℕ} (λ (x : Option ℕ). cond (is_some x) 1 0) (not_cleaned m (cleaning c m) refl),
      )
      | inr untimed ↦ cleanings_untimed p c m (omega arith)
    ]

-- in any run the reports made and those to come are as many as those to come at its beginning
pub run-reports_left : (p : PlannedShop) (c : Cell) (es : List Event) → IsWellShaped p → IsSound p c → AreEvents p c es
    → reports_in es + reports_left p (after_all p c es) ≡ reports_left p c
run-reports_left p c [] shaped sound events = omega arith
run-reports_left p c (Reported r ∷ es) shaped sound events =
    omega (
      arith,
      run-reports_left p (after_report c r) es shaped (after_report-sound p c r shaped sound events.0) events.1,
      after_report-reports_left p c r sound events.0,
    )
run-reports_left p c (Moved o ∷ es) shaped sound events =
    omega (
      arith,
      run-reports_left p (after_move p c o.job o.at) es shaped (after_move-sound p c o.job o.at shaped sound events.0.0.can events.0.1) events.1,
      after_move-reports_left p c o.job o.at shaped sound events.0.0.can events.0.1,
    )

pub after_moves-reports_left : (p : PlannedShop) (c : Cell) (t : ℕ) (js : List ℕ) → IsWellShaped p → IsSound p c → AreMoves p c t js
    → reports_left p (after_moves p c t js) ≡ reports_left p c
after_moves-reports_left p c t [] shaped sound moves = refl
after_moves-reports_left p c t (j ∷ js) shaped sound moves =
    after_moves-reports_left p (after_move p c j t) t js shaped (after_move-sound p c j t shaped sound moves.0 moves.1) moves.2
    ∙ after_move-reports_left p c j t shaped sound moves.0 moves.1

-- a step of the controlled run lowers the reports to come by one
pub after_step-reports_left : (p : PlannedShop) (c : Cell) (r : Report) (js : List ℕ) → IsWellShaped p → IsSound p c → IsStep p c r js
    → reports_left p (after_step p c r js) + 1 ≡ reports_left p c
after_step-reports_left p c r js shaped sound step =
    omega (
      arith,
      after_report-reports_left p c r sound step.can,
      after_moves-reports_left p (after_report c r) (at r) js shaped (after_report-sound p c r shaped sound step.can) step.moves,
    )
