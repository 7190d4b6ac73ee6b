-- Whose turn it is: the activity that is reported first; and the report that comes next.
use Rattle.std.proofs.Common.{◌≡◌, ℕ, zero, suc, ◌+◌, ◌-◌, ◌<◌, ◌≤◌, ◌⊎◌, inl, inr, max, Option, None, Some, MatchOption, MatchBool, Bool, true, false, not, ◌↔◌, arith, refl, sym, ap, ◌∙◌, subst}
use Rattle.std.proofs.lemmas.Bool.{cases_lt}
use Rattle.shop_base.specs.declared.limits.TheConstants.{MAX_MOMENT}
use Rattle.shop_base.specs.declared.report.Report.{Report}
use Rattle.shop_base.specs.declared.report.Report.TheVariants.{Arrive, Finish, Clean}
use Rattle.shop_base.specs.Plan.{PlannedShop, jobs, machines, machine_of}
use Rattle.shop_base.specs.Cell.{Cell, made, cleaning, IsOutside, IsGone}
use Rattle.shop_base.specs.Activity.{Activity, Arrival, Operation, Cleaning, IsWorked, GoesOn}
use Rattle.shop_base.specs.Report.{ended}
use Rattle.shop_base.specs.Sound.{IsSound}
use Rattle.shop_base.proofs.Visits.{visits_job}
use Rattle.shop_base.proofs.InShop.{outside_in_shop, cleaned_in_shop}
use Rattle.shop_base.proofs.Ahead.{IsBusyUntil, busy_once, cleaned_once}
use Rattle.cell_tables.specs.Readings.{IsMachineOf}
use Rattle.cell_control.specs.Readings.{IsOnTime, IsOf, IsDueOf, IsDueOfCleaning}
use Rattle.plan_moves.specs.declared.next_report.Soonest.{Soonest}
use Rattle.plan_moves.specs.NextReports.{report_turn, IsNextReport, IsOver}
use Rattle.plan_moves.specs.Soonest.{IsDueAt, IsDueOnlyAt, IsIdleBelow, IsTurn, IsReportAt, ComesFirst, IsPassedOver, IsFirstAt, IsSoonest}

module _ (p : PlannedShop) (t : ℕ) (c : Cell) where
  -- ---- the first turn

  -- where those before are passed over, it is reported first
  pub first_soonest : (n k : ℕ) (s : Soonest) → k < n → ((i : ℕ) → i < k → IsPassedOver p t c i) → IsFirstAt p t c k s → IsSoonest p t c n s
  first_soonest n k s within passed is = record {
    within = omega (arith, is.turn_is);
    due = is.due;
    goes_on = subst (λ i. IsDueOnlyAt p c i is.due) (sym is.turn_is) is.goes_on;
    when = is.when;
    soonest = λ i other less (a, turn_is, going). omega (arith, is.when, no_later is.due other is.first a going);
    first = λ i other less there. omega (arith, is.when, later is.due other is.first (passed i (omega (arith, is.turn_is)) other there));
  }
    where
      no_later : (due other : ℕ) → ComesFirst p t c due → (a : Activity) → GoesOn p c a other → max due t ≤ max other t
      no_later due other (inl over) a going = omega arith
      no_later due other (inr on_time) a going = omega (arith, on_time a other going)

      later : (due other : ℕ) → ComesFirst p t c due → (ComesFirst p t c other → ⊥) → max due t < max other t
      later due other first passed = elim (cases_lt t other) [
        | inr over ↦ absurd (passed (inl over))
        | inl after ↦ elim (cases_lt due other) [
          | inl less ↦ omega arith
          | inr more ↦ absurd (passed (earlier due other more after first))
        ]
      ]
        where
          earlier : (due other : ℕ) → other ≤ due → t < other → ComesFirst p t c due → ComesFirst p t c other
          earlier due other less after (inl over) = absurd (omega arith)
          earlier due other less after (inr on_time) = inr (λ a moment going. omega (arith, on_time a moment going))

  -- what is due after the present moment comes first where nothing is late by then
  pub first_exact : (due : ℕ) (late : Bool) → t < due → ((late ≡ false) ↔ IsOnTime p c due) → MatchBool (not late) (ComesFirst p t c due) (ComesFirst p t c due → ⊥)
  first_exact due false after on_time = inr (on_time.0 refl)
  first_exact due true after on_time = λ first. none first
    where
      none : ComesFirst p t c due → ⊥
      none (inl over) = absurd (omega arith)
      none (inr soon) = (let same : true ≡ false = on_time.1 soon in absurd cc)

  -- no activity of the turn comes first where its one due moment doesn't
  pub passed_over : (k due : ℕ) → IsDueOnlyAt p c k due → (ComesFirst p t c due → ⊥) → IsPassedOver p t c k
  passed_over k due only none other is first = none (subst (λ e. ComesFirst p t c e) (only.1 other is) first)

  -- one turn more is passed over
  pub passed_more : (n : ℕ) → ((k : ℕ) → k < n → IsPassedOver p t c k) → IsPassedOver p t c n → (k : ℕ) → k < n + 1 → IsPassedOver p t c k
  passed_more n before last k less = elim (cases_lt k n) [
    | inl earlier ↦ before k earlier
    | inr there ↦ (let same : n ≡ k = omega arith in subst (λ i. IsPassedOver p t c i) same last)
  ]

  -- ---- all turns

  module _ (sound : IsSound p c) where
    turn_within : (a : Activity) (due : ℕ) → GoesOn p c a due → report_turn p a < jobs p + machines p
    turn_within (Arrival j) due going = omega (arith, outside_in_shop p c j sound going.outside)
    turn_within (Operation j m) due (k, going) = omega (arith, visits_job p j k m going.on.visits)
    turn_within (Cleaning m) due (from, going) = omega (arith, cleaned_in_shop p c m from sound going.is_cleaned)

    -- where all turns are passed over nothing goes on
    pub passed_idle : ((k : ℕ) → k < jobs p + machines p → IsPassedOver p t c k) → IsIdleBelow p c (jobs p + machines p)
    passed_idle passed k due less (a, is, going) = none_due (suc due) a due (omega arith) going
      where
        none_due : (m : ℕ) (a : Activity) (due : ℕ) → due < m → GoesOn p c a due → ⊥
        none_due zero a due less going = absurd (omega arith)
        none_due (suc m) a due less going = passed (report_turn p a) (turn_within a due going) due (a, refl, going) (inr (λ b other goes_on. elim (cases_lt other due) [
          | inl before ↦ absurd (none_due m b other (omega arith) goes_on)
          | inr more ↦ more
        ]))

    pub idle_over : IsIdleBelow p c (jobs p + machines p) → IsOver p t c
    idle_over idle a due going = absurd (idle (report_turn p a) due (turn_within a due going) (a, refl, going))

    module _ (s : Soonest) (soonest : IsSoonest p t c (jobs p + machines p) s) where
      pub late_over : MAX_MOMENT < s.at → IsOver p t c
      late_over late a due going = omega (arith, late, soonest.soonest (report_turn p a) due (turn_within a due going) (a, refl, going))

      pub turn_of : IsTurn p c s.turn
      turn_of = (soonest.due, soonest.goes_on.0)

      pub next_of : (r : Report) → s.at ≤ MAX_MOMENT → IsReportAt p c s r → IsNextReport p t c r
      next_of r range is = record {
        due = is.due;
        going = is.going;
        when = is.at_is ∙ soonest.when ∙ ap (λ n. max n t) (sym (soonest.goes_on.1 is.due (ended r, is.turn_is, is.going)));
        range = omega (arith, is.at_is);
        soonest = λ a other going. omega (arith, is.at_is, soonest.soonest (report_turn p a) other (turn_within a other going) (a, refl, going));
        first = λ a other going less. omega (arith, is.at_is, soonest.first (report_turn p a) other (omega (arith, is.turn_is)) (a, refl, going));
      }

  -- ---- what one turn has

  -- a turn below the jobs is that job's
  busy_of : (j due : ℕ) → j < jobs p → IsDueAt p c j due → IsBusyUntil p c j due
  busy_of j due inside (Arrival i, is, going) = subst (λ k. IsBusyUntil p c k due) is (inl going)
  busy_of j due inside (Operation i m, is, (k, going)) = subst (λ k. IsBusyUntil p c k due) is (inr (k, m, going))
  busy_of j due inside (Cleaning m, is, going) = absurd (omega arith)

  pub job_turn : (j : ℕ) (o : Option ℕ) → j < jobs p → IsDueOf p c j o → MatchOption o ((due : ℕ) → IsDueAt p c j due → ⊥) (IsDueOnlyAt p c j)
  job_turn j None inside none = λ due (a, is, going). nothing a due is going
    where
      nothing : (a : Activity) (due : ℕ) → report_turn p a ≡ j → GoesOn p c a due → ⊥
      nothing (Arrival i) due is going = none (Arrival i) due is going
      nothing (Operation i m) due is going = none (Operation i m) due is going
      nothing (Cleaning m) due is going = absurd (omega arith)
  job_turn j (Some due) inside (a, of_job, going) = (here, λ other is. busy_once p c j other due (busy_of j other inside is) (busy_of j due inside here))
    where
      its : (a : Activity) → IsOf j a → report_turn p a ≡ j
      its (Arrival i) is = is
      its (Operation i m) is = is
      its (Cleaning m) is = absurd is

      here : IsDueAt p c j due
      here = (a, its a of_job, going)

  -- one above them that machine's
  cleaned_of : (m due : ℕ) → IsSound p c → IsDueAt p c (jobs p + m) due → GoesOn p c (Cleaning m) due
  cleaned_of m due sound (Arrival i, is, going) = absurd (omega (arith, outside_in_shop p c i sound going.outside))
  cleaned_of m due sound (Operation i n, is, (k, going)) = absurd (omega (arith, visits_job p i k n going.on.visits))
  cleaned_of m due sound (Cleaning n, is, going) = (let same : n ≡ m = omega arith in subst (λ k. GoesOn p c (Cleaning k) due) same going)

  pub machine_turn : (m : ℕ) (o : Option ℕ) → IsSound p c → IsDueOfCleaning p c m o → MatchOption o ((due : ℕ) → IsDueAt p c (jobs p + m) due → ⊥) (IsDueOnlyAt p c (jobs p + m))
  machine_turn m None sound none = λ due is. (let (from, cleaned) = cleaned_of m due sound is in let going : cleaning c m ≡ Some from = cleaned.is_cleaned in absurd cc)
  machine_turn m (Some due) sound going = (
    (Cleaning m, refl, going),
    λ other is. cleaned_once p c m (cleaned_of m other sound is).0 going.0 other due (cleaned_of m other sound is).1 going.1,
  )

  -- ---- the report

  pub cleaned_report : (m : ℕ) (s : Soonest) → IsSound p c → s.turn ≡ jobs p + m → IsTurn p c s.turn → IsReportAt p c s (Clean m s.at)
  cleaned_report m s sound is (due, busy) = record {
    turn_is = sym is;
    at_is = refl;
    due = due;
    going = cleaned_of m due sound (subst (λ k. IsDueAt p c k due) is busy);
  }

  pub job_report : (s : Soonest) (o : Option ℕ) (r : Report) → s.turn < jobs p → IsMachineOf p c s.turn o → IsTurn p c s.turn
      → MatchOption o (r ≡ Arrive s.turn s.at) (λ m. r ≡ Finish s.turn m s.at) → IsReportAt p c s r
  job_report s None r inside off (due, busy) is = subst (λ (x : Report). IsReportAt p c s x) (sym is) (record { turn_is = refl; at_is = refl; due = due; going = awaited off (busy_of s.turn due inside busy) })
    where
      awaited : IsOutside c s.turn ⊎ IsGone p c s.turn → IsBusyUntil p c s.turn due → GoesOn p c (Arrival s.turn) due
      awaited off (inl going) = going
      awaited (inl outside) (inr (k, m, worked)) = absurd (omega (arith, worked.on.entered))
      awaited (inr gone) (inr (k, m, worked)) = absurd (omega (arith, worked.on.entered, worked.on.visits.within))
  job_report s (Some m) r inside on (due, busy) is = subst (λ (x : Report). IsReportAt p c s x) (sym is) (record { turn_is = refl; at_is = refl; due = due; going = worked (busy_of s.turn due inside busy) })
    where
      worked : IsBusyUntil p c s.turn due → GoesOn p c (Operation s.turn m) due
      worked (inl going) = absurd (omega (arith, going.outside, on.entered))
      worked (inr (k, n, going)) =
          let step : k ≡ made c s.turn - 1 = omega (arith, going.on.entered) in
          let same : n ≡ m = sym going.on.visits.here ∙ ap (machine_of p s.turn) step ∙ on.visits.here in
          (k, subst (λ i. IsWorked p c s.turn k i due) same going)
