-- From each cell some controlled run goes on in which no report is early, and none late but for what was overdue: again and again the activity that is due first is reported, when it is due, or at the present moment where that is past.
use Rattle.std.proofs.Common.{◌≡◌, ℕ, zero, suc, ◌+◌, ◌<◌, ◌≤◌, ◌⊎◌, inl, inr, List, [], ◌∷◌, ◌++◌, Option, None, Some, refl, sym, ap, subst, ◌∙◌, arith, le_refl, max}
use Rattle.std.proofs.lemmas.Bool.{cases_lt, cases_eq}
use Rattle.shop_base.specs.declared.node.Node.{Node}
use Rattle.shop_base.specs.declared.job_state.JobState.{JobState}
use Rattle.shop_base.specs.declared.limits.TheConstants.{MAX_MOMENT}
use Rattle.shop_base.specs.declared.report.Report.{Report}
use Rattle.shop_base.specs.Plan.{PlannedShop, jobs, machines, steps, clean, IsWellShaped}
use Rattle.shop_base.specs.Cell.{Cell, job_in, made, since, cleaning, IsGone}
use Rattle.shop_base.specs.Activity.{Activity, Arrival, Operation, Cleaning, GoesOn, IsIdle}
use Rattle.shop_base.specs.Report.{ended, at, report_of, CanReport, after_report}
use Rattle.shop_base.specs.Move.{after_move}
use Rattle.shop_base.specs.Run.{Event, Reported, IsAtRest, ends_in}
use Rattle.shop_base.specs.Controlled.{AreMoves, after_moves, orders_for, step_orders, after_step, IsStep, moved, Leads, done, accepted}
use Rattle.shop_base.specs.Punctual.{IsPunctualFrom, ArePunctualFrom, IsNotEarly, AreNotEarly}
use Rattle.shop_base.specs.Graph.{RanksRise, leaving}
use Rattle.shop_base.specs.Sound.{IsSound}
use Rattle.shop_base.specs.Movers.{due_of_job, due_of_cleaning}
use Rattle.shop_base.specs.ReportsLeft.{reports_left}
use Rattle.shop_base.specs.KeptMoments.{KeepsMoments}
use Rattle.shop_base.specs.Ahead.{next_node, Settles, GoesOnTo, settled, MoveFrom}
use Rattle.shop_base.specs.AheadLaw.{SomeContinuationIsExact}
use Rattle.shop_base.proofs.Visits.{visits_job, on_or_not}
use Rattle.shop_base.proofs.Reports.{ended-report_of, at-report_of}
use Rattle.shop_base.proofs.InShop.{outside_in_shop, cleaned_in_shop}
use Rattle.shop_base.proofs.Changes.{IsMoved, after_move-moved}
use Rattle.shop_base.proofs.Keeping.{after_report-like, after_report-sound, after_move-sound, run-sound}
use Rattle.shop_base.proofs.ControlledRuns.{after_moves-sound, after_step-sound}
use Rattle.shop_base.proofs.CellFacts.{arrival_due, operation_due, job_due, cleaning_due, due_cleaning}
use Rattle.shop_base.proofs.ReportsLeft.{after_step-reports_left}
use Rattle.shop_base.proofs.NeverStuck.{HasActivityBy, ahead_rises, rest-active}
use Rattle.shop_base.proofs.Settling.{cell_settles}
use Rattle.shop_base.proofs.InTime.{report_last, moves_last, fit_rise, present_left, report-went_on, step-still_fits, settled-fits, reports_sooner}
use Rattle.shop_base.proofs.Within.{IsNoneLate, none_late-after, moves_more, step_more, from-within}

-- the least of the moments that f gives below n
record IsFirst (f : ℕ → Option ℕ) (n d : ℕ) : Type 0 where
  place : ℕ
  here : f place ≡ Some d
  least : (i e : ℕ) → i < n → f i ≡ Some e → d ≤ e

-- it gives some below n, and so a least one, or none
first_or_none : (f : ℕ → Option ℕ) (n : ℕ) → ((d : ℕ) × IsFirst f n d) ⊎ ((i e : ℕ) → i < n → f i ≡ Some e → ⊥)
first_or_none f zero = inr (λ i e below is. absurd (omega arith))
first_or_none f (suc n) = go (f n) refl (first_or_none f n)
  where
    -- what holds of the moments below n and of that at n holds below suc n
    each : (P : ℕ → Type 0) → ((i e : ℕ) → i < n → f i ≡ Some e → P e) → ((e : ℕ) → f n ≡ Some e → P e) → (i e : ℕ) → i < suc n → f i ≡ Some e → P e
    each P before last i e below is = elim (cases_lt i n) [
      | inl less ↦ before i e less is
      | inr more ↦ (let same : i ≡ n = omega arith in last e (rw same at is))
    ]

    go : (o : Option ℕ) → f n ≡ o → ((d : ℕ) × IsFirst f n d) ⊎ ((i e : ℕ) → i < n → f i ≡ Some e → ⊥) → ((d : ℕ) × IsFirst f (suc n) d) ⊎ ((i e : ℕ) → i < suc n → f i ≡ Some e → ⊥)
    go None is (inr none) = inr (each (λ e. ⊥) none (λ e at. absurd (cc)))
    go None is (inl (d, found)) = inl (d, record { place = found.place; here = found.here; least = each (λ e. d ≤ e) found.least (λ e at. absurd (cc)) })
    go (Some d) is (inr none) = inl (
      d,
      record { place = n; here = is; least = each (λ e. d ≤ e) (λ i e below at. absurd (none i e below at)) (λ e at. let same : d ≡ e = cc in omega arith) },
    )
    go (Some x) is (inl (d, found)) = elim (cases_lt x d) [
      | inl less ↦ inl (
        x,
        record { place = n; here = is; least = each (λ e. x ≤ e) (λ i e below at. omega (arith, found.least i e below at)) (λ e at. let same : x ≡ e = cc in omega arith) },
      )
      | inr more ↦ inl (
        d,
        record { place = found.place; here = found.here; least = each (λ e. d ≤ e) found.least (λ e at. let same : x ≡ e = cc in omega arith) },
      )
    ]

-- an activity going on that is due no later than any other
record HasFirst (p : PlannedShop) (c : Cell) : Type 0 where
  activity : Activity
  due : ℕ
  going : GoesOn p c activity due
  first : (a : Activity) (d : ℕ) → GoesOn p c a d → due ≤ d

-- there is one, or nothing goes on
module _ (p : PlannedShop) (c : Cell) (sound : IsSound p c) where
  of_job : ℕ → Option ℕ
  of_job j = due_of_job p j (job_in c j)

  of_machine : ℕ → Option ℕ
  of_machine m = due_of_cleaning p m (cleaning c m)

  -- what goes on is due as the rows of the jobs and machines of the shop say
  in_rows : (a : Activity) (d : ℕ) → GoesOn p c a d → ((j : ℕ) × (j < jobs p) × (of_job j ≡ Some d)) ⊎ ((m : ℕ) × (m < machines p) × (of_machine m ≡ Some d))
  unfolding of_job of_machine
  in_rows (Arrival j) d going = inl (j, outside_in_shop p c j sound going.outside, arrival_due p c j d going)
  in_rows (Operation j m) d going = inl (j, visits_job p j going.0 m going.1.on.visits, operation_due p c j m d going)
  in_rows (Cleaning m) d going = inr (m, cleaned_in_shop p c m going.0 sound going.1.is_cleaned, cleaning_due p c m d going)

  job_first : (d : ℕ) → IsFirst of_job (jobs p) d → ((m e : ℕ) → m < machines p → of_machine m ≡ Some e → d ≤ e) → HasFirst p c
  unfolding of_job of_machine
  job_first d found others = elim (job_due p c found.place d found.here) [
    | inl awaited ↦ record { activity = Arrival found.place; due = d; going = awaited; first = first }
    | inr (m, worked) ↦ record { activity = Operation found.place m; due = d; going = worked; first = first }
  ]
    where
      first : (a : Activity) (e : ℕ) → GoesOn p c a e → d ≤ e
      first a e going = elim (in_rows a e going) [ inl (j, below, is) ↦ found.least j e below is | inr (m, below, is) ↦ others m e below is ]

  machine_first : (d : ℕ) → IsFirst of_machine (machines p) d → ((j e : ℕ) → j < jobs p → of_job j ≡ Some e → d ≤ e) → HasFirst p c
  unfolding of_job of_machine
  machine_first d found others = record {
    activity = Cleaning found.place;
    due = d;
    going = due_cleaning p c found.place d found.here;
    first = λ a e going. elim (in_rows a e going) [ inl (j, below, is) ↦ others j e below is | inr (m, below, is) ↦ found.least m e below is ];
  }

  first_or_idle : HasFirst p c ⊎ IsIdle p c
  first_or_idle = go (first_or_none of_job (jobs p)) (first_or_none of_machine (machines p))
    where
      go : ((d : ℕ) × IsFirst of_job (jobs p) d) ⊎ ((j e : ℕ) → j < jobs p → of_job j ≡ Some e → ⊥)
          → ((d : ℕ) × IsFirst of_machine (machines p) d) ⊎ ((m e : ℕ) → m < machines p → of_machine m ≡ Some e → ⊥) → HasFirst p c ⊎ IsIdle p c
      go (inr none) (inr no_other) = inr (λ a d going. elim (in_rows a d going) [ inl (j, below, is) ↦ none j d below is | inr (m, below, is) ↦ no_other m d below is ])
      go (inl (d, found)) (inr no_other) = inl (job_first d found (λ m e below is. absurd (no_other m e below is)))
      go (inr none) (inl (d, found)) = inl (machine_first d found (λ j e below is. absurd (none j e below is)))
      go (inl (d, found)) (inl (e, other)) = elim (cases_lt e d) [
        | inl less ↦ inl (machine_first e other (λ j x below is. omega (arith, found.least j x below is)))
        | inr more ↦ inl (job_first d found (λ m x below is. omega (arith, other.least m x below is)))
      ]

-- what goes on behind a move went on before it, or began with it, and so isn't due before it
moved-went_on : (p : PlannedShop) (c : Cell) (j t : ℕ) (new : Cell) → IsMoved p c j t new → (a : Activity) (due : ℕ) → GoesOn p new a due → GoesOn p c a due ⊎ (t ≤ due)
moved-went_on p c j t new change (Arrival i) due awaited = elim (cases_eq i j) [
  | inl same ↦ (let one_more : made new i ≡ made c j + 1 = rw same change.made_mine in absurd (omega (arith, awaited.outside)))
  | inr other ↦ inl (record {
    outside = sym (ap (λ (s : JobState). s.made) (change.others i other)) ∙ awaited.outside;
    not_ready = sym (ap (λ (s : JobState). s.ready) (change.others i other)) ∙ awaited.not_ready;
    is_due = awaited.is_due;
  })
]
moved-went_on p c j t new change (Operation i m) due (k, worked) = elim (cases_eq i j) [
  | inl same ↦ (let from : since new i ≡ t = rw same change.since_mine in inr (omega (arith, worked.is_due)))
  | inr other ↦ inl (
    k,
    record {
      on = record { entered = sym (ap (λ (s : JobState). s.made) (change.others i other)) ∙ worked.on.entered; visits = worked.on.visits };
      not_ready = sym (ap (λ (s : JobState). s.ready) (change.others i other)) ∙ worked.not_ready;
      is_due = omega (arith, worked.is_due, ap (λ (s : JobState). s.since) (change.others i other));
    },
  )
]
moved-went_on p c j t new change (Cleaning m) due (s, cleaned) = elim (on_or_not p c j m) [
  | inl (l, on) ↦ elim (cases_lt 0 (clean p m)) [
    | inl timed ↦ (let both : Some s ≡ Some t = sym cleaned.is_cleaned ∙ change.cleaning_begins l m on timed in
        let from : s ≡ t = cc in
        inr (omega (arith, cleaned.is_due)))
    | inr untimed ↦ inl (s, record { is_cleaned = sym (change.cleaning_needless l m on (omega arith)) ∙ cleaned.is_cleaned; is_due = cleaned.is_due })
  ]
  | inr off ↦ inl (s, record { is_cleaned = sym (change.cleaning_elsewhere m off) ∙ cleaned.is_cleaned; is_due = cleaned.is_due })
]

moves-went_on : (p : PlannedShop) (c : Cell) (t : ℕ) (js : List ℕ) → IsWellShaped p → IsSound p c → AreMoves p c t js → (a : Activity) (due : ℕ) → GoesOn p (after_moves p c t js) a due → GoesOn p c a due ⊎ (t ≤ due)
moves-went_on p c t [] shaped sound moves a due going = inl going
moves-went_on p c t (j ∷ js) shaped sound (can, keeps, moves) a due going =
    elim (moves-went_on p (after_move p c j t) t js shaped (after_move-sound p c j t shaped sound can keeps) moves a due going) [
      | inl still ↦ moved-went_on p c j t (after_move p c j t) (after_move-moved p c j t shaped sound can) a due still
      | inr later ↦ inr later
    ]

-- moves at a moment from t on, and then moves from t on
moves_from : (p : PlannedShop) (c : Cell) (t u : ℕ) (js : List ℕ) (es : List Event) → t ≤ u → MoveFrom t es → MoveFrom t (moved (orders_for p c u js) ++ es)
moves_from p c t u [] es later from = from
moves_from p c t u (j ∷ js) es later from = (later, moves_from p (after_move p c j u) t u js es later from)

module _ (p : PlannedShop) (rank kept : Node → ℕ) (t : ℕ) (shaped : IsWellShaped p) (ranks : RanksRise p rank) (in_range : t ≤ MAX_MOMENT) where
  -- a cell at rest that keeps its moments, and whose last moment isn't past what goes on, or isn't past moment t
  record IsOnTime (c : Cell) : Type 0 where
    sound : IsSound p c
    quiescent : IsAtRest p c
    keeps : KeepsMoments p kept c
    none_late : IsNoneLate p c t kept
    soon : (a : Activity) (due : ℕ) → GoesOn p c a due → c.last ≤ max due t

  -- a controlled run from the cell, with no report early or late, at whose end each job is gone whose leaving is kept in range
  record LeadsExactly (c : Cell) : Type 0 where
    reports : List Report
    events : List Event
    end : Cell
    leads : Leads p c reports events end
    punctual : ArePunctualFrom p t c events
    not_early : AreNotEarly p c events
    from : MoveFrom t events
    gone : (j : ℕ) → j < jobs p → kept (leaving p j) ≤ MAX_MOMENT → IsGone p end j

  -- where nothing that goes on is due in range, each such job is gone
  stop : (c : Cell) → IsOnTime c → ((a : Activity) (due : ℕ) → GoesOn p c a due → MAX_MOMENT < max due t) → LeadsExactly c
  stop c on_time past = record { reports = []; events = []; end = c; leads = done c; punctual = tt; not_early = tt; from = tt; gone = gone }
    where
      gone : (j : ℕ) → j < jobs p → kept (leaving p j) ≤ MAX_MOMENT → IsGone p c j
      gone j inside short = elim (cases_lt (steps p j) (made c j)) [
        | inl out ↦ out
        | inr left ↦ (let found : HasActivityBy p c (next_node c j) = rest-active p rank c j shaped ranks on_time.sound on_time.quiescent inside left in
            let late : MAX_MOMENT < max found.due t = past found.activity found.due found.going in
            let held : found.due ≤ kept found.held = on_time.keeps.activities found.activity found.due found.held found.going found.holds in
            let leads : kept found.held ≤ kept (next_node c j) = found.leads kept (fit_rise p c c.last kept on_time.keeps) in
            let along : kept (next_node c j) ≤ kept (leaving p j) =
            ahead_rises p c kept j (made c j) (steps p j) (fit_rise p c c.last kept on_time.keeps) (le_refl (made c j)) left (le_refl (steps p j)) in
            absurd (omega arith))
      ]

  -- else the first is reported
  go_on : (c : Cell) → IsOnTime c → (next : HasFirst p c) → max next.due t ≤ MAX_MOMENT
      → ((r : Report) (js : List ℕ) → IsStep p c r js → IsOnTime (after_step p c r js) → LeadsExactly (after_step p c r js)) → LeadsExactly c
  go_on c on_time next range later = answered (cell_settles p (after_report c r) (at r) shaped sound_then (record { in_order = omega (arith, report_last c (ended r) (at r)); in_range = in_range_then }))
    where
      r : Report
      r = report_of next.activity (max next.due t)

      when : at r ≡ max next.due t
      when = at-report_of next.activity (max next.due t)

      in_range_then : at r ≤ MAX_MOMENT
      in_range_then = omega (arith, range, when)

      going : GoesOn p c (ended r) next.due
      going = subst (λ (a : Activity). GoesOn p c a next.due) (sym (ended-report_of next.activity (max next.due t))) next.going

      can : CanReport p c r
      can = record { going = (next.due, going); moment = record { in_order = omega (arith, when, on_time.soon next.activity next.due next.going); in_range = in_range_then } }

      sound_then : IsSound p (after_report c r)
      sound_then = after_report-sound p c r shaped on_time.sound can

      punctual : IsPunctualFrom p t c r
      punctual a due going = elim (cases_lt next.due t) [
        | inl overdue ↦ inl (omega (arith, when))
        | inr ahead ↦ inr (omega (arith, when, next.first a due going))
      ]

      answered : (js : List ℕ) × Settles p (after_report c r) (at r) js → LeadsExactly c
      answered (js, settles) =
          let step : IsStep p c r js = record { can = can; moves = settles.moves; quiescent = settles.quiescent } in
          let found : LeadsExactly (after_step p c r js) = later r js step (record {
            sound = after_step-sound p c r js shaped on_time.sound step;
            quiescent = settles.quiescent;
            keeps = step-still_fits p rank kept c r js shaped ranks on_time.sound on_time.quiescent on_time.keeps step
                (from-within p kept c t c.last r on_time.sound on_time.keeps on_time.none_late punctual);
            none_late = none_late-after p c (after_step p c r js) t kept (λ i. step_more p c r js i shaped on_time.sound step) on_time.none_late;
            soon = λ a due going.
                let last : (after_step p c r js).last ≤ at r = moves_last p (after_report c r) (at r) js (omega (arith, report_last c (ended r) (at r))) in
                elim (moves-went_on p (after_report c r) (at r) js shaped sound_then settles.moves a due going) [
                  | inl still ↦ omega (arith, when, next.first a due (report-went_on p c (after_report c r) (after_report-like p c r on_time.sound can) a due still))
                  | inr begun ↦ omega (arith, when)
                ];
          }) in record {
            reports = r ∷ found.reports;
            events = Reported r ∷ (moved (step_orders p c r js) ++ found.events);
            end = found.end;
            leads = accepted c r js found.reports found.events found.end step found.leads;
            punctual = (punctual, reports_sooner p (IsPunctualFrom p t) (after_report c r) (at r) js found.events found.punctual);
            not_early = (record { due = next.due; going = going; later = omega (arith, when) }, reports_sooner p (IsNotEarly p) (after_report c r) (at r) js found.events found.not_early);
            from = moves_from p (after_report c r) t (at r) js found.events (omega (arith, when)) found.from;
            gone = found.gone;
          }

  -- by induction on the reports left
  leads_exactly : (n : ℕ) (c : Cell) → IsOnTime c → reports_left p c < n → LeadsExactly c
  leads_exactly zero c on_time enough = absurd (omega arith)
  leads_exactly (suc n) c on_time enough = elim (first_or_idle p c on_time.sound) [
    | inr idle ↦ stop c on_time (λ a due going. absurd (idle a due going))
    | inl next ↦ elim (cases_lt MAX_MOMENT (max next.due t)) [
      | inl past ↦ stop c on_time (λ a due going. omega (arith, next.first a due going))
      | inr range ↦ go_on c on_time next range λ r js step then_on_time.
          leads_exactly n (after_step p c r js) then_on_time (omega (arith, after_step-reports_left p c r js shaped on_time.sound step))
    ]
  ]

pub some_continuation_is_exact-holds : SomeContinuationIsExact
some_continuation_is_exact-holds p rank kept es t run moment schedule =
    go_on_from (cell_settles p c t schedule.shaped sound moment)
  where
    c : Cell
    c = ends_in p es

    sound : IsSound p c
    sound = run-sound p es schedule.shaped run

    go_on_from : (js : List ℕ) × Settles p c t js → (rs : List Report) × (fs : List Event) × (end : Cell) × GoesOnTo p c t rs fs end
        × ArePunctualFrom p t c fs × AreNotEarly p c fs × MoveFrom t fs × ((j : ℕ) → j < jobs p → kept (leaving p j) ≤ MAX_MOMENT → IsGone p end j)
    go_on_from (js, settles) =
        let found : LeadsExactly p rank kept t schedule.shaped schedule.ranks moment.in_range (after_moves p c t js) = leads_exactly p rank kept t schedule.shaped schedule.ranks moment.in_range (reports_left p (after_moves p c t js) + 1) (after_moves p c t js) (record {
          sound = after_moves-sound p c t js schedule.shaped sound settles.moves;
          quiescent = settles.quiescent;
          keeps = settled-fits p rank kept c t js sound moment.in_order schedule settles.moves;
          none_late = none_late-after p c (after_moves p c t js) t kept (λ i. moves_more p c t js i schedule.shaped sound settles.moves) (λ v left. present_left p c t kept v schedule.moments left);
          soon = λ a due going. omega (arith, moves_last p c t js moment.in_order);
        }) (omega arith) in (
          found.reports,
          moved (orders_for p c t js) ++ found.events,
          found.end,
          settled js found.reports found.events found.end settles found.leads,
          reports_sooner p (IsPunctualFrom p t) c t js found.events found.punctual,
          reports_sooner p (IsNotEarly p) c t js found.events found.not_early,
          moves_from p c t t js found.events (le_refl t) found.from,
          found.gone,
        )
