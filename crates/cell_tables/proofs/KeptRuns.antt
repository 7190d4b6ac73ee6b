-- A run that keeps another plan is one of that plan: each event can happen in the carried cell, and carries it on.
use Rattle.std.proofs.Common.{◌≡◌, ℕ, zero, suc, ◌+◌, ◌<◌, ◌≤◌, inl, inr, List, [], ◌∷◌, ◌++◌, length, get_or, true, false, Option, None, Some, is_some, nat_lt, if◌then◌else◌, le_refl, refl, sym, ap, ◌∙◌, subst, arith, lt-ltb, le-ltb}
use Rattle.std.proofs.{lemmas.Bool.{cases_eq, cases_lt}, lemmas.List.{get_or-replicate, length-replicate}}
use Rattle.shop_base.specs.{declared.job_state.JobState.JobState, declared.move_order.MoveOrder.MoveOrder}
use Rattle.shop_base.specs.{declared.move_order.Spot.Spot, ReportsLeft.departures, Sound.IsSound}
use Rattle.shop_base.specs.declared.report.Report.{Report, TheVariants.{Arrive, Finish, Clean}}
use Rattle.shop_base.specs.Plan.{PlannedShop, jobs, machines, steps, machine_of, nominal, release, clean, order, Visits, IsWellShaped}
use Rattle.shop_base.specs.Cell.{Cell, MachineState, absent, unused, start, job_in, made, ready, since, cleaning, IsOn}
use Rattle.shop_base.specs.Report.{IsNextMoment, CanReport, with_ready, with_clean, after_report}
use Rattle.shop_base.specs.Move.{IsPrefix, CanMove, KeepsPlan, CanEnter, spot_after, source, target, after_move, order_for}
use Rattle.shop_base.specs.Run.{Event, Reported, Moved, CanHappen, after, AreEvents, after_all}
use Rattle.shop_base.proofs.Visits.{visits_job, visits_machine, on_or_not, visits_or_not, stop_at, stop_past, leaves_past, past_leaves}
use Rattle.shop_base.proofs.InShop.{outside_in_shop, ready_in_shop, cleaned_in_shop, start_unused}
use Rattle.shop_base.proofs.Changes.{IsMoved, IsReadied, IsTidied, after_move-moved, with_ready-readied, with_clean-tidied, moves_within}
use Rattle.shop_base.proofs.Keeping.{after-sound, after_move-sound, after_report-like, start-sound}
use Rattle.shop_base.proofs.Departures.{departures_free}
use Rattle.cell_tables.specs.{Kept.KeepsSoFar, Carried.{awaited, carried_job, carried_cleaning, IsCarried}}
use Rattle.cell_tables.specs.KeptLaw.{AKeptRunIsOneOfTheOtherPlan}
use Rattle.cell_tables.proofs.{CarriedCells.{job_kept, entered_there, carried-sound}, KeptSoFar.no_cleaning_time}
use Rattle.cell_tables.proofs.KeptBefore.{going, event_before, keeps_before, keeps_first, one_more, report_departures}

-- a state is its three parts
same_state : (a b : JobState) → a.made ≡ b.made → a.ready ≡ b.ready → a.since ≡ b.since → a ≡ b
same_state a b one two three =
    let whole : (x : JobState) → JobState = λ x. record { made = x.made; ready = x.ready; since = x.since } in
    let parts : whole a ≡ whole b = rw (one, two, three) refl in
    parts

carried_here : (p : PlannedShop) (c : Cell) (j : ℕ) → j < jobs p → carried_job p c j ≡ job_in c j
carried_here p c j here = ap (λ b. if b then job_in c j else awaited) (lt-ltb j (jobs p) here)

-- carried jobs are the same where the jobs are
carried_alike : (p : PlannedShop) (c new : Cell) (i : ℕ) → (i < jobs p → job_in new i ≡ job_in c i) → carried_job p new i ≡ carried_job p c i
carried_alike p c new i same = elim (cases_lt i (jobs p)) [
  | inl here ↦ carried_here p new i here ∙ same here ∙ sym (carried_here p c i here)
  | inr there ↦ ap (λ b. if b then job_in new i else awaited) (le-ltb i (jobs p) there) ∙ sym (ap (λ b. if b then job_in c i else awaited) (le-ltb i (jobs p) there))
]

-- and so are cleanings
cleaning_timed : (c : Cell) (q : PlannedShop) (m : ℕ) → 0 < clean q m → carried_cleaning c q m ≡ cleaning c m
cleaning_timed c q m timed = ap (λ b. if b then cleaning c m else None) (lt-ltb 0 (clean q m) timed)

cleaning_untimed : (c : Cell) (q : PlannedShop) (m : ℕ) → clean q m ≡ 0 → carried_cleaning c q m ≡ None
cleaning_untimed c q m untimed = ap (λ b. if b then cleaning c m else None) (le-ltb 0 (clean q m) (omega (arith, untimed)))

module _ (p q : PlannedShop) (c d : Cell) (shaped_p : IsWellShaped p) (shaped : IsWellShaped q) (sound : IsSound p c) (keeps : KeepsSoFar p c q) (carried : IsCarried p c q d) where
  sound_d : IsSound q d
  sound_d = carried-sound p q c d shaped_p shaped sound keeps carried

  kept : (j : ℕ) → j < jobs q → j < jobs p → job_in d j ≡ job_in c j
  kept j inside here = job_kept p q c d shaped_p shaped sound keeps carried j inside here

  next_moment : (t : ℕ) → IsNextMoment c t → IsNextMoment d t
  next_moment t moment = record { in_order = omega (arith, carried.last_same, moment.in_order); in_range = moment.in_range }

  -- a job that has become ready is one of the other plan
  ready_here : (new : Cell) (j : ℕ) → j < jobs p → KeepsSoFar p new q → ready new j ≡ true → j < jobs q
  ready_here new j here after is = elim (cases_lt j (jobs q)) [
    | inl inside ↦ inside
    | inr past ↦ absurd (let idle : ready new j ≡ false = ((after.jobs_keep j here).lacking past).1 in cc)
  ]

  -- a job that has become ready, in both cells
  readied : (j t : ℕ) → j < jobs q → j < jobs p → ready c j ≡ false → IsCarried p (with_ready c j t) q (with_ready d j t)
  readied j t inside here idle = record {
    job_count = there.job_count ∙ carried.job_count;
    machine_count = ap length there.machines_same ∙ carried.machine_count;
    jobs_same = λ i within. elim (cases_eq i j) [
      | inl same ↦ rw same (mine ∙ sym (carried_here p (with_ready c j t) j here))
      | inr apart ↦ there.others i apart ∙ carried.jobs_same i within ∙ sym (carried_alike p c (with_ready c j t) i (λ here_too. first.others i apart))
    ];
    entries_same = λ m within. ap (λ (ms : List MachineState). (get_or ms m unused).entries) there.machines_same ∙ carried.entries_same m within
        ∙ sym (ap (λ (ms : List MachineState). (get_or ms m unused).entries) first.machines_same);
    cleaning_is = λ m within. ap (λ (ms : List MachineState). (get_or ms m unused).cleaning) there.machines_same ∙ carried.cleaning_is m within
        ∙ sym (ap (λ (o : Option ℕ). if nat_lt 0 (clean q m) then o else None) (ap (λ (ms : List MachineState). (get_or ms m unused).cleaning) first.machines_same));
    last_same = there.moment ∙ sym first.moment;
  }
    where
      same_job : job_in d j ≡ job_in c j
      same_job = kept j inside here

      first : IsReadied c j t (with_ready c j t)
      first = with_ready-readied c j t idle (omega (arith, sound.job_count))

      there : IsReadied d j t (with_ready d j t)
      there = with_ready-readied d j t (ap (λ (s : JobState). s.ready) same_job ∙ idle) (omega (arith, carried.job_count))

      mine : job_in (with_ready d j t) j ≡ job_in (with_ready c j t) j
      mine = same_state (job_in (with_ready d j t) j) (job_in (with_ready c j t) j)
          (there.made_same j ∙ ap (λ (s : JobState). s.made) same_job ∙ sym (first.made_same j)) (there.ready_mine ∙ sym first.ready_mine)
          (there.since_same j ∙ ap (λ (s : JobState). s.since) same_job ∙ sym (first.since_same j))

  -- a machine that has become clean has a cleaning time in the other plan
  still_timed : (new : Cell) (m s t : ℕ) → cleaning c m ≡ Some s → IsTidied c m t new → departures p new m ≡ departures p c m → KeepsSoFar p new q → 0 < clean q m
  still_timed new m s t is tidied same after = elim (cases_lt 0 (clean q m)) [
    | inl timed ↦ timed
    | inr untimed ↦ (let inside : m < machines p = cleaned_in_shop p c m s sound is in
        let few = (after.machines_keep m inside).cleanings.cleaned (sound.cleaned_timed m s is) (omega arith) in
        let none : going new m ≡ 0 = ap {B = ℕ} (λ x. if is_some x then 1 else 0) tidied.cleaning_mine in
        absurd (omega (arith, few, none, same, departures_free p c m (sound.cleaned_free m s is), sound.cleaned_entered m s is)))
  ]

  -- a machine that isn't being cleaned isn't by the other plan
  none_either : (x : Cell) (n : ℕ) → cleaning x n ≡ None → carried_cleaning x q n ≡ None
  none_either x n none = elim (cases_lt 0 (clean q n)) [
    | inl timed ↦ cleaning_timed x q n timed ∙ none
    | inr untimed ↦ cleaning_untimed x q n (omega arith)
  ]

  tidied_both : (m s t : ℕ) → cleaning c m ≡ Some s → cleaning d m ≡ Some s → IsCarried p (with_clean c m t) q (with_clean d m t)
  tidied_both m s t is also = record {
    job_count = ap length there.jobs_same ∙ carried.job_count;
    machine_count = there.machine_count ∙ carried.machine_count;
    jobs_same = λ i within. ap (λ (js : List JobState). get_or js i absent) there.jobs_same ∙ carried.jobs_same i within
        ∙ sym (carried_alike p c (with_clean c m t) i (λ here. ap (λ (js : List JobState). get_or js i absent) first.jobs_same));
    entries_same = λ n within. there.entries_same n ∙ carried.entries_same n within ∙ sym (first.entries_same n);
    cleaning_is = λ n within. elim (cases_eq n m) [
      | inl same ↦ rw same (there.cleaning_mine ∙ sym (none_either (with_clean c m t) m first.cleaning_mine))
      | inr apart ↦ there.cleaning_elsewhere n apart ∙ carried.cleaning_is n within ∙ sym (ap (λ (o : Option ℕ). if nat_lt 0 (clean q n) then o else None) (first.cleaning_elsewhere n apart))
    ];
    last_same = there.moment ∙ sym first.moment;
  }
    where
      first : IsTidied c m t (with_clean c m t)
      first = with_clean-tidied c m s t is

      there : IsTidied d m t (with_clean d m t)
      there = with_clean-tidied d m s t also

  -- a report that is possible is possible by the other plan, and carries the cell on
  report_kept : (r : Report) → CanReport p c r → KeepsSoFar p (after_report c r) q
      → CanReport q d r × IsCarried p (after_report c r) q (after_report d r)
  report_kept (Arrive j t) can after =
      let awaits = can.going.1 in
      let here : j < jobs p = outside_in_shop p c j sound awaits.outside in
      let turned : ready (with_ready c j t) j ≡ true = (with_ready-readied c j t awaits.not_ready (omega (arith, sound.job_count))).ready_mine in
      let inside : j < jobs q = ready_here (with_ready c j t) j here after turned in (
        record {
          going = (
            release q j,
            record {
              outside = ap (λ (s : JobState). s.made) (kept j inside here) ∙ awaits.outside;
              not_ready = ap (λ (s : JobState). s.ready) (kept j inside here) ∙ awaits.not_ready;
              is_due = refl;
            },
          );
          moment = next_moment t can.moment;
        },
        readied j t inside here awaits.not_ready,
      )
  report_kept (Finish j m t) can after =
      let k : ℕ = can.going.1.0 in
      let works = can.going.1.1 in
      let here : j < jobs p = visits_job p j k m works.on.visits in
      let turned : ready (with_ready c j t) j ≡ true = (with_ready-readied c j t works.not_ready (omega (arith, sound.job_count))).ready_mine in
      let inside : j < jobs q = ready_here (with_ready c j t) j here after turned in
      let other : Visits q j k (machine_of p j k) = (keeps.jobs_keep j here).entered k (omega (arith, works.on.entered)) works.on.visits.within in (
        record {
          going = (
            since d j + nominal q j k,
            (
              k,
              record {
                on = record { entered = ap (λ (s : JobState). s.made) (kept j inside here) ∙ works.on.entered; visits = subst (λ n. Visits q j k n) works.on.visits.here other };
                not_ready = ap (λ (s : JobState). s.ready) (kept j inside here) ∙ works.not_ready;
                is_due = refl;
              },
            ),
          );
          moment = next_moment t can.moment;
        },
        readied j t inside here works.not_ready,
      )
  report_kept (Clean m t) can after =
      let s : ℕ = can.going.1.0 in
      let is : cleaning c m ≡ Some s = can.going.1.1.is_cleaned in
      let tidied : IsTidied c m t (with_clean c m t) = with_clean-tidied c m s t is in
      let same : departures p (with_clean c m t) m ≡ departures p c m = report_departures p c (with_clean c m t) m (after_report-like p c (Clean m t) sound can) in
      let timed : 0 < clean q m = still_timed (with_clean c m t) m s t is tidied same after in
      let inside : m < machines q = elim (cases_lt m (machines q)) [ inl less ↦ less | inr past ↦ absurd (omega (arith, no_cleaning_time q m shaped past)) ] in
      let also : cleaning d m ≡ Some s = carried.cleaning_is m inside ∙ cleaning_timed c q m timed ∙ is in
      (record { going = (s + clean q m, (s, record { is_cleaned = also; is_due = refl })); moment = next_moment t can.moment }, tidied_both m s t is also)

  module _ (j t : ℕ) (can : CanMove p c j t) (keeps_plan : KeepsPlan p c j) (after : KeepsSoFar p (after_move p c j t) q) where
    abbrev new : Cell
    new = after_move p c j t

    change : IsMoved p c j t new
    change = after_move-moved p c j t shaped_p sound can

    here : j < jobs p
    here = ready_in_shop p c j sound can.is_ready

    inside : j < jobs q
    inside = elim (cases_lt j (jobs q)) [
      | inl less ↦ less
      | inr past ↦ absurd (omega (arith, ((after.jobs_keep j here).lacking past).0, change.made_mine))
    ]

    same_job : job_in d j ≡ job_in c j
    same_job = kept j inside here

    same_made : made d j ≡ made c j
    same_made = ap (λ (s : JobState). s.made) same_job

    -- the step that it enters is on the same machine, and it leaves where it would leave
    next_there : made c j < steps p j → Visits q j (made c j) (machine_of p j (made c j))
    next_there within = (after.jobs_keep j here).entered (made c j) (omega (arith, change.made_mine)) within

    leaves_there : steps p j ≤ made c j → steps q j ≡ steps p j
    leaves_there past = (after.jobs_keep j here).gone (omega (arith, change.made_mine))

    to_other : (m : ℕ) → Visits p j (made c j) m → Visits q j (made d j) m
    to_other m visits = subst (λ n. Visits q j n m) (sym same_made) (subst (λ n. Visits q j (made c j) n) visits.here (next_there visits.within))

    to_first : (m : ℕ) → Visits q j (made d j) m → Visits p j (made c j) m
    to_first m visits = elim (cases_lt (made c j) (steps p j)) [
      | inl within ↦ record { within = within; here = sym (next_there within).here ∙ ap (machine_of q j) (sym same_made) ∙ visits.here }
      | inr past ↦ absurd (omega (arith, leaves_there past, same_made, visits.within))
    ]

    on_other : (k m : ℕ) → IsOn p c j k m → IsOn q d j k m
    on_other k m on = record {
      entered = same_made ∙ on.entered;
      visits = subst (λ n. Visits q j k n) on.visits.here ((keeps.jobs_keep j here).entered k (omega (arith, on.entered)) on.visits.within);
    }

    on_first : (i k m : ℕ) → IsOn q d i k m → IsOn p c i k m
    on_first i k m on =
        let (there, same, visits) = entered_there p q c d shaped_p shaped sound keeps carried i k m on.visits (omega (arith, on.entered)) in
        record { entered = sym same ∙ on.entered; visits = visits }

    enters_there : (m : ℕ) → CanEnter p c j m → CanEnter q d j m
    enters_there m enters =
        let next : Visits q j (made d j) m = to_other m enters.next in
        record {
          next = next;
          free = λ i k on. enters.free i k (on_first i k m on);
          is_clean = carried.cleaning_is m (visits_machine q j (made d j) m shaped next) ∙ none_either c m enters.is_clean;
        }

    can_there : CanMove q d j t
    can_there = record {
      is_ready = ap (λ (s : JobState). s.ready) same_job ∙ can.is_ready;
      way = elim can.way [
        | inl leaves ↦ inl (past_leaves q d j (omega (arith, leaves_past p c j leaves, leaves_there (leaves_past p c j leaves), same_made)))
        | inr (m, enters) ↦ inr (m, enters_there m enters)
      ];
      moment = next_moment t can.moment;
    }

    keeps_there : KeepsPlan q d j
    keeps_there m visits =
        let first : Visits p j (made c j) m = to_first m visits in
        subst (λ xs. IsPrefix (xs ++ j ∷ []) (order q m)) (sym (carried.entries_same m (visits_machine q j (made d j) m shaped visits)))
        (subst (λ xs. IsPrefix xs (order q m)) (change.entered m first) (after.machines_keep m (visits_machine p j (made c j) m shaped_p first)).in_order)

    spot_same : (n : ℕ) → n ≤ made c j → n ≤ steps p j → spot_after p j n ≡ spot_after q j n
    spot_same zero few within = refl
    spot_same (suc k) few within =
        stop_at p j k (machine_of p j k) (record { within = omega arith; here = refl })
        ∙ sym (stop_at q j k (machine_of p j k) ((keeps.jobs_keep j here).entered k (omega arith) (omega arith)))

    same_source : source p c j ≡ source q d j
    same_source = spot_same (made c j) (le_refl (made c j)) (moves_within p c j t sound can) ∙ ap (spot_after q j) (sym same_made)

    same_target : target p c j ≡ target q d j
    same_target = elim (cases_lt (made c j) (steps p j)) [
      | inl within ↦ (let m : ℕ = machine_of p j (made c j) in
          let first : Visits p j (made c j) m = record { within = within; here = refl } in
          stop_at p j (made c j) m first ∙ sym (stop_at q j (made d j) m (to_other m first)))
      | inr past ↦ stop_past p j (made c j) past ∙ sym (stop_past q j (made d j) (omega (arith, leaves_there past, same_made)))
    ]

    same_order : order_for p c j t ≡ order_for q d j t
    same_order = made_of (source p c j) (source q d j) (target p c j) (target q d j) same_source same_target
      where
        made_of : (a b x y : Spot) → a ≡ b → x ≡ y
            → (let one : MoveOrder = record { job = j; source = a; target = x; at = t } in let other : MoveOrder = record { job = j; source = b; target = y; at = t } in one ≡ other)
        made_of a b x y one other = rw (one, other) refl

    there : IsMoved q d j t (after_move q d j t)
    there = after_move-moved q d j t shaped sound_d can_there

    move_carried : IsCarried p new q (after_move q d j t)
    move_carried = record {
      job_count = there.job_count ∙ carried.job_count;
      machine_count = there.machine_count ∙ carried.machine_count;
      jobs_same = λ i within. elim (cases_eq i j) [
        | inl same ↦ rw same (mine ∙ sym (carried_here p new j here))
        | inr apart ↦ there.others i apart ∙ carried.jobs_same i within ∙ sym (carried_alike p c new i (λ both. change.others i apart))
      ];
      entries_same = λ m within. elim (visits_or_not q j (made d j) m) [
        | inl next ↦ there.entered m next ∙ ap (λ xs. xs ++ j ∷ []) (carried.entries_same m within) ∙ sym (change.entered m (to_first m next))
        | inr off ↦ there.not_entered m off ∙ carried.entries_same m within ∙ sym (change.not_entered m (λ next. off (to_other m next)))
      ];
      cleaning_is = λ m within. elim (cases_lt 0 (clean q m)) [
        | inl timed ↦ timed_cleaning m within timed ∙ sym (cleaning_timed new q m timed)
        | inr untimed ↦ untimed_cleaning m within (omega arith) ∙ sym (cleaning_untimed new q m (omega arith))
      ];
      last_same = there.moment ∙ sym change.moment;
    }
      where
        mine : job_in (after_move q d j t) j ≡ job_in new j
        mine = same_state (job_in (after_move q d j t) j) (job_in new j) (omega (arith, there.made_mine, change.made_mine, same_made)) (there.ready_mine ∙ sym change.ready_mine) (there.since_mine ∙ sym change.since_mine)

        timed_cleaning : (m : ℕ) → m < machines q → 0 < clean q m → cleaning (after_move q d j t) m ≡ cleaning new m
        timed_cleaning m within timed = elim (on_or_not q d j m) [
          | inl (k, on) ↦ (let first : IsOn p c j k m = on_first j k m on in elim (cases_lt 0 (clean p m)) [
            | inl also ↦ there.cleaning_begins k m on timed ∙ sym (change.cleaning_begins k m first also)
            | inr never ↦ (let none = (after.machines_keep m (visits_machine p j k m shaped_p first.visits)).cleanings.uncleaned (omega arith) timed in
                absurd (omega (arith, none, one_more p c new j t shaped_p sound (after_move-sound p c j t shaped_p sound can keeps_plan) can change k m first)))
          ])
          | inr off ↦ there.cleaning_elsewhere m off ∙ carried.cleaning_is m within ∙ cleaning_timed c q m timed ∙ sym (change.cleaning_elsewhere m (λ k on. off k (on_other k m on)))
        ]

        untimed_cleaning : (m : ℕ) → m < machines q → clean q m ≡ 0 → cleaning (after_move q d j t) m ≡ None
        untimed_cleaning m within untimed = elim (on_or_not q d j m) [
          | inl (k, on) ↦ there.cleaning_needless k m on untimed ∙ carried.cleaning_is m within ∙ cleaning_untimed c q m untimed
          | inr off ↦ there.cleaning_elsewhere m off ∙ carried.cleaning_is m within ∙ cleaning_untimed c q m untimed
        ]

  -- an event that can happen can by the other plan, and carries the cell on
  pub event_kept : (e : Event) → CanHappen p c e → KeepsSoFar p (after p c e) q → CanHappen q d e × IsCarried p (after p c e) q (after q d e)
  event_kept (Reported r) can after = report_kept r can after
  event_kept (Moved o) (obeys, keeps_plan) after = (
    (
      record { can = can_there o.job o.at obeys.can keeps_plan after; is_move = obeys.is_move ∙ same_order o.job o.at obeys.can keeps_plan after },
      keeps_there o.job o.at obeys.can keeps_plan after,
    ),
    move_carried o.job o.at obeys.can keeps_plan after,
  )

kept_events : (p q : PlannedShop) (c d : Cell) (es : List Event) → IsWellShaped p → IsWellShaped q → IsSound p c → AreEvents p c es → KeepsSoFar p (after_all p c es) q → IsCarried p c q d
    → AreEvents q d es × IsCarried p (after_all p c es) q (after_all q d es)
kept_events p q c d [] shaped_p shaped sound events keeps carried = (tt, carried)
kept_events p q c d (e ∷ es) shaped_p shaped sound (can, events) keeps carried =
    let sound_after : IsSound p (after p c e) = after-sound p c e shaped_p sound can in
    let keeps_after : KeepsSoFar p (after p c e) q = keeps_first p q (after p c e) es shaped_p sound_after events keeps in
    let keeps_now : KeepsSoFar p c q = keeps_before p q c (after p c e) (event_before p c e shaped_p sound can) keeps_after in
    let (can_there, carried_after) = event_kept p q c d shaped_p shaped sound keeps_now carried e can keeps_after in
    let (later, end) = kept_events p q (after p c e) (after q d e) es shaped_p shaped sound_after events keeps carried_after in
    ((can_there, later), end)

pub start_carried : (p q : PlannedShop) → IsCarried p (start p) q (start q)
start_carried p q = record {
  job_count = length-replicate (jobs q) awaited;
  machine_count = length-replicate (machines q) unused;
  jobs_same = λ j inside. get_or-replicate (jobs q) j awaited absent inside ∙ sym (elim (cases_lt j (jobs p)) [
    | inl here ↦ carried_here p (start p) j here ∙ get_or-replicate (jobs p) j awaited absent here
    | inr there ↦ ap (λ b. if b then job_in (start p) j else awaited) (le-ltb j (jobs p) there)
  ]);
  entries_same = λ m inside. ap (λ (s : MachineState). s.entries) (start_unused q m) ∙ sym (ap (λ (s : MachineState). s.entries) (start_unused p m));
  cleaning_is = λ m inside. ap (λ (s : MachineState). s.cleaning) (start_unused q m) ∙ sym (none m);
  last_same = refl;
}
  where
    none : (m : ℕ) → carried_cleaning (start p) q m ≡ None
    none m = elim (cases_lt 0 (clean q m)) [
      | inl timed ↦ cleaning_timed (start p) q m timed ∙ ap (λ (s : MachineState). s.cleaning) (start_unused p m)
      | inr untimed ↦ cleaning_untimed (start p) q m (omega arith)
    ]

pub a_kept_run_is_one_of_the_other_plan : AKeptRunIsOneOfTheOtherPlan
a_kept_run_is_one_of_the_other_plan p q es shaped_p shaped run keeps = kept_events p q (start p) (start q) es shaped_p shaped (start-sound p shaped_p) run keeps (start_carried p q)
