-- In a run whose reports say what has ended, each order is right.
use Rattle.std.proofs.Common.{◌≡◌, ◌==◌, ℕ, suc, ◌+◌, ◌-◌, ◌<◌, ◌≤◌, if◌then◌else◌, List, [], ◌∷◌, ◌++◌, length, true, false, ◌⊎◌, inl, inr, sym, ap, ◌∙◌, subst, arith}
use Rattle.std.proofs.lemmas.Bool.{cases_eq, cases_Bool, false≢true, eq-eqb, ne_eqb}
use Rattle.shop_base.specs.Move.{CanObey, after_move}
use Rattle.shop_base.specs.Report.{ended, at, CanReport, after_end, after_report}
use Rattle.shop_base.specs.declared.move_order.{Spot.TheVariants.At, MoveOrder.MoveOrder}
use Rattle.shop_base.specs.{Plan.{PlannedShop, jobs, clean, Visits, Stands, IsWellShaped}, Sound.IsSound}
use Rattle.shop_base.specs.{Run.{Event, Reported, Moved, CanHappen, AreEvents, after, after_all}, AtMostOnceLaw.HasLeft}
use Rattle.shop_base.specs.{declared.job_state.JobState.JobState, Cell.{Cell, made, ready, entries, start, IsOn}}
use Rattle.shop_base.specs.{declared.report.Report.Report, Activity.{Activity, Arrival, Operation, Cleaning, GoesOn}}
use Rattle.shop_base.proofs.Changes.{IsMoved, after_move-moved, with_ready-readied, with_clean-tidied, moves_within}
use Rattle.shop_base.proofs.Keeping.{after_report-like, after-sound, after_all-sound, start-made, start-sound, target_free}
use Rattle.shop_base.proofs.{CellFacts.{source_on, after_report-last}, LowerBounds.events_split}
use Rattle.shop_base.proofs.{ControlledRuns.{after_all_join, start_not_ready}, InShop.outside_in_shop, OneStep.move-inside}
use Rattle.shop_base.proofs.Visits.{visits_job, visits_apart, visits-stands, stands_step}
use Rattle.cell_tables.specs.Readings.{IsCleanedAfterStep}
use Rattle.cell_control.{specs.OnceLaw.{NamedEnd, Arrived, Finished, Cleaned, ReportsEnd}, proofs.Seats.on_source}
use Rattle.run_log.proofs.PossibleEntries.{obeyed_target}
use Rattle.drive_laws.specs.FloorLaw.{Floor, HasEndedBy, moves_of, end_behind, IsRight, IsTrueReport, AreTrue, NothingIsOrderedWrongly}

module _ (floor : Floor) (p : PlannedShop) (shaped : IsWellShaped p) where
  later_by : (ended : NamedEnd) (s t : ℕ) → s ≤ t → HasEndedBy floor ended s → HasEndedBy floor ended t
  later_by ended s t later by = (by.0, by.1, omega (arith, later, by.2))

  last_grows : (c : Cell) (e : Event) → CanHappen p c e → c.last ≤ (after p c e).last
  last_grows c (Reported r) can = omega (arith, can.moment.in_order, after_report-last c r)
  last_grows c (Moved o) can = can.0.can.moment.in_order

  -- ---- what a ready job did where it stands

  -- the activity is that of the job where it stands
  abbrev IsOwn : Cell → ℕ → Activity → Type 0
  IsOwn c j a = ((a ≡ Arrival j) × (made c j ≡ 0)) ⊎ ((m : ℕ) × (a ≡ Operation j m))

  -- a job becomes ready by the end of its own activity
  ended_own : (c : Cell) (a : Activity) (due t j : ℕ) → IsSound p c → GoesOn p c a due → ready c j ≡ false → ready (after_end c a t) j ≡ true → IsOwn c j a
  ended_own c (Arrival i) due t j sound goes idle now = go (cases_eq j i)
    where
      go : (j ≡ i) ⊎ (j ≡ i → ⊥) → IsOwn c j (Arrival i)
      go (inl same) = inl (ap Arrival (sym same), ap (made c) same ∙ goes.outside)
      go (inr other) =
          let change = with_ready-readied c i t goes.not_ready (omega (arith, sound.job_count, outside_in_shop p c i sound goes.outside)) in
          absurd (false≢true (sym idle ∙ sym (ap (λ (x : JobState). x.ready) (change.others j other)) ∙ now))
  ended_own c (Operation i m) due t j sound (k, goes) idle now = go (cases_eq j i)
    where
      go : (j ≡ i) ⊎ (j ≡ i → ⊥) → IsOwn c j (Operation i m)
      go (inl same) = inr (m, ap (λ x. Operation x m) (sym same))
      go (inr other) =
          let change = with_ready-readied c i t goes.not_ready (omega (arith, sound.job_count, visits_job p i k m goes.on.visits)) in
          absurd (false≢true (sym idle ∙ sym (ap (λ (x : JobState). x.ready) (change.others j other)) ∙ now))
  ended_own c (Cleaning m) due t j sound goes idle now = absurd (false≢true (sym idle ∙ now))

  -- which is what a report of it records
  own_replayed : (c : Cell) (r : Report) (what : NamedEnd) (j : ℕ) → ReportsEnd p c r what → IsOwn c j (ended r) → what ≡ end_behind j (made c j)
  own_replayed c r (Arrived i) j parses (inl (is, out)) = let same : i ≡ j = cc in ap Arrived same ∙ ap (end_behind j) (sym out)
  own_replayed c r (Arrived i) j parses (inr (m, is)) = absurd (cc)
  own_replayed c r (Finished i k) j (n, parses, on) (inl (is, out)) = absurd (cc)
  own_replayed c r (Finished i k) j (n, parses, on) (inr (m, is)) =
      let same : i ≡ j = cc in
      let behind : suc k ≡ made c j = omega (arith, on.entered, ap (made c) same) in
      ap (λ x. Finished x k) same ∙ ap (end_behind j) behind
  own_replayed c r (Cleaned n i k) j (parses, cleaned) (inl (is, out)) = absurd (cc)
  own_replayed c r (Cleaned n i k) j (parses, cleaned) (inr (m, is)) = absurd (cc)

  -- of each ready job it has ended
  abbrev IsKnown : Cell → Type 0
  IsKnown c = (j : ℕ) → ready c j ≡ true → HasEndedBy floor (end_behind j (made c j)) c.last

  known_report : (c : Cell) (r : Report) → IsSound p c → CanReport p c r → IsTrueReport floor p c r → IsKnown c → IsKnown (after_report c r)
  known_report c r sound can (what, parses, by) known j now =
      let new = after_report c r in
      let same : made new j ≡ made c j = (after_report-like p c r sound can).made_same j in
      let last : new.last ≡ at r = after_report-last c r in
      subst (λ n. HasEndedBy floor (end_behind j n) new.last) (sym same) (subst (λ t. HasEndedBy floor (end_behind j (made c j)) t) (sym last) (go (cases_Bool (ready c j))))
    where
      go : (ready c j ≡ true) ⊎ (ready c j ≡ false) → HasEndedBy floor (end_behind j (made c j)) (at r)
      go (inl was) = later_by (end_behind j (made c j)) c.last (at r) can.moment.in_order (known j was)
      go (inr idle) =
          subst (λ e. HasEndedBy floor e (at r)) (own_replayed c r what j parses (ended_own c (ended r) can.going.0 (at r) j sound can.going.1 idle now)) by

  known_move : (c : Cell) (o : MoveOrder) → IsSound p c → CanObey p c o → IsKnown c → IsKnown (after_move p c o.job o.at)
  known_move c o sound can known j now = go (cases_eq j o.job)
    where
      new : Cell
      new = after_move p c o.job o.at

      change : IsMoved p c o.job o.at new
      change = after_move-moved p c o.job o.at shaped sound can.can

      go : (j ≡ o.job) ⊎ (j ≡ o.job → ⊥) → HasEndedBy floor (end_behind j (made new j)) new.last
      go (inl same) = absurd (false≢true (sym (ap (ready new) same ∙ change.ready_mine) ∙ now))
      go (inr other) =
          let was = change.others j other in
          subst (λ n. HasEndedBy floor (end_behind j n) new.last) (sym (ap (λ (x : JobState). x.made) was))
          (later_by (end_behind j (made c j)) c.last new.last can.can.moment.in_order (known j (sym (ap (λ (x : JobState). x.ready) was) ∙ now)))

  known_events : (c : Cell) (es : List Event) → IsSound p c → AreEvents p c es → AreTrue floor p c es → IsKnown c → IsKnown (after_all p c es)
  known_events c [] sound events truth known = known
  known_events c (Reported r ∷ es) sound events truth known =
      known_events (after_report c r) es (after-sound p c (Reported r) shaped sound events.0) events.1 truth.1 (known_report c r sound events.0 truth.0 known)
  known_events c (Moved o ∷ es) sound events truth known =
      known_events (after_move p c o.job o.at) es (after-sound p c (Moved o) shaped sound events.0) events.1 truth (known_move c o sound events.0.0 known)

  -- ---- the moves of a job

  -- one more, of this job or of another one
  moved_more : (j : ℕ) (c new : Cell) (o : MoveOrder) (es : List Event) → IsMoved p c o.job o.at new → made (after_all p new es) j ≡ made new j + moves_of j es
      → made (after_all p new es) j ≡ made c j + moves_of j (Moved o ∷ es)
  moved_more j c new o es change rest = go (cases_eq o.job j)
    where
      go : (o.job ≡ j) ⊎ (o.job ≡ j → ⊥) → made (after_all p new es) j ≡ made c j + (if o.job == j then suc (moves_of j es) else moves_of j es)
      go (inl same) = rw (eq-eqb o.job j same) (omega (arith, rest, change.made_mine, ap (made new) same, ap (made c) same))
      go (inr other) = rw (ne_eqb o.job j other) (omega (arith, rest, ap (λ (x : JobState). x.made) (change.others j (λ same. other (sym same)))))

  -- it has made as many as are among the events
  moved_so_far : (j : ℕ) (c : Cell) (es : List Event) → IsSound p c → AreEvents p c es → made (after_all p c es) j ≡ made c j + moves_of j es
  moved_so_far j c [] sound events = omega arith
  moved_so_far j c (Reported r ∷ es) sound events =
      let same = (after_report-like p c r sound events.0).made_same j in
      omega (arith, same, moved_so_far j (after_report c r) es (after-sound p c (Reported r) shaped sound events.0) events.1)
  moved_so_far j c (Moved o ∷ es) sound events =
      let new = after_move p c o.job o.at in
      moved_more j c new o es (after_move-moved p c o.job o.at shaped sound events.0.0.can) (moved_so_far j new es (after-sound p c (Moved o) shaped sound events.0) events.1)

  moves_from_start : (j : ℕ) (es : List Event) → j < jobs p → AreEvents p (start p) es → made (after_all p (start p) es) j ≡ moves_of j es
  moves_from_start j es within events = omega (arith, moved_so_far j (start p) es (start-sound p shaped) events, start-made p j within)

  -- ---- the cleaning after a step of a job

  module _ (m j k : ℕ) where
    -- it goes on, or has ended
    abbrev IsCleanedSince : Cell → Type 0
    IsCleanedSince c = IsCleanedAfterStep p c m j k ⊎ HasEndedBy floor (Cleaned m j k) c.last

    cleaned_report : (c : Cell) (r : Report) → IsSound p c → CanReport p c r → IsTrueReport floor p c r → IsCleanedSince c → IsCleanedSince (after_report c r)
    cleaned_report c r sound can truth (inr by) = inr (later_by (Cleaned m j k) c.last (after_report c r).last (last_grows c (Reported r) can) by)
    cleaned_report c r sound can (what, parses, by) (inl was) = go what parses by
      where
        of : Activity → Type 0
        of a = IsCleanedSince (after_end c a (at r))

        go : (e : NamedEnd) → ReportsEnd p c r e → HasEndedBy floor e (at r) → of (ended r)
        go (Arrived i) is by = subst of (sym is) (inl (record { from = was.from; is_cleaned = was.is_cleaned; last_in = was.last_in }))
        go (Finished i l) (n, is, on) by = subst of (sym is) (inl (record { from = was.from; is_cleaned = was.is_cleaned; last_in = was.last_in }))
        go (Cleaned n i l) (is, other) by = subst of (sym is) (elim (cases_eq m n) [
          | inl same ↦
              let last : Stands p m (length (entries c m) - 1) i l = subst (λ x. Stands p x (length (entries c x) - 1) i l) (sym same) other.last_in in
              let job : i ≡ j = sym last.job ∙ was.last_in.job in
              let step : l ≡ k = stands_step p m (length (entries c m) - 1) j l k (subst (λ x. Stands p m (length (entries c m) - 1) x l) job last) was.last_in in
              let is_it : Cleaned n i l ≡ Cleaned m j k = cc in
              inr (subst (λ e. HasEndedBy floor e (at r)) is_it by)
          | inr differ ↦
              let change = with_clean-tidied c n other.from (at r) other.is_cleaned in
              inl (record {
                from = was.from;
                is_cleaned = change.cleaning_elsewhere m differ ∙ was.is_cleaned;
                last_in = subst (λ (es : List ℕ). Stands p m (length es - 1) j k) (sym (change.entries_same m)) was.last_in;
              })
        ])

    cleaned_move : (c : Cell) (o : MoveOrder) → IsSound p c → CanObey p c o → IsCleanedSince c → IsCleanedSince (after_move p c o.job o.at)
    cleaned_move c o sound can (inr by) = inr (later_by (Cleaned m j k) c.last o.at can.can.moment.in_order by)
    cleaned_move c o sound can (inl was) =
        let change = after_move-moved p c o.job o.at shaped sound can.can in
        inl (record {
          from = was.from;
          is_cleaned = change.cleaning_elsewhere m (sound.cleaned_free m was.from was.is_cleaned o.job) ∙ was.is_cleaned;
          last_in = subst (λ (es : List ℕ). Stands p m (length es - 1) j k) (sym (change.not_entered m off)) was.last_in;
        })
      where
        off : Visits p o.job (made c o.job) m → ⊥
        off visits = let none = (target_free p c o.job o.at m can.can visits).1 in let some = was.is_cleaned in cc

    cleaned_events : (c : Cell) (es : List Event) → IsSound p c → AreEvents p c es → AreTrue floor p c es → IsCleanedSince c → IsCleanedSince (after_all p c es)
    cleaned_events c [] sound events truth was = was
    cleaned_events c (Reported r ∷ es) sound events truth was =
        cleaned_events (after_report c r) es (after-sound p c (Reported r) shaped sound events.0) events.1 truth.1 (cleaned_report c r sound events.0 truth.0 was)
    cleaned_events c (Moved o ∷ es) sound events truth was =
        cleaned_events (after_move p c o.job o.at) es (after-sound p c (Moved o) shaped sound events.0) events.1 truth (cleaned_move c o sound events.0.0 was)

  -- it begins as the job leaves
  cleaning_begins : (c : Cell) (o : MoveOrder) (m k : ℕ) → IsSound p c → CanObey p c o → o.source ≡ At m → made c o.job ≡ suc k → 0 < clean p m → IsCleanedAfterStep p (after_move p c o.job o.at) m o.job k
  cleaning_begins c o m k sound can from so_far timed = record {
    from = o.at;
    is_cleaned = change.cleaning_begins k m on timed;
    last_in = subst (λ a. Stands p m a o.job k) (sym place) stands.1;
  }
    where
      new : Cell
      new = after_move p c o.job o.at

      change : IsMoved p c o.job o.at new
      change = after_move-moved p c o.job o.at shaped sound can.can

      latest : made c o.job - 1 ≡ k
      latest = omega (arith, so_far)

      on : IsOn p c o.job k m
      on = subst (λ l. IsOn p c o.job l m) latest (on_source p c o.job m (moves_within p c o.job o.at sound can.can) (sym (ap (λ (q : MoveOrder). q.source) can.is_move) ∙ from))

      stands : (a : ℕ) × Stands p m a o.job k
      stands = visits-stands p o.job k m shaped on.visits

      off : Visits p o.job (made c o.job) m → ⊥
      off visits = visits_apart p o.job k (made c o.job) m shaped on.visits visits on.entered

      place : length (entries new m) - 1 ≡ stands.0
      place = omega (arith, ap length (change.not_entered m off), sound.newest m stands.0 o.job k stands.1 on.entered)

  -- ---- a job on a machine

  -- it stays until it is ordered away
  stays_on : (j k m : ℕ) (c : Cell) (es : List Event) → IsSound p c → AreEvents p c es → IsOn p c j k m → IsOn p (after_all p c es) j k m ⊎ HasLeft j m es
  stays_on j k m c [] sound events on = inl on
  stays_on j k m c (Reported r ∷ es) sound events on =
      let same = (after_report-like p c r sound events.0).made_same j in
      stays_on j k m (after_report c r) es (after-sound p c (Reported r) shaped sound events.0) events.1 (record { entered = same ∙ on.entered; visits = on.visits })
  stays_on j k m c (Moved o ∷ es) sound events on = elim (cases_eq j o.job) [
    | inl same ↦ inr (inl (sym same, ap (λ (q : MoveOrder). q.source) events.0.0.is_move ∙ source_on p c o.job k m (subst (λ i. IsOn p c i k m) same on)))
    | inr other ↦
        let change = after_move-moved p c o.job o.at shaped sound events.0.0.can in
        let same = ap (λ (x : JobState). x.made) (change.others j other) in
        elim (stays_on j k m (after_move p c o.job o.at) es (after-sound p c (Moved o) shaped sound events.0) events.1 (record { entered = same ∙ on.entered; visits = on.visits })) [
          | inl still ↦ inl still
          | inr left ↦ inr (inr left)
        ]
  ]

  -- ---- an order, and an earlier one

  truth_split : (c : Cell) (es fs : List Event) → AreTrue floor p c (es ++ fs) → AreTrue floor p c es × AreTrue floor p (after_all p c es) fs
  truth_split c [] fs truth = (tt, truth)
  truth_split c (Reported r ∷ es) fs truth = let (front, back) = truth_split (after_report c r) es fs truth.1 in ((truth.0, front), back)
  truth_split c (Moved o ∷ es) fs truth = truth_split (after_move p c o.job o.at) es fs truth

  module _ (before between : List Event) (earlier o : MoveOrder) (m : ℕ) (events : AreEvents p (start p) (before ++ Moved earlier ∷ between))
      (can : CanObey p (after_all p (start p) (before ++ Moved earlier ∷ between)) o) (to : o.target ≡ At m) where
    abbrev c : Cell
    c = after_all p (start p) before

    abbrev next : Cell
    next = after_move p c earlier.job earlier.at

    abbrev end : Cell
    end = after_all p next between

    parts : AreEvents p (start p) before × AreEvents p c (Moved earlier ∷ between)
    parts = events_split p (start p) before (Moved earlier ∷ between) events

    sound : IsSound p c
    sound = after_all-sound p (start p) before shaped (start-sound p shaped) parts.0

    next_sound : IsSound p next
    next_sound = after-sound p c (Moved earlier) shaped sound parts.1.0

    there : CanObey p end o
    there = subst (λ (d : Cell). CanObey p d o) (after_all_join p (start p) before (Moved earlier ∷ between)) can

    comes_free : earlier.target ≡ At m → HasLeft earlier.job m between
    comes_free came =
        let change = after_move-moved p c earlier.job earlier.at shaped sound parts.1.0.0.can in
        let visits = obeyed_target p c earlier m parts.1.0.0 came in
        let on : IsOn p next earlier.job (made c earlier.job) m = record { entered = change.made_mine; visits = visits } in
        elim (stays_on earlier.job (made c earlier.job) m next between next_sound parts.1.1 on) [
          | inl still ↦ absurd ((target_free p end o.job o.at m there.can (obeyed_target p end o m there to)).0 earlier.job (made c earlier.job) still)
          | inr left ↦ left
        ]

    comes_clean : (k : ℕ) → AreTrue floor p (start p) (before ++ Moved earlier ∷ between) → earlier.source ≡ At m → moves_of earlier.job before ≡ suc k → 0 < clean p m → HasEndedBy floor (Cleaned m earlier.job k) o.at
    comes_clean k truth from so_far timed =
        elim (cleaned_events m earlier.job k next between next_sound parts.1.1 (truth_split (start p) before (Moved earlier ∷ between) truth).1
        (inl (cleaning_begins c earlier m k sound parts.1.0.0 from (moves_from_start earlier.job before (move-inside p c earlier.job earlier.at sound parts.1.0.0.can) parts.0 ∙ so_far) timed))) [
          | inl still ↦ (let none = (target_free p end o.job o.at m there.can (obeyed_target p end o m there to)).1 in let some = still.is_cleaned in absurd (cc))
          | inr by ↦ later_by (Cleaned m earlier.job k) end.last o.at there.can.moment.in_order by
        ]

  right_behind : (before later : List Event) (o : MoveOrder) → AreEvents p (start p) (before ++ Moved o ∷ later) → AreTrue floor p (start p) (before ++ Moved o ∷ later) → IsRight floor p before o
  right_behind before later o events truth = record {
    own = subst (λ n. HasEndedBy floor (end_behind o.job n) o.at) (moves_from_start o.job before (move-inside p c o.job o.at (after_all-sound p (start p) before shaped (start-sound p shaped) parts.0) can.can) parts.0)
        (later_by (end_behind o.job (made c o.job)) c.last o.at can.can.moment.in_order (known o.job can.can.is_ready));
    free = λ m first between earlier is to came. comes_free first between earlier o m (subst (AreEvents p (start p)) is parts.0) (subst (λ es. CanObey p (after_all p (start p) es) o) is can) to came;
    cleaned = λ m k first between earlier is to from so_far timed.
        comes_clean first between earlier o m (subst (AreEvents p (start p)) is parts.0) (subst (λ es. CanObey p (after_all p (start p) es) o) is can) to k
        (subst (AreTrue floor p (start p)) is truths.0) from so_far timed;
  }
    where
      c : Cell
      c = after_all p (start p) before

      parts : AreEvents p (start p) before × AreEvents p c (Moved o ∷ later)
      parts = events_split p (start p) before (Moved o ∷ later) events

      truths : AreTrue floor p (start p) before × AreTrue floor p c (Moved o ∷ later)
      truths = truth_split (start p) before (Moved o ∷ later) truth

      can : CanObey p c o
      can = parts.1.0.0

      known : (j : ℕ) → ready c j ≡ true → HasEndedBy floor (end_behind j (made c j)) c.last
      known = known_events (start p) before (start-sound p shaped) parts.0 truths.0 (λ j now. absurd (false≢true (sym (start_not_ready p j) ∙ now)))

pub nothing_is_ordered_wrongly : NothingIsOrderedWrongly
nothing_is_ordered_wrongly floor p es shaped run truth before later o is = right_behind floor p shaped before later o (subst (AreEvents p (start p)) is run) (subst (AreTrue floor p (start p)) is truth)
