-- An end that was reported isn't reported again.
use Rattle.std.proofs.Common.{◌≡◌, ℕ, ◌+◌, ◌<◌, ◌≤◌, true, false, None, List, [], ◌∷◌, ◌++◌, ◌⊎◌, inl, inr, refl, sym, ap, ◌∙◌, subst, arith}
use Rattle.std.proofs.lemmas.Bool.{cases_eq, false≢true}
use Rattle.shop_base.specs.declared.job_state.JobState.{JobState}
use Rattle.shop_base.specs.declared.move_order.MoveOrder.{MoveOrder}
use Rattle.shop_base.specs.declared.report.Report.{Report}
use Rattle.shop_base.specs.Plan.{PlannedShop, machine_of, IsWellShaped}
use Rattle.shop_base.specs.Cell.{Cell, job_in, made, ready, cleaning, start, IsOn}
use Rattle.shop_base.specs.Activity.{Activity, Arrival, Operation, Cleaning, GoesOn}
use Rattle.shop_base.specs.Report.{ended, at, CanReport, with_ready, with_clean, after_end, after_report}
use Rattle.shop_base.specs.Move.{after_move}
use Rattle.shop_base.specs.Run.{Event, Reported, Moved, CanHappen, AreEvents, after, after_all, ends_in}
use Rattle.shop_base.specs.Sound.{IsSound}
use Rattle.shop_base.proofs.Changes.{IsMoved, IsReadied, IsTidied, after_move-moved, with_ready-readied, with_clean-tidied}
use Rattle.shop_base.proofs.CellFacts.{source_on}
use Rattle.shop_base.proofs.Keeping.{run-sound, after_report-sound, after_move-sound, alone_on}
use Rattle.shop_base.proofs.ControlledRuns.{after_all_join}
use Rattle.shop_base.proofs.Visits.{visits_job}
use Rattle.shop_base.proofs.InShop.{outside_in_shop}
use Rattle.shop_base.specs.AtMostOnceLaw.{MayRecur, HasLeft, HasWorked, IsNoneLater, NoEndIsAcceptedTwice}
use Rattle.shop_base.proofs.ReportsLeft.{held-not_cleaned}

module _ (p : PlannedShop) (shaped : IsWellShaped p) where
  -- ---- what a report that makes a job ready comes to

  readied : (c : Cell) (j t due : ℕ) → IsSound p c → GoesOn p c (Arrival j) due → IsReadied c j t (with_ready c j t)
  readied c j t due sound goes = with_ready-readied c j t goes.not_ready (omega (arith, sound.job_count, outside_in_shop p c j sound goes.outside))

  readied_on : (c : Cell) (j m t due : ℕ) → IsSound p c → GoesOn p c (Operation j m) due → IsReadied c j t (with_ready c j t)
  readied_on c j m t due sound (k, goes) = with_ready-readied c j t goes.not_ready (omega (arith, sound.job_count, visits_job p j k m goes.on.visits))

  same_job : (new c : Cell) (i : ℕ) → job_in new i ≡ job_in c i → (made new i ≡ made c i) × (ready new i ≡ ready c i)
  same_job new c i same = (ap (λ (x : JobState). x.made) same, ap (λ (x : JobState). x.ready) same)

  -- ---- a job that has ended what it did after so many moves

  record IsPast (j n : ℕ) (c : Cell) : Type 0 where
    reached : n ≤ made c j
    ended : made c j ≡ n → ready c j ≡ true

  past_readied : (j n i t : ℕ) (c new : Cell) → IsReadied c i t new → IsPast j n c → IsPast j n new
  past_readied j n i t c new change past = record {
    reached = omega (arith, change.made_same j, past.reached);
    ended = λ here. go here (cases_eq j i);
  }
    where
      go : made new j ≡ n → (j ≡ i) ⊎ (j ≡ i → ⊥) → ready new j ≡ true
      go here (inl same) = subst (λ x. ready new x ≡ true) (sym same) change.ready_mine
      go here (inr other) = (same_job new c j (change.others j other)).1 ∙ past.ended (sym (change.made_same j) ∙ here)

  past_moved : (j n i t : ℕ) (c new : Cell) → IsMoved p c i t new → IsPast j n c → IsPast j n new
  past_moved j n i t c new change past = go (cases_eq j i)
    where
      go : (j ≡ i) ⊎ (j ≡ i → ⊥) → IsPast j n new
      go (inl same) =
          let more : made new j ≡ made c j + 1 = subst (λ x. made new x ≡ made c x + 1) (sym same) change.made_mine in
          record { reached = omega (arith, more, past.reached); ended = λ here. absurd (omega (arith, more, past.reached, here)) }
      go (inr other) =
          let same = same_job new c j (change.others j other) in
          record { reached = omega (arith, same.0, past.reached); ended = λ here. same.1 ∙ past.ended (sym same.0 ∙ here) }

  past_event : (j n : ℕ) (c : Cell) (e : Event) → IsSound p c → CanHappen p c e → IsPast j n c → IsPast j n (after p c e)
  past_event j n c (Moved o) sound can past = past_moved j n o.job o.at c (after_move p c o.job o.at) (after_move-moved p c o.job o.at shaped sound can.0.can) past
  past_event j n c (Reported r) sound can past = go (ended r) can.going.0 can.going.1
    where
      go : (a : Activity) (due : ℕ) → GoesOn p c a due → IsPast j n (after_end c a (at r))
      go (Arrival i) due goes = past_readied j n i (at r) c (with_ready c i (at r)) (readied c i (at r) due sound goes) past
      go (Operation i m) due goes = past_readied j n i (at r) c (with_ready c i (at r)) (readied_on c i m (at r) due sound goes) past
      go (Cleaning m) due goes = record { reached = past.reached; ended = past.ended }

  sound_after : (c : Cell) (e : Event) → IsSound p c → CanHappen p c e → IsSound p (after p c e)
  sound_after c (Reported r) sound can = after_report-sound p c r shaped sound can
  sound_after c (Moved o) sound can = after_move-sound p c o.job o.at shaped sound can.0.can can.1

  past_events : (j n : ℕ) (c : Cell) (es : List Event) → IsSound p c → AreEvents p c es → IsPast j n c → IsPast j n (after_all p c es)
  past_events j n c [] sound events past = past
  past_events j n c (e ∷ es) sound events past = past_events j n (after p c e) es (sound_after c e sound events.0) events.1 (past_event j n c e sound events.0 past)

  -- ---- a machine that was cleaned, and on which no operation has ended since

  record IsQuiet (m : ℕ) (c : Cell) : Type 0 where
    is_clean : cleaning c m ≡ None
    not_ready : (j k : ℕ) → IsOn p c j k m → ready c j ≡ false

  one_step : (c : Cell) (j k l m n : ℕ) → IsOn p c j k m → IsOn p c j l n → m ≡ n
  one_step c j k l m n on other =
      let same : k ≡ l = omega (arith, on.entered, other.entered) in
      sym on.visits.here ∙ ap (λ x. machine_of p j x) same ∙ other.visits.here

  quiet_readied : (m i t : ℕ) (c new : Cell) → IsReadied c i t new → ((k : ℕ) → IsOn p c i k m → ⊥) → IsQuiet m c → IsQuiet m new
  quiet_readied m i t c new change off quiet = record {
    is_clean = ap (λ ms. cleaning (record { jobs = new.jobs; machines = ms; last = new.last }) m) change.machines_same ∙ quiet.is_clean;
    not_ready = λ j k on. go j k on (cases_eq j i);
  }
    where
      was_on : (j k : ℕ) → IsOn p new j k m → IsOn p c j k m
      was_on j k on = record { entered = sym (change.made_same j) ∙ on.entered; visits = on.visits }

      go : (j k : ℕ) → IsOn p new j k m → (j ≡ i) ⊎ (j ≡ i → ⊥) → ready new j ≡ false
      go j k on (inl same) = absurd (off k (subst (λ x. IsOn p c x k m) same (was_on j k on)))
      go j k on (inr other) = (same_job new c j (change.others j other)).1 ∙ quiet.not_ready j k (was_on j k on)

  tidied_clean : (m n t : ℕ) (c new : Cell) → IsTidied c n t new → cleaning c m ≡ None → cleaning new m ≡ None
  tidied_clean m n t c new change clean = go (cases_eq m n)
    where
      go : (m ≡ n) ⊎ (m ≡ n → ⊥) → cleaning new m ≡ None
      go (inl same) = subst (λ x. cleaning new x ≡ None) (sym same) change.cleaning_mine
      go (inr other) = change.cleaning_elsewhere m other ∙ clean

  quiet_tidied : (m n t : ℕ) (c new : Cell) → IsTidied c n t new → IsQuiet m c → IsQuiet m new
  quiet_tidied m n t c new change quiet = record {
    is_clean = tidied_clean m n t c new change quiet.is_clean;
    not_ready = λ j k on. same_ready j ∙ quiet.not_ready j k (record { entered = sym (same_moves j) ∙ on.entered; visits = on.visits });
  }
    where
      same_in : (j : ℕ) → job_in new j ≡ job_in c j
      same_in j = ap (λ js. job_in (record { jobs = js; machines = new.machines; last = new.last }) j) change.jobs_same

      same_ready : (j : ℕ) → ready new j ≡ ready c j
      same_ready j = (same_job new c j (same_in j)).1

      same_moves : (j : ℕ) → made new j ≡ made c j
      same_moves j = (same_job new c j (same_in j)).0

  quiet_moved : (m i t : ℕ) (c new : Cell) → IsMoved p c i t new → ready c i ≡ true → IsQuiet m c → IsQuiet m new
  quiet_moved m i t c new change is_ready quiet = record {
    is_clean = change.cleaning_elsewhere m (λ k on. false≢true (sym (quiet.not_ready i k on) ∙ is_ready)) ∙ quiet.is_clean;
    not_ready = λ j k on. go j k on (cases_eq j i);
  }
    where
      go : (j k : ℕ) → IsOn p new j k m → (j ≡ i) ⊎ (j ≡ i → ⊥) → ready new j ≡ false
      go j k on (inl same) = subst (λ x. ready new x ≡ false) (sym same) change.ready_mine
      go j k on (inr other) =
          let same = same_job new c j (change.others j other) in
          same.1 ∙ quiet.not_ready j k (record { entered = sym same.0 ∙ on.entered; visits = on.visits })

  -- ---- a job that is ready on a machine that isn't being cleaned

  record IsWaiting (j m : ℕ) (c : Cell) : Type 0 where
    step : ℕ
    on : IsOn p c j step m
    is_ready : ready c j ≡ true
    is_clean : cleaning c m ≡ None

  cleaning_of : (m : ℕ) (c new : Cell) → new.machines ≡ c.machines → cleaning new m ≡ cleaning c m
  cleaning_of m c new same = ap (λ ms. cleaning (record { jobs = new.jobs; machines = ms; last = new.last }) m) same

  waiting_same : (j m : ℕ) (c new : Cell) → job_in new j ≡ job_in c j → cleaning new m ≡ None → IsWaiting j m c → IsWaiting j m new
  waiting_same j m c new same clean waiting =
      let jobs = same_job new c j same in
      record { step = waiting.step; on = record { entered = jobs.0 ∙ waiting.on.entered; visits = waiting.on.visits }; is_ready = jobs.1 ∙ waiting.is_ready; is_clean = clean }

  waiting_readied : (j m i t : ℕ) (c new : Cell) → IsReadied c i t new → ready c i ≡ false → IsWaiting j m c → IsWaiting j m new
  waiting_readied j m i t c new change not_ready waiting =
      waiting_same j m c new (change.others j (λ same. false≢true (sym not_ready ∙ ap (ready c) (sym same) ∙ waiting.is_ready))) (cleaning_of m c new change.machines_same ∙ waiting.is_clean) waiting

  waiting_tidied : (j m n t : ℕ) (c new : Cell) → IsTidied c n t new → IsWaiting j m c → IsWaiting j m new
  waiting_tidied j m n t c new change waiting =
      waiting_same j m c new (ap (λ js. job_in (record { jobs = js; machines = new.machines; last = new.last }) j) change.jobs_same) (tidied_clean m n t c new change waiting.is_clean) waiting

  waiting_moved : (j m i t : ℕ) (c new : Cell) → IsSound p c → IsMoved p c i t new → (j ≡ i → ⊥) → IsWaiting j m c → IsWaiting j m new
  waiting_moved j m i t c new sound change other waiting =
      waiting_same j m c new (change.others j other)
      (change.cleaning_elsewhere m (λ k on. other (alone_on p c j waiting.step i k m shaped sound waiting.on on)) ∙ waiting.is_clean) waiting

  -- until it leaves, the machine isn't being cleaned
  waiting_events : (j m : ℕ) (c : Cell) (es : List Event) → IsSound p c → AreEvents p c es → IsWaiting j m c → IsWaiting j m (after_all p c es) ⊎ HasLeft j m es
  waiting_events j m c [] sound events waiting = inl waiting
  waiting_events j m c (Moved o ∷ es) sound events waiting = elim (cases_eq j o.job) [
    | inl same ↦ inr (inl (sym same, ap (λ (q : MoveOrder). q.source) events.0.0.is_move ∙ source_on p c o.job waiting.step m (subst (λ i. IsOn p c i waiting.step m) same waiting.on)))
    | inr other ↦
        elim (waiting_events j m (after_move p c o.job o.at) es (sound_after c (Moved o) sound events.0) events.1
        (waiting_moved j m o.job o.at c (after_move p c o.job o.at) sound (after_move-moved p c o.job o.at shaped sound events.0.0.can) other waiting)) [
          | inl clean ↦ inl clean
          | inr left ↦ inr (inr left)
        ]
  ]
  waiting_events j m c (Reported r ∷ es) sound events waiting =
      waiting_events j m (after_report c r) es (sound_after c (Reported r) sound events.0) events.1 (go (ended r) refl events.0.going.0 events.0.going.1)
    where
      go : (a : Activity) → ended r ≡ a → (due : ℕ) → GoesOn p c a due → IsWaiting j m (after_report c r)
      go (Arrival i) is due goes =
          subst (λ a. IsWaiting j m (after_end c a (at r))) (sym is)
          (waiting_readied j m i (at r) c (with_ready c i (at r)) (readied c i (at r) due sound goes) goes.not_ready waiting)
      go (Operation i n) is due goes =
          subst (λ a. IsWaiting j m (after_end c a (at r))) (sym is)
          (waiting_readied j m i (at r) c (with_ready c i (at r)) (readied_on c i n (at r) due sound goes) goes.1.not_ready waiting)
      go (Cleaning n) is due goes =
          subst (λ a. IsWaiting j m (after_end c a (at r))) (sym is)
          (waiting_tidied j m n (at r) c (with_clean c n (at r)) (with_clean-tidied c n goes.0 (at r) goes.1.is_cleaned) waiting)

  -- ---- a machine stays quiet until an operation ends on it

  -- the end of an operation on it, or of anything else
  quiet_report : (m : ℕ) (c : Cell) (r : Report) → IsSound p c → CanReport p c r → IsQuiet m c
      → IsQuiet m (after_report c r) ⊎ ((j : ℕ) × (ended r ≡ Operation j m) × IsWaiting j m (after_report c r))
  quiet_report m c r sound can quiet = go (ended r) refl can.going.0 can.going.1
    where
      go : (a : Activity) → ended r ≡ a → (due : ℕ) → GoesOn p c a due → IsQuiet m (after_report c r) ⊎ ((j : ℕ) × (ended r ≡ Operation j m) × IsWaiting j m (after_report c r))
      go (Arrival i) is due goes =
          inl (subst (λ a. IsQuiet m (after_end c a (at r))) (sym is)
          (quiet_readied m i (at r) c (with_ready c i (at r)) (readied c i (at r) due sound goes) (λ k on. absurd (omega (arith, on.entered, goes.outside))) quiet))
      go (Operation i n) is due goes = elim (cases_eq n m) [
        | inl same ↦
            let change = readied_on c i n (at r) due sound goes in
            let waiting : IsWaiting i m (with_ready c i (at r)) = record {
              step = goes.0;
              on = subst (λ x. IsOn p (with_ready c i (at r)) i goes.0 x) same (record { entered = change.made_same i ∙ goes.1.on.entered; visits = goes.1.on.visits });
              is_ready = change.ready_mine;
              is_clean = cleaning_of m c (with_ready c i (at r)) change.machines_same ∙ quiet.is_clean;
            } in
            inr (i, is ∙ ap (Operation i) same, subst (λ a. IsWaiting i m (after_end c a (at r))) (sym is) waiting)
        | inr other ↦
            inl (subst (λ a. IsQuiet m (after_end c a (at r))) (sym is)
            (quiet_readied m i (at r) c (with_ready c i (at r)) (readied_on c i n (at r) due sound goes) (λ k on. other (one_step c i goes.0 k n m goes.1.on on)) quiet))
      ]
      go (Cleaning n) is due goes =
          inl (subst (λ a. IsQuiet m (after_end c a (at r))) (sym is)
          (quiet_tidied m n (at r) c (with_clean c n (at r)) (with_clean-tidied c n goes.0 (at r) goes.1.is_cleaned) quiet))

  quiet_events : (m : ℕ) (c : Cell) (es : List Event) → IsSound p c → AreEvents p c es → IsQuiet m c → (cleaning (after_all p c es) m ≡ None) ⊎ HasWorked m es
  quiet_events m c [] sound events quiet = inl quiet.is_clean
  quiet_events m c (Moved o ∷ es) sound events quiet =
      quiet_events m (after_move p c o.job o.at) es (sound_after c (Moved o) sound events.0) events.1
      (quiet_moved m o.job o.at c (after_move p c o.job o.at) (after_move-moved p c o.job o.at shaped sound events.0.0.can) events.0.0.can.is_ready quiet)
  quiet_events m c (Reported r ∷ es) sound events quiet = elim (quiet_report m c r sound events.0 quiet) [
    | inl still ↦ elim (quiet_events m (after_report c r) es (sound_after c (Reported r) sound events.0) events.1 still) [
      | inl clean ↦ inl clean
      | inr worked ↦ inr (inr worked)
    ]
    | inr (j, is, waiting) ↦ elim (waiting_events j m (after_report c r) es (sound_after c (Reported r) sound events.0) events.1 waiting) [
      | inl clean ↦ inl clean.is_clean
      | inr left ↦ inr (inl (j, is, left))
    ]
  ]

  -- ---- after a report

  again_where : (c : Cell) (r q : Report) (fs : List Event) (a : Activity) → ended r ≡ a → ended q ≡ a → IsSound p c → CanReport p c r → AreEvents p (after_report c r) fs
      → CanReport p (after_all p (after_report c r) fs) q → MayRecur p a fs
  again_where c r q fs (Arrival j) is same sound can events also = absurd (false≢true (sym also_awaited.not_ready ∙ past.ended also_awaited.outside))
    where
      goes : GoesOn p c (Arrival j) can.going.0
      goes = subst (λ a. GoesOn p c a can.going.0) is can.going.1

      also_awaited : GoesOn p (after_all p (after_report c r) fs) (Arrival j) also.going.0
      also_awaited = subst (λ a. GoesOn p (after_all p (after_report c r) fs) a also.going.0) same also.going.1

      change : IsReadied c j (at r) (after_report c r)
      change = subst (λ a. IsReadied c j (at r) (after_end c a (at r))) (sym is) (readied c j (at r) can.going.0 sound goes)

      past : IsPast j 0 (after_all p (after_report c r) fs)
      past = past_events j 0 (after_report c r) fs (after_report-sound p c r shaped sound can) events
          (record { reached = omega arith; ended = λ here. change.ready_mine })
  again_where c r q fs (Operation j m) is same sound can events also =
      elim (waiting_events j m (after_report c r) fs (after_report-sound p c r shaped sound can) events waiting) [
        | inl still ↦ absurd (false≢true (sym also_worked.1.not_ready ∙ still.is_ready))
        | inr left ↦ ((goes.0, also_worked.0, record { first = goes.1.on.visits; again = also_worked.1.on.visits; later = later }), left)
      ]
    where
      goes : GoesOn p c (Operation j m) can.going.0
      goes = subst (λ a. GoesOn p c a can.going.0) is can.going.1

      also_worked : GoesOn p (after_all p (after_report c r) fs) (Operation j m) also.going.0
      also_worked = subst (λ a. GoesOn p (after_all p (after_report c r) fs) a also.going.0) same also.going.1

      change : IsReadied c j (at r) (after_report c r)
      change = subst (λ a. IsReadied c j (at r) (after_end c a (at r))) (sym is) (readied_on c j m (at r) can.going.0 sound goes)

      waiting : IsWaiting j m (after_report c r)
      waiting = record {
        step = goes.0;
        on = record { entered = change.made_same j ∙ goes.1.on.entered; visits = goes.1.on.visits };
        is_ready = change.ready_mine;
        is_clean = cleaning_of m c (after_report c r) change.machines_same ∙ held-not_cleaned p c j goes.0 m sound goes.1.on;
      }

      past : IsPast j (goes.0 + 1) (after_all p (after_report c r) fs)
      past = past_events j (goes.0 + 1) (after_report c r) fs (after_report-sound p c r shaped sound can) events
          (record { reached = omega (arith, change.made_same j, goes.1.on.entered); ended = λ here. change.ready_mine })

      later : goes.0 < also_worked.0
      later = elim (cases_eq goes.0 also_worked.0) [
        | inl same_step ↦ absurd (false≢true (sym also_worked.1.not_ready ∙ past.ended (also_worked.1.on.entered ∙ ap (λ x. x + 1) (sym same_step))))
        | inr other ↦ omega (arith, past.reached, also_worked.1.on.entered, other)
      ]
  again_where c r q fs (Cleaning m) is same sound can events also = elim (quiet_events m (after_report c r) fs (after_report-sound p c r shaped sound can) events quiet) [
    | inl clean ↦ let some = also_cleaned.1.is_cleaned in absurd (cc)
    | inr worked ↦ worked
  ]
    where
      goes : GoesOn p c (Cleaning m) can.going.0
      goes = subst (λ a. GoesOn p c a can.going.0) is can.going.1

      also_cleaned : GoesOn p (after_all p (after_report c r) fs) (Cleaning m) also.going.0
      also_cleaned = subst (λ a. GoesOn p (after_all p (after_report c r) fs) a also.going.0) same also.going.1

      change : IsTidied c m (at r) (after_report c r)
      change = subst (λ a. IsTidied c m (at r) (after_end c a (at r))) (sym is) (with_clean-tidied c m goes.0 (at r) goes.1.is_cleaned)

      same_made : (j : ℕ) → made (after_report c r) j ≡ made c j
      same_made j = ap (λ js. made (record { jobs = js; machines = (after_report c r).machines; last = (after_report c r).last }) j) change.jobs_same

      quiet : IsQuiet m (after_report c r)
      quiet = record {
        is_clean = change.cleaning_mine;
        not_ready = λ j k on. absurd (sound.cleaned_free m goes.0 goes.1.is_cleaned j k (record { entered = sym (same_made j) ∙ on.entered; visits = on.visits }));
      }

front : (p : PlannedShop) (c : Cell) (es : List Event) (e : Event) (fs : List Event) → AreEvents p c (es ++ e ∷ fs)
    → AreEvents p c es × CanHappen p (after_all p c es) e × AreEvents p (after p (after_all p c es) e) fs
front p c [] e fs events = (tt, events.0, events.1)
front p c (f ∷ es) e fs events = let (first, can, later) = front p (after p c f) es e fs events.1 in ((events.0, first), can, later)

-- moments never fall
later_event : (p : PlannedShop) (c : Cell) (e : Event) → CanHappen p c e → c.last ≤ (after p c e).last
later_event p c (Moved o) can = can.0.can.moment.in_order
later_event p c (Reported r) can = go (ended r) refl
  where
    go : (a : Activity) → ended r ≡ a → c.last ≤ (after_report c r).last
    go (Arrival j) is = subst (λ x. c.last ≤ (after_end c x (at r)).last) (sym is) can.moment.in_order
    go (Operation j m) is = subst (λ x. c.last ≤ (after_end c x (at r)).last) (sym is) can.moment.in_order
    go (Cleaning m) is = subst (λ x. c.last ≤ (after_end c x (at r)).last) (sym is) can.moment.in_order

reported_last : (c : Cell) (r : Report) → (after_report c r).last ≡ at r
reported_last c r = go (ended r) refl
  where
    go : (a : Activity) → ended r ≡ a → (after_report c r).last ≡ at r
    go (Arrival j) is = subst (λ x. (after_end c x (at r)).last ≡ at r) (sym is) refl
    go (Operation j m) is = subst (λ x. (after_end c x (at r)).last ≡ at r) (sym is) refl
    go (Cleaning m) is = subst (λ x. (after_end c x (at r)).last ≡ at r) (sym is) refl

later_events : (p : PlannedShop) (c : Cell) (es : List Event) → AreEvents p c es → c.last ≤ (after_all p c es).last
later_events p c [] events = omega arith
later_events p c (e ∷ es) events = omega (arith, later_event p c e events.0, later_events p (after p c e) es events.1)

none_later : (p : PlannedShop) (c : Cell) (es : List Event) (t : ℕ) → AreEvents p c es → (after_all p c es).last ≤ t → IsNoneLater t es
none_later p c [] t events end = tt
none_later p c (Moved o ∷ es) t events end = none_later p (after p c (Moved o)) es t events.1 end
none_later p c (Reported r ∷ es) t events end =
    (omega (arith, reported_last c r, later_events p (after_report c r) es events.1, end), none_later p (after_report c r) es t events.1 end)

pub no_end_is_accepted_twice : NoEndIsAcceptedTwice
no_end_is_accepted_twice p es fs r again shaped run same also =
    let (first, can, later) = front p (start p) es (Reported r) fs run in
    let c = ends_in p es in
    let there : CanReport p (after_all p (after_report c r) fs) again = subst (λ (d : Cell). CanReport p d again) (after_all_join p (start p) es (Reported r ∷ fs)) also in (
      again_where p shaped c r again fs (ended r) refl same (run-sound p es shaped first) can later there,
      none_later p (after_report c r) fs (at again) later there.moment.in_order,
    )
