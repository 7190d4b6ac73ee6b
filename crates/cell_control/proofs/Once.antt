-- An end is accepted once, and a copy of a claim only once its job has returned.
use Rattle.std.proofs.Common.{◌≡◌, ℕ, ◌+◌, ◌-◌, ◌<◌, ◌≤◌, None, Some, List, [], ◌∷◌, ◌++◌, length, ◌⊎◌, inl, inr, sym, ap, ◌∙◌, refl, subst, arith, length-append}
use Rattle.std.proofs.lemmas.Bool.{cases_eq, cases_lt}
use Rattle.shop_base.specs.{declared.job_state.JobState.JobState, declared.move_order.MoveOrder.MoveOrder, declared.move_order.Spot.TheVariants.At}
use Rattle.shop_base.specs.declared.report.Report as reports
use Rattle.shop_base.specs.declared.report.Report.TheVariants.{Arrive, Finish, Clean}
use Rattle.shop_base.specs.{Plan.{PlannedShop, machine_of, Visits, Stands, IsWellShaped}, Cell.{Cell, made, entries, cleaning, start, IsOn, IsFree}}
use Rattle.shop_base.specs.{Activity.{Operation, Cleaning}, AtMostOnceLaw.{MayRecur, HasLeft}, Report.{ended, at, CanReport, after_end, after_report}, Move.{after_move, target}}
use Rattle.shop_base.specs.{Run.{Event, Reported, Moved, CanHappen, AreEvents, IsRun, after, after_all, ends_in}, Sound.IsSound}
use Rattle.shop_base.proofs.Changes.{IsMoved, IsTidied, after_move-moved, with_clean-tidied}
use Rattle.shop_base.proofs.{Keeping.{IsLike, after_report-like, after-sound, run-sound, after_all-sound}, ControlledRuns.after_all_join}
use Rattle.shop_base.proofs.{LowerBounds.{events_split, made_more}, Visits.{visits_or_not, stands_in_turn, stop_at}, SentAgain.no_end_is_accepted_twice}
use Rattle.cell_tables.specs.{Claims.claimed, Readings.{IsCleanedAfter, IsCleanedAfterStep}}
use Rattle.cell_tables.specs.declared.claim.Claim.{Claim, TheVariants.{Report, CleanAfter, FinishStep, CleanAfterStep}}
use Rattle.cell_tables.proofs.CleanedSteps.{cleaned_step, cleaned_entered}
use Rattle.cell_control.specs.Claims.{CanClaim}
use Rattle.cell_control.proofs.ClaimReasons.{claim_can}
use Rattle.cell_control.specs.OnceLaw.{NamedEnd, Arrived, Finished, Cleaned, ReportsEnd, NoNamedEndIsAcceptedTwice, IsOnlyVisit, Names, NoClaimIsAcceptedTwice, copy_at, HasEntered, HasReturned, MayBeCopied, ACopyIsRefused}

module _ (p : PlannedShop) (shaped : IsWellShaped p) (m n : ℕ) where
  -- machine m is clean and free after n entries
  record IsVacant (c : Cell) : Type 0 where
    clean : cleaning c m ≡ None
    free : IsFree p c m
    count : length (entries c m) ≡ n

  -- it is, or more jobs have entered it
  abbrev IsPast : Cell → Type 0
  IsPast c = IsVacant c ⊎ (n < length (entries c m))

  clean_like : (c new : Cell) → IsLike p c new → cleaning c m ≡ None → cleaning new m ≡ None
  clean_like c new like clean = go (cleaning new m) (like.cleaned_before m)
    where
      go : (o : _) → ((s : ℕ) → o ≡ Some s → cleaning c m ≡ Some s) → o ≡ None
      go None before = refl
      go (Some s) before = let was = before s refl in absurd (cc)

  past_like : (c new : Cell) → IsLike p c new → IsPast c → IsPast new
  past_like c new like (inl vacant) = inl (record {
    clean = clean_like c new like vacant.clean;
    free = λ j k on. vacant.free j k (record { entered = sym (like.made_same j) ∙ on.entered; visits = on.visits });
    count = ap length (like.entries_same m) ∙ vacant.count;
  })
  past_like c new like (inr more) = inr (omega (arith, ap length (like.entries_same m), more))

  free_moved : (c new : Cell) (i t : ℕ) → IsMoved p c i t new → (Visits p i (made c i) m → ⊥) → IsFree p c m → IsFree p new m
  free_moved c new i t moved off free j k on = go (cases_eq j i)
    where
      go : (j ≡ i) ⊎ (j ≡ i → ⊥) → ⊥
      go (inl same) =
          let here : k ≡ made c i = omega (arith, on.entered, ap (made new) same, moved.made_mine) in
          off (subst (λ x. Visits p i x m) here (subst (λ x. Visits p x k m) same on.visits))
      go (inr other) = free j k (record { entered = sym (ap (λ (x : JobState). x.made) (moved.others j other)) ∙ on.entered; visits = on.visits })

  past_moved : (c new : Cell) (i t : ℕ) → IsMoved p c i t new → IsPast c → IsPast new
  past_moved c new i t moved past = go (visits_or_not p i (made c i) m) past
    where
      go : Visits p i (made c i) m ⊎ (Visits p i (made c i) m → ⊥) → IsPast c → IsPast new
      go (inl visits) (inl vacant) = inr (omega (arith, ap length (moved.entered m visits), length-append (entries c m) (i ∷ []), vacant.count))
      go (inl visits) (inr more) = inr (omega (arith, ap length (moved.entered m visits), length-append (entries c m) (i ∷ []), more))
      go (inr off) (inl vacant) = inl (record {
        clean = moved.cleaning_elsewhere m (λ k on. vacant.free i k on) ∙ vacant.clean;
        free = free_moved c new i t moved off vacant.free;
        count = ap length (moved.not_entered m off) ∙ vacant.count;
      })
      go (inr off) (inr more) = inr (omega (arith, ap length (moved.not_entered m off), more))

  past_event : (c : Cell) (e : Event) → IsSound p c → CanHappen p c e → IsPast c → IsPast (after p c e)
  past_event c (Reported r) sound can past = past_like c (after_report c r) (after_report-like p c r sound can) past
  past_event c (Moved o) sound can past = past_moved c (after_move p c o.job o.at) o.job o.at (after_move-moved p c o.job o.at shaped sound can.0.can) past

  past_events : (c : Cell) (es : List Event) → IsSound p c → AreEvents p c es → IsPast c → IsPast (after_all p c es)
  past_events c [] sound events past = past
  past_events c (e ∷ es) sound events past = past_events (after p c e) es (after-sound p c e shaped sound events.0) events.1 (past_event c e sound events.0 past)

-- ---- what a job has done since

module _ (p : PlannedShop) (shaped : IsWellShaped p) where
  -- a job that has left a machine has moved
  left_moves : (c : Cell) (fs : List Event) (j m : ℕ) → IsSound p c → AreEvents p c fs → HasLeft j m fs → made c j < made (after_all p c fs) j
  left_moves c [] j m sound events left = absurd left
  left_moves c (Reported r ∷ fs) j m sound events left =
      omega (arith, (after_report-like p c r sound events.0).made_same j, left_moves (after_report c r) fs j m (after-sound p c (Reported r) shaped sound events.0) events.1 left)
  left_moves c (Moved o ∷ fs) j m sound events (inl mine) =
      let more = made_more p (after_move p c o.job o.at) fs j shaped (after-sound p c (Moved o) shaped sound events.0) events.1 in
      let moved = after_move-moved p c o.job o.at shaped sound events.0.0.can in
      omega (arith, more, ap (made (after_move p c o.job o.at)) mine.0, ap (made c) mine.0, moved.made_mine)
  left_moves c (Moved o ∷ fs) j m sound events (inr left) =
      omega (arith, made_more p c (Moved o ∷ []) j shaped sound (events.0, tt), left_moves (after_move p c o.job o.at) fs j m (after-sound p c (Moved o) shaped sound events.0) events.1 left)

  -- one that has made its step on a machine since has entered it
  entering : (c : Cell) (o : MoveOrder) (fs : List Event) (j l m : ℕ) → IsSound p c → CanHappen p c (Moved o) → Visits p j l m → made c j ≤ l
      → (made (after_move p c o.job o.at) j ≤ l → HasEntered j m fs) → HasEntered j m (Moved o ∷ fs)
  entering c o fs j l m sound can visits before later = go (cases_eq j o.job) (cases_eq (made c j) l)
    where
      new : Cell
      new = after_move p c o.job o.at

      moved : IsMoved p c o.job o.at new
      moved = after_move-moved p c o.job o.at shaped sound can.0.can

      go : (j ≡ o.job) ⊎ (j ≡ o.job → ⊥) → (made c j ≡ l) ⊎ (made c j ≡ l → ⊥) → HasEntered j m (Moved o ∷ fs)
      go (inl mine) (inl here) =
          let there : target p c j ≡ At m = rw here (stop_at p j l m visits) in
          inl (sym mine, ap (λ (x : MoveOrder). x.target) can.0.is_move ∙ ap (target p c) (sym mine) ∙ there)
      go (inl mine) (inr earlier) = inr (later (omega (arith, before, earlier, ap (made new) mine, ap (made c) mine, moved.made_mine)))
      go (inr other) _ = inr (later (omega (arith, before, ap (λ (x : JobState). x.made) (moved.others j other))))

  entered_since : (c : Cell) (fs : List Event) (j l m : ℕ) → IsSound p c → AreEvents p c fs → Visits p j l m → made c j ≤ l → l < made (after_all p c fs) j → HasEntered j m fs
  entered_since c [] j l m sound events visits before behind = absurd (omega (arith, before, behind))
  entered_since c (Reported r ∷ fs) j l m sound events visits before behind =
      entered_since (after_report c r) fs j l m (after-sound p c (Reported r) shaped sound events.0) events.1 visits (omega (arith, (after_report-like p c r sound events.0).made_same j, before)) behind
  entered_since c (Moved o ∷ fs) j l m sound events visits before behind =
      entering c o fs j l m sound events.0 visits before
      (λ still. entered_since (after_move p c o.job o.at) fs j l m (after-sound p c (Moved o) shaped sound events.0) events.1 visits still behind)

-- ---- after a report

module _ (p : PlannedShop) (shaped : IsWellShaped p) (c : Cell) (r : reports.Report) (fs : List Event) (sound : IsSound p c) (can : CanReport p c r) (events : AreEvents p (after_report c r) fs) where
  abbrev later : Cell
  later = after_all p (after_report c r) fs

  new_sound : IsSound p (after_report c r)
  new_sound = after-sound p c (Reported r) shaped sound can

  like : IsLike p c (after_report c r)
  like = after_report-like p c r sound can

  later_sound : IsSound p later
  later_sound = after_all-sound p (after_report c r) fs shaped new_sound events

  module _ (m : ℕ) (is : ended r ≡ Cleaning m) (from : ℕ) (was : cleaning c m ≡ Some from) where
    tidied : IsTidied c m (at r) (after_report c r)
    tidied = subst (λ a. IsTidied c m (at r) (after_end c a (at r))) (sym is) (with_clean-tidied c m from (at r) was)

    vacant : IsVacant p shaped m (length (entries c m)) (after_report c r)
    vacant = record {
      clean = tidied.cleaning_mine;
      free = λ i k on. sound.cleaned_free m from was i k (record { entered = sym (like.made_same i) ∙ on.entered; visits = on.visits });
      count = ap length (like.entries_same m);
    }

    -- a machine that was cleaned is cleaned again once it was entered again
    entered_more : (s : ℕ) → cleaning later m ≡ Some s → length (entries c m) < length (entries later m)
    entered_more s again = go (past_events p shaped m (length (entries c m)) (after_report c r) fs new_sound events (inl vacant))
      where
        go : IsPast p shaped m (length (entries c m)) later → length (entries c m) < length (entries later m)
        go (inl still) = let clean = still.clean in absurd (cc)
        go (inr more) = more

  -- after a later step, and the job has made that one since
  cleaned_later : (m j k l : ℕ) → ended r ≡ Cleaning m → IsCleanedAfterStep p c m j k → IsCleanedAfterStep p later m j l → (k < l) × (made c j ≤ l)
  cleaned_later m j k l is was again = (
    stands_in_turn p m (length (entries c m) - 1) (length (entries later m) - 1) j k l was.last_in again.last_in (omega (arith, more, some)),
    not_made (cases_lt l (made c j)),
  )
    where
      some : 0 < length (entries c m)
      some = sound.cleaned_entered m was.from was.is_cleaned

      more : length (entries c m) < length (entries later m)
      more = entered_more m is was.from was.is_cleaned again.from again.is_cleaned

      not_made : (l < made c j) ⊎ (made c j ≤ l) → made c j ≤ l
      not_made (inl early) = absurd (omega (arith, more, sound.made_entered m (length (entries later m) - 1) j l again.last_in early))
      not_made (inr late) = late

  cleaned_returns : (m j k l : ℕ) → ended r ≡ Cleaning m → IsCleanedAfterStep p c m j k → IsCleanedAfterStep p later m j l → HasReturned p j m fs
  cleaned_returns m j k l is was again =
      let (follows, before) = cleaned_later m j k l is was again in
      let entered = cleaned_entered p later m j shaped later_sound (record { from = again.from; is_cleaned = again.is_cleaned; last_in = again.last_in.job }) l again in (
        (k, l, record { first = was.last_in.visits; again = again.last_in.visits; later = follows }),
        entered_since p shaped (after_report c r) fs j l m new_sound events again.last_in.visits (omega (arith, before, like.made_same j)) entered,
      )

  -- an operation of the job on the machine goes on again at a later step
  worked_later : (j k l m : ℕ) → HasLeft j m fs → IsOn p c j k m → IsOn p later j l m → k < l
  worked_later j k l m left was again =
      omega (arith, left_moves p shaped (after_report c r) fs j m new_sound events left, was.entered, again.entered, like.made_same j)

  worked_returns : (j k l m : ℕ) → HasLeft j m fs → IsOn p c j k m → IsOn p later j l m → HasReturned p j m fs
  worked_returns j k l m left was again =
      let follows = worked_later j k l m left was again in (
        (k, l, record { first = was.visits; again = again.visits; later = follows }),
        entered_since p shaped (after_report c r) fs j l m new_sound events again.visits (omega (arith, was.entered, follows, like.made_same j)) (omega (arith, again.entered)),
      )

-- ---- in a run

module _ (p : PlannedShop) (shaped : IsWellShaped p) (es fs : List Event) (r : reports.Report) (run : IsRun p (es ++ Reported r ∷ fs)) where
  abbrev before : Cell
  before = ends_in p es

  abbrev behind : Cell
  behind = ends_in p (es ++ Reported r ∷ fs)

  split : AreEvents p (start p) es × AreEvents p before (Reported r ∷ fs)
  split = events_split p (start p) es (Reported r ∷ fs) run

  sound_before : IsSound p before
  sound_before = run-sound p es shaped split.0

  behind_is : behind ≡ after_all p (after_report before r) fs
  behind_is = after_all_join p (start p) es (Reported r ∷ fs)

  left_since : (again : reports.Report) (j m : ℕ) → ended r ≡ Operation j m → ended again ≡ Operation j m → CanReport p behind again → HasLeft j m fs
  left_since again j m is also can = (subst (λ a. MayRecur p a fs) is (no_end_is_accepted_twice p es fs r again shaped run (also ∙ sym is) can).0).1

  worked_again : (again : reports.Report) (j k l m : ℕ) → ended r ≡ Operation j m → ended again ≡ Operation j m → IsOn p before j k m → IsOn p behind j l m → CanReport p behind again → (k < l) × HasReturned p j m fs
  worked_again again j k l m is also was on can =
      let left = left_since again j m is also can in
      let there = subst (λ (d : Cell). IsOn p d j l m) behind_is on in (
        worked_later p shaped before r fs sound_before split.1.0 split.1.1 j k l m left was there,
        worked_returns p shaped before r fs sound_before split.1.0 split.1.1 j k l m left was there,
      )

  cleaned_again : (m j k l : ℕ) → ended r ≡ Cleaning m → IsCleanedAfterStep p before m j k → IsCleanedAfterStep p behind m j l → (k < l) × HasReturned p j m fs
  cleaned_again m j k l is was again =
      let there = subst (λ (d : Cell). IsCleanedAfterStep p d m j l) behind_is again in (
        (cleaned_later p shaped before r fs sound_before split.1.0 split.1.1 m j k l is was there).0,
        cleaned_returns p shaped before r fs sound_before split.1.0 split.1.1 m j k l is was there,
      )

pub once : NoNamedEndIsAcceptedTwice
once p es fs r again (Arrived j) shaped run named other can =
    subst (λ a. MayRecur p a fs) named (no_end_is_accepted_twice p es fs r again shaped run (other ∙ sym named) can).0
once p es fs r again (Finished j k) shaped run (m, is, was) (n, also, on) can =
    let same : n ≡ m = sym on.visits.here ∙ was.visits.here in
    omega (arith, (worked_again p shaped es fs r run again j k k m is (also ∙ ap (Operation j) same) was (subst (IsOn p (ends_in p (es ++ Reported r ∷ fs)) j k) same on) can).0)
once p es fs r again (Cleaned m j k) shaped run (is, was) (also, cleaned) can =
    omega (arith, (cleaned_again p shaped es fs r run m j k k is was cleaned).0)

-- ---- of claims

-- a claim that names an end, and is possible, says that end
pub claim_reports : (p : PlannedShop) (c : Cell) (claim : Claim) (end : NamedEnd) → IsWellShaped p → IsSound p c → Names p claim end → CanClaim p c claim → ReportsEnd p c (claimed p claim) end
claim_reports p c (Report (Arrive j t)) end shaped sound named can = subst (ReportsEnd p c (Arrive j t)) (sym named) refl
claim_reports p c (Report (Finish j m t)) end shaped sound (k, only, named) can =
    let (due, (l, worked)) = can.going in
    let same : l ≡ k = only.only l worked.on.visits in
    subst (ReportsEnd p c (Finish j m t)) (sym named) (m, refl, subst (λ i. IsOn p c j i m) same worked.on)
claim_reports p c (Report (Clean m t)) end shaped sound named can = absurd named
claim_reports p c (CleanAfter m j t) end shaped sound (k, only, named) can =
    let (l, after) = cleaned_step p c m j shaped sound can.after in
    let same : l ≡ k = only.only l after.last_in.visits in
    subst (ReportsEnd p c (Clean m t)) (sym named) (refl, subst (IsCleanedAfterStep p c m j) same after)
claim_reports p c (FinishStep j k t) end shaped sound named can =
    let (m, due, worked) = can.works in
    subst (ReportsEnd p c (Finish j (machine_of p j k) t)) (sym named) (m, ap (Operation j) worked.on.visits.here, worked.on)
claim_reports p c (CleanAfterStep m j k t) end shaped sound named can = subst (ReportsEnd p c (Clean m t)) (sym named) (refl, can.after)

pub claimed_once : NoClaimIsAcceptedTwice
claimed_once p es fs claim again end shaped run can named also then =
    let (first, rest) = events_split p (start p) es (Reported (claimed p claim) ∷ fs) run in
    once p es fs (claimed p claim) (claimed p again) end shaped run
    (claim_reports p (ends_in p es) claim end shaped (run-sound p es shaped first) named can)
    (claim_reports p (ends_in p (es ++ Reported (claimed p claim) ∷ fs)) again end shaped (run-sound p (es ++ Reported (claimed p claim) ∷ fs) shaped run) also then)
    (claim_can p (ends_in p (es ++ Reported (claimed p claim) ∷ fs)) again then)

pub copy_refused : ACopyIsRefused
copy_refused p es fs (Report (Arrive j s)) t shaped run can also = claimed_once p es fs (Report (Arrive j s)) (Report (Arrive j t)) (Arrived j) shaped run can refl refl also
copy_refused p es fs (Report (Finish j m s)) t shaped run can also =
    let (due, (k, worked)) = can.going in
    let (end, (l, again)) = also.going in
    (worked_again p shaped es fs (Finish j m s) run (Finish j m t) j k l m refl refl worked.on again.on also).1
copy_refused p es fs (Report (Clean m s)) t shaped run can also = (no_end_is_accepted_twice p es fs (Clean m s) (Clean m t) shaped run refl also).0
copy_refused p es fs (CleanAfter m j s) t shaped run can also =
    let (first, rest) = events_split p (start p) es (Reported (Clean m s) ∷ fs) run in
    let (k, was) = cleaned_step p (ends_in p es) m j shaped (run-sound p es shaped first) can.after in
    let (l, again) = cleaned_step p (ends_in p (es ++ Reported (Clean m s) ∷ fs)) m j shaped (run-sound p (es ++ Reported (Clean m s) ∷ fs) shaped run) also.after in
    (cleaned_again p shaped es fs (Clean m s) run m j k l refl was again).1
copy_refused p es fs (FinishStep j k s) t shaped run can also = claimed_once p es fs (FinishStep j k s) (FinishStep j k t) (Finished j k) shaped run can refl refl also
copy_refused p es fs (CleanAfterStep m j k s) t shaped run can also = claimed_once p es fs (CleanAfterStep m j k s) (CleanAfterStep m j k t) (Cleaned m j k) shaped run can refl refl also
