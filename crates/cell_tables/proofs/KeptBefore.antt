-- What keeps another plan after an event kept it before.
use Rattle.std.proofs.Common.{◌≡◌, ℕ, ◌+◌, ◌<◌, ◌≤◌, inl, inr, List, [], ◌∷◌, ◌++◌, length, false, not, Option, None, Some, is_some, if◌then◌else◌, refl, sym, ap, ◌∙◌, arith, append_assoc, append-nil, length-append}
use Rattle.std.proofs.{lemmas.Bool.cases_eq}
use Rattle.shop_base.specs.{declared.job_state.JobState.JobState, Report.after_report, Sound.IsSound}
use Rattle.shop_base.specs.Plan.{PlannedShop, clean, order, Visits, IsWellShaped}
use Rattle.shop_base.specs.Cell.{Cell, made, ready, entries, cleaning, IsOn, IsFree}
use Rattle.shop_base.specs.{Move.{IsPrefix, CanMove, after_move}, ReportsLeft.{is_on_after, is_off, departures}}
use Rattle.shop_base.specs.Run.{Event, Reported, Moved, CanHappen, after, AreEvents, after_all}
use Rattle.shop_base.proofs.{Visits.{visits_apart, visits_or_not, on_or_not}, Changes.{IsMoved, after_move-moved}}
use Rattle.shop_base.proofs.Keeping.{IsLike, after_report-like, after_move-sound, after-sound, alone_on, target_free}
use Rattle.shop_base.proofs.ReportsLeft.{departures_kept}
use Rattle.shop_base.proofs.Departures.{departures_free, departures_on, elsewhere-off}
use Rattle.cell_tables.specs.Kept.{KeepsSoFar}

-- 1 while machine m is being cleaned
abbrev pub going : Cell → ℕ → ℕ
going c m = if is_some (cleaning c m) then 1 else 0

-- cell c comes before another: no job has made more moves, fewer have entered each machine, and fewer have left it, or as many and no cleaning has ended
pub record IsBefore (p : PlannedShop) (c new : Cell) : Type 0 where
  pub made_less : (j : ℕ) → made c j ≤ made new j
  pub waits : (j : ℕ) → made new j ≡ 0 → ready new j ≡ false → ready c j ≡ false
  pub entries_begin : (m : ℕ) → IsPrefix (entries c m) (entries new m)
  pub departed : (m : ℕ) → departures p c m ≤ departures p new m
  pub none_ended : (m : ℕ) → 0 < clean p m → departures p new m ≤ going new m → departures p c m ≤ going c m

prefix_more : (a b whole : List ℕ) → IsPrefix a b → IsPrefix b whole → IsPrefix a whole
prefix_more a b whole (r, is) (s, also) = (r ++ s, also ∙ ap (λ xs. xs ++ s) is ∙ append_assoc a r s)

-- what keeps the other plan later kept it before
pub keeps_before : (p q : PlannedShop) (c new : Cell) → IsBefore p c new → KeepsSoFar p new q → KeepsSoFar p c q
keeps_before p q c new before keeps = record {
  jobs_keep = λ j inside. record {
    lacking = λ past. (let none = (keeps.jobs_keep j inside).lacking past in (omega (arith, before.made_less j, none.0), before.waits j none.0 none.1));
    entered = λ k some within. (keeps.jobs_keep j inside).entered k (omega (arith, before.made_less j)) within;
    gone = λ gone. (keeps.jobs_keep j inside).gone (omega (arith, before.made_less j));
  };
  machines_keep = λ m inside. record {
    in_order = prefix_more (entries c m) (entries new m) (order q m) (before.entries_begin m) (keeps.machines_keep m inside).in_order;
    cleanings = record {
      cleaned = λ timed none. before.none_ended m timed ((keeps.machines_keep m inside).cleanings.cleaned timed none);
      uncleaned = λ untimed some. omega (arith, before.departed m, (keeps.machines_keep m inside).cleanings.uncleaned untimed some);
    };
  };
}

same_prefix : (xs ys : List ℕ) → ys ≡ xs → IsPrefix xs ys
same_prefix xs ys is = ([], is ∙ sym (append-nil xs))

-- where a cleaning goes on only if it did before
going_less : (one other : Option ℕ) → ((s : ℕ) → other ≡ Some s → one ≡ Some s) → (if is_some other then 1 else 0) ≤ (if is_some one then 1 else 0)
going_less one None before = omega arith
going_less one (Some s) before = rw (before s refl) (omega arith)

-- a report leaves the departures as they are
pub report_departures : (p : PlannedShop) (c new : Cell) (m : ℕ) → IsLike p c new → departures p new m ≡ departures p c m
report_departures p c new m like = departures_kept p c new m (like.entries_same m) (λ i. ap (λ n. not (is_on_after p m i n)) (like.made_same i))

pub report_before : (p : PlannedShop) (c new : Cell) → IsLike p c new → IsBefore p c new
report_before p c new like = record {
  made_less = λ j. omega (arith, like.made_same j);
  waits = λ j none idle. like.not_ready_before j idle;
  entries_begin = λ m. same_prefix (entries c m) (entries new m) (like.entries_same m);
  departed = λ m. omega (arith, report_departures p c new m like);
  none_ended = λ m timed few. omega (arith, report_departures p c new m like, going_less (cleaning c m) (cleaning new m) (like.cleaned_before m));
}

module _ (p : PlannedShop) (c new : Cell) (j t : ℕ) (shaped : IsWellShaped p) (sound : IsSound p c) (sound_new : IsSound p new) (can : CanMove p c j t) (change : IsMoved p c j t new) where
  -- the machine that the job leaves holds nobody afterwards
  left_free : (k m : ℕ) → IsOn p c j k m → IsFree p new m
  left_free k m on i l other = elim (cases_eq i j) [
    | inl same ↦ (let visits : Visits p j l m = rw same at other.visits in
        visits_apart p j k l m shaped on.visits visits (omega (arith, on.entered, change.made_mine, other.entered, ap (made new) same)))
    | inr apart ↦ apart (alone_on p c i l j k m shaped sound (record { entered = sym (ap (λ (s : JobState). s.made) (change.others i apart)) ∙ other.entered; visits = other.visits }) on)
  ]

  away : (k m : ℕ) → IsOn p c j k m → Visits p j (made c j) m → ⊥
  away k m on next = visits_apart p j k (made c j) m shaped on.visits next on.entered

  -- one more job has left the machine that it leaves
  pub one_more : (k m : ℕ) → IsOn p c j k m → departures p new m ≡ departures p c m + 1
  one_more k m on =
      omega (arith, departures_on p c j k m shaped sound on, departures_free p new m (left_free k m on), ap length (change.not_entered m (away k m on)))

  -- as many have left any other
  pub no_more : (m : ℕ) → ((k : ℕ) → IsOn p c j k m → ⊥) → departures p new m ≡ departures p c m
  no_more m elsewhere = elim (visits_or_not p j (made c j) m) [
    | inl next ↦ (let on : IsOn p new j (made c j) m = record { entered = change.made_mine; visits = next } in
        omega (arith, departures_free p c m (target_free p c j t m can next).0, departures_on p new j (made c j) m shaped sound_new on, ap length (change.entered m next), length-append (entries c m) (j ∷ [])))
    | inr off ↦ departures_kept p c new m (change.not_entered m off) (same_off off)
  ]
    where
      same_off : (Visits p j (made c j) m → ⊥) → (i : ℕ) → is_off p new m i ≡ is_off p c m i
      same_off off i = elim (cases_eq i j) [
        | inl same ↦ ap (is_off p new m) same ∙ elsewhere-off p new j m gone_by ∙ sym (elsewhere-off p c j m elsewhere) ∙ ap (is_off p c m) (sym same)
        | inr apart ↦ ap (λ (s : JobState). not (is_on_after p m i s.made)) (change.others i apart)
      ]
        where
          gone_by : (k : ℕ) → IsOn p new j k m → ⊥
          gone_by k on = let same : k ≡ made c j = omega (arith, on.entered, change.made_mine) in off (rw same at on.visits)

  pub some_going : (s : Option ℕ) → s ≡ Some t → ◌≡◌ {A = ℕ} (if is_some s then 1 else 0) 1
  some_going s is = ap {B = ℕ} (λ x. if is_some x then 1 else 0) is

  pub move_before : IsBefore p c new
  move_before = record {
    made_less = λ i. elim (cases_eq i j) [
      | inl same ↦ rw same (omega (arith, change.made_mine))
      | inr apart ↦ omega (arith, ap (λ (s : JobState). s.made) (change.others i apart))
    ];
    waits = λ i none idle. elim (cases_eq i j) [
      | inl same ↦ absurd (omega (arith, change.made_mine, ap (made new) same))
      | inr apart ↦ sym (ap (λ (s : JobState). s.ready) (change.others i apart)) ∙ idle
    ];
    entries_begin = λ m. elim (visits_or_not p j (made c j) m) [
      | inl next ↦ (j ∷ [], change.entered m next)
      | inr off ↦ same_prefix (entries c m) (entries new m) (change.not_entered m off)
    ];
    departed = λ m. elim (on_or_not p c j m) [
      | inl (k, on) ↦ omega (arith, one_more k m on)
      | inr elsewhere ↦ omega (arith, no_more m elsewhere)
    ];
    none_ended = λ m timed few. elim (on_or_not p c j m) [
      | inl (k, on) ↦ omega (arith, one_more k m on, some_going (cleaning new m) (change.cleaning_begins k m on timed))
      | inr elsewhere ↦ omega (arith, no_more m elsewhere, ap {B = ℕ} (λ x. if is_some x then 1 else 0) (change.cleaning_elsewhere m elsewhere))
    ];
  }

pub event_before : (p : PlannedShop) (c : Cell) (e : Event) → IsWellShaped p → IsSound p c → CanHappen p c e → IsBefore p c (after p c e)
event_before p c (Reported r) shaped sound can = report_before p c (after_report c r) (after_report-like p c r sound can)
event_before p c (Moved o) shaped sound (obeys, keeps) =
    move_before p c (after_move p c o.job o.at) o.job o.at shaped sound (after_move-sound p c o.job o.at shaped sound obeys.can keeps) obeys.can (after_move-moved p c o.job o.at shaped sound obeys.can)

-- what keeps the other plan at the end of some events kept it before them
pub keeps_first : (p q : PlannedShop) (c : Cell) (es : List Event) → IsWellShaped p → IsSound p c → AreEvents p c es → KeepsSoFar p (after_all p c es) q → KeepsSoFar p c q
keeps_first p q c [] shaped sound events keeps = keeps
keeps_first p q c (e ∷ es) shaped sound (can, events) keeps =
    keeps_before p q c (after p c e) (event_before p c e shaped sound can) (keeps_first p q (after p c e) es shaped (after-sound p c e shaped sound can) events keeps)
