-- An answer is gathered whole.
use Rattle.std.proofs.{Math.Seq.take-length, lemmas.Bool.{and_right, cases_Bool, le-ltb, leb-false, ltb-false}}
use Rattle.std.proofs.Common.{◌≡◌, ℕ, ◌+◌, ◌≤◌, nat_lt, nat_le, ◌&&◌, if◌then◌else◌, Bool, true, false, List, [], ◌∷◌, ◌++◌, length, refl, sym, ap, ◌∙◌, arith, inl, inr, append_assoc, append-nil, length-append}
use Rattle.run_journal.specs.{declared.logged.TheConstants.{FULL, MAX_PENDING}, Logged.Held}
use Rattle.run_journal.specs.Buffering.{AnAnswerIsBufferedWhole, AreBuffered, BeginNone, begins_answer, is_flushed_first, joined}

-- where both fit
fits : (buffered : ℕ) (bytes : List ℕ) → buffered + length bytes ≤ MAX_PENDING → is_flushed_first buffered bytes ≡ nat_le FULL buffered && begins_answer bytes
fits buffered bytes within = ap (λ (b : Bool). if b then nat_lt 0 buffered else nat_le FULL buffered && begins_answer bytes) (le-ltb MAX_PENDING (buffered + length bytes) within)

later : (before after : Held) (texts : List (List ℕ)) → BeginNone texts → length before.pending + length (joined texts) ≤ MAX_PENDING → AreBuffered before texts after
    → (after.written ≡ before.written) × (after.pending ≡ before.pending ++ joined texts)
later before after [] none within same = (ap (λ (h : Held). h.written) same, ap (λ (h : Held). h.pending) same ∙ sym (append-nil before.pending))
later before after (bytes ∷ texts) none within (mid, is, more) =
    let whole = length-append bytes (joined texts) in
    let not_first : is_flushed_first (length before.pending) bytes ≡ false =
    fits (length before.pending) bytes (omega (arith, within, whole)) ∙ and_right (nat_le FULL (length before.pending)) (begins_answer bytes) none.0 in
    let both = is.held not_first in
    let now : mid.pending ≡ before.pending ++ bytes = both.1 ∙ ap (λ (l : List ℕ). before.pending ++ l) (take-length bytes) in
    let rest = later mid after texts none.1 (omega (arith, within, whole, ap length now, length-append before.pending bytes)) more in
    (rest.0 ∙ both.0, rest.1 ∙ ap (λ (l : List ℕ). l ++ joined texts) now ∙ append_assoc before.pending bytes (joined texts))

pub buffered_whole : AnAnswerIsBufferedWhole
buffered_whole before begun after line texts begins none few is are = elim (cases_Bool (is_flushed_first (length before.pending) line)) [
  | inl first ↦
      let now : begun.pending ≡ line = is.anew first ∙ take-length line in
      let rest = later begun after texts none (omega (arith, few, ap length now)) are in ([], now, rest.0, rest.1)
  | inr held ↦
      let now : begun.pending ≡ before.pending ++ line = (is.held held).1 ∙ ap (λ (l : List ℕ). before.pending ++ l) (take-length line) in
      let rest = later begun after texts none (room now held) are in (before.pending, now, rest.0, rest.1)
]
  where
    room : begun.pending ≡ before.pending ++ line → is_flushed_first (length before.pending) line ≡ false → length begun.pending + length (joined texts) ≤ MAX_PENDING
    room now held = elim (cases_Bool (nat_lt MAX_PENDING (length before.pending + length line))) [
      | inl past ↦
          let none_held : nat_lt 0 (length before.pending) ≡ false = sym (ap (λ (b : Bool). if b then nat_lt 0 (length before.pending) else nat_le FULL (length before.pending) && begins_answer line) past) ∙ held in
          omega (arith, few, ap length now, length-append before.pending line, ltb-false 0 (length before.pending) none_held)
      | inr within ↦
          let test : (nat_le FULL (length before.pending) && begins_answer line) ≡ false =
          sym (ap (λ (b : Bool). if b then nat_lt 0 (length before.pending) else nat_le FULL (length before.pending) && begins_answer line) within) ∙ held in
          let below : nat_le FULL (length before.pending) ≡ false = and_first (nat_le FULL (length before.pending)) (begins_answer line) begins test in
          omega (arith, few, ap length now, length-append before.pending line, leb-false FULL (length before.pending) below)
    ]
      where
        and_first : (x y : Bool) → y ≡ true → (x && y) ≡ false → x ≡ false
        and_first true y is not = sym is ∙ not
        and_first false y is not = refl
