-- Texts line by line: their whole lines, the lines that end, and what a log gets of them.
use Rattle.std.proofs.Common.{◌≡◌, ◌⊎◌, ℕ, zero, suc, ◌==◌, true, false, List, [], ◌∷◌, ◌++◌, inl, inr, refl, sym, ap, ◌∙◌, subst, append_assoc}
use Rattle.std.proofs.lemmas.{Bool.{cases_Bool, eqb-true}, List.append_cancel_left}
use Rattle.std.specs.List.{onto_first, flat_map}
use Rattle.text_lines.specs.{Cuts.HasNone, Lines.{without_return, lines_of, ended_lines}}
use Rattle.text_lines.proofs.{NextLines.first_line, EndedLines.{ended-none, ended-first}}
use Rattle.event_lines.proofs.WrittenWords.{absent_from_both}
use Rattle.run_journal.specs.{LogFiles.zeros, WholeLines.{before_any, whole_lines}}
use Rattle.run_journal.specs.LoggedLines.{is_logged, logged_line, fed_lines, logged}
use Rattle.run_journal.proofs.Whole.{whole-behind, whole-push_feed}

-- a text is bytes without a line feed, or such bytes, a line feed and a text
pub data ByLines : List ℕ → Type 0 where
  last : (end : List ℕ) → HasNone 10 end → ByLines end
  fed : (front rest : List ℕ) → HasNone 10 front → ByLines rest → ByLines (front ++ 10 ∷ rest)

one_more : (b : ℕ) (text : List ℕ) → (b == 10) ≡ false → ByLines text → ByLines (b ∷ text)
one_more b _ other (last end none) = last (b ∷ end) (other, none)
one_more b _ other (fed front rest none more) = fed (b ∷ front) rest (other, none) more

pub by_lines : (text : List ℕ) → ByLines text
by_lines [] = last [] tt
by_lines (b ∷ text) = elim (cases_Bool (b == 10)) [
  | inl feed ↦ subst (λ (c : ℕ). ByLines (c ∷ text)) (sym (eqb-true b 10 feed)) (fed [] text tt (by_lines text))
  | inr other ↦ one_more b text other (by_lines text)
]

no_feed_zeros : (n : ℕ) → HasNone 10 (zeros n)
no_feed_zeros zero = tt
no_feed_zeros (suc n) = (refl, no_feed_zeros n)

-- ---- whole lines

-- no line feed, no whole line
pub none_whole : (bytes : List ℕ) → HasNone 10 bytes → whole_lines bytes ≡ []
none_whole [] none = refl
none_whole (b ∷ bytes) none = rw none.0 (ap (before_any b) (none_whole bytes none.1))

fed_whole : (front rest : List ℕ) → whole_lines (front ++ 10 ∷ rest) ≡ front ++ 10 ∷ whole_lines rest
fed_whole front rest =
    ap whole_lines (sym (append_assoc front (10 ∷ []) rest)) ∙ whole-behind (front ++ 10 ∷ []) rest (whole-push_feed front) ∙ append_assoc front (10 ∷ []) (whole_lines rest)

rest_whole : (front rest : List ℕ) → whole_lines (front ++ 10 ∷ rest) ≡ front ++ 10 ∷ rest → whole_lines rest ≡ rest
rest_whole front rest whole = (let same : 10 ∷ whole_lines rest ≡ 10 ∷ rest = append_cancel_left front (10 ∷ whole_lines rest) (10 ∷ rest) (sym (fed_whole front rest) ∙ whole) in cc same)

-- what is gathered line by line is so of whole lines, and then of what stands behind them
module _ {X : Type 0} (gather : List ℕ → List X) (of_line : List ℕ → List X) (nothing : gather [] ≡ [])
    (first : (front rest : List ℕ) → HasNone 10 front → gather (front ++ 10 ∷ rest) ≡ of_line front ++ gather rest) where
  behind_whole : (base text : List ℕ) → ByLines base → whole_lines base ≡ base → gather (base ++ text) ≡ gather base ++ gather text
  behind_whole _ text (last end none) whole =
      let is : [] ≡ end = sym (none_whole end none) ∙ whole in
      subst (λ (e : List ℕ). gather (e ++ text) ≡ gather e ++ gather text) is (ap (λ (l : List X). l ++ gather text) (sym nothing))
  behind_whole _ text (fed front rest none more) whole =
      ap gather (append_assoc front (10 ∷ rest) text) ∙ first front (rest ++ text) none
      ∙ ap (λ (l : List X). of_line front ++ l) (behind_whole rest text more (rest_whole front rest whole))
      ∙ sym (append_assoc (of_line front) (gather rest) (gather text)) ∙ ap (λ (l : List X). l ++ gather text) (sym (first front rest none))

-- ---- lines

lines_first : (front rest : List ℕ) → HasNone 10 front → lines_of (front ++ 10 ∷ rest) ≡ (without_return front ∷ []) ++ lines_of rest
lines_first front rest none = first_line (front ++ 10 ∷ rest) front rest (record { before = none; split = refl })

pub lines_both : (base text : List ℕ) → whole_lines base ≡ base → lines_of (base ++ text) ≡ lines_of base ++ lines_of text
lines_both base text whole = behind_whole lines_of (λ front. without_return front ∷ []) refl lines_first base text (by_lines base) whole

pub ended_first : (front rest : List ℕ) → HasNone 10 front → ended_lines (front ++ 10 ∷ rest) ≡ (without_return front ∷ []) ++ ended_lines rest
ended_first front rest none = ended-first (front ++ 10 ∷ rest) front rest (record { before = none; split = refl })

pub ended_both : (base text : List ℕ) → whole_lines base ≡ base → ended_lines (base ++ text) ≡ ended_lines base ++ ended_lines text
ended_both base text whole = behind_whole ended_lines (λ front. without_return front ∷ []) refl ended_first base text (by_lines base) whole

-- more bytes only add lines
pub ended_front : (cut lost : List ℕ) → ByLines cut → (rest : List (List ℕ)) × (ended_lines (cut ++ lost) ≡ ended_lines cut ++ rest)
ended_front _ lost (last end none) = (ended_lines (end ++ lost), ap (λ (ls : List (List ℕ)). ls ++ ended_lines (end ++ lost)) (sym (ended-none end none)))
ended_front _ lost (fed front rest none more) =
    let inner = ended_front rest lost more in
    let both = ap ended_lines (append_assoc front (10 ∷ rest) lost) ∙ ended_first front (rest ++ lost) none ∙ ap (λ (ls : List (List ℕ)). without_return front ∷ ls) inner.1 in
    (inner.0, both ∙ ap (λ (ls : List (List ℕ)). ls ++ inner.0) (sym (ended_first front rest none)))

-- zeros end none
pub ended_zeros : (text : List ℕ) (n : ℕ) → ByLines text → ended_lines (text ++ zeros n) ≡ ended_lines text
ended_zeros _ n (last end none) = ended-none (end ++ zeros n) (absent_from_both 10 end (zeros n) none (no_feed_zeros n)) ∙ sym (ended-none end none)
ended_zeros _ n (fed front rest none more) =
    ap ended_lines (append_assoc front (10 ∷ rest) (zeros n)) ∙ ended_first front (rest ++ zeros n) none
    ∙ ap (λ (ls : List (List ℕ)). without_return front ∷ ls) (ended_zeros rest n more) ∙ sym (ended_first front rest none)

-- the whole lines of a text are those that end
whole_ended : (text : List ℕ) → ByLines text → ended_lines (whole_lines text) ≡ ended_lines text
whole_ended _ (last end none) = ap ended_lines (none_whole end none) ∙ sym (ended-none end none)
whole_ended _ (fed front rest none more) =
    ap ended_lines (fed_whole front rest) ∙ ended_first front (whole_lines rest) none ∙ ap (λ (ls : List (List ℕ)). without_return front ∷ ls) (whole_ended rest more) ∙ sym (ended_first front rest none)

pub ended_whole : (text : List ℕ) → ended_lines (whole_lines text) ≡ ended_lines text
ended_whole text = whole_ended text (by_lines text)

-- where a text has no other lines they are all
pub lines_ended : (text : List ℕ) → ByLines text → whole_lines text ≡ text → lines_of text ≡ ended_lines text
lines_ended _ (last end none) whole = (let is : [] ≡ end = sym (none_whole end none) ∙ whole in subst (λ (e : List ℕ). lines_of e ≡ ended_lines e) is refl)
lines_ended _ (fed front rest none more) whole =
    lines_first front rest none ∙ ap (λ (ls : List (List ℕ)). without_return front ∷ ls) (lines_ended rest more (rest_whole front rest whole)) ∙ sym (ended_first front rest none)

-- ---- what a log gets

fed_first : (front rest : List ℕ) → HasNone 10 front → fed_lines (front ++ 10 ∷ rest) ≡ (front ++ 10 ∷ []) ∷ fed_lines rest
fed_first [] rest none = refl
fed_first (b ∷ front) rest none = rw none.0 (ap (onto_first b) (fed_first front rest none.1))

fed_last : (b : ℕ) (end : List ℕ) → HasNone 10 (b ∷ end) → fed_lines (b ∷ end) ≡ (b ∷ end) ∷ []
fed_last b [] none = rw none.0 refl
fed_last b (c ∷ end) none = rw none.0 (ap (onto_first b) (fed_last c end none.1))

pub logged_first : (front rest : List ℕ) → HasNone 10 front → logged (front ++ 10 ∷ rest) ≡ logged_line (front ++ 10 ∷ []) ++ logged rest
logged_first front rest none = ap (flat_map logged_line) (fed_first front rest none)

pub logged_both : (base text : List ℕ) → whole_lines base ≡ base → logged (base ++ text) ≡ logged base ++ logged text
logged_both base text whole = behind_whole logged (λ front. logged_line (front ++ 10 ∷ [])) refl logged_first base text (by_lines base) whole

-- of bytes without a line feed such bytes
no_feed_logged : (end : List ℕ) → HasNone 10 end → HasNone 10 (logged end)
no_feed_logged [] none = tt
no_feed_logged (b ∷ end) none = subst (HasNone 10) (sym (ap (flat_map logged_line) (fed_last b end none))) (elim (cases_Bool (is_logged (b ∷ end))) [
  | inl is ↦ rw is (absent_from_both 10 (b ∷ end) [] none tt)
  | inr not ↦ rw not tt
])

pub got_all : (line rest : List ℕ) → is_logged line ≡ true → logged_line line ++ rest ≡ line ++ rest
got_all line rest is = rw is refl

pub got_none : (line rest : List ℕ) → is_logged line ≡ false → logged_line line ++ rest ≡ rest
got_none line rest not = rw not refl

-- and of a line all or nothing
abbrev pub IsGot : List ℕ → List ℕ → Type 0
IsGot front rest =
    ((is_logged (front ++ 10 ∷ []) ≡ true) × (ended_lines (logged (front ++ 10 ∷ rest)) ≡ without_return front ∷ ended_lines (logged rest)))
    ⊎ ((is_logged (front ++ 10 ∷ []) ≡ false) × (ended_lines (logged (front ++ 10 ∷ rest)) ≡ ended_lines (logged rest)))

pub ended_logged : (front rest : List ℕ) → HasNone 10 front → IsGot front rest
ended_logged front rest none = elim (cases_Bool (is_logged (front ++ 10 ∷ []))) [
  | inl is ↦ inl (is, ap ended_lines (logged_first front rest none ∙ got_all (front ++ 10 ∷ []) (logged rest) is ∙ append_assoc front (10 ∷ []) (logged rest)) ∙ ended_first front (logged rest) none)
  | inr not ↦ inr (not, ap ended_lines (logged_first front rest none ∙ got_none (front ++ 10 ∷ []) (logged rest) not))
]

-- no line of the last bytes is ended
pub ended_last : (end : List ℕ) → HasNone 10 end → ended_lines (logged end) ≡ []
ended_last end none = ended-none (logged end) (no_feed_logged end none)
