-- What answers a line, whatever it asks for.
use Rattle.std.proofs.Common.{◌≡◌, ℕ, List, [], ◌∷◌, codes, length, ◌==◌, Bool, true, false, Some, Result, OnOk, refl, sym, ap, ◌∙◌, subst, arith, inl, inr}
use Rattle.std.proofs.lemmas.Bool.{eqb-true, false≢true}
use Rattle.byte_streams.specs.{Sinks.Wrote, Lent.{SinkState, WroteOne}}
use Rattle.event_lines.specs.AnswerLines.{refused_line}
use Rattle.cell_drive.specs.LineAnswers.{LineAnswer, AsksNothing}

pub was_answered : {T E : Type 0} (texts : List ℕ → Type 0) (text : List ℕ) (outcome : Result T E) (before after : SinkState)
    → texts text → Wrote outcome after.failed before.written after.written text → OnOk outcome (after.failed ≡ before.failed) → WroteOne texts outcome before after
was_answered texts text outcome before after is wrote unfailed = record { text = text; is_text = is; wrote = wrote; unfailed = unfailed }

-- so by other texts, if each of these is one
pub of_texts : {T E : Type 0} (texts others : List ℕ → Type 0) (outcome : Result T E) (before after : SinkState) → ((text : List ℕ) → texts text → others text)
    → WroteOne texts outcome before after → WroteOne others outcome before after
of_texts texts others outcome before after so wrote = record { text = wrote.text; is_text = so wrote.text wrote.is_text; wrote = wrote.wrote; unfailed = wrote.unfailed }

pub no_bytes : (line : List ℕ) (is_empty : Bool) → is_empty ≡ (length line == 0) → is_empty ≡ true → line ≡ []
no_bytes [] is_empty is yes_empty = refl
no_bytes (b ∷ line) is_empty is yes_empty = let none : length (b ∷ line) ≡ 0 = eqb-true (length (b ∷ line)) 0 (sym is ∙ yes_empty) in absurd (omega (arith, none))

pub some_bytes : (line : List ℕ) (is_empty : Bool) → is_empty ≡ (length line == 0) → is_empty ≡ false → line ≡ [] → ⊥
some_bytes line is_empty is not_empty none =
    let same : is_empty ≡ true = is ∙ ap (λ (l : List ℕ). length l == 0) none in
    false≢true (sym not_empty ∙ same)

module _ {S Q : Type 0} (asks : List ℕ → Q → Type 0) (answers : S → ℕ → Q → List ℕ → S → Type 0) (start : S) (number : ℕ) where
  pub empty_line : (line : List ℕ) → line ≡ [] → LineAnswer asks answers start number (Some line) [] start
  empty_line line none = subst (λ (l : List ℕ). LineAnswer asks answers start number (Some l) [] start) (sym none) (record { text_is = refl; end_is = refl })

  pub bad_line : (line : List ℕ) → (line ≡ [] → ⊥) → AsksNothing asks line → LineAnswer asks answers start number (Some line) (refused_line number (codes "BadLine")) start
  bad_line [] some nothing = absurd (some refl)
  bad_line (b ∷ line) some nothing = inl (nothing, record { text_is = refl; end_is = refl })

  pub asked_line : (line text : List ℕ) (what : Q) (end : S) → (line ≡ [] → ⊥) → asks line what → answers start number what text end → LineAnswer asks answers start number (Some line) text end
  asked_line [] text what end some asked answer = absurd (some refl)
  asked_line (b ∷ line) text what end some asked answer = inr (record { what = what; asked = asked; answer = answer })
