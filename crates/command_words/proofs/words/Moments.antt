-- Words that are moments, and what is said of those that aren't.
use Rattle.std.proofs.Common.{◌≡◌, ◌≤◌, ◌<◌, ◌∙◌, ◌&&◌, ℕ, true, false, nat_le, nat_lt, [], ◌∷◌, length, Option, Some, None, ap, subst, sym, arith, refl}
use Rattle.std.specs.List.{list_all}
use Rattle.std.specs.Prelude.{is_some}
use Rattle.std.proofs.lemmas.Bool.{and_from, and_parts, false_from_ne_true, lt-ltb, le-leb, leb-true, ltb-true, cond-true, cond-false}
use Rattle.text_lines.specs.Numbers.{IsNumeral, is_digit, value_of}
use Rattle.clap.specs.Words.{Text}
use Rattle.clap.specs.declared.error.kind.ErrorKind.TheVariants.{MissingRequiredArgument, ValueValidation}
use Rattle.command_words.specs.CommandLine.{latest_moment}
use Rattle.command_words.specs.Given.{is_moment}
use Rattle.command_words.specs.Choice.{misfit_of}

-- a number of 1 to 13 digits that isn't past the latest moment is one
pub moment_from : (word : Text) (n : ℕ) → IsNumeral 13 word n → n ≤ latest_moment → is_moment word ≡ true
moment_from word n is early =
    let size = and_from _ _ (lt-ltb 0 (length word) is.some) (le-leb (length word) 13 is.few) in
    let value = le-leb (value_of word) latest_moment (subst (λ (k : ℕ). k ≤ latest_moment) is.value early) in
    and_from _ _ size (and_from _ _ is.digits value)

numeral_from : (word : Text) → is_moment word ≡ true → IsNumeral 13 word (value_of word) × (value_of word ≤ latest_moment)
numeral_from word is =
    let parts = and_parts (nat_lt 0 (length word) && nat_le (length word) 13) (list_all is_digit word && nat_le (value_of word) latest_moment) is in
    let size = and_parts (nat_lt 0 (length word)) (nat_le (length word) 13) parts.0 in
    let value = and_parts (list_all is_digit word) (nat_le (value_of word) latest_moment) parts.1 in (
      record { some = ltb-true 0 (length word) size.0; few = leb-true (length word) 13 size.1; digits = value.0; value = refl },
      leb-true (value_of word) latest_moment value.1,
    )

-- a word that is no such number isn't
pub no_numeral : (word : Text) → ((n : ℕ) → IsNumeral 13 word n → ⊥) → is_moment word ≡ false
no_numeral word none = false_from_ne_true (is_moment word) (λ is. none (value_of word) (numeral_from word is).0)

-- one past the latest moment isn't
pub past_latest : (word : Text) (n : ℕ) → IsNumeral 13 word n → latest_moment < n → is_moment word ≡ false
past_latest word n is late = false_from_ne_true (is_moment word) (λ early. (let low = (numeral_from word early).1 in absurd (omega (arith, is.value, late, low))))

-- ---- what is said of a word for the present moment

pub fits_none : (log word : Option Text) → None ≡ word → misfit_of log word ≡ []
fits_none log word none = ap (misfit_of log) (sym none)

fits_log : (log word : Option Text) (text moment : Text) → log ≡ Some text → word ≡ Some moment → is_moment moment ≡ true → misfit_of log word ≡ []
fits_log log word text moment given said is =
    ap (λ l. misfit_of l word) given ∙ ap (misfit_of (Some text)) said ∙ cond-true (is_moment moment) [] (ValueValidation ∷ []) is

lacks_log : (log word : Option Text) (moment : Text) → log ≡ None → word ≡ Some moment → misfit_of log word ≡ MissingRequiredArgument ∷ []
lacks_log log word moment none said = ap (λ l. misfit_of l word) none ∙ ap (misfit_of None) said

lacks_moment : (log word : Option Text) (text moment : Text) → log ≡ Some text → word ≡ Some moment → is_moment moment ≡ false → misfit_of log word ≡ ValueValidation ∷ []
lacks_moment log word text moment given said isnt =
    ap (λ l. misfit_of l word) given ∙ ap (misfit_of (Some text)) said ∙ cond-false (is_moment moment) [] (ValueValidation ∷ []) isnt

pub fits_given : (log word : Option Text) (moment : Text) → is_some log ≡ true → word ≡ Some moment → is_moment moment ≡ true → misfit_of log word ≡ []
fits_given None word moment given said is = absurd (cc)
fits_given (Some text) word moment given said is = fits_log (Some text) word text moment refl said is

pub lacks_given : (log word : Option Text) (moment : Text) → is_some log ≡ false → word ≡ Some moment → misfit_of log word ≡ MissingRequiredArgument ∷ []
lacks_given None word moment none said = lacks_log None word moment refl said
lacks_given (Some text) word moment none said = absurd (cc)

pub lacks_moment_given : (log word : Option Text) (moment : Text) → is_some log ≡ true → word ≡ Some moment → is_moment moment ≡ false → misfit_of log word ≡ ValueValidation ∷ []
lacks_moment_given None word moment given said isnt = absurd (cc)
lacks_moment_given (Some text) word moment given said isnt = lacks_moment (Some text) word text moment refl said isnt
