-- Words that are numbers of a form, and what is said of those that aren't.
use Rattle.std.proofs.Common.{◌≡◌, ◌≤◌, ◌<◌, ◌&&◌, ℕ, true, false, nat_le, nat_lt, [], ◌∷◌, length, Some, subst, arith, refl}
use Rattle.std.specs.List.{list_all}
use Rattle.std.proofs.lemmas.Bool.{and_from, and_parts, false_from_ne_true, lt-ltb, le-leb, leb-true, ltb-true, cond-true, cond-false}
use Rattle.text_lines.specs.Numbers.{IsNumeral, is_digit, value_of}
use Rattle.clap.specs.Words.{Text}
use Rattle.clap.specs.declared.error.kind.ErrorKind.TheVariants.{ValueValidation}
use Rattle.command_words.specs.Given.{is_number}
use Rattle.command_words.specs.Choice.{number_misfit}

module _ (digits least most : ℕ) (word : Text) where
  pub number_from : (n : ℕ) → IsNumeral digits word n → least ≤ n → n ≤ most → is_number digits least most word ≡ true
  number_from n is enough few =
      let size = and_from _ _ (lt-ltb 0 (length word) is.some) (le-leb (length word) digits is.few) in
      let low = le-leb least (value_of word) (subst (λ (k : ℕ). least ≤ k) is.value enough) in
      let high = le-leb (value_of word) most (subst (λ (k : ℕ). k ≤ most) is.value few) in
      and_from _ _ size (and_from _ _ is.digits (and_from _ _ low high))

  numeral_from : is_number digits least most word ≡ true → IsNumeral digits word (value_of word) × (least ≤ value_of word) × (value_of word ≤ most)
  numeral_from is =
      let parts = and_parts (nat_lt 0 (length word) && nat_le (length word) digits) (list_all is_digit word && (nat_le least (value_of word) && nat_le (value_of word) most)) is in
      let size = and_parts (nat_lt 0 (length word)) (nat_le (length word) digits) parts.0 in
      let value = and_parts (list_all is_digit word) (nat_le least (value_of word) && nat_le (value_of word) most) parts.1 in
      let bounds = and_parts (nat_le least (value_of word)) (nat_le (value_of word) most) value.1 in (
        record { some = ltb-true 0 (length word) size.0; few = leb-true (length word) digits size.1; digits = value.0; value = refl },
        leb-true least (value_of word) bounds.0,
        leb-true (value_of word) most bounds.1,
      )

  -- a word that is no number of so many digits isn't
  pub no_number : ((n : ℕ) → IsNumeral digits word n → ⊥) → is_number digits least most word ≡ false
  no_number none = false_from_ne_true (is_number digits least most word) (λ is. none (value_of word) (numeral_from is).0)

  -- nor is one below the least
  pub below_least : (n : ℕ) → IsNumeral digits word n → n < least → is_number digits least most word ≡ false
  below_least n is low = false_from_ne_true (is_number digits least most word) (λ in_form. (let enough = (numeral_from in_form).1 in absurd (omega (arith, is.value, low, enough))))

  -- nor one past the most
  pub past_most : (n : ℕ) → IsNumeral digits word n → most < n → is_number digits least most word ≡ false
  past_most n is high = false_from_ne_true (is_number digits least most word) (λ in_form. (let few = (numeral_from in_form).2 in absurd (omega (arith, is.value, high, few))))

  pub in_form : is_number digits least most word ≡ true → number_misfit digits least most (Some word) ≡ []
  in_form is = cond-true (is_number digits least most word) [] (ValueValidation ∷ []) is

  pub out_of_form : is_number digits least most word ≡ false → number_misfit digits least most (Some word) ≡ ValueValidation ∷ []
  out_of_form isnt = cond-false (is_number digits least most word) [] (ValueValidation ∷ []) isnt
