use Rattle.std.proofs.Common.{List, ℕ, subst}
use Rattle.text_lines.specs.Numbers.{IsNumeral}
use Rattle.command_words.proofs.words.GivenNumbers.{no_number}
use Rattle.command_words.proofs.words.number_in_form.Goals as goal

pub returns-in_default : goal.returns-in_default
returns-in_default c =
    let form = c.args.form in
    no_number form.digits form.least form.most c.args.word.now (subst (λ (w : List ℕ). (n : ℕ) → IsNumeral form.digits w n → ⊥) c.as_bytes.ensures.value c.in_default.ensures.number)
