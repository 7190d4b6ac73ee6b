use Rattle.std.proofs.Common.{◌≡◌, ◌≤◌, List, ℕ, true, false, subst}
use Rattle.text_lines.specs.Numbers.{value_of}
use Rattle.command_words.specs.CommandLine.{latest_moment}
use Rattle.command_words.specs.Given.{is_moment}
use Rattle.command_words.proofs.words.Moments.{moment_from, no_numeral, past_latest}
use Rattle.command_words.proofs.words.moment_of.Goals as goal

pub returns-in_default : goal.returns-in_default
returns-in_default c = subst (λ (word : List ℕ). is_moment word ≡ false) c.as_bytes.ensures.value (no_numeral c.as_bytes.result.now c.in_default.ensures.number)

pub returns-then-number-gt-LATEST : goal.returns-then-number-gt-LATEST
returns-then-number-gt-LATEST c =
    subst (λ (word : List ℕ). is_moment word ≡ false) c.as_bytes.ensures.value
    (past_latest c.as_bytes.result.now c.in-Some.number c.in-Some.ensures.number c.if-number-gt-LATEST.true)

pub returns : goal.returns
returns c =
    let number = c.in-Some.number in
    let early = c.if-number-gt-LATEST.false in
    let is = c.in-Some.ensures.number in
    subst (λ (word : List ℕ). (is_moment word ≡ true) × (number ≡ value_of word) × (number ≤ latest_moment)) c.as_bytes.ensures.value
    (moment_from c.as_bytes.result.now number is early, is.value, early)
