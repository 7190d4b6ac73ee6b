use Rattle.std.proofs.Common.{◌∙◌, ◌≤◌, arith, codes, subst, sym, ℕ}
use Rattle.clap.specs.Words.{found_of}
use Rattle.command_words.specs.CommandLine.{most_rounds}
use Rattle.command_words.proofs.words.Getters.{number_read}
use Rattle.std.specs.Str.Parse.{ExplainsUnsignedError, HasUnsignedDigitsIfOk, ParsesUnsigned}
use Rattle.command_words.proofs.words.rounds_of.Goals as goal

pub returns-clause-exact : goal.returns-clause-exact
returns-clause-exact c =
    c.unwrap_or.ensures ∙ (number_read _ (λ bs r. ParsesUnsigned 32 10 bs r × ExplainsUnsignedError 10 bs r × HasUnsignedDigitsIfOk bs r) (codes "rounds") 0 most_rounds 20 (found_of c.args.matches.now) c.get_one.result (λ u x h. h.0) (omega arith) (omega arith) (omega arith) c.get_one.ensures.none c.get_one.ensures.value c.requires).0

pub returns-clause-few : goal.returns-clause-few
returns-clause-few c =
    subst (λ (n : ℕ). n ≤ most_rounds) (sym c.unwrap_or.ensures)
    (number_read _ (λ bs r. ParsesUnsigned 32 10 bs r × ExplainsUnsignedError 10 bs r × HasUnsignedDigitsIfOk bs r) (codes "rounds") 0 most_rounds 20 (found_of c.args.matches.now) c.get_one.result (λ u x h. h.0) (omega arith) (omega arith) (omega arith) c.get_one.ensures.none c.get_one.ensures.value c.requires).2
