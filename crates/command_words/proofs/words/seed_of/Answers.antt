use Rattle.std.proofs.Common.{◌∙◌, ◌≤◌, arith, codes, subst, sym, ℕ}
use Rattle.clap.specs.Words.{found_of}
use Rattle.command_words.specs.CommandLine.{greatest_seed}
use Rattle.command_words.proofs.words.Getters.{number_read}
use Rattle.std.specs.Str.Parse.{ExplainsUnsignedError, HasUnsignedDigitsIfOk, ParsesUnsigned}
use Rattle.command_words.proofs.words.seed_of.Goals as goal

pub returns-clause-exact : goal.returns-clause-exact
returns-clause-exact c =
    c.unwrap_or.ensures ∙ (number_read _ (λ bs r. ParsesUnsigned 32 10 bs r × ExplainsUnsignedError 10 bs r × HasUnsignedDigitsIfOk bs r) (codes "seed") 0 greatest_seed 0 (found_of c.args.matches.now) c.get_one.result (λ u x h. h.0) (omega arith) (omega arith) (omega arith) c.get_one.ensures.none c.get_one.ensures.value c.requires).0

pub returns-clause-small : goal.returns-clause-small
returns-clause-small c =
    subst (λ (n : ℕ). n ≤ greatest_seed) (sym c.unwrap_or.ensures)
    (number_read _ (λ bs r. ParsesUnsigned 32 10 bs r × ExplainsUnsignedError 10 bs r × HasUnsignedDigitsIfOk bs r) (codes "seed") 0 greatest_seed 0 (found_of c.args.matches.now) c.get_one.result (λ u x h. h.0) (omega arith) (omega arith) (omega arith) c.get_one.ensures.none c.get_one.ensures.value c.requires).2
