use Rattle.std.proofs.Common.{ap, Some, pos, codes, [], ◌∷◌}
use Rattle.clap.specs.Words.{Rule}
use Rattle.clap.specs.declared.builder.value_parser.ValueParser.TheVariants.{Signed}
use Rattle.command_words.specs.CommandLine.{most_choices}
use Rattle.command_words.proofs.words.command_line.choices.Goals as goal

pub returns-clause-rule : goal.returns-clause-rule
returns-clause-rule c =
    let given = c.value_parser.ensures.given in
    rw (c.default_value.ensures, c.value_parser.ensures.others, given.1, given.2)
    (ap (λ (r : Rule). record r { parser = Some (Signed (pos 1) (pos most_choices)); defaults = codes "200000" ∷ [] }) c.option.ensures.rule)

pub returns-clause-local : goal.returns-clause-local
returns-clause-local c = rw (c.default_value.ensures, c.value_parser.ensures.others) c.option.ensures.local
