use Rattle.std.proofs.Common.{◌∙◌, [], codes, sym}
use Rattle.clap.specs.Words.{found_of, rows_of}
use Rattle.clap.specs.declared.error.kind.ErrorKind.TheVariants.{ArgumentConflict}
use Rattle.command_words.specs.Choice.{are_both_set}
use Rattle.command_words.proofs.words.Apart.{found_so, found_not}
use Rattle.command_words.proofs.words.Reasons.{names_only}
use Rattle.command_words.proofs.words.moves_of.Goals as goal

pub returns-then-are_both_set-clause-refused : goal.returns-then-are_both_set-clause-refused
returns-then-are_both_set-clause-refused c =
    names_only ArgumentConflict _ c.no_both.result (found_so _ ArgumentConflict [] (sym c.are_both_set.ensures ∙ c.if-are_both_set.true)) c.no_both.ensures

pub returns-clause-fits : goal.returns-clause-fits
returns-clause-fits c =
    let rows = rows_of (found_of c.args.matches.now) in
    found_not (are_both_set (codes "svg") (codes "moves") rows) ArgumentConflict [] (sym c.are_both_set.ensures ∙ c.if-are_both_set.false)
