use Rattle.std.proofs.Common.{◌∙◌, [], sym}
use Rattle.clap.specs.declared.error.kind.ErrorKind.TheVariants.{ArgumentConflict, MissingRequiredArgument}
use Rattle.command_words.proofs.words.Apart.{found_so, found_not}
use Rattle.command_words.proofs.words.Reasons.{names_only}
use Rattle.command_words.proofs.words.printed.prints_of.Goals as goal

pub returns-then-are_both_set-clause-refused : goal.returns-then-are_both_set-clause-refused
returns-then-are_both_set-clause-refused c =
    names_only ArgumentConflict _ c.no_both.result (found_so _ ArgumentConflict _ (sym c.are_both_set.ensures ∙ c.if-are_both_set.true)) c.no_both.ensures

pub returns-then-lacks_all-clause-refused : goal.returns-then-lacks_all-clause-refused
returns-then-lacks_all-clause-refused c =
    let apart = found_not _ ArgumentConflict _ (sym c.are_both_set.ensures ∙ c.if-are_both_set.false) in
    let lacks = found_so _ MissingRequiredArgument _ (sym c.lacks_all.ensures ∙ c.if-lacks_all.true) in
    names_only MissingRequiredArgument _ c.no_argument.result (apart ∙ lacks) c.no_argument.ensures

pub returns-then-lacks_names-clause-refused : goal.returns-then-lacks_names-clause-refused
returns-then-lacks_names-clause-refused c =
    let apart = found_not _ ArgumentConflict _ (sym c.are_both_set.ensures ∙ c.if-are_both_set.false) in
    let has_all = found_not _ MissingRequiredArgument _ (sym c.lacks_all.ensures ∙ c.if-lacks_all.false) in
    let lacks = found_so _ MissingRequiredArgument [] (sym c.lacks_names.ensures ∙ c.if-lacks_names.true) in
    names_only MissingRequiredArgument _ c.no_argument-then-lacks_names.result (apart ∙ has_all ∙ lacks) c.no_argument-then-lacks_names.ensures

pub returns-clause-fits : goal.returns-clause-fits
returns-clause-fits c =
    found_not _ ArgumentConflict _ (sym c.are_both_set.ensures ∙ c.if-are_both_set.false)
    ∙ found_not _ MissingRequiredArgument _ (sym c.lacks_all.ensures ∙ c.if-lacks_all.false)
    ∙ found_not _ MissingRequiredArgument [] (sym c.lacks_names.ensures ∙ c.if-lacks_names.false)
