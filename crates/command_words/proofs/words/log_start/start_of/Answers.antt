use Rattle.std.proofs.Common.{◌≡◌, ◌∙◌, [], true, false, ap, sym}
use Rattle.clap.specs.Words.{found_of, rows_of}
use Rattle.clap.specs.declared.error.kind.ErrorKind.TheVariants.{ArgumentConflict, MissingRequiredArgument}
use Rattle.command_words.specs.Choice.{is_twofold, lacks_log, start_chosen}
use Rattle.command_words.specs.declared.words.log_start.LogStart.{LogStart}
use Rattle.command_words.proofs.words.Apart.{found_so, found_not}
use Rattle.command_words.proofs.words.Reasons.{names_only}
use Rattle.command_words.proofs.words.log_start.start_of.Goals as goal

pub returns-then-is_twofold-clause-refused : goal.returns-then-is_twofold-clause-refused
returns-then-is_twofold-clause-refused c =
    let rows = rows_of (found_of c.args.matches.now) in
    let so : is_twofold (start_chosen rows) rows ≡ true = ap (λ (s : LogStart). is_twofold s rows) (sym c.start_read-start.ensures) ∙ sym c.is_twofold.ensures ∙ c.if-is_twofold.true in
    names_only ArgumentConflict _ c.no_both.result (found_so _ ArgumentConflict _ so) c.no_both.ensures

pub returns-then-lacks_log-clause-refused : goal.returns-then-lacks_log-clause-refused
returns-then-lacks_log-clause-refused c =
    let rows = rows_of (found_of c.args.matches.now) in
    let one : is_twofold (start_chosen rows) rows ≡ false = ap (λ (s : LogStart). is_twofold s rows) (sym c.start_read-start.ensures) ∙ sym c.is_twofold.ensures ∙ c.if-is_twofold.false in
    let so : lacks_log (start_chosen rows) rows ≡ true = ap (λ (s : LogStart). lacks_log s rows) (sym c.start_read-start.ensures) ∙ sym c.lacks_log.ensures ∙ c.if-lacks_log.true in
    names_only MissingRequiredArgument _ c.no_log.result (found_not _ ArgumentConflict _ one ∙ found_so _ MissingRequiredArgument [] so) c.no_log.ensures

pub returns-clause-fits : goal.returns-clause-fits
returns-clause-fits c =
    let rows = rows_of (found_of c.args.matches.now) in
    let one : is_twofold (start_chosen rows) rows ≡ false = ap (λ (s : LogStart). is_twofold s rows) (sym c.start_read-start.ensures) ∙ sym c.is_twofold.ensures ∙ c.if-is_twofold.false in
    let kept : lacks_log (start_chosen rows) rows ≡ false = ap (λ (s : LogStart). lacks_log s rows) (sym c.start_read-start.ensures) ∙ sym c.lacks_log.ensures ∙ c.if-lacks_log.false in
    found_not _ ArgumentConflict _ one ∙ found_not _ MissingRequiredArgument [] kept
