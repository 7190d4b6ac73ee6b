use Rattle.std.proofs.Common.{◌∙◌, codes, sym}
use Rattle.clap.specs.Words.{found_of, rows_of}
use Rattle.clap.specs.declared.error.kind.ErrorKind.TheVariants.{ArgumentConflict}
use Rattle.command_words.specs.Choice.{are_both, job_misfit}
use Rattle.command_words.proofs.words.Apart.{found_so, fits_apart, refused_apart}
use Rattle.command_words.proofs.words.Reasons.{names_only}
use Rattle.command_words.proofs.words.job_of.Goals as goal

pub returns-then-are_both-clause-refused : goal.returns-then-are_both-clause-refused
returns-then-are_both-clause-refused c =
    names_only ArgumentConflict _ c.no_both.result (found_so _ ArgumentConflict _ (sym c.are_both.ensures ∙ c.if-are_both.true)) c.no_both.ensures

pub returns-clause-fits : goal.returns-clause-fits
returns-clause-fits c =
    let rows = rows_of (found_of c.args.matches.now) in
    fits_apart (are_both (codes "job") (codes "least") rows) ArgumentConflict (job_misfit rows) c.job_given.result (sym c.are_both.ensures ∙ c.if-are_both.false) c.job_given.ensures.fits

pub returns-clause-refused : goal.returns-clause-refused
returns-clause-refused c =
    let rows = rows_of (found_of c.args.matches.now) in
    refused_apart (are_both (codes "job") (codes "least") rows) ArgumentConflict (job_misfit rows) c.job_given.result (sym c.are_both.ensures ∙ c.if-are_both.false) c.job_given.ensures.refused
