use Rattle.std.proofs.Common.{sym}
use Rattle.std.proofs.lemmas.List.{take_rest}
use Rattle.orlib_read.specs.Words.{is_blank}
use Rattle.orlib_read.proofs.Parts.{no_word, word_found}
use Rattle.orlib_read.proofs.words.next_word.Goals as goal

pub returns-in_err-start-clause-word : goal.returns-in_err-start-clause-word
returns-in_err-start-clause-word c = rw c.from_residual.ensures (no_word c.args.line.now (sym c.in_err-start.ensures.first))

pub returns-clause-word : goal.returns-clause-word
returns-clause-word c =
    rw (c.split_around.ensures.before is_blank c.word_end.ensures.first, c.split_around.ensures.after is_blank c.word_end.ensures.first, take_rest c.args.line.now c.in_ok-start.start)
    (word_found c.args.line.now c.in_ok-start.start (sym c.in_ok-start.ensures.first))
