use Rattle.std.proofs.Common.{[], ◌∷◌, ap, ◌∙◌}
use Rattle.event_lines.specs.Words.{words_before}
use Rattle.event_lines.specs.AnswerLines.{late_words}
use Rattle.event_lines.proofs.WrittenWords.{before-append}
use Rattle.event_lines.proofs.answers.put_late_line.Goals as goal

pub returns-clause-written : goal.returns-clause-written
returns-clause-written g c =
    let words = late_words c.args.at in
    c.put_late_words.ensures.written ∙ ap (words_before words) c.put_text.ensures.written ∙ before-append words (10 ∷ []) c.args.lines.now
