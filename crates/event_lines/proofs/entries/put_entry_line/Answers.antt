use Rattle.std.proofs.Common.{[], ◌∷◌, ap, ◌∙◌}
use Rattle.event_lines.specs.Words.{words_before}
use Rattle.event_lines.specs.EventLines.{entry_words}
use Rattle.event_lines.proofs.WrittenWords.{before-append}
use Rattle.event_lines.proofs.entries.put_entry_line.Goals as goal

pub returns-clause-written : goal.returns-clause-written
returns-clause-written g c =
    let words = entry_words c.args.entry in
    c.put_entry_words.ensures.written ∙ ap (words_before words) c.put_text.ensures.written ∙ before-append words (10 ∷ []) c.args.lines.now
