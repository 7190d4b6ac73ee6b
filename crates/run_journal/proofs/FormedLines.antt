-- The lines of answers, as a log gets them.
use Rattle.std.proofs.Common.{◌≡◌, ℕ, true, false, List, [], ◌∷◌, ◌++◌, refl, sym, ap, ◌∙◌, subst, arith}
use Rattle.std.proofs.lemmas.Bool.{false≢true}
use Rattle.cell_tables.specs.{declared.{entry.Entry.Entry, standing.Standing.Standing}, Standings.is_overdue}
use Rattle.cell_tables.specs.declared.standing.Standing.TheVariants.{Clean, Awaited, Outside, Worked, Done, Gone, Cleaned}
use Rattle.event_lines.specs.{declared.details.{Detail.Detail, Overdue.Overdue}, EventLines.{entry_words, entry_line}}
use Rattle.event_lines.specs.StandingLines.{late_overdue_words, unfinished_standing_line, refused_detail_line, unfinished_standing_words, refused_detail_words, late_overdue_line}
use Rattle.event_lines.specs.AnswerLines.{late_words, refused_words, done_words, unfinished_words, late_line, refused_line, done_line, unfinished_line}
use Rattle.event_lines.specs.Words.{Word, Text, Number, JobStep, words_before, line_of}
use Rattle.event_lines.specs.ReadBack.{IsSpaceless, IsFitting, AreFitting}
use Rattle.event_lines.proofs.WrittenWords.{absent_from_words, AreSpaceless, all_spaceless, before-append, decimal_spaceless}
use Rattle.event_lines.proofs.EntryParses.{detail_spaceless, standing_spaceless}
use Rattle.run_journal.specs.{LoggedLines.is_logged, TornEnds.{begins_line, AreNarrow, IsNarrow}}
use Rattle.run_journal.proofs.Formed.{IsFormed, formed-line}
use Rattle.run_journal.proofs.TornEnds.{event_begins, late_begins, late_overdue_begins}

-- ---- a line of words

formed-words : (words : List Word) → AreSpaceless words → (is_logged (line_of words) ≡ true → begins_line (words_before words []) ≡ true) → IsFormed (line_of words)
formed-words words are begins =
    let line : line_of words ≡ words_before words [] ++ 10 ∷ [] = before-append words [] (10 ∷ []) in
    subst IsFormed (sym line) (formed-line (words_before words []) (absent_from_words 10 words (omega arith) are) (λ is. begins (ap is_logged line ∙ is)))

-- which a log doesn't get
formed-passed : (words : List Word) → AreSpaceless words → is_logged (line_of words) ≡ false → IsFormed (line_of words)
formed-passed words are not = formed-words words are (λ is. absurd (false≢true (sym not ∙ is)))

narrow_fits : (word : Word) → IsNarrow word → IsFitting word
narrow_fits (Text text) is = is
narrow_fits (Number most n) is = is.0
narrow_fits (JobStep job step) is = is.0

narrow_fit : (words : List Word) → AreNarrow words → AreFitting words
narrow_fit [] are = tt
narrow_fit (word ∷ words) are = (narrow_fits word are.0, narrow_fit words are.1)

pub formed-entry : (entry : Entry) → AreNarrow (entry_words entry) → IsFormed (entry_line entry)
formed-entry entry fits = formed-words (entry_words entry) (all_spaceless (entry_words entry) (narrow_fit (entry_words entry) fits)) (λ is. event_begins entry fits)

pub formed-late : (at : ℕ) → AreNarrow (late_words at) → IsFormed (late_line at)
formed-late at fits = formed-words (late_words at) (all_spaceless (late_words at) (narrow_fit (late_words at) fits)) (λ is. late_begins at fits)

pub formed-late_overdue : (at : ℕ) (overdue : Overdue) → is_overdue overdue.first at ≡ true → AreNarrow (late_overdue_words at overdue) → IsFormed (late_overdue_line at overdue)
formed-late_overdue at overdue is_late fits = formed-words (late_overdue_words at overdue) (all_spaceless (late_overdue_words at overdue) (narrow_fit (late_overdue_words at overdue) fits)) (λ is. late_overdue_begins at overdue is_late fits)

pub formed-refused : (number : ℕ) (name : List ℕ) → IsSpaceless name → IsFormed (refused_line number name)
formed-refused number name is = formed-passed (refused_words number name) (refl, (decimal_spaceless number, (is, tt))) refl

pub formed-done : (at : ℕ) → IsFormed (done_line at)
formed-done at = formed-passed (done_words at) (refl, (decimal_spaceless at, tt)) refl

pub formed-unfinished : (left : ℕ) → IsFormed (unfinished_line left)
formed-unfinished left = formed-passed (unfinished_words left) (refl, (decimal_spaceless left, tt)) refl

-- ---- those of version 2

passed : (standing : Standing) → is_logged (unfinished_standing_line standing) ≡ false
passed (Awaited job due) = refl
passed (Outside job to) = refl
passed (Worked visit machine since due) = refl
passed (Done visit machine to) = refl
passed (Gone job at) = refl
passed (Cleaned machine visit since due) = refl
passed (Clean machine) = refl

pub formed-standing : (standing : Standing) → IsFormed (unfinished_standing_line standing)
formed-standing standing = formed-passed (unfinished_standing_words standing) (refl, standing_spaceless standing) (passed standing)

pub formed-refused_detail : (number : ℕ) (name : List ℕ) (detail : Detail) → IsSpaceless name → IsFormed (refused_detail_line number name detail)
formed-refused_detail number name detail is = formed-passed (refused_detail_words number name detail) (refl, (decimal_spaceless number, (is, detail_spaceless detail))) refl
