-- A chapter records its events, and nothing else.
use Rattle.std.proofs.Common.{◌≡◌, ℕ, ◌+◌, ◌-◌, ◌<◌, nat_eq, Bool, true, false, if◌then◌else◌, List, [], ◌∷◌, ◌++◌, length, length-append, map, take, codes, decimal, Option, None, Some, refl, sym, ap, ◌∙◌, subst, arith, append_assoc, append-nil}
use Rattle.std.specs.List.{All, ends_with}
use Rattle.std.proofs.Math.Seq.{take-append-add}
use Rattle.std.proofs.lemmas.List.Elements.{All-head, All-tail}
use Rattle.shop_base.specs.Plan.{PlannedShop, IsWellShaped}
use Rattle.text_lines.specs.Lines.{is_line_feed, parts_of, without_return, lines_of, ended_lines}
use Rattle.cell_tables.specs.declared.entry.Entry.{Entry}
use Rattle.event_lines.specs.declared.run_digits.RunDigits.{RunDigits}
use Rattle.event_lines.specs.{AnswerLines.is_passed_over, LogLines.IsEntryOf, LogLines.LineParses, LogLines.LinesParse}
use Rattle.event_lines.specs.RunDigits.{digits_words, plan_words}
use Rattle.event_lines.specs.EventLines.{entry_words, entry_line}
use Rattle.event_lines.proofs.EntryParses.{written_entries_parse}
use Rattle.event_lines.proofs.WrittenWords.{line_first}
use Rattle.log_chapters.specs.declared.parts.Origin.{Origin}
use Rattle.log_chapters.specs.Chapters.{no_digits, origin_text}
use Rattle.log_chapters.specs.ChapterLaw.{ChaptersRecordTheirEvents}
use Rattle.log_chapters.proofs.ChapterLines.{Each, each-behind, parts_same, behind, names_behind, number_fronts, entry_front, entry_fronts, entry_spaceless, unreturned, chapter_parts, chapter_same, parts_have_none}
use Rattle.log_chapters.proofs.Beginnings.{ended_all}

-- ---- lines that are passed over

-- what is left of a line without a carriage return begins as the line does
front_kept : (front rest : List ℕ) → 0 < length rest → (kept : List ℕ) × (without_return (front ++ rest) ≡ front ++ kept)
front_kept front rest some = go (ends_with nat_eq (front ++ rest) (13 ∷ []))
  where
    go : (b : Bool) → (kept : List ℕ) × ((if b then take (length (front ++ rest) - 1) (front ++ rest) else front ++ rest) ≡ front ++ kept)
    go true =
        let count : length (front ++ rest) - 1 ≡ length front + (length rest - 1) = omega (arith, some, length-append front rest) in
        (take (length rest - 1) rest, ap (λ n. take n (front ++ rest)) count ∙ take-append-add front rest (length rest - 1))
    go false = (rest, refl)

abbrev IsPassed : List ℕ → Type 0
IsPassed line = is_passed_over (without_return line) ≡ true

unfinished_passed : (rest : List ℕ) → 0 < length rest → IsPassed (codes "unfinished " ++ rest)
unfinished_passed rest some = let (kept, is) = front_kept (codes "unfinished ") rest some in ap is_passed_over is

names_passed : (names : Option (List ℕ)) → Each IsPassed (names_behind names)
names_passed None = tt
names_passed (Some names) = each-behind IsPassed (codes "unfinished names: ") (parts_of is_line_feed names) (λ line. unfinished_passed (codes "names: " ++ line) (omega arith))

numbers_passed : (job : ℕ) (origins : List Origin) → Each IsPassed (number_fronts job origins)
numbers_passed job [] = tt
numbers_passed job (origin ∷ origins) = (unfinished_passed (codes "numbers: job " ++ (decimal job ++ origin_text origin)) (omega arith), numbers_passed (job + 1) origins)

plan_passed : (digits : RunDigits) → IsPassed (plan_words digits)
plan_passed digits = unfinished_passed (digits_words digits) (omega arith)

-- ---- lines of events

module _ (p : PlannedShop) where
  passed_parse : (front lines : List (List ℕ)) (entries : List Entry) → Each IsPassed front → LinesParse p (map without_return lines) entries → LinesParse p (map without_return (front ++ lines)) entries
  passed_parse [] lines entries passed parse = parse
  passed_parse (line ∷ front) lines entries passed parse = ([], entries, passed.0, passed_parse front lines entries passed.1 parse, refl)

  entry_parses : (entry : Entry) → IsWellShaped p → IsEntryOf p entry → LineParses p (without_return (entry_front entry)) (entry ∷ [])
  entry_parses entry shaped of_shop =
      let written : LinesParse p (lines_of (entry_line entry ++ [])) (entry ∷ []) = written_entries_parse p entry shaped of_shop [] [] refl in
      let (own, rest, parse, none, is) = subst (λ (ls : List (List ℕ)). LinesParse p ls (entry ∷ [])) (line_first (entry_words entry) [] (entry_spaceless entry)) written in
      let same : own ≡ entry ∷ [] = sym (append-nil own) ∙ sym (ap (λ (es : List Entry). own ++ es) none) ∙ sym is in
      subst (λ (line : List ℕ). LineParses p line (entry ∷ [])) (sym (unreturned (entry_words entry) (entry_spaceless entry))) (subst (λ (es : List Entry). LineParses p (entry_front entry) es) same parse)

  entries_parse : (entries : List Entry) (last : List ℕ) → IsWellShaped p → All (IsEntryOf p) entries → IsPassed last → LinesParse p (map without_return (entry_fronts entries ++ last ∷ [])) entries
  entries_parse [] last shaped all passed = ([], [], passed, refl, refl)
  entries_parse (entry ∷ entries) last shaped all passed = (
    entry ∷ [],
    entries,
    entry_parses entry shaped (All-head (IsEntryOf p) entry entries all),
    entries_parse entries last shaped (All-tail (IsEntryOf p) entry entries all) passed,
    refl,
  )

  parts_parse : (file plan : List ℕ) (names : Option (List ℕ)) (origins : List Origin) (entries : List Entry) (digits : RunDigits) → IsWellShaped p → All (IsEntryOf p) entries → LinesParse p (map without_return (chapter_parts file plan names origins entries digits)) entries
  parts_parse file plan names origins entries digits shaped all =
      let files = behind (codes "unfinished file: ") file in
      let plans = behind (codes "unfinished plan: ") plan in
      let named = names_behind names in
      let numbers = number_fronts 0 origins in
      let last = plan_words digits ∷ [] in (
        [],
        entries,
        plan_passed no_digits,
        subst (λ (ls : List (List ℕ)). LinesParse p (map without_return ls) entries) (sym (five_parts files plans named numbers (entry_fronts entries) last))
            (passed_parse files (plans ++ (named ++ (numbers ++ (entry_fronts entries ++ last)))) entries
            (each-behind IsPassed (codes "unfinished file: ") (parts_of is_line_feed file) (λ line. unfinished_passed (codes "file: " ++ line) (omega arith)))
            (passed_parse plans (named ++ (numbers ++ (entry_fronts entries ++ last))) entries
            (each-behind IsPassed (codes "unfinished plan: ") (parts_of is_line_feed plan) (λ line. unfinished_passed (codes "plan: " ++ line) (omega arith)))
            (passed_parse named (numbers ++ (entry_fronts entries ++ last)) entries (names_passed names)
            (passed_parse numbers (entry_fronts entries ++ last) entries (numbers_passed 0 origins)
            (entries_parse entries (plan_words digits) shaped all (plan_passed digits)))))),
        refl,
      )
    where
      five_parts : (a b c d e f : List (List ℕ)) → (a ++ (b ++ (c ++ (d ++ e)))) ++ f ≡ a ++ (b ++ (c ++ (d ++ (e ++ f))))
      five_parts a b c d e f = simp append_assoc

pub chapters_record_their_events-holds : ChaptersRecordTheirEvents
chapters_record_their_events-holds p file plan names origins entries digits shaped all are =
    let parts = chapter_parts file plan names origins entries digits in
    let same = chapter_same file plan names origins entries digits in
    let free = parts_have_none file plan names origins entries digits are in
    let parse = parts_parse p file plan names origins entries digits shaped all in record {
      lines = subst (λ (ls : List (List ℕ)). LinesParse p ls entries) (sym (ap lines_of same ∙ ap (map without_return) (parts_same parts free))) parse;
      ended = subst (λ (ls : List (List ℕ)). LinesParse p ls entries) (sym (ap ended_lines same ∙ ended_all parts free)) parse;
    }
