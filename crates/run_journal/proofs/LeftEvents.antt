-- The events that a log records which a crash has left.
use Rattle.std.proofs.Common.{◌≡◌, ℕ, ◌-◌, true, false, nat_eq, List, [], ◌∷◌, ◌++◌, length, take, drop, codes, inl, inr, refl, sym, ap, ◌∙◌, subst, append_assoc, append-nil, take-append-drop}
use Rattle.std.proofs.lemmas.Bool.{cases_Bool}
use Rattle.std.specs.List.{ends_with}
use Rattle.shop_base.specs.{Plan.PlannedShop, Report.at}
use Rattle.text_lines.{specs.Lines.{without_return, ended_lines}, proofs.EndedLines.ended-none}
use Rattle.cell_tables.specs.declared.entry.Entry.{Entry, TheVariants.{Report as ReportEntry, Order as OrderEntry}}
use Rattle.event_lines.specs.{Words.moment, EventLines.{end_words, move_numbers, IsEntryLine}}
use Rattle.event_lines.specs.LogLines.{LineParses, LinesParse}
use Rattle.event_lines.proofs.{WordByWord.text_before, Readings.{one_reading, parse-parts}}
use Rattle.run_journal.specs.{Selecting.more, LoggedLines.{is_logged, logged}, LeftLogs.ACrashLeavesALog}
use Rattle.run_journal.proofs.ByLines.{ByLines, last, fed, by_lines, ended_first, ended_last, ended_logged, ended_front, ended_zeros, ended_both}
use Rattle.run_journal.proofs.CrashLines.{left_front}

-- ---- what a log doesn't get records nothing

pub without_return-front : (front : List ℕ) → (end : List ℕ) × (front ≡ without_return front ++ end)
without_return-front front = elim (cases_Bool (ends_with nat_eq front (13 ∷ []))) [
  | inl ends ↦ (drop (length front - 1) front, rw ends (sym (take-append-drop (length front - 1) front)))
  | inr not ↦ ([], rw not (sym (append-nil front)))
]

event_logged : (front more : List ℕ) (entry : Entry) → IsEntryLine (without_return front) entry → is_logged (front ++ more) ≡ true
event_logged front more (ReportEntry report) found =
    let first = text_before (without_return front) (codes "report") (moment (at report)) (end_words report) found in
    let end = without_return-front front in
    ap (λ l. is_logged (l ++ more)) (end.1 ∙ ap (λ l. l ++ end.0) first.1)
event_logged front more (OrderEntry order) found =
    let first = text_before (without_return front) (codes "order") (moment order.at) (move_numbers order) found in
    let end = without_return-front front in
    ap (λ l. is_logged (l ++ more)) (end.1 ∙ ap (λ l. l ++ end.0) first.1)

none_parsed : (p : PlannedShop) (front more : List ℕ) (own : List Entry) → is_logged (front ++ more) ≡ false → LineParses p (without_return front) own → own ≡ []
none_parsed p front more [] not parses = refl
none_parsed p front more (entry ∷ []) not parses = let is = event_logged front more entry parses.1 in absurd (cc (sym is ∙ not))
none_parsed p front more (entry ∷ next ∷ own) not parses = absurd parses

-- what a log gets of a text records what the text records
module _ (p : PlannedShop) where
  logged_parses : (text : List ℕ) (recorded : List Entry) → ByLines text → LinesParse p (ended_lines text) recorded → LinesParse p (ended_lines (logged text)) recorded
  logged_parses _ recorded (last end none) parses = subst (λ (ls : List (List ℕ)). LinesParse p ls recorded) (ended-none end none ∙ sym (ended_last end none)) parses
  logged_parses _ recorded (fed front rest none more) parses =
      let line : LinesParse p (without_return front ∷ ended_lines rest) recorded = subst (λ (ls : List (List ℕ)). LinesParse p ls recorded) (ended_first front rest none) parses in
      let others = logged_parses rest line.1 more line.3 in
      elim (ended_logged front rest none) [
        | inl (got, is) ↦ subst (λ (ls : List (List ℕ)). LinesParse p ls recorded) (sym is) (line.0, line.1, line.2, others, line.4)
        | inr (not, is) ↦
            let same : recorded ≡ line.1 = line.4 ∙ ap (λ (own : List Entry). own ++ line.1) (none_parsed p front (10 ∷ []) line.0 not line.2) in
            subst (λ (ls : List (List ℕ)). LinesParse p ls recorded) (sym is) (subst (λ (es : List Entry). LinesParse p (ended_lines (logged rest)) es) (sym same) others)
      ]

  pub parse-both : (before after : List (List ℕ)) (a b : List Entry) → LinesParse p before a → LinesParse p after b → LinesParse p (before ++ after) (a ++ b)
  parse-both [] after a b first second = subst (λ t. LinesParse p after (t ++ b)) (sym first) second
  parse-both (line ∷ before) after a b first second = (first.0, first.1 ++ b, first.2, parse-both before after first.1 b first.3 second, ap (λ es. es ++ b) first.4 ∙ append_assoc first.0 first.1 b)

pub left_log : ACrashLeavesALog
left_log p base shown pending left recorded came whole is parses_base parses_came =
    let (got, lost, cut, all) = left_front base shown pending left is in
    let given = logged shown ++ got in
    let later = ended_front given lost (by_lines given) in
    let more = ended_front (logged shown) got (by_lines (logged shown)) in
    let parses_all = logged_parses p (shown ++ pending) came (by_lines (shown ++ pending)) parses_came in
    let parts = parse-parts p (ended_lines given) later.0 came (subst (λ (ls : List (List ℕ)). LinesParse p ls came) (ap ended_lines (sym all) ∙ later.1) parses_all) in
    let deeper = parse-parts p (ended_lines (logged shown)) more.0 parts.0 (subst (λ (ls : List (List ℕ)). LinesParse p ls parts.0) more.1 parts.2) in
    let front = take is.count (base ++ logged (shown ++ pending)) in
    let lines_left : ended_lines left ≡ ended_lines base ++ ended_lines given = ap ended_lines is.is ∙ ended_zeros front is.unwritten (by_lines front) ∙ ap ended_lines cut ∙ ended_both base given whole in
    record {
      kept = parts.0;
      lost = parts.1;
      came_so = parts.4;
      parses = subst (λ (ls : List (List ℕ)). LinesParse p ls (recorded ++ parts.0)) (sym lines_left) (parse-both p (ended_lines base) (ended_lines given) recorded parts.0 parses_base parts.2);
      has_shown = λ entries parses_shown. (
        deeper.1,
        deeper.4 ∙ ap (λ (es : List Entry). es ++ deeper.1) (one_reading p (ended_lines (logged shown)) deeper.0 entries deeper.2 (logged_parses p shown entries (by_lines shown) parses_shown)),
      );
    }
