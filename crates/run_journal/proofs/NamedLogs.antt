-- A log to which the line of a plan is added.
use Rattle.std.proofs.lemmas.Bool.{and_parts, and_from, and_left, or_from, cases_lt, lt-leb, lt-ltb}
use Rattle.std.proofs.{Math.Seq.{drop-append_seam, take-append-add}, lemmas.List.{take-append-le, take_all}}
use Rattle.std.proofs.Common.{◌≡◌, ◌⊎◌, ℕ, ◌+◌, ◌-◌, nat_lt, Bool, true, false, List, [], ◌∷◌, ◌++◌, length, take, drop, codes, Option, None, Some, IfSome, inl, inr, refl, sym, ap, ◌∙◌, subst, arith, append_assoc, append-nil, length-append}
use Rattle.std.specs.List.{list_all}
use Rattle.shop_base.specs.Plan.{PlannedShop}
use Rattle.text_lines.{specs.{Cuts.HasNone, Lines.{lines_of, ended_lines}}, proofs.EndedLines.ended-part}
use Rattle.cell_tables.specs.declared.entry.Entry.{Entry}
use Rattle.event_lines.specs.{declared.run_digits.RunDigits.RunDigits, LogLines.LinesParse, ReadBack.IsSpaceless}
use Rattle.event_lines.specs.Words.{Word, Text, words_before, line_of}
use Rattle.event_lines.specs.RunDigits.{AreDigits, is_small_hex, plan_words, plan_line}
use Rattle.event_lines.proofs.WrittenWords.{absent_from_words, AreSpaceless, before-append, line_first}
use Rattle.run_journal.specs.{Folders.{Folder, NamedLog, with_log, with_made}, WholeLines.{whole_lines, torn_end}}
use Rattle.event_lines.specs.LastPlan.{IsLastPlan}
use Rattle.run_journal.specs.{LogRuns.{IsNamedFor, IsNamedOrNot}, LogFiles.{zeros, IsLeft}, TornEnds.is_torn}
use Rattle.run_journal.proofs.Whole.{cut_keeps, take_whole, whole-behind, whole-push_feed, whole-zeros}
use Rattle.run_journal.proofs.{LeftEvents.parse-both, Formed.{none_written, torn_lines, torn-behind}}
use Rattle.run_journal.proofs.{TornEnds.plan_begins, ByLines.{lines_both, ended_both, none_whole}}

-- whole lines are whole
pub whole_again : (text : List ℕ) → whole_lines (whole_lines text) ≡ whole_lines text
whole_again text = ap whole_lines (sym (take_whole text)) ∙ cut_keeps text (length (whole_lines text)) (omega arith)

-- and have no end that is torn
pub no_end : (file : List ℕ) → whole_lines file ≡ file → torn_end file ≡ []
no_end file whole = ap (λ (l : List ℕ). drop (length l) file) whole ∙ ap (λ (l : List ℕ). drop (length file) l) (sym (append-nil file)) ∙ drop-append_seam file []

-- ---- the line of a plan

hex_spaced : (b : ℕ) → is_small_hex b ≡ true → nat_lt 32 b ≡ true
hex_spaced b is = elim (cases_lt 32 b) [
  | inl above ↦ lt-ltb 32 b above
  | inr within ↦
      let no : is_small_hex b ≡ false = or_from _ _ (and_left _ _ (lt-leb 48 b (omega (arith, within)))) (and_left _ _ (lt-leb 97 b (omega (arith, within)))) in
      absurd (cc (sym no ∙ is))
]

hex_spaceless : (digits : List ℕ) → list_all is_small_hex digits ≡ true → IsSpaceless digits
hex_spaceless [] all = refl
hex_spaceless (d ∷ digits) all =
    let (first, others) = and_parts (is_small_hex d) (list_all is_small_hex digits) all in
    and_from (nat_lt 32 d) (list_all (λ b. nat_lt 32 b) digits) (hex_spaced d first) (hex_spaceless digits others)

abbrev listed : RunDigits → List Word
listed digits = Text (codes "unfinished") ∷ Text (codes "plan") ∷ Text digits.plan ∷ Text (codes "shop") ∷ Text digits.shop ∷ []

listed_spaceless : (digits : RunDigits) → AreDigits digits → AreSpaceless (listed digits)
listed_spaceless digits are = (refl, (refl, (hex_spaceless digits.plan are.0.1, (refl, (hex_spaceless digits.shop are.1.1, tt)))))

listed_are : (digits : RunDigits) → plan_words digits ≡ words_before (listed digits) []
listed_are digits = ap (λ (l : List ℕ). codes "unfinished plan " ++ (digits.plan ++ (codes " shop " ++ l))) (sym (append-nil digits.shop))

pub plan_no_feed : (digits : RunDigits) → AreDigits digits → HasNone 10 (plan_words digits)
plan_no_feed digits are = subst (HasNone 10) (sym (listed_are digits)) (absent_from_words 10 (listed digits) (omega arith) (listed_spaceless digits are))

pub whole_plan : (digits : RunDigits) → whole_lines (plan_line digits) ≡ plan_line digits
whole_plan digits = whole-push_feed (plan_words digits)

-- ---- what a crash leaves while it is added

-- the first bytes of one line, and zeros, are no whole line, or that one
front_of : (body : List ℕ) (n unwritten : ℕ) → HasNone 10 body → (whole_lines (take n (body ++ 10 ∷ []) ++ zeros unwritten) ≡ []) ⊎ (whole_lines (take n (body ++ 10 ∷ []) ++ zeros unwritten) ≡ body ++ 10 ∷ [])
front_of body n unwritten none = elim (cases_lt (length body) n) [
  | inl past ↦
      let all : take n (body ++ 10 ∷ []) ≡ body ++ 10 ∷ [] = take_all n (body ++ 10 ∷ []) (omega (arith, past, length-append body (10 ∷ []))) in
      inr (whole-zeros (take n (body ++ 10 ∷ [])) unwritten ∙ ap whole_lines all ∙ whole-push_feed body)
  | inr within ↦
      let cut : take n (body ++ 10 ∷ []) ≡ take n body = take-append-le n body (10 ∷ []) within in
      inl (whole-zeros (take n (body ++ 10 ∷ [])) unwritten ∙ ap whole_lines cut ∙ none_whole (take n body) (none_written n body none))
]

module _ (digits : RunDigits) (are : AreDigits digits) (file left : List ℕ) (whole : whole_lines file ≡ file) (is : IsLeft (length file) (file ++ plan_line digits) left) where
  abbrev more : ℕ
  more = is.count - length file

  abbrev rest : List ℕ
  rest = take more (plan_line digits) ++ zeros is.unwritten

  left_is : left ≡ file ++ rest
  left_is =
      let count : is.count ≡ length file + more = omega (arith, is.at_least) in
      is.is ∙ ap (λ (l : List ℕ). l ++ zeros is.unwritten) (ap (λ (k : ℕ). take k (file ++ plan_line digits)) count ∙ take-append-add file (plan_line digits) more)
      ∙ append_assoc file (take more (plan_line digits)) (zeros is.unwritten)

  lines_are : whole_lines left ≡ file ++ whole_lines rest
  lines_are = ap whole_lines left_is ∙ whole-behind file rest whole

  pub named_crash : (IsLastPlan (lines_of file) digits → ⊥) → IsNamedOrNot digits file (whole_lines left)
  named_crash none = elim (front_of (plan_words digits) more is.unwritten (plan_no_feed digits are)) [
    | inl not ↦ inl (lines_are ∙ ap (λ (l : List ℕ). file ++ l) not ∙ append-nil file)
    | inr all ↦ inr (inr (none, lines_are ∙ ap (λ (l : List ℕ). file ++ l) all))
  ]

  pub torn_crash : is_torn (torn_end left) ≡ true
  torn_crash =
      let line : plan_line digits ≡ (plan_words digits ++ 10 ∷ []) ++ [] = sym (append-nil (plan_line digits)) in
      ap is_torn (ap torn_end left_is ∙ torn-behind file rest whole ∙ ap (λ (l : List ℕ). torn_end (take more l ++ zeros is.unwritten)) line)
      ∙ torn_lines (plan_words digits ∷ []) more is.unwritten (plan_begins digits are, plan_no_feed digits are, tt)

-- ---- a log that is named

pub named_whole : (digits : RunDigits) (lines base : List ℕ) → whole_lines lines ≡ lines → IsNamedFor digits lines base → whole_lines base ≡ base
named_whole digits lines base whole (inl is) = ap whole_lines is.1 ∙ whole ∙ sym is.1
named_whole digits lines base whole (inr is) = ap whole_lines is.1 ∙ whole-behind lines (plan_line digits) whole ∙ ap (λ (l : List ℕ). lines ++ l) (whole_plan digits) ∙ sym is.1

-- ---- what the line of a plan records

plan_lines : (digits : RunDigits) → AreDigits digits → lines_of (plan_line digits) ≡ plan_words digits ∷ []
plan_lines digits are =
    let written : plan_line digits ≡ line_of (listed digits) ++ [] = ap (λ (l : List ℕ). l ++ 10 ∷ []) (listed_are digits) ∙ sym (before-append (listed digits) [] (10 ∷ [])) ∙ sym (append-nil (line_of (listed digits))) in
    ap lines_of written ∙ line_first (listed digits) [] (listed_spaceless digits are) ∙ ap (λ (l : List ℕ). l ∷ []) (sym (listed_are digits))

plan_ended : (digits : RunDigits) → AreDigits digits → ended_lines (plan_line digits) ≡ plan_words digits ∷ []
plan_ended digits are = sym (ended-part (plan_line digits) (plan_words digits) [] refl tt) ∙ plan_lines digits are

pub plan_parses : (p : PlannedShop) (digits : RunDigits) → AreDigits digits → LinesParse p (ended_lines (plan_line digits)) []
plan_parses p digits are = subst (λ (lines : List (List ℕ)). LinesParse p lines []) (sym (plan_ended digits are)) ([], [], refl, refl, refl)

-- the lines with that of a plan record what they recorded
pub named_parses : (p : PlannedShop) (digits : RunDigits) (lines base : List ℕ) (recorded : List Entry) → AreDigits digits → whole_lines lines ≡ lines → IsNamedFor digits lines base → LinesParse p (ended_lines lines) recorded
    → LinesParse p (ended_lines base) recorded
named_parses p digits lines base recorded are whole (inl is) parses = subst (λ (l : List ℕ). LinesParse p (ended_lines l) recorded) (sym is.1) parses
named_parses p digits lines base recorded are whole (inr is) parses =
    let ended : ended_lines base ≡ ended_lines lines ++ ended_lines (plan_line digits) = ap ended_lines is.1 ∙ ended_both lines (plan_line digits) whole in
    subst (λ (ls : List (List ℕ)). LinesParse p ls recorded) (sym ended)
    (subst (λ (es : List Entry). LinesParse p (ended_lines lines ++ ended_lines (plan_line digits)) es) (append-nil recorded) (parse-both p (ended_lines lines) (ended_lines (plan_line digits)) recorded [] parses (plan_parses p digits are)))

last_behind : (lines others : List (List ℕ)) (digits : RunDigits) → IsLastPlan others digits → IsLastPlan (lines ++ others) digits
last_behind [] others digits is = is
last_behind (line ∷ lines) others digits is = inr (last_behind lines others digits is)

-- they name it last
pub named_last : (digits : RunDigits) (lines base : List ℕ) → AreDigits digits → whole_lines lines ≡ lines → IsNamedFor digits lines base → IsLastPlan (lines_of base) digits
named_last digits lines base are whole (inl is) = subst (λ (l : List ℕ). IsLastPlan (lines_of l) digits) (sym is.1) is.0
named_last digits lines base are whole (inr is) =
    subst (λ (ls : List (List ℕ)). IsLastPlan ls digits) (sym (ap lines_of is.1 ∙ lines_both lines (plan_line digits) whole))
    (last_behind (lines_of lines) (lines_of (plan_line digits)) digits (subst (λ (ls : List (List ℕ)). IsLastPlan ls digits) (sym (plan_lines digits are)) (inl ((refl, are), tt))))

-- ---- folders

pub logs_before : (there : Bool) (path : List ℕ) (folder : Folder) (P : Type 0) → IfSome (with_log there path folder).logs (λ _. P) → IfSome folder.logs (λ _. P)
logs_before true path folder P is = is
logs_before false path folder P is = mapped folder.logs is
  where
    mapped : (logs : Option (List NamedLog)) → IfSome (with_made path (record folder { logs = logs })).logs (λ _. P) → IfSome logs (λ _. P)
    mapped None is = is
    mapped (Some logs) is = is
