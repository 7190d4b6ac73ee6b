-- The texts of a chapter are taken from it again by the marks of their lines.
use Rattle.std.proofs.Common.{◌≡◌, ℕ, ◌+◌, nat_eq, Bool, false, if◌then◌else◌, List, [], ◌∷◌, ◌++◌, length, map, drop, codes, decimal, Option, None, Some, inl, inr, refl, sym, ap, ap₂, ◌∙◌, append_assoc, append-nil}
use Rattle.std.specs.List.{flat_map, starts_with}
use Rattle.std.proofs.lemmas.List.Concat.{flat_map-append}
use Rattle.text_lines.specs.Lines.{is_line_feed, parts_of}
use Rattle.cell_tables.specs.declared.entry.Entry.{Entry}
use Rattle.cell_tables.specs.declared.entry.Entry.TheVariants.{Report as ReportEntry, Order as OrderEntry}
use Rattle.event_lines.specs.declared.run_digits.RunDigits.{RunDigits}
use Rattle.event_lines.specs.RunDigits.{AreDigits, plan_words}
use Rattle.log_chapters.specs.declared.parts.Origin.{Origin}
use Rattle.log_chapters.specs.Chapters.{no_digits, origin_text, chapter_text}
use Rattle.log_chapters.specs.ChapterLaw.{marked_line, lines_marked, AreWholeLines, names_text, number_texts, AreTextsOfLines, HoldsTexts, ChaptersHoldTheirTexts}
use Rattle.log_chapters.proofs.ChapterLines.{text_of, Each, each-behind, parts_same, text_same, behind, names_behind, number_fronts, entry_front, entry_fronts, middle, chapter_parts, chapter_same, parts_have_none}

-- the line doesn't begin with the mark
abbrev IsOther : List ℕ → List ℕ → Type 0
IsOther mark line = starts_with nat_eq line mark ≡ false

-- what is taken by a mark
abbrev marked : List ℕ → List (List ℕ) → List ℕ
marked mark lines = flat_map (marked_line mark) lines

taken_none : (mark : List ℕ) (lines : List (List ℕ)) → Each (IsOther mark) lines → marked mark lines ≡ []
taken_none mark [] others = refl
taken_none mark (line ∷ lines) others =
    ap (λ (b : Bool). (if b then drop (length mark) line ++ 10 ∷ [] else []) ++ marked mark lines) others.0 ∙ taken_none mark lines others.1

-- of lines that are marked so each is taken, with a line feed
taken_all : (mark : List ℕ) (lines : List (List ℕ)) → ((line : List ℕ) → marked_line mark (mark ++ line) ≡ line ++ 10 ∷ []) → marked mark (map (λ line. mark ++ line) lines) ≡ text_of lines
taken_all mark [] each = refl
taken_all mark (line ∷ lines) each = ap₂ {C = List ℕ} (λ (x xs : List ℕ). x ++ xs) (each line) (taken_all mark lines each)

-- so a text of whole lines is
taken_whole : (mark text : List ℕ) → ((line : List ℕ) → marked_line mark (mark ++ line) ≡ line ++ 10 ∷ []) → AreWholeLines text → marked mark (behind mark text) ≡ text
taken_whole mark text each (inl none) = taken_all mark (parts_of is_line_feed text) each ∙ ap (λ (t : List ℕ). text_of (parts_of is_line_feed t)) none ∙ sym none
taken_whole mark text each (inr (front, is)) =
    taken_all mark (parts_of is_line_feed text) each ∙ ap (λ (t : List ℕ). text_of (parts_of is_line_feed t)) is ∙ text_same front ∙ sym is

taken_names : (names : Option (List ℕ)) → AreWholeLines (names_text names) → marked (codes "unfinished names: ") (names_behind names) ≡ names_text names
taken_names None whole = refl
taken_names (Some names) whole = taken_whole (codes "unfinished names: ") names (λ line. refl) whole

taken_numbers : (job : ℕ) (origins : List Origin) → marked (codes "unfinished numbers: ") (number_fronts job origins) ≡ number_texts job origins
taken_numbers job [] = refl
taken_numbers job (origin ∷ origins) =
    ap₂ {C = List ℕ} (λ (x xs : List ℕ). (codes "job " ++ x) ++ xs) (append_assoc (decimal job) (origin_text origin) (10 ∷ [])) (taken_numbers (job + 1) origins)

-- ---- lines with another mark

other_names : (mark : List ℕ) (names : Option (List ℕ)) → ((line : List ℕ) → IsOther mark (codes "unfinished names: " ++ line)) → Each (IsOther mark) (names_behind names)
other_names mark None all = tt
other_names mark (Some names) all = each-behind (IsOther mark) (codes "unfinished names: ") (parts_of is_line_feed names) all

other_numbers : (mark : List ℕ) (job : ℕ) (origins : List Origin) → ((line : List ℕ) → IsOther mark (codes "unfinished numbers: job " ++ line)) → Each (IsOther mark) (number_fronts job origins)
other_numbers mark job [] all = tt
other_numbers mark job (origin ∷ origins) all = (all (decimal job ++ origin_text origin), other_numbers mark (job + 1) origins all)

other_entry : (mark : List ℕ) (entry : Entry) → IsOther (117 ∷ mark) (entry_front entry)
other_entry mark (ReportEntry report) = refl
other_entry mark (OrderEntry order) = refl

other_entries : (mark : List ℕ) (entries : List Entry) → Each (IsOther (117 ∷ mark)) (entry_fronts entries)
other_entries mark [] = tt
other_entries mark (entry ∷ entries) = (other_entry mark entry, other_entries mark entries)

module _ (file plan : List ℕ) (names : Option (List ℕ)) (origins : List Origin) (entries : List Entry) (digits : RunDigits) (whole : AreTextsOfLines file plan names) (are : AreDigits digits) where
  abbrev file_part : List (List ℕ)
  file_part = behind (codes "unfinished file: ") file

  abbrev plan_part : List (List ℕ)
  plan_part = behind (codes "unfinished plan: ") plan

  -- what a mark takes from the chapter, by its parts
  by_parts : (mark f p n m : List ℕ) → IsOther (117 ∷ mark) (plan_words no_digits) → IsOther (117 ∷ mark) (plan_words digits) → marked (117 ∷ mark) file_part ≡ f → marked (117 ∷ mark) plan_part ≡ p
      → marked (117 ∷ mark) (names_behind names) ≡ n → marked (117 ∷ mark) (number_fronts 0 origins) ≡ m → lines_marked (117 ∷ mark) (chapter_text file plan names origins entries digits) ≡ f ++ (p ++ (n ++ m))
  by_parts tail f p n m first last filed planned named numbered =
      let mark : List ℕ = 117 ∷ tail in
      let numbers = number_fronts 0 origins in
      let events = entry_fronts entries in
      let ends : marked mark (plan_words digits ∷ []) ≡ [] = taken_none mark (plan_words digits ∷ []) (last, tt) in
      let both : (xs ys : List (List ℕ)) → marked mark (xs ++ ys) ≡ marked mark xs ++ marked mark ys = flat_map-append (marked_line mark) in
      ap (λ (t : List ℕ). marked mark (parts_of is_line_feed t)) (chapter_same file plan names origins entries digits)
      ∙ ap (marked mark) (parts_same (chapter_parts file plan names origins entries digits) (parts_have_none file plan names origins entries digits are))
      ∙ ap (λ (b : Bool). (if b then drop (length mark) (plan_words no_digits) ++ 10 ∷ [] else []) ++ marked mark (middle file plan names origins entries ++ plan_words digits ∷ [])) first
      ∙ both (middle file plan names origins entries) (plan_words digits ∷ [])
      ∙ ap (λ (t : List ℕ). marked mark (middle file plan names origins entries) ++ t) ends ∙ append-nil (marked mark (middle file plan names origins entries))
      ∙ both file_part (plan_part ++ (names_behind names ++ (numbers ++ events)))
      ∙ ap₂ {C = List ℕ} (λ (x y : List ℕ). x ++ y) filed
      (both plan_part (names_behind names ++ (numbers ++ events))
      ∙ ap₂ {C = List ℕ} (λ (x y : List ℕ). x ++ y) planned
      (both (names_behind names) (numbers ++ events)
      ∙ ap₂ {C = List ℕ} (λ (x y : List ℕ). x ++ y) named
      (both numbers events ∙ ap₂ {C = List ℕ} (λ (x y : List ℕ). x ++ y) numbered (taken_none mark events (other_entries tail entries)) ∙ append-nil m)))

  no_file : (mark : List ℕ) → ((line : List ℕ) → IsOther mark (codes "unfinished file: " ++ line)) → marked mark file_part ≡ []
  no_file mark all = taken_none mark file_part (each-behind (IsOther mark) (codes "unfinished file: ") (parts_of is_line_feed file) all)

  no_plan : (mark : List ℕ) → ((line : List ℕ) → IsOther mark (codes "unfinished plan: " ++ line)) → marked mark plan_part ≡ []
  no_plan mark all = taken_none mark plan_part (each-behind (IsOther mark) (codes "unfinished plan: ") (parts_of is_line_feed plan) all)

  no_names : (mark : List ℕ) → ((line : List ℕ) → IsOther mark (codes "unfinished names: " ++ line)) → marked mark (names_behind names) ≡ []
  no_names mark all = taken_none mark (names_behind names) (other_names mark names all)

  no_numbers : (mark : List ℕ) → ((line : List ℕ) → IsOther mark (codes "unfinished numbers: job " ++ line)) → marked mark (number_fronts 0 origins) ≡ []
  no_numbers mark all = taken_none mark (number_fronts 0 origins) (other_numbers mark 0 origins all)

  pub texts_taken : HoldsTexts file plan names origins (chapter_text file plan names origins entries digits)
  texts_taken = record {
    file_again =
        let mark = codes "unfinished file: " in
        by_parts (drop 1 mark) file [] [] [] refl refl (taken_whole mark file (λ line. refl) whole.file_whole) (no_plan mark (λ line. refl)) (no_names mark (λ line. refl)) (no_numbers mark (λ line. refl))
        ∙ append-nil file;
    plan_again =
        let mark = codes "unfinished plan: " in
        by_parts (drop 1 mark) [] plan [] [] refl refl (no_file mark (λ line. refl)) (taken_whole mark plan (λ line. refl) whole.plan_whole) (no_names mark (λ line. refl)) (no_numbers mark (λ line. refl))
        ∙ append-nil plan;
    names_again =
        let mark = codes "unfinished names: " in
        by_parts (drop 1 mark) [] [] (names_text names) [] refl refl (no_file mark (λ line. refl)) (no_plan mark (λ line. refl)) (taken_names names whole.names_whole) (no_numbers mark (λ line. refl))
        ∙ append-nil (names_text names);
    numbers_again =
        let mark = codes "unfinished numbers: " in
        by_parts (drop 1 mark) [] [] [] (number_texts 0 origins) refl refl (no_file mark (λ line. refl)) (no_plan mark (λ line. refl)) (no_names mark (λ line. refl)) (taken_numbers 0 origins);
  }

pub chapters_hold_their_texts-holds : ChaptersHoldTheirTexts
chapters_hold_their_texts-holds = texts_taken
