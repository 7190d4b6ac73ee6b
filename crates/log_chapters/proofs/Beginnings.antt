-- Of a chapter that isn't whole the last line of a plan is that of no plan.
use Rattle.std.proofs.Common.{◌≡◌, ◌⊎◌, ℕ, zero, suc, ◌+◌, ◌-◌, ◌<◌, ◌≤◌, nat_eq, Bool, true, false, if◌then◌else◌, List, [], ◌∷◌, ◌++◌, length, length-append, map, take, drop, get_or, codes, decimal, Option, None, Some, inl, inr, refl, sym, ap, ◌∙◌, subst, arith, append_assoc, append-nil}
use Rattle.std.specs.List.{ends_with}
use Rattle.std.proofs.lemmas.Bool.{cases_lt}
use Rattle.std.proofs.lemmas.List.{take-append-drop, take-append-le}
use Rattle.std.proofs.Math.Seq.{take-append-add}
use Rattle.text_lines.specs.Lines.{is_line_feed, parts_of, without_return, ended_lines}
use Rattle.text_lines.specs.Cuts.{HasNone, LacksPrefix}
use Rattle.text_lines.proofs.EndedLines.{ended-none, ended-first}
use Rattle.cell_tables.specs.declared.entry.Entry.{Entry}
use Rattle.cell_tables.specs.declared.entry.Entry.TheVariants.{Report as ReportEntry, Order as OrderEntry}
use Rattle.event_lines.specs.declared.run_digits.RunDigits.{RunDigits}
use Rattle.event_lines.specs.RunDigits.{AreDigits, IsPlanLine, plan_words}
use Rattle.event_lines.proofs.WrittenWords.{absent_from_both}
use Rattle.log_chapters.specs.declared.parts.Origin.{Origin}
use Rattle.log_chapters.specs.Chapters.{no_digits, origin_text, chapter_text}
use Rattle.event_lines.specs.LastPlan.{AreNoPlans, IsLastPlan}
use Rattle.log_chapters.specs.ChapterLaw.{IsWholeOrNone, ChaptersAreWholeOrNone}
use Rattle.log_chapters.proofs.ChapterLines.{text_of, Each, each-append, each-behind, behind, names_behind, number_fronts, entry_front, entry_fronts, middle, chapter_parts, chapter_same, plan_unreturned, no_digits_are, parts_have_none}

-- ---- the whole lines of a beginning

-- all lines are ended
pub ended_all : (lines : List (List ℕ)) → Each (HasNone 10) lines → ended_lines (text_of lines) ≡ map without_return lines
ended_all [] free = refl
ended_all (line ∷ lines) free =
    ended-first (text_of (line ∷ lines)) line (text_of lines) (record { before = free.0; split = append_assoc line (10 ∷ []) (text_of lines) })
    ∙ ap (λ (ls : List (List ℕ)). without_return line ∷ ls) (ended_all lines free.1)

-- those of a beginning with some bytes behind it are the first ones, and not all
abbrev AreFirst : List (List ℕ) → List ℕ → Type 0
AreFirst lines text = (k : ℕ) × (k < length lines) × (ended_lines text ≡ map without_return (take k lines))

free_take : (n : ℕ) (line : List ℕ) → HasNone 10 line → HasNone 10 (take n line)
free_take zero line free = tt
free_take (suc n) [] free = tt
free_take (suc n) (b ∷ line) free = (free.0, free_take n line free.1)

first_ended : (lines : List (List ℕ)) (n : ℕ) (more : List ℕ) → Each (HasNone 10) lines → HasNone 10 more → n < length (text_of lines) → AreFirst lines (take n (text_of lines) ++ more)
first_ended [] n more free none less = absurd (omega (arith, less))
first_ended (line ∷ lines) n more free none less = elim (cases_lt (length line) n) [
  | inr within ↦ (
    0,
    omega arith,
    ended-none (take n (text_of (line ∷ lines)) ++ more)
        (absent_from_both 10 (take n (text_of (line ∷ lines))) more (subst (HasNone 10) (sym (cut ∙ take-append-le n line (10 ∷ text_of lines) within)) (free_take n line free.0)) none),
  )
  | inl past ↦
      let rest : ℕ = n - (length line + 1) in
      let count : n ≡ length line + suc rest = omega (arith, past) in
      let split : take n (text_of (line ∷ lines)) ≡ line ++ 10 ∷ take rest (text_of lines) = cut ∙ ap (λ k. take k (line ++ 10 ∷ text_of lines)) count ∙ take-append-add line (10 ∷ text_of lines) (suc rest) in
      let (k, few, is) = first_ended lines rest more free.1 none (omega (arith, less, count, ap length whole, length-append line (10 ∷ text_of lines))) in (
        suc k,
        omega (arith, few),
        ended-first (take n (text_of (line ∷ lines)) ++ more) line (take rest (text_of lines) ++ more)
            (record { before = free.0; split = ap (λ (t : List ℕ). t ++ more) split ∙ append_assoc line (10 ∷ take rest (text_of lines)) more })
            ∙ ap (λ (ls : List (List ℕ)). without_return line ∷ ls) is,
      )
]
  where
    whole : text_of (line ∷ lines) ≡ line ++ 10 ∷ text_of lines
    whole = append_assoc line (10 ∷ []) (text_of lines)

    cut : take n (text_of (line ∷ lines)) ≡ take n (line ++ 10 ∷ text_of lines)
    cut = ap (take n) whole

-- ---- lines of no plan

-- the line doesn't begin like that of a plan
abbrev IsNoPlan : List ℕ → Type 0
IsNoPlan line = LacksPrefix (codes "unfinished plan ") line

-- a line begins with what is left of it without a carriage return
return_behind : (line : List ℕ) → (rest : List ℕ) × (line ≡ without_return line ++ rest)
return_behind line = go (ends_with nat_eq line (13 ∷ []))
  where
    go : (b : Bool) → (rest : List ℕ) × (line ≡ (if b then take (length line - 1) line else line) ++ rest)
    go true = (drop (length line - 1) line, sym (take-append-drop (length line - 1) line))
    go false = ([], sym (append-nil line))

no_plan_line : (line : List ℕ) → IsNoPlan line → (digits : RunDigits) → IsPlanLine (without_return line) digits → ⊥
no_plan_line line lacks digits is =
    let (rest, split) = return_behind line in
    lacks ((digits.plan ++ (codes " shop " ++ digits.shop)) ++ rest) (split ∙ ap (λ (l : List ℕ). l ++ rest) is.0)

no_plans : (lines : List (List ℕ)) → Each IsNoPlan lines → AreNoPlans (map without_return lines)
no_plans [] lack = tt
no_plans (line ∷ lines) lack = (no_plan_line line lack.0, no_plans lines lack.1)

each_take : (k : ℕ) (lines : List (List ℕ)) → Each IsNoPlan lines → Each IsNoPlan (take k lines)
each_take zero lines lack = tt
each_take (suc k) [] lack = tt
each_take (suc k) (line ∷ lines) lack = (lack.0, each_take k lines lack.1)

-- a byte of the prefix is another
other_byte : (k a b : ℕ) (one other : List ℕ) → get_or one k 0 ≡ a → get_or other k 0 ≡ b → (a ≡ b → ⊥) → one ≡ other → ⊥
other_byte k a b one other first second apart same = apart (sym first ∙ ap (λ (l : List ℕ). get_or l k 0) same ∙ second)

file_other : (line : List ℕ) → IsNoPlan (codes "unfinished file: " ++ line)
file_other line rest same = other_byte 11 102 112 (codes "unfinished file: " ++ line) (codes "unfinished plan " ++ rest) refl refl (λ is. omega (arith, is)) same

plan_other : (line : List ℕ) → IsNoPlan (codes "unfinished plan: " ++ line)
plan_other line rest same = other_byte 15 58 32 (codes "unfinished plan: " ++ line) (codes "unfinished plan " ++ rest) refl refl (λ is. omega (arith, is)) same

name_other : (line : List ℕ) → IsNoPlan (codes "unfinished names: " ++ line)
name_other line rest same = other_byte 11 110 112 (codes "unfinished names: " ++ line) (codes "unfinished plan " ++ rest) refl refl (λ is. omega (arith, is)) same

names_other : (names : Option (List ℕ)) → Each IsNoPlan (names_behind names)
names_other None = tt
names_other (Some names) = each-behind IsNoPlan (codes "unfinished names: ") (parts_of is_line_feed names) name_other

numbers_other : (job : ℕ) (origins : List Origin) → Each IsNoPlan (number_fronts job origins)
numbers_other job [] = tt
numbers_other job (origin ∷ origins) = (
  λ rest same. other_byte 11 110 112 (codes "unfinished numbers: job " ++ (decimal job ++ origin_text origin)) (codes "unfinished plan " ++ rest) refl refl (λ is. omega (arith, is)) same,
  numbers_other (job + 1) origins,
)

entry_other : (entry : Entry) → IsNoPlan (entry_front entry)
entry_other (ReportEntry report) rest same = other_byte 0 114 117 (entry_front (ReportEntry report)) (codes "unfinished plan " ++ rest) refl refl (λ is. omega (arith, is)) same
entry_other (OrderEntry order) rest same = other_byte 0 111 117 (entry_front (OrderEntry order)) (codes "unfinished plan " ++ rest) refl refl (λ is. omega (arith, is)) same

entries_other : (entries : List Entry) → Each IsNoPlan (entry_fronts entries)
entries_other [] = tt
entries_other (entry ∷ entries) = (entry_other entry, entries_other entries)

middle_other : (file plan : List ℕ) (names : Option (List ℕ)) (origins : List Origin) (entries : List Entry) → Each IsNoPlan (middle file plan names origins entries)
middle_other file plan names origins entries =
    let files = behind (codes "unfinished file: ") file in
    let plans = behind (codes "unfinished plan: ") plan in
    let named = names_behind names in
    each-append IsNoPlan files (plans ++ (named ++ (number_fronts 0 origins ++ entry_fronts entries))) (each-behind IsNoPlan (codes "unfinished file: ") (parts_of is_line_feed file) file_other)
    (each-append IsNoPlan plans (named ++ (number_fronts 0 origins ++ entry_fronts entries)) (each-behind IsNoPlan (codes "unfinished plan: ") (parts_of is_line_feed plan) plan_other)
    (each-append IsNoPlan named (number_fronts 0 origins ++ entry_fronts entries) (names_other names)
    (each-append IsNoPlan (number_fronts 0 origins) (entry_fronts entries) (numbers_other 0 origins) (entries_other entries))))

-- ---- the last line of a plan

-- that of the digits is read as it is
plan_line_is : (digits : RunDigits) → AreDigits digits → IsPlanLine (without_return (plan_words digits)) digits
plan_line_is digits are = (plan_unreturned digits are, are)

-- it is the last one behind any lines
last_behind : (lines : List (List ℕ)) (last : List ℕ) (digits : RunDigits) → IsPlanLine (without_return last) digits → IsLastPlan (map without_return (lines ++ last ∷ [])) digits
last_behind [] last digits is = inl (is, tt)
last_behind (line ∷ lines) last digits is = inr (last_behind lines last digits is)

-- lines of a chapter that aren't all of it are none, or have that of no plan as the last one
first_lines : (before : List (List ℕ)) (last : List ℕ) (k : ℕ) → Each IsNoPlan before → k < length (plan_words no_digits ∷ (before ++ last ∷ []))
    → (let found = map without_return (take k (plan_words no_digits ∷ (before ++ last ∷ []))) in (found ≡ []) ⊎ IsLastPlan found no_digits)
first_lines before last zero lack few = inl refl
first_lines before last (suc k) lack few =
    let within : k ≤ length before = omega (arith, few, length-append before (last ∷ [])) in
    inr (inl (plan_line_is no_digits no_digits_are, subst (λ (ls : List (List ℕ)). AreNoPlans (map without_return ls)) (sym (take-append-le k before (last ∷ []) within)) (no_plans (take k before) (each_take k before lack))))

module _ (file plan : List ℕ) (names : Option (List ℕ)) (origins : List Origin) (entries : List Entry) (digits : RunDigits) (are : AreDigits digits) where
  abbrev log : List ℕ
  log = chapter_text file plan names origins entries digits

  abbrev lines : List (List ℕ)
  lines = chapter_parts file plan names origins entries digits

  same : log ≡ text_of lines
  same = chapter_same file plan names origins entries digits

  free : Each (HasNone 10) lines
  free = parts_have_none file plan names origins entries digits are

  abbrev IsOfNone : List (List ℕ) → Type 0
  IsOfNone found = (found ≡ []) ⊎ IsLastPlan found no_digits

  of_first : (text : List ℕ) → AreFirst lines text → IsOfNone (ended_lines text)
  of_first text (k, few, is) = subst IsOfNone (sym is) (first_lines (middle file plan names origins entries) (plan_words digits) k (middle_other file plan names origins entries) few)

  beginning_none : (count : ℕ) (more : List ℕ) → count < length log → HasNone 10 more → IsOfNone (ended_lines (take count log ++ more))
  beginning_none count more less none =
      subst (λ (t : List ℕ). IsOfNone (ended_lines (take count t ++ more))) (sym same)
      (of_first (take count (text_of lines) ++ more) (first_ended lines count more free none (omega (arith, less, ap length same))))

  pub whole_or_none : IsWholeOrNone digits log
  whole_or_none = record {
    whole = subst (λ (ls : List (List ℕ)). IsLastPlan ls digits) (sym (ap ended_lines same ∙ ended_all lines free)) (inr (last_behind (middle file plan names origins entries) (plan_words digits) digits (plan_line_is digits are)));
    beginning = beginning_none;
  }

pub chapters_are_whole_or_none-holds : ChaptersAreWholeOrNone
chapters_are_whole_or_none-holds = whole_or_none
