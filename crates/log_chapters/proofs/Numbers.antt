-- The lines of numbers, one after the other.
use Rattle.std.proofs.Common.{◌≡◌, ℕ, suc, ◌+◌, ◌<◌, List, ◌++◌, length, get_or, drop, sym, ap, ◌∙◌, append_assoc, add-one, drop-cons}
use Rattle.log_chapters.specs.declared.parts.Origin.{Origin}
use Rattle.log_chapters.specs.Chapters.{number_line, number_lines}

-- one more line
pub numbers_more : (text all : List ℕ) (origins : List Origin) (j : ℕ) (d : Origin) → j < length origins → text ++ number_lines j (drop j origins) ≡ all
    → (text ++ number_line j (get_or origins j d)) ++ number_lines (j + 1) (drop (j + 1) origins) ≡ all
numbers_more text all origins j d within so_far =
    let line = number_line j (get_or origins j d) in
    let front : number_lines j (drop j origins) ≡ line ++ number_lines (j + 1) (drop (suc j) origins) = ap (number_lines j) (drop-cons origins j d within) in
    ap (λ n. (text ++ line) ++ number_lines (j + 1) (drop n origins)) (add-one j) ∙ append_assoc text line (number_lines (j + 1) (drop (suc j) origins))
    ∙ ap (λ (l : List ℕ). text ++ l) (sym front) ∙ so_far
