-- The lines of events that are written once more, one after another.
use Rattle.std.proofs.Common.{◌≡◌, ℕ, zero, suc, ◌+◌, ◌<◌, Bool, List, [], ◌∷◌, ◌++◌, length, take, drop, get_or, refl, sym, ap, ◌∙◌, arith, append_assoc}
use Rattle.std.proofs.lemmas.List.{drop_more}
use Rattle.cell_tables.specs.declared.entry.Entry.{Entry}
use Rattle.cell_drive.specs.PlainLines.{plain_line, plain_lines}

none_late : (es : List Entry) → plain_lines es [] ≡ []
none_late [] = refl
none_late (e ∷ es) = refl

-- the first ones, and those after them
pub first_plain : (n : ℕ) (es : List Entry) (late : List Bool) → plain_lines (take n es) (take n late) ++ plain_lines (drop n es) (drop n late) ≡ plain_lines es late
first_plain zero es late = refl
first_plain (suc n) [] late = refl
first_plain (suc n) (e ∷ es) [] = none_late (drop n es)
first_plain (suc n) (e ∷ es) (l ∷ late) =
    append_assoc (plain_line e l) (plain_lines (take n es) (take n late)) (plain_lines (drop n es) (drop n late)) ∙ ap (λ text. plain_line e l ++ text) (first_plain n es late)

-- there are none behind the last
pub none_plain : (es : List Entry) (late : List Bool) → plain_lines (drop (length es) es) late ≡ []
none_plain [] late = refl
none_plain (e ∷ es) late = none_plain es late

-- the first line that is left, and those after it
pub next_plain : (es : List Entry) (late : List Bool) (i : ℕ) (d : Entry) (e : Bool) → i < length es → length es ≡ length late
    → plain_line (get_or es i d) (get_or late i e) ++ plain_lines (drop (i + 1) es) (drop (i + 1) late) ≡ plain_lines (drop i es) (drop i late)
next_plain es late i d e below same =
    sym (ap (λ xs. plain_lines xs (drop i late)) (drop_more es i d below) ∙ ap (plain_lines (get_or es i d ∷ drop (i + 1) es)) (drop_more late i e (omega (arith, below, same))))

-- a line written before those behind it
pub plain_before : (es : List Entry) (late : List Bool) (i place : ℕ) (d : Entry) (f : Bool) (text old : List ℕ)
    → text ≡ plain_line (get_or es i d) (get_or late i f) ++ old → old ≡ plain_lines (drop place es) (drop place late) → place ≡ i + 1
    → i < length es → length es ≡ length late → text ≡ plain_lines (drop i es) (drop i late)
plain_before es late i place d f text old is before next below same =
    is ∙ ap (λ l. plain_line (get_or es i d) (get_or late i f) ++ l) (before ∙ ap (λ (n : ℕ). plain_lines (drop n es) (drop n late)) next) ∙ next_plain es late i d f below same
