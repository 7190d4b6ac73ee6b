-- The lines of answers that are no events.
use Rattle.std.specs.Prelude.{ℕ, ◌||◌, nat_eq, Bool, true, List, [], ◌∷◌, codes}
use Rattle.std.specs.List.{starts_with}
use Rattle.event_lines.specs.Words.{Word, Text, Number, moment, line_of}

-- `late T`: the report of that moment was late
abbrev pub late_words : ℕ → List Word
late_words at = Text (codes "late") ∷ moment at ∷ []

-- `refused LINE NAME`
abbrev pub refused_words : ℕ → List ℕ → List Word
refused_words number name = Text (codes "refused") ∷ Number 20 number ∷ Text name ∷ []

-- `done T`
abbrev pub done_words : ℕ → List Word
done_words at = Text (codes "done") ∷ moment at ∷ []

-- `unfinished K`
abbrev pub unfinished_words : ℕ → List Word
unfinished_words left = Text (codes "unfinished") ∷ Number 20 left ∷ []

abbrev pub late_line : ℕ → List ℕ
late_line at = line_of (late_words at)

abbrev pub refused_line : ℕ → List ℕ → List ℕ
refused_line number name = line_of (refused_words number name)

abbrev pub done_line : ℕ → List ℕ
done_line at = line_of (done_words at)

abbrev pub unfinished_line : ℕ → List ℕ
unfinished_line left = line_of (unfinished_words left)

-- a log passes over an empty line, and one that begins as these do, whatever follows its first word
abbrev pub is_passed_over : List ℕ → Bool
is_passed_over [] = true
is_passed_over (b ∷ line) = starts_with nat_eq (b ∷ line) (codes "late ")
    || starts_with nat_eq (b ∷ line) (codes "refused ")
    || starts_with nat_eq (b ∷ line) (codes "done ")
    || starts_with nat_eq (b ∷ line) (codes "unfinished ")
