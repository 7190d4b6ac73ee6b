-- What a picture writes for a job, a machine and a moment: the words that a line has for them, as XML has texts.
use Rattle.std.specs.Prelude.{ℕ, ◌+◌, ◌*◌, ◌==◌, Bool, ◌||◌, if◌then◌else◌, List, [], ◌∷◌, flat_map, length, codes}
use Rattle.std.specs.List.{count_by}
use Rattle.people_names.specs.NameBooks.{NameBook}
use Rattle.people_names.specs.Words.{job_word as job_name, machine_word as machine_name, moment_word as moment_name}

-- a letter as broad as `W`: `%`, `@`, `M`, `W`, `m` and `w`
abbrev pub is_broad : ℕ → Bool
is_broad byte = byte == 37 || byte == 64 || byte == 77 || byte == 87 || byte == 109 || byte == 119

-- how broad a word is, in tenths of a pixel, where most letters have this room: a broad one has 40 more
abbrev pub width_of : ℕ → List ℕ → ℕ
width_of letter word = letter * length word + 40 * count_by is_broad word

-- a byte of a text, as XML has it (XML 1.0, 2.4)
abbrev pub escaped_byte : ℕ → List ℕ
escaped_byte byte = if byte == 38 then codes "&amp;" else (if byte == 60 then codes "&lt;" else (if byte == 62 then codes "&gt;" else byte ∷ []))

-- a text, as XML has it
abbrev pub escaped : List ℕ → List ℕ
escaped text = flat_map escaped_byte text

abbrev pub job_word : NameBook → ℕ → List ℕ
job_word names j = escaped (job_name names j)

abbrev pub machine_word : NameBook → ℕ → List ℕ
machine_word names m = escaped (machine_name names m)

abbrev pub moment_word : NameBook → ℕ → List ℕ
moment_word names t = moment_name names t
