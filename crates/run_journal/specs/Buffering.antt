-- How an output with a log gathers the answers to reports: each whole, before any byte of it is shown.
use Rattle.std.specs.Prelude.{◌≡◌, ℕ, ◌+◌, ◌≤◌, nat_lt, nat_le, nat_eq, ◌&&◌, if◌then◌else◌, Bool, true, false, List, [], ◌∷◌, ◌++◌, length, take, codes}
use Rattle.std.specs.List.{starts_with}
use Rattle.run_journal.specs.{declared.logged.TheConstants.FULL, declared.logged.TheConstants.MAX_PENDING, Logged.Held}

-- bytes that begin the answer to a report
abbrev pub begins_answer : List ℕ → Bool
begins_answer bytes = starts_with nat_eq bytes (codes "report ")

-- so many bytes that are held back are shown before these: where there is no room for both, or they are many and an answer begins
abbrev pub is_flushed_first : ℕ → List ℕ → Bool
is_flushed_first buffered bytes = if nat_lt MAX_PENDING (buffered + length bytes) then nat_lt 0 buffered else nat_le FULL buffered && begins_answer bytes

-- so many of these bytes were accepted: behind those that were held back, of which none was shown, or once all those were shown; and no more are held back than may be
pub record IsBuffered (before : Held) (bytes : List ℕ) (count : ℕ) (after : Held) : Type 0 where
  pub all : length bytes ≤ MAX_PENDING → count ≡ length bytes
  pub held : is_flushed_first (length before.pending) bytes ≡ false → (after.written ≡ before.written) × (after.pending ≡ before.pending ++ take count bytes)
  pub anew : is_flushed_first (length before.pending) bytes ≡ true → after.pending ≡ take count bytes
  pub few : length after.pending ≤ MAX_PENDING

-- texts were accepted so, one after another, each whole
abbrev pub AreBuffered : Held → List (List ℕ) → Held → Type 0
AreBuffered before [] after = after ≡ before
AreBuffered before (bytes ∷ texts) after = (mid : Held) × IsBuffered before bytes (length bytes) mid × AreBuffered mid texts after

-- texts one after another, none of which begins an answer
abbrev pub joined : List (List ℕ) → List ℕ
joined [] = []
joined (text ∷ texts) = text ++ joined texts

abbrev pub BeginNone : List (List ℕ) → Type 0
BeginNone [] = Unit {0}
BeginNone (text ∷ texts) = (begins_answer text ≡ false) × BeginNone texts

-- of an answer of at most 16,384 bytes none was shown once its first line is accepted, until all of it is
abbrev pub AnAnswerIsBufferedWhole : Type 0
AnAnswerIsBufferedWhole = (before begun after : Held) (line : List ℕ) (texts : List (List ℕ)) → begins_answer line ≡ true → BeginNone texts → length line + length (joined texts) ≤ 16384
    → IsBuffered before line (length line) begun → AreBuffered begun texts after
    → (front : List ℕ) × (begun.pending ≡ front ++ line) × (after.written ≡ begun.written) × (after.pending ≡ begun.pending ++ joined texts)
