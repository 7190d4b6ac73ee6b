-- Lines that are answered one after another. Whatever answers them says by a relation which text answers a line
-- of which number in a state, and to which state that leads.
use Rattle.std.specs.Prelude.{◌≡◌, ℕ, ◌+◌, List, [], ◌∷◌, ◌++◌, length, Option, true, Result, Ok, Err, ◌⊎◌}
use Rattle.std.specs.Io.KnownBytes.{Appends}
use Rattle.byte_streams.specs.declared.sink.Sink.{Ghosts as SinkOf}
use Rattle.byte_streams.specs.Sinks.{TookPart}
use Rattle.byte_streams.specs.Lent.{SinkState, WroteOneTo}

-- in this state the line of this number was answered, which led to that state: all of a text that answers it was written to the device, or its first bytes up to a write that failed
abbrev pub WasAnswered : {S W T E : Type 0} → (S → ℕ → Option (List ℕ) → List ℕ → S → Type 0) → S → ℕ → Option (List ℕ) → S → SinkOf W → Result T E → W → W → Type 0
WasAnswered answers start number line end sink outcome before after = WroteOneTo sink outcome before after (λ text. answers start number line text end)

-- the lines, numbered from a number on, are answered by this text
abbrev pub AnswerAll : {S : Type 0} → (S → ℕ → Option (List ℕ) → List ℕ → S → Type 0) → S → ℕ → List (Option (List ℕ)) → List ℕ → S → Type 0
AnswerAll answers start number [] text end = (text ≡ []) × (end ≡ start)
AnswerAll {S} answers start number (line ∷ lines) text end = (first : List ℕ) × (rest : List ℕ) × (next : S) × answers start number line first next
    × AnswerAll answers next (number + 1) lines rest end × (text ≡ first ++ rest)

-- these lines were answered, numbered from a number on, all of the answers was written, and no write failed
pub record AreAnswered {S : Type 0} (answers : S → ℕ → Option (List ℕ) → List ℕ → S → Type 0) (start : S) (number : ℕ) (lines : List (Option (List ℕ))) (end : S)
    (before after : SinkState) : Type 0 where
  pub text : List ℕ
  pub are_answers : AnswerAll answers start number lines text end
  pub written : Appends before.written after.written text
  pub unfailed : after.failed ≡ before.failed

-- of these lines the first were answered, the answer to the next was cut off by a write that failed, and no line behind it was answered
pub record AreCutOff {S : Type 0} (answers : S → ℕ → Option (List ℕ) → List ℕ → S → Type 0) (start : S) (number : ℕ) (lines : List (Option (List ℕ))) (end : S)
    (before after : Option (List ℕ)) : Type 0 where
  pub answered : List (Option (List ℕ))
  pub line : Option (List ℕ)
  pub rest : List (Option (List ℕ))
  pub whole : answered ++ line ∷ rest ≡ lines
  pub text : List ℕ
  pub state : S
  pub are_answers : AnswerAll answers start number answered text state
  pub cut : List ℕ
  pub is_answer : answers state (number + length answered) line cut end
  pub between : Option (List ℕ)
  pub written : Appends before between text
  pub part : TookPart between after cut

-- these lines were answered and all of the answers was accepted, but showing them failed
pub record AreUnshown {S : Type 0} (answers : S → ℕ → Option (List ℕ) → List ℕ → S → Type 0) (start : S) (number : ℕ) (lines : List (Option (List ℕ))) (end : S)
    (before after : Option (List ℕ)) : Type 0 where
  pub text : List ℕ
  pub are_answers : AnswerAll answers start number lines text end
  pub written : Appends before after text

-- an answer was cut off, or the answers couldn't be shown
abbrev pub AreCutShort : {S : Type 0} → (S → ℕ → Option (List ℕ) → List ℕ → S → Type 0) → S → ℕ → List (Option (List ℕ)) → S → Option (List ℕ) → Option (List ℕ) → Type 0
AreCutShort answers start number lines end before after = AreCutOff answers start number lines end before after ⊎ AreUnshown answers start number lines end before after

-- these lines were answered, and the closing text behind the answers was cut off by a write that failed, or all of it was accepted and showing it failed
pub record IsClosingCut {S : Type 0} (answers : S → ℕ → Option (List ℕ) → List ℕ → S → Type 0) (closes : S → List ℕ → Type 0) (start : S) (number : ℕ) (lines : List (Option (List ℕ))) (end : S)
    (before after : Option (List ℕ)) : Type 0 where
  pub text : List ℕ
  pub are_answers : AnswerAll answers start number lines text end
  pub closing : List ℕ
  pub is_closing : closes end closing
  pub between : Option (List ℕ)
  pub written : Appends before between text
  pub part : TookPart between after closing

-- these lines were answered, or the first ones up to a write that failed
abbrev pub WereAnswered : {S T E : Type 0} → (S → ℕ → Option (List ℕ) → List ℕ → S → Type 0) → S → ℕ → List (Option (List ℕ)) → S → Result T E
    → SinkState → SinkState → Type 0
WereAnswered answers start number lines end (Ok x) before after = AreAnswered answers start number lines end before after
WereAnswered answers start number lines end (Err e) before after = (after.failed ≡ true) × AreCutOff answers start number lines end before.written after.written
