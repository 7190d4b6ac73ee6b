-- What a search answers: what there is, and none only where there is nothing.
use Rattle.std.specs.Prelude.{◌≡◌, ℕ, List, [], ◌∷◌, Option, MatchOption}
use Rattle.std.specs.Borrow.{Bor}

-- what was found is such a value, and where none was found there is none
abbrev pub SomeIfAny : {T : Type 0} → Option T → (T → Type 0) → Type 0
SomeIfAny {T} found IsSuch = MatchOption found ((x : T) → IsSuch x → ⊥) IsSuch

-- the same of two values
abbrev pub SomePairIfAny : {S T : Type 0} → Option (S × T) → (S → T → Type 0) → Type 0
SomePairIfAny {S} {T} found AreSuch = MatchOption found ((x : S) (y : T) → AreSuch x y → ⊥) (λ pair. AreSuch pair.0 pair.1)

-- the same of a value and the bytes behind it
abbrev pub SomeWithRestIfAny : {T : Type 0} → Option (T × Bor (List ℕ)) → (T → List ℕ → Type 0) → Type 0
SomeWithRestIfAny {T} found AreSuch = MatchOption found ((x : T) (rest : List ℕ) → AreSuch x rest → ⊥) (λ pair. AreSuch pair.0 pair.1.now)

-- what was found, seen by item and by others, are the first of these items and the others; where none was found there is no item
abbrev pub GivesFirst : {S T A : Type 0} → (S → A) → (T → List A) → Option (S × T) → List A → Type 0
GivesFirst item others found items = MatchOption found (items ≡ []) (λ pair. items ≡ item pair.0 ∷ others pair.1)
