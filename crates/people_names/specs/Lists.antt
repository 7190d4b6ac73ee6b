-- Lists of names.
use Rattle.std.specs.Prelude.{◌≡◌, ℕ, ◌≤◌, List, length, String}
use Rattle.std.specs.List.{All}
use Rattle.std.specs.BTreeSet.{BTreeSet, contains_text}
use Rattle.std.specs.declared.alloc.Global.{Global}
use Rattle.people_names.specs.declared.names.TheConstants.{LONGEST_NAME}
use Rattle.people_names.specs.Faults.{is_among}

-- none has more bytes than a name may have
abbrev pub AreShort : List (List ℕ) → Type 0
AreShort names = All (λ name. length name ≤ LONGEST_NAME) names

-- the set has just these names
abbrev pub HasSeen : BTreeSet (String Global) → List (List ℕ) → Type 0
HasSeen seen names = (q : List ℕ) → contains_text seen q ≡ is_among q names
