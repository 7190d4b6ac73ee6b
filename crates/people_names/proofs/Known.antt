-- The keys of a table: all known, or a first one that isn't.
use Rattle.std.proofs.Common.{◌≡◌, Bool, not, List, [], ◌∷◌, Some, None, String, Global, string_bytes, refl, ap, inl, inr}
use Rattle.std.proofs.lemmas.Bool.{cases_Bool}
use Rattle.std.specs.List.{find}
use Rattle.std.specs.Map.{keys_of}
use Rattle.toml.specs.View.{members_view}
use Rattle.toml.specs.declared.value.Value.{Value}
use Rattle.people_names.specs.declared.names_fault.NamesFault.TheVariants.{UnknownKey}
use Rattle.people_names.specs.Keys.{is_known_key, printable_part}
use Rattle.people_names.specs.Documents.{IsFirstOf}
use Rattle.people_names.specs.Faults.{key_faults}

-- whether the key isn't known
abbrev pub is_unknown : String Global → Bool
is_unknown key = not (is_known_key (string_bytes key))

pub unknown_first : (entries : List (String Global × Value)) (key : String Global) → find is_unknown (keys_of entries) ≡ Some key
    → IsFirstOf (key_faults (members_view entries)) (UnknownKey (printable_part (string_bytes key)))
unknown_first [] key h = cc
unknown_first (entry ∷ entries) key h =
    elim (cases_Bool (is_known_key (string_bytes entry.0))) [
      | inl known ↦ rw known (unknown_first entries key (rw known at h))
      | inr unknown ↦
          let found = rw unknown at h in
          let same : entry.0 ≡ key = cc in
          rw unknown (ap (λ (k : String Global). UnknownKey (printable_part (string_bytes k))) same)
    ]

pub unknown_none : (entries : List (String Global × Value)) → find is_unknown (keys_of entries) ≡ None → key_faults (members_view entries) ≡ []
unknown_none [] h = refl
unknown_none (entry ∷ entries) h =
    elim (cases_Bool (is_known_key (string_bytes entry.0))) [
      | inl known ↦ rw known (unknown_none entries (rw known at h))
      | inr unknown ↦ let found = rw unknown at h in cc
    ]
