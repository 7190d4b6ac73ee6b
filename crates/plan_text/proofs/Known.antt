-- The keys of a table: all known, or one that isn't.
use Rattle.std.proofs.Common.{◌≡◌, ℕ, Bool, true, false, ◌||◌, List, [], ◌∷◌, Option, Some, None, String, Global, string_bytes, refl, inl, inr}
use Rattle.std.proofs.lemmas.Bool.{cases_Bool, or_cases, or_left, or_right, false≢true}
use Rattle.std.proofs.lemmas.Slice.Eq.{bytes_eq-Decides}
use Rattle.std.specs.List.{list_all}
use Rattle.std.specs.Str.{bytes_eq}
use Rattle.std.specs.Map.{keys_of}
use Rattle.toml.specs.Data.{Members, no_members, member}
use Rattle.toml.specs.View.{members_view}
use Rattle.toml.specs.declared.value.Value.{Value}
use Rattle.plan_text.specs.declared.keys.PlanKey.TheVariants.{Release, Budget, Order, Clean}
use Rattle.plan_text.specs.declared.plan_fault.PlanFault.TheVariants.{UnknownKey}
use Rattle.plan_text.specs.Keys.{key_name, version_key}
use Rattle.plan_text.specs.Plans.{IsCommonKey, IsKeyOf, HasOnlyKeys}
use Rattle.plan_text.specs.Answers.{IsFirstOf}
use Rattle.plan_text.specs.Listing.{is_common_key, is_known_key, key_faults}

-- ---- what the test of all keys shows

pub unknown_first : (cleaning : Bool) (entries : List (String Global × Value)) → list_all (λ key. is_known_key cleaning (string_bytes key)) (keys_of entries) ≡ false
    → IsFirstOf (key_faults cleaning (members_view entries)) UnknownKey
unknown_first cleaning [] h = absurd (false≢true (rw h refl))
unknown_first cleaning (entry ∷ entries) h =
    elim (cases_Bool (is_known_key cleaning (string_bytes entry.0))) [
      | inl known ↦ rw known (unknown_first cleaning entries (rw known at h))
      | inr unknown ↦ rw unknown refl
    ]

pub known_none : (cleaning : Bool) (entries : List (String Global × Value)) → list_all (λ key. is_known_key cleaning (string_bytes key)) (keys_of entries) ≡ true
    → key_faults cleaning (members_view entries) ≡ []
known_none cleaning [] h = refl
known_none cleaning (entry ∷ entries) h =
    elim (cases_Bool (is_known_key cleaning (string_bytes entry.0))) [
      | inl known ↦ rw known (known_none cleaning entries (rw known at h))
      | inr unknown ↦ absurd (false≢true (rw unknown at h))
    ]

-- ---- a known key

pub same_bytes : (key name : List ℕ) → bytes_eq key name ≡ true → key ≡ name
same_bytes key name h = (bytes_eq-Decides key name).0 h

pub test_bytes : (key name : List ℕ) → key ≡ name → bytes_eq key name ≡ true
test_bytes key name e = (bytes_eq-Decides key name).1 e

pub common_key : (key : List ℕ) → is_common_key key ≡ true → IsCommonKey key
common_key key h =
    elim (or_cases (bytes_eq key version_key || bytes_eq key (key_name Release) || bytes_eq key (key_name Budget)) (bytes_eq key (key_name Order)) h) [
      | inr order ↦ inr (inr (inr (same_bytes key _ order)))
      | inl rest ↦ elim (or_cases (bytes_eq key version_key || bytes_eq key (key_name Release)) (bytes_eq key (key_name Budget)) rest) [
        | inr budget ↦ inr (inr (inl (same_bytes key _ budget)))
        | inl rest ↦ elim (or_cases (bytes_eq key version_key) (bytes_eq key (key_name Release)) rest) [
          | inl version ↦ inl (same_bytes key _ version)
          | inr release ↦ inr (inl (same_bytes key _ release))
        ]
      ]
    ]

pub common_test : (key : List ℕ) → IsCommonKey key → is_common_key key ≡ true
common_test key h = elim h [
  | inl version ↦ or_left _ _ (or_left _ _ (or_left _ _ (test_bytes key _ version)))
  | inr rest ↦ elim rest [
    | inl release ↦ or_left _ _ (or_left _ _ (or_right _ _ (test_bytes key _ release)))
    | inr rest ↦ elim rest [
      | inl budget ↦ or_left _ _ (or_right _ _ (test_bytes key _ budget))
      | inr order ↦ or_right _ _ (test_bytes key _ order)
    ]
  ]
]

-- whether a plan has cleaning
abbrev pub has_times : Option (List ℕ) → Bool
has_times None = false
has_times (Some times) = true

known_key : (clean : Option (List ℕ)) (key : List ℕ) → is_known_key (has_times clean) key ≡ true → IsKeyOf clean key
known_key None key h = common_key key h
known_key (Some times) key h = elim (or_cases (is_common_key key) (bytes_eq key (key_name Clean)) h) [
  | inl common ↦ inl (common_key key common)
  | inr clean ↦ inr (same_bytes key _ clean)
]

known_test : (clean : Option (List ℕ)) (key : List ℕ) → IsKeyOf clean key → is_known_key (has_times clean) key ≡ true
known_test None key h = common_test key h
known_test (Some times) key h = elim h [
  | inl common ↦ or_left _ _ (common_test key common)
  | inr clean ↦ or_right _ _ (test_bytes key _ clean)
]

-- ---- all keys

pub keys_found : (clean : Option (List ℕ)) (table : Members) → key_faults (has_times clean) table ≡ [] → HasOnlyKeys clean table
keys_found clean no_members h = tt
keys_found clean (member key d rest) h =
    elim (cases_Bool (is_known_key (has_times clean) key)) [
      | inl known ↦ (known_key clean key known, keys_found clean rest (rw known at h))
      | inr unknown ↦ let e = rw unknown at h in cc
    ]

pub keys_only : (clean : Option (List ℕ)) (table : Members) → HasOnlyKeys clean table → key_faults (has_times clean) table ≡ []
keys_only clean no_members h = refl
keys_only clean (member key d rest) h = rw (known_test clean key h.0) (keys_only clean rest h.1)
