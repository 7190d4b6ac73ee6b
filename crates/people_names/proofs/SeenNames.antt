-- The names that were seen, as the set keeps them and as the list gives them.
use Rattle.std.proofs.Common.{◌≡◌, ℕ, Bool, true, false, ◌||◌, cond, List, [], ◌∷◌, ◌++◌, Some, String, Global, string_bytes, refl, sym, ap, ◌∙◌}
use Rattle.std.proofs.lemmas.List.Folds.{list_any-append}
use Rattle.std.proofs.lemmas.Option.{same_Some}
use Rattle.std.proofs.lemmas.Map.Text.{btree_set_updates_text}
use Rattle.std.specs.BTreeSet.{BTreeSet, UpdatesBy}
use Rattle.std.specs.Cmp.Lexicographic.{slice_cmp}
use Rattle.std.specs.Ordering.{nat_cmp}
use Rattle.std.specs.Str.{bytes_eq}
use Rattle.std.specs.String.{string_cmp}
use Rattle.toml.specs.Data.{Data, string, integer, float, boolean, datetime, array, table, as_str}
use Rattle.people_names.specs.declared.keys.NamesKey.{NamesKey}
use Rattle.people_names.specs.declared.names_fault.NamesFault.TheVariants.{NameTwice}
use Rattle.people_names.specs.Documents.{IsFirstOf}
use Rattle.people_names.specs.NameTexts.{is_name}
use Rattle.people_names.specs.Faults.{is_among, name_faults}
use Rattle.people_names.specs.Lists.{HasSeen}

or_last : (a b : Bool) → cond b true a ≡ (a || (b || false))
or_last true true = refl
or_last true false = refl
or_last false true = refl
or_last false false = refl

-- one name more
pub seen_more : (name : List ℕ) (names : List (List ℕ)) (seen after : BTreeSet (String Global))
    → UpdatesBy string_cmp (λ k. slice_cmp nat_cmp name (string_bytes k)) seen after true → HasSeen seen names → HasSeen after (names ++ name ∷ [])
seen_more name names seen after updates h q =
    btree_set_updates_text name seen after true updates q
    ∙ ap (λ b. cond (bytes_eq name q) true b) (h q)
    ∙ or_last (is_among q names) (bytes_eq name q)
    ∙ sym (list_any-append (λ other. bytes_eq other q) names (name ∷ []))

-- the same where a copy of it went into the set
pub seen_copied : (name : List ℕ) (copy : String Global) (seen after : BTreeSet (String Global)) → string_bytes copy ≡ name
    → UpdatesBy string_cmp (λ k. slice_cmp nat_cmp (string_bytes copy) (string_bytes k)) seen after true → (names : List (List ℕ)) → HasSeen seen names → HasSeen after (names ++ name ∷ [])
seen_copied name copy seen after same updates names h = rw (← same) (seen_more (string_bytes copy) names seen after updates h)

-- a value that gives a text is that text
pub string_from_text : (d : Data) (text : List ℕ) → as_str d ≡ Some text → d ≡ string text
string_from_text (string s) text h = ap string (same_Some s text h)
string_from_text (integer z) text h = cc
string_from_text (float x) text h = cc
string_from_text (boolean b) text h = cc
string_from_text (datetime dt) text h = cc
string_from_text (array ds) text h = cc
string_from_text (table ms) text h = cc

-- a name that is one of those before it
pub name_twice : (key : NamesKey) (place : ℕ) (before : List (List ℕ)) (d : Data) (text : List ℕ) → as_str d ≡ Some text → is_name text ≡ true → is_among text before ≡ true
    → IsFirstOf (name_faults key place before d) (NameTwice key place)
name_twice key place before d text h name among = rw (string_from_text d text h, name, among) refl

-- a name that is none of them
pub name_fine : (key : NamesKey) (place : ℕ) (before : List (List ℕ)) (d : Data) (text : List ℕ) → as_str d ≡ Some text → is_name text ≡ true → is_among text before ≡ false
    → name_faults key place before d ≡ []
name_fine key place before d text h name among = rw (string_from_text d text h, name, among) refl
