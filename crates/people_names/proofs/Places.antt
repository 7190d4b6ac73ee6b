-- The elements of a list of names, place by place.
use Rattle.std.proofs.Common.{◌≡◌, ℕ, zero, suc, ◌+◌, ◌<◌, ◌≤◌, List, [], ◌∷◌, ◌++◌, length, drop, get_or, refl, ◌∙◌, append_assoc, add-one, arith}
use Rattle.std.proofs.Math.Seq.{drop-cons}
use Rattle.std.proofs.lemmas.List.Elements.{All-append}
use Rattle.toml.specs.Data.{item}
use Rattle.toml.specs.View.{view, items_view}
use Rattle.toml.specs.declared.value.Value.{Value}
use Rattle.people_names.specs.declared.names.TheConstants.{LONGEST_NAME}
use Rattle.people_names.specs.declared.keys.NamesKey.{NamesKey}
use Rattle.people_names.specs.declared.names_fault.NamesFault.{NamesFault}
use Rattle.people_names.specs.Documents.{IsFirstOf}
use Rattle.people_names.specs.Faults.{name_faults, each_faults}
use Rattle.people_names.specs.Lists.{AreShort}
use Rattle.people_names.specs.Reading.{text_in, texts_in}

-- the first fault of a part at the front is the first of all
pub first_of_front : (faults here rest : List NamesFault) (fault : NamesFault) → here ++ rest ≡ faults → IsFirstOf here fault → IsFirstOf faults fault
first_of_front faults [] rest fault e h = absurd h
first_of_front faults (x ∷ here) rest fault e h = rw (← e) h

-- the values from a place on: the one at it, and those behind
pub view_at : (items : List Value) (place : ℕ) (x : Value) → place < length items → x ≡ get_or items place x
    → items_view (drop place items) ≡ item (view x) (items_view (drop (place + 1) items))
view_at items place x below is = rw (add-one, drop-cons items place x, ← is) refl

module _ (key : NamesKey) (items : List Value) (place : ℕ) (x : Value) (below : place < length items) (is : x ≡ get_or items place x) where
  pub faults_split : (before : List (List ℕ))
      → name_faults key place before (view x) ++ each_faults key (place + 1) (before ++ text_in (view x) ∷ []) (items_view (drop (place + 1) items)) ≡ each_faults key place before (items_view (drop place items))
  faults_split before = rw (view_at items place x below is) refl

  pub faults_go_on : (before after : List (List ℕ)) (whole : List NamesFault) → name_faults key place before (view x) ≡ [] → after ≡ before ++ text_in (view x) ∷ []
      → each_faults key place before (items_view (drop place items)) ≡ whole → each_faults key (place + 1) after (items_view (drop (place + 1) items)) ≡ whole
  faults_go_on before after whole none added h = rw added (rw none at (faults_split before) ∙ h)

  pub names_go_on : (before after whole : List (List ℕ)) → after ≡ before ++ text_in (view x) ∷ []
      → before ++ texts_in (items_view (drop place items)) ≡ whole → after ++ texts_in (items_view (drop (place + 1) items)) ≡ whole
  names_go_on before after whole added h =
      rw added (append_assoc before (text_in (view x) ∷ []) (texts_in (items_view (drop (place + 1) items))) ∙ (rw (view_at items place x below is) at h))

  pub refused_here : (before : List (List ℕ)) (whole : List NamesFault) (fault : NamesFault) → each_faults key place before (items_view (drop place items)) ≡ whole
      → IsFirstOf (name_faults key place before (view x)) fault → IsFirstOf whole fault
  refused_here before whole fault h first = first_of_front whole _ _ fault (faults_split before ∙ h) first

one_short : (name : List ℕ) → length name ≤ LONGEST_NAME → (k : ℕ) (d : List ℕ) → k < length (name ∷ []) → length (get_or (name ∷ []) k d) ≤ LONGEST_NAME
one_short name h zero d below = h
one_short name h (suc k) d below = absurd (omega arith)

pub short_pushed : (names : List (List ℕ)) (name : List ℕ) → AreShort names → length name ≤ LONGEST_NAME → AreShort (names ++ name ∷ [])
short_pushed names name h small = All-append (λ n. length n ≤ LONGEST_NAME) names (name ∷ []) h (one_short name small)
