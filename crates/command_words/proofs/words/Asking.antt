-- Steps through words and values from the front.
use Rattle.std.proofs.Common.{◌≡◌, ◌∙◌, ◌+◌, ◌<◌, ◌≤◌, ◌&&◌, if◌then◌else◌, ℕ, Bool, true, false, List, [], ◌∷◌, Option, Some, None, ap, sym, subst, refl, length, map, drop, get_or, add-one}
use Rattle.std.specs.Prelude.{MatchOption, codes, is_some, option_and_then, slice_get, unwrap_or}
use Rattle.std.specs.Option.{option_map, option_map_or}
use Rattle.std.specs.List.{list_all}
use Rattle.std.specs.Borrow.{Bor}
use Rattle.std.proofs.Math.Seq.{drop-cons}
use Rattle.std.proofs.lemmas.Bool.{cond-true, cond-false}
use Rattle.std.proofs.lemmas.List.{drop_all}
use Rattle.std.proofs.lemmas.Option.{slice_get-map, slice_get_past, slice_get-get_or}
use Rattle.text_lines.specs.Numbers.{value_of}
use Rattle.clap.specs.Words.{Kinds, Row, Text, all_of, matched_of, raw_values, rows_of}
use Rattle.clap.specs.declared.error.kind.ErrorKind.TheVariants.{ArgumentConflict, ValueValidation}
use Rattle.clap.specs.declared.parser.matches.Found.{Found}
use Rattle.clap.proofs.WalkLemmas.{raw_values-rows}
use Rattle.command_words.specs.CommandLine.{latest_moment}
use Rattle.command_words.specs.Given.{is_moment, values_of}
use Rattle.command_words.specs.Changes.{attached_misfit, goes_on, moment_at, moment_read, named_in, names_misfit, names_used, owners_in, owners_used, rises, rises_from, values_misfit}
use Rattle.command_words.specs.Choice.{NamesOneOf}
use Rattle.command_words.specs.declared.words.WordsFault.{WordsFault}
use Rattle.command_words.specs.declared.words.called.NameOwner.{NameOwner}
use Rattle.command_words.specs.declared.words.called.NameOwner.TheVariants.{Nobody}
use Rattle.command_words.specs.declared.words.WordsFault.TheVariants.{Usage, Memory}

-- the text of each
abbrev pub texts : List (Bor Text) → List Text
texts = map (λ (v : Bor Text). v.now)

-- those from a place on: the one there, and those behind it
pub from_place : (vals : List (Bor Text)) (i : ℕ) (d : Bor Text) → i < length vals → texts (drop i vals) ≡ (get_or vals i d).now ∷ texts (drop (i + 1) vals)
from_place vals i d inside = rw add-one (ap texts (drop-cons vals i d inside))

-- behind the last one there are none
pub from_end : (vals : List (Bor Text)) (i : ℕ) → length vals ≤ i → texts (drop i vals) ≡ []
from_end vals i outside = ap texts (drop_all i vals outside)

-- ---- whether all are such

such_so_far : (is_such : Text → Bool) (word : Text) (rest all : List Text) → list_all is_such all ≡ list_all is_such (word ∷ rest) → is_such word ≡ false → list_all is_such all ≡ false
such_so_far is_such word rest all so_far isnt = so_far ∙ ap (λ (b : Bool). b && list_all is_such rest) isnt

module _ (is_such : Text → Bool) (vals : List (Bor Text)) (values : List Text) (i : ℕ) (same : texts vals ≡ values)
    (so_far : list_all is_such (texts vals) ≡ list_all is_such (texts (drop i vals))) where
  -- one isn't
  pub not_all : (d : Bor Text) → i < length vals → is_such (get_or vals i d).now ≡ false → list_all is_such values ≡ false
  not_all d inside isnt =
      sym (ap (list_all is_such) same)
      ∙ such_so_far is_such (get_or vals i d).now (texts (drop (i + 1) vals)) (texts vals) (so_far ∙ ap (list_all is_such) (from_place vals i d inside)) isnt

  -- all are
  pub all_such : length vals ≤ i → list_all is_such values ≡ true
  all_such outside = sym (ap (list_all is_such) same) ∙ so_far ∙ ap (list_all is_such) (from_end vals i outside)

-- ---- the moment that is the value at a place

-- what is read of a word is the moment that it is
replayed_is : (word : Text) (moment : Option ℕ) → MatchOption moment (is_moment word ≡ false) (λ n. (is_moment word ≡ true) × (n ≡ value_of word) × (n ≤ latest_moment)) → moment ≡ moment_read word
replayed_is word None isnt = sym (cond-false (is_moment word) (Some (value_of word)) None isnt)
replayed_is word (Some n) is = ap (λ k. Some k) is.1 ∙ sym (cond-true (is_moment word) (Some (value_of word)) None is.0)

module _ (vals : List (Bor Text)) (values : List Text) (place : ℕ) (same : texts vals ≡ values) where
  pub past_values : length vals ≤ place → None ≡ moment_at values place
  past_values outside =
      sym (ap (λ (o : Option Text). option_and_then moment_read o) (slice_get-map (λ (v : Bor Text). v.now) vals place ∙ ap (option_map (λ (v : Bor Text). v.now)) (slice_get_past vals place outside)))
      ∙ ap (λ (vs : List Text). moment_at vs place) same

  pub at_value : (d : Bor Text) (moment : Option ℕ) → place < length vals
      → MatchOption moment (is_moment (get_or vals place d).now ≡ false) (λ n. (is_moment (get_or vals place d).now ≡ true) × (n ≡ value_of (get_or vals place d).now) × (n ≤ latest_moment))
      → moment ≡ moment_at values place
  at_value d moment inside is =
      replayed_is (get_or vals place d).now moment is
      ∙ sym (ap (λ (o : Option Text). option_and_then moment_read o) (slice_get-map (λ (v : Bor Text). v.now) vals place ∙ ap (option_map (λ (v : Bor Text). v.now)) (slice_get-get_or vals place d inside)))
      ∙ ap (λ (vs : List Text). moment_at vs place) same

-- a use whose value isn't a moment is passed over
pub rises_over : (values : List Text) (owners : List ℕ) (place last d : ℕ) → place < length owners → is_some (moment_at values place) ≡ false
    → rises_from values place last (drop place owners) ≡ rises_from values (place + 1) last (drop (place + 1) owners)
rises_over values owners place last d inside none =
    let at : drop place owners ≡ get_or owners place d ∷ drop (place + 1) owners = rw add-one (drop-cons owners place d inside) in
    ap (rises_from values place last) at ∙ cond-false (is_some (moment_at values place)) _ _ none

-- ---- an option that isn't used, and one that is

none_left : {A B : Type 0} (g : A → B) (o : Option A) → is_some o ≡ false → option_map g o ≡ None
none_left g None none = refl
none_left g (Some x) none = absurd (cc)

pub not_used : (f : Found) (id : Text) → is_some (matched_of f id) ≡ false → all_of id (rows_of f) ≡ None
not_used f id none = sym (raw_values-rows f id) ∙ none_left raw_values (matched_of f id) none

one_left : {A B : Type 0} (g : A → B) (o : Option A) → is_some (option_map g o) ≡ is_some o
one_left g None = refl
one_left g (Some x) = refl

pub is_used : (f : Found) (id : Text) → is_some (matched_of f id) ≡ true → is_some (all_of id (rows_of f)) ≡ true
is_used f id some = ap (λ (o : Option (List Text)). is_some o) (sym (raw_values-rows f id)) ∙ one_left raw_values (matched_of f id) ∙ some

module _ (name flag : Text) (words : List Text) (rows : List Row) where
  pub none_owned : all_of name rows ≡ None → [] ≡ owners_used name flag words rows
  none_owned none = sym (ap (λ (o : Option (List Text)). option_map_or (λ _. owners_in flag words) o []) none)

  pub none_misfit : all_of name rows ≡ None → attached_misfit name flag words rows ≡ []
  none_misfit none =
      ap (λ (o : Option (List Text)). if rises (unwrap_or o []) (option_map_or (λ _. owners_in flag words) o []) then [] else ArgumentConflict ∷ []) none

  pub all_owned : is_some (all_of name rows) ≡ true → owners_in flag words ≡ owners_used name flag words rows
  all_owned = go (all_of name rows)
    where
      go : (o : Option (List Text)) → is_some o ≡ true → owners_in flag words ≡ option_map_or (λ _. owners_in flag words) o []
      go None some = absurd (cc)
      go (Some values) some = refl

  pub places_clash : is_some (all_of name rows) ≡ true → rises (values_of name rows) (owners_in flag words) ≡ false → attached_misfit name flag words rows ≡ ArgumentConflict ∷ []
  places_clash used clash =
      cond-false (rises (values_of name rows) (owners_used name flag words rows)) [] (ArgumentConflict ∷ []) (ap (rises (values_of name rows)) (sym (all_owned used)) ∙ clash)

  pub places_fit : is_some (all_of name rows) ≡ true → rises (values_of name rows) (owners_in flag words) ≡ true → attached_misfit name flag words rows ≡ []
  places_fit used fit =
      cond-true (rises (values_of name rows) (owners_used name flag words rows)) [] (ArgumentConflict ∷ []) (ap (rises (values_of name rows)) (sym (all_owned used)) ∙ fit)

-- ---- names that aren't given, and such that are

module _ (words : List Text) (rows : List Row) where
  pub none_named : all_of (codes "name") rows ≡ None → [] ≡ names_used words rows
  none_named none = sym (ap (λ (o : Option (List Text)). option_map_or (λ _. named_in (values_of (codes "down") rows) words) o []) none)

  pub no_names_fit : all_of (codes "name") rows ≡ None → names_misfit words rows ≡ []
  no_names_fit none = ap (λ (owners : List NameOwner). if goes_on Nobody owners then [] else ArgumentConflict ∷ []) (sym (none_named none))

  pub all_named : is_some (all_of (codes "name") rows) ≡ true → named_in (values_of (codes "down") rows) words ≡ names_used words rows
  all_named = go (all_of (codes "name") rows)
    where
      go : (o : Option (List Text)) → is_some o ≡ true → named_in (values_of (codes "down") rows) words ≡ option_map_or (λ _. named_in (values_of (codes "down") rows) words) o []
      go None some = absurd (cc)
      go (Some values) some = refl

  pub names_clash : (owners : List NameOwner) → owners ≡ names_used words rows → goes_on Nobody owners ≡ false → names_misfit words rows ≡ ArgumentConflict ∷ []
  names_clash owners are clash = cond-false (goes_on Nobody (names_used words rows)) [] (ArgumentConflict ∷ []) (ap (goes_on Nobody) (sym are) ∙ clash)

  pub names_fit : (owners : List NameOwner) → owners ≡ names_used words rows → goes_on Nobody owners ≡ true → names_misfit words rows ≡ []
  names_fit owners are fit = cond-true (goes_on Nobody (names_used words rows)) [] (ArgumentConflict ∷ []) (ap (goes_on Nobody) (sym are) ∙ fit)

-- ---- the value at a place

module _ (vals : List (Bor Text)) (values : List Text) (place : ℕ) (same : texts vals ≡ values) where
  pub value_past : length vals ≤ place → None ≡ slice_get values place
  value_past outside =
      sym (slice_get-map (λ (v : Bor Text). v.now) vals place ∙ ap (option_map (λ (v : Bor Text). v.now)) (slice_get_past vals place outside))
      ∙ ap (λ (vs : List Text). slice_get vs place) same

  pub value_there : (d : Bor Text) → place < length vals → Some (get_or vals place d).now ≡ slice_get values place
  value_there d inside =
      sym (slice_get-map (λ (v : Bor Text). v.now) vals place ∙ ap (option_map (λ (v : Bor Text). v.now)) (slice_get-get_or vals place d inside))
      ∙ ap (λ (vs : List Text). slice_get vs place) same

-- ---- what is said of values

module _ (is_such : Text → Bool) where
  pub such_fits : (values : List Text) → list_all is_such values ≡ true → values_misfit is_such values ≡ []
  such_fits values is = cond-true (list_all is_such values) [] (ValueValidation ∷ []) is

  pub such_misfit : (values : List Text) → list_all is_such values ≡ false → values_misfit is_such values ≡ ValueValidation ∷ []
  such_misfit values isnt = cond-false (list_all is_such values) [] (ValueValidation ∷ []) isnt

  -- a fault of one of them is one of theirs
  pub among_values : (vals : List (Bor Text)) (values : List Text) (i : ℕ) (d : Bor Text) (fault : WordsFault) → texts vals ≡ values → list_all is_such (texts vals) ≡ list_all is_such (texts (drop i vals))
      → i < length vals → NamesOneOf (values_misfit is_such ((get_or vals i d).now ∷ [])) fault → NamesOneOf (values_misfit is_such values) fault
  among_values vals values i d fault same so_far inside named = go (is_such (get_or vals i d).now) refl
    where
      none_named : (f : WordsFault) → NamesOneOf [] f → NamesOneOf (values_misfit is_such values) f
      none_named Memory is = tt
      none_named (Usage help text) is = absurd (is.1)

      go : (b : Bool) → is_such (get_or vals i d).now ≡ b → NamesOneOf (values_misfit is_such values) fault
      go true is = none_named fault (subst (λ (kinds : Kinds). NamesOneOf kinds fault) (such_fits ((get_or vals i d).now ∷ []) (ap (λ (b : Bool). b && true) is)) named)
      go false isnt =
          let one = such_misfit ((get_or vals i d).now ∷ []) (ap (λ (b : Bool). b && true) isnt) in
          let all = such_misfit values (not_all is_such vals values i same so_far d inside isnt) in
          subst (λ (kinds : Kinds). NamesOneOf kinds fault) (one ∙ sym all) named
