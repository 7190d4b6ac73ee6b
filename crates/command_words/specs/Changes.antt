-- The changes of a plan in mid-run that the words of a command line ask for.
use Rattle.std.specs.Prelude.{ℕ, ◌+◌, ◌++◌, ◌==◌, ◌&&◌, ◌||◌, nat_eq, nat_lt, if◌then◌else◌, Bool, true, false, List, [], ◌∷◌, Option, Some, None, bytes_eq, codes, drop, is_some, length, not, option_and_then, option_map, slice_get}
use Rattle.std.specs.List.{after_first, before_first, list_all, position_or_len, starts_with}
use Rattle.std.specs.Option.{option_map_or, option_or}
use Rattle.std.specs.String.{string_bytes}
use Rattle.text_lines.specs.Numbers.{value_of}
use Rattle.clap.specs.Kinds.{or_else}
use Rattle.clap.specs.Words.{Kinds, Row, Text, all_of}
use Rattle.clap.specs.declared.error.kind.ErrorKind.TheVariants.{ArgumentConflict, ValueValidation}
use Rattle.command_words.specs.Given.{is_moment, is_short, values_of}
use Rattle.command_words.specs.declared.words.changes.AskedChange.{AskedChange}
use Rattle.command_words.specs.declared.words.changes.ChangeForm.{ChangeForm}
use Rattle.command_words.specs.declared.words.changes.ChangeForm.TheVariants.{Until, Add, Route, Release, Budget, Hold, Scrap, Down}
use Rattle.command_words.specs.declared.words.changes.ChangeKind.{ChangeKind}
use Rattle.command_words.specs.declared.words.changes.ChangeKind.TheVariants.{Until as Lasts, Add as Adds, Route as Leads, Release as Dates, Budget as Promises, Hold as Holds, Scrap as Scraps, Down as Stops}
use Rattle.command_words.specs.declared.words.called.NameOwner.{NameOwner}
use Rattle.command_words.specs.declared.words.called.NameOwner.TheVariants.{Nobody, Added, Held}

-- ---- which numbers go with which added job

-- whether what is left of a word ends the name of an option: nothing is left, or an equals sign comes
abbrev pub ends_name : Text → Bool
ends_name [] = true
ends_name (b ∷ bs) = b == 61

-- whether a word uses an option: it is `--NAME`, or begins with `--NAME=`
abbrev pub uses : Text → Text → Bool
uses flag word = starts_with nat_eq word flag && ends_name (drop (length flag) word)

-- of each use of an option how many jobs are added before it, beside so many; behind a word `--` no option stands
abbrev pub owners_from : Text → ℕ → List Text → List ℕ
owners_from flag added [] = []
owners_from flag added (word ∷ words) = if bytes_eq word (codes "--") then []
    else if uses (codes "--add") word then owners_from flag (added + 1) words
    else if uses flag word then added ∷ owners_from flag added words
    else owners_from flag added words

-- the added job, counted from 1, with which each use of an option goes: the last one before it; 0 where there is none
abbrev pub owners_in : Text → List Text → List ℕ
owners_in flag = owners_from flag 0

-- so of an option that is used; of any other there are none
abbrev pub owners_used : Text → Text → List Text → List Row → List ℕ
owners_used name flag words rows = option_map_or (λ _. owners_in flag words) (all_of name rows) []

-- the moment that a word is
abbrev pub moment_read : Text → Option ℕ
moment_read word = if is_moment word then Some (value_of word) else None

module _ (values : List Text) where
  -- the moment that is the value at a place, if there is one
  abbrev pub moment_at : ℕ → Option ℕ
  moment_at place = option_and_then moment_read (slice_get values place)

  -- the uses with a moment alone go with added jobs that rise, from more than this one on; the first use is at this place
  abbrev pub rises_from : ℕ → ℕ → List ℕ → Bool
  rises_from place last [] = true
  rises_from place last (owner ∷ owners) = if is_some (moment_at place) then nat_lt last owner && rises_from (place + 1) owner owners
      else rises_from (place + 1) last owners

  -- each use with a moment alone goes with an added job, and no two with the same one
  abbrev pub rises : List ℕ → Bool
  rises = rises_from 0 0

  -- the moment that a use has for the n-th added job, if it goes with that one
  abbrev pub moment_for : ℕ → ℕ → ℕ → Option ℕ
  moment_for n place owner = if owner == n then moment_at place else None

  -- the moment that goes with the n-th added job, by uses of which the first is at this place
  abbrev pub moment_from : ℕ → ℕ → List ℕ → Option ℕ
  moment_from n place [] = None
  moment_from n place (owner ∷ owners) = option_or (moment_for n place owner) (moment_from n (place + 1) owners)

-- the moment that goes with the n-th added job, if one does
abbrev pub moment_with : List ℕ → List Text → ℕ → Option ℕ
moment_with owners values n = moment_from values n 0 owners

-- ---- what a value is

abbrev pub is_equals : ℕ → Bool
is_equals b = b == 61

-- the number before the first equals sign of a word
abbrev pub number_before : Text → ℕ
number_before word = value_of (before_first is_equals word)

-- the moment behind it
abbrev pub moment_behind : Text → ℕ
moment_behind word = value_of (after_first is_equals word)

-- `M=T` or `J=R`: a number of 1 to 9 digits, and a moment behind the first equals sign
abbrev pub is_timed : Text → Bool
is_timed word = is_short (before_first is_equals word) && is_moment (after_first is_equals word)

-- `J=ROUTE`: a number of 1 to 9 digits, and any text behind the first equals sign; a route is judged with the shop
abbrev pub is_routed : Text → Bool
is_routed word = nat_lt (position_or_len is_equals word) (length word) && is_short (before_first is_equals word)

-- whether a value asks for a change of its own
abbrev pub is_own : ChangeForm → Text → Bool
is_own Until word = is_timed word
is_own Add word = true
is_own Route word = is_routed word
is_own Release word = is_timed word
is_own Budget word = is_timed word
is_own Hold word = is_timed word
is_own Scrap word = is_short word
is_own Down word = is_short word

-- whether it asks for nothing of its own here: a moment alone, of `--release` or `--budget`, goes with an added job, and a use of `--down` holds a machine only with a moment
abbrev pub is_passed_over : ChangeForm → Text → Bool
is_passed_over Until word = false
is_passed_over Add word = false
is_passed_over Route word = false
is_passed_over Release word = is_moment word
is_passed_over Budget word = is_moment word
is_passed_over Hold word = not (is_timed word)
is_passed_over Scrap word = false
is_passed_over Down word = is_timed word

-- whether it asks for anything
abbrev pub is_such : ChangeForm → Text → Bool
is_such form word = is_passed_over form word || is_own form word

-- the option's name
abbrev pub option_of : ChangeForm → Text
option_of Until = codes "until"
option_of Add = codes "add"
option_of Route = codes "route"
option_of Release = codes "release"
option_of Budget = codes "budget"
option_of Hold = codes "down"
option_of Scrap = codes "scrap"
option_of Down = codes "down"

-- all forms of a change that options ask for, in the order in which the changes are made
abbrev pub every_form : List ChangeForm
every_form = Until ∷ Add ∷ Route ∷ Release ∷ Budget ∷ Hold ∷ Scrap ∷ Down ∷ []

-- ---- which name goes with which change

-- whether the use of `--down` at a place of these values holds a machine
abbrev pub holds_at : List Text → ℕ → Bool
holds_at downs place = option_map_or is_timed (slice_get downs place) false

-- what a name goes with behind the use of `--down` at a place, which has this number: with it where it holds a machine, else with what was there before
abbrev pub owner_behind : List Text → ℕ → ℕ → NameOwner → NameOwner
owner_behind downs place n last = if holds_at downs place then Held n else last

-- what each use of `--name` goes with: the last `--add` or `--down M=T` before it, beside so many uses of both; behind a word `--` no option stands
abbrev pub named_from : List Text → ℕ → ℕ → NameOwner → List Text → List NameOwner
named_from downs added stopped last [] = []
named_from downs added stopped last (word ∷ words) = if bytes_eq word (codes "--") then []
    else if uses (codes "--name") word then last ∷ named_from downs added stopped last words
    else if uses (codes "--add") word then named_from downs (added + 1) stopped (Added (added + 1)) words
    else if uses (codes "--down") word then named_from downs added (stopped + 1) (owner_behind downs stopped (stopped + 1) last) words
    else named_from downs added stopped last words

abbrev pub named_in : List Text → List Text → List NameOwner
named_in downs = named_from downs 0 0 Nobody

-- so where names are given; else there are none
abbrev pub names_used : List Text → List Row → List NameOwner
names_used words rows = option_map_or (λ _. named_in (values_of (codes "down") rows) words) (all_of (codes "name") rows) []

-- both are the same
abbrev pub is_same_owner : NameOwner → NameOwner → Bool
is_same_owner Nobody Nobody = true
is_same_owner (Added n) (Added m) = n == m
is_same_owner (Held n) (Held m) = n == m
is_same_owner one other = false

-- each goes with another one than that before it, the first with another than this one; so the first with a change, and no two with one, since none goes with an earlier one
abbrev pub goes_on : NameOwner → List NameOwner → Bool
goes_on last [] = true
goes_on last (owner ∷ owners) = not (is_same_owner owner last) && goes_on owner owners

-- the value that goes with one of them, by uses of which the first is at this place
abbrev pub name_from : List Text → NameOwner → ℕ → List NameOwner → Option Text
name_from values of place [] = None
name_from values of place (owner ∷ owners) = if is_same_owner owner of then slice_get values place else name_from values of (place + 1) owners

-- what a change of this form is as the owner of a name, which is the n-th value of its option
abbrev pub owner_of : ChangeForm → ℕ → NameOwner
owner_of Add n = Added n
owner_of Hold n = Held n
owner_of form n = Nobody

-- ---- what is asked for

-- a change as it is asked for: its value, what that asks for, and its name
abbrev pub Seen : Type 0
Seen = Text × ChangeKind × Option Text

abbrev pub change_seen : AskedChange → Seen
change_seen change = (string_bytes change.value, change.kind, option_map string_bytes change.name)

module _ (released promised : List ℕ) (rows : List Row) where
  -- what a value of an option asks for by itself, which is its n-th one
  abbrev pub kind_in : ChangeForm → ℕ → Text → ChangeKind
  kind_in Until n word = Lasts (number_before word) (moment_behind word)
  kind_in Add n word = Adds (moment_with released (values_of (codes "release") rows) n) (moment_with promised (values_of (codes "budget") rows) n)
  kind_in Route n word = Leads (number_before word)
  kind_in Release n word = Dates (number_before word) (moment_behind word)
  kind_in Budget n word = Promises (number_before word) (moment_behind word)
  kind_in Hold n word = Holds (number_before word) (moment_behind word)
  kind_in Scrap n word = Scraps (value_of word)
  kind_in Down n word = Stops (value_of word)

-- the name that goes with the n-th value of an option in this form
abbrev pub name_in : List NameOwner → List Row → ChangeForm → ℕ → Option Text
name_in called rows form n = name_from (values_of (codes "name") rows) (owner_of form n) 0 called

module _ (released promised : List ℕ) (called : List NameOwner) (rows : List Row) where
  -- that change, or none where it asks for nothing of its own
  abbrev pub asked_one : ChangeForm → ℕ → Text → List Seen
  asked_one form n word = if is_passed_over form word then [] else (word, kind_in released promised rows form n word, name_in called rows form n) ∷ []

  -- what the values of an option ask for, of which the first is its n-th one
  abbrev pub asked_from : ChangeForm → ℕ → List Text → List Seen
  asked_from form n [] = []
  asked_from form n (word ∷ words) = asked_one form n word ++ asked_from form (n + 1) words

  abbrev pub asked_by : ChangeForm → List Seen
  asked_by form = asked_from form 1 (values_of (option_of form) rows)

  -- what these forms ask for
  abbrev pub asked_of : List ChangeForm → List Seen
  asked_of [] = []
  asked_of (form ∷ forms) = asked_by form ++ asked_of forms

  -- what all of them ask for, in the order in which the changes are made
  abbrev pub all_asked : List Seen
  all_asked = asked_of every_form

-- the changes that are asked for, in the order in which they are made
abbrev pub changes_in : List Text → List Row → List Seen
changes_in words rows =
    all_asked (owners_used (codes "release") (codes "--release") words rows) (owners_used (codes "budget") (codes "--budget") words rows) (names_used words rows) rows

-- ---- why they are refused

-- why these values are refused, or nothing
abbrev pub values_misfit : (Text → Bool) → List Text → Kinds
values_misfit is_such values = if list_all is_such values then [] else ValueValidation ∷ []

-- why an option that goes with added jobs is refused, or nothing: each use with a moment alone stands behind an added job, and no two behind the same one
abbrev pub attached_misfit : Text → Text → List Text → List Row → Kinds
attached_misfit name flag words rows = if rises (values_of name rows) (owners_used name flag words rows) then [] else ArgumentConflict ∷ []

-- why names are refused, or nothing: each goes with a change, and no two with the same one
abbrev pub names_misfit : List Text → List Row → Kinds
names_misfit words rows = if goes_on Nobody (names_used words rows) then [] else ArgumentConflict ∷ []

-- so of an option that asks for a change
abbrev pub form_misfit : List Row → ChangeForm → Kinds
form_misfit rows form = values_misfit (is_such form) (values_of (option_of form) rows)

-- so of these forms
abbrev pub misfit_by : List Row → List ChangeForm → Kinds
misfit_by rows [] = []
misfit_by rows (form ∷ forms) = or_else (form_misfit rows form) (misfit_by rows forms)

-- so of all that do
abbrev pub forms_misfit : List Row → Kinds
forms_misfit rows = misfit_by rows every_form

-- so of the changes
abbrev pub revision_misfit : List Text → List Row → Kinds
revision_misfit words rows = or_else (attached_misfit (codes "release") (codes "--release") words rows)
    (or_else (attached_misfit (codes "budget") (codes "--budget") words rows) (or_else (names_misfit words rows) (forms_misfit rows)))
