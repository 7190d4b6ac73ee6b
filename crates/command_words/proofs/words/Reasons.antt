-- Which reasons a fault names.
use Rattle.std.proofs.Common.{◌≡◌, ◌∙◌, [], ◌∷◌, List, Option, Some, None, option_map, Result, Ok, Err, IfOk, IfErr, IsErrAnd, ap, ap₂, subst, sym, refl, inl}
use Rattle.std.specs.Box.{box_value}
use Rattle.clap.specs.Words.{IsAmong, Kinds, Row, Text, found_of, rows_of, subcommand_name_of, subcommand_rows_of}
use Rattle.clap.specs.Kinds.{or_else}
use Rattle.clap.specs.declared.error.kind.ErrorKind.{ErrorKind}
use Rattle.clap.specs.declared.parser.matches.ArgMatches.{ArgMatches}
use Rattle.clap.specs.declared.parser.matches.ArgMatches.TheViews.{out-ArgMatches, out-SubCommand}
use Rattle.command_words.specs.Choice.{IsFaultOf, NamesOneOf, NamesReason}
use Rattle.command_words.specs.declared.words.Chosen.{Chosen}
use Rattle.command_words.specs.declared.words.WordsFault.{WordsFault}
use Rattle.command_words.specs.declared.words.WordsFault.TheVariants.{Usage, Memory}

reason_named : (kind : ErrorKind) (fault : WordsFault) → IsFaultOf kind fault → NamesReason kind fault
reason_named kind Memory is = tt
reason_named kind (Usage help text) is = is

pub names_reason : (kind same : ErrorKind) (fault : WordsFault) → kind ≡ same → IsFaultOf kind fault → NamesReason same fault
names_reason kind same fault e is = subst (λ k. NamesReason k fault) e (reason_named kind fault is)

-- it names the only one
pub names_only : (kind : ErrorKind) (kinds : Kinds) (fault : WordsFault) → kinds ≡ kind ∷ [] → NamesReason kind fault → NamesOneOf kinds fault
names_only kind kinds fault only is = subst (λ (ks : Kinds). NamesOneOf ks fault) (sym only) (named fault is)
  where
    named : (f : WordsFault) → NamesReason kind f → NamesOneOf (kind ∷ []) f
    named Memory is = tt
    named (Usage help text) is = (kind, inl refl, is.1)

-- ---- some reasons, or else others

among_first : (kind : ErrorKind) (first next : Kinds) → IsAmong kind first → IsAmong kind (or_else first next)
among_first kind [] next is = absurd is
among_first kind (k ∷ ks) next is = is

pub names_first : (first next : Kinds) (fault : WordsFault) → NamesOneOf first fault → NamesOneOf (or_else first next) fault
names_first first next Memory is = tt
names_first first next (Usage help text) is = (is.0, among_first is.0 first next is.1, is.2)

pub names_next : (first next other : Kinds) (read : Result Chosen WordsFault) → first ≡ [] → other ≡ next → IfErr read (NamesOneOf other) → IfErr read (NamesOneOf (or_else first next))
names_next first next other (Ok chosen) none same is = tt
names_next first next other (Err fault) none same is =
    subst (λ (ks : Kinds). NamesOneOf (or_else ks next) fault) (sym none) (subst (λ (ks : Kinds). NamesOneOf ks fault) same is)

pub no_reasons : (first next other : Kinds) (read : Result Chosen WordsFault) → first ≡ [] → other ≡ next → IfOk read (λ _. other ≡ []) → IfOk read (λ _. or_else first next ≡ [])
no_reasons first next other (Ok chosen) none same is = ap (λ (ks : Kinds). or_else ks next) none ∙ sym same ∙ is
no_reasons first next other (Err fault) none same is = tt

-- a fault of those that follow where the first finds none
pub names_later : (first next : Kinds) (fault : WordsFault) → first ≡ [] → NamesOneOf next fault → NamesOneOf (or_else first next) fault
names_later first next fault none is = subst (λ (ks : Kinds). NamesOneOf (or_else ks next) fault) (sym none) is

-- nothing is found first
pub none_first : (first next : Kinds) → first ≡ [] → or_else first next ≡ next
none_first first next none = ap (λ (ks : Kinds). or_else ks next) none

-- the fault is passed on
pub passed_on : {A : Type 0} (Is : WordsFault → Type 0) (read : Result A WordsFault) (fault : WordsFault) → IsErrAnd read (λ passed. passed ≡ fault) → Is fault → IfErr read Is
passed_on Is (Ok chosen) fault passed is = tt
passed_on Is (Err reason) fault passed is = subst Is (sym passed) is

-- ---- the command that was found, by its word and its matches

found_pair : {B : Type 0} (name : B → Text) (rows : B → List Row) (b : Option B) (word : Text) (these : List Row) → Some word ≡ option_map name b
    → Some these ≡ option_map (λ (p : Text × List Row). p.1) (option_map {U = Text × List Row} (λ (x : B). (name x, rows x)) b)
    → option_map {U = Text × List Row} (λ (x : B). (name x, rows x)) b ≡ Some (word, these)
found_pair name rows None word these named given = absurd (cc)
found_pair name rows (Some x) word these named given =
    let one : name x ≡ word = cc in
    let other : rows x ≡ these = cc in
    ap₂ (λ (w : Text) (r : List Row). Some (w, r)) one other

pub found_same : (m : ArgMatches) (word : Text) (these : List Row) → Some word ≡ subcommand_name_of m → Some these ≡ option_map (λ (p : Text × List Row). p.1) (subcommand_rows_of m)
    → subcommand_rows_of m ≡ Some (word, these)
found_same m word these named given =
    found_pair (λ b. (out-SubCommand (box_value b)).name.now) (λ b. rows_of (found_of (out-SubCommand (box_value b)).matches)) (out-ArgMatches m).subcommand word these named given
