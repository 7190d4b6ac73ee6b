-- Where a command without commands of its own takes the words, the values of each argument are as many as it takes, and pass its parser.
use Rattle.std.proofs.Common.{◌≡◌, ◌∙◌, ◌⊎◌, ◌≤◌, ◌==◌, ◌&&◌, ◌||◌, ℕ, Bool, cond, true, false, zero, suc, refl, sym, ap, subst, arith, List, [], ◌∷◌, ◌++◌, length, Option, Some, None, inl, inr, not, nat_lt, true≢false}
use Rattle.std.specs.Prelude.{drop, slice_get, encode_utf8}
use Rattle.std.specs.List.{find, fold, list_any}
use Rattle.std.specs.Option.{option_map_or}
use Rattle.std.specs.Str.{bytes_eq, chars}
use Rattle.std.proofs.lemmas.Bool.{eqb-true, ltb-false}
use Rattle.std.proofs.lemmas.List.{length-append}
use Rattle.std.proofs.lemmas.Slice.Eq.{bytes_eq-Decides}
use Rattle.clap.specs.Facts.{explicit_source, unwrap_or_range}
use Rattle.clap.specs.Lexer.{long_of, short_of}
use Rattle.clap.specs.Walk.{Held, Names, Outcome, Row, Rule, Step, Text, Waiting, Walk, action_of, after_flag, after_step, arg_by_id, arg_by_index, arg_by_long, arg_by_short}
use Rattle.clap.specs.Walk.{at_row, attached_value, bundle_met, bundle_step, done, plain as plain_flag, flag_met, has_row, idle, is_empty, long_met, most_values, more_values, nothing_held, option, positional, option_met, option_word}
use Rattle.clap.specs.Walk.{plain_word, reacted, reading_by, refused, settled, settled_rows, short_met, stronger, takes_values, to_positional, trailing, next, subcommand, used, used_as, used_by_id, value, values_or_missing, waits, walk, walk_from, walked, walked_from, with_default, without, with_values, word_met, subcommand_met, subcommand_or_other, is_pending, takes_several, rows_after, long_or_other, short_or_plain}
use Rattle.clap.specs.Simple.{Shape}
use Rattle.clap.specs.Takes.{is_given}
use Rattle.clap.specs.Kinds.{Kinds, or_else, range_kinds, check_kinds}
use Rattle.clap.specs.Faults.{action_fault, bundle_step_fault, check_fault, default_fault, defaults_fault, flags_fault, level_fault, long_fault, option_fault, other_fault, positional_fault, react_fault, settle_fault, short_fault, step_fault, turn_fault, use_fault, values_fault, walk_fault, word_fault}
use Rattle.clap.specs.declared.builder.action.ArgAction.{ArgAction}
use Rattle.clap.specs.declared.builder.action.ArgAction.TheVariants.{Set, Append, SetTrue, Help}
use Rattle.clap.specs.declared.parser.matches.ValueSource.{ValueSource}
use Rattle.clap.specs.declared.parser.matches.ValueSource.TheVariants.{DefaultValue, CommandLine}

abbrev pub least_of : Rule → ℕ
least_of a = (unwrap_or_range a.range).start_inclusive

-- the values are as many as the argument takes, pass its parser, and are read as it says
pub record Fit (a : Rule) (r : Row) : Type 0 where
  pub least : least_of a ≤ length r.values
  pub most : action_of a ≡ Set → length r.values ≤ most_values a
  pub passes : values_fault a r.values ≡ []
  pub reading : r.reading ≡ reading_by a

-- the row is that of an argument, and fits it
abbrev pub FitRow : List Rule → Row → Type 0
FitRow c r = (a : Rule) × (arg_by_id c r.id ≡ Some a) × Fit a r

abbrev pub FitRows : List Rule → List Row → Type 0
FitRows c [] = Unit {0}
FitRows c (r ∷ rs) = FitRow c r × FitRows c rs

-- an argument whose values are those that it is used with
pub record IsValued (a : Rule) : Type 0 where
  pub missing : a.missing ≡ []
  pub action : (action_of a ≡ Set) ⊎ ((action_of a ≡ Append) ⊎ (action_of a ≡ Help))
  pub defaults : (is_empty a.defaults ≡ true) ⊎ ((least_of a ≤ length a.defaults) × (length a.defaults ≤ most_values a))

-- a switch, which is used without a value
pub record IsSwitch (a : Rule) : Type 0 where
  pub least : least_of a ≡ 0
  pub action : action_of a ≡ SetTrue

-- an argument of the fair kinds, alone with its id
pub record PlainRule (c : List Rule) (a : Rule) : Type 0 where
  pub own : arg_by_id c a.id ≡ Some a
  pub kind : IsValued a ⊎ IsSwitch a

-- nothing limits the values of a switch
switch_most : (a : Rule) (n : ℕ) → IsSwitch a → action_of a ≡ Set → n ≤ most_values a
switch_most a n switch sets = (let bad : Set ≡ SetTrue = sym sets ∙ switch.action in cc)

switch_least : (a : Rule) (n : ℕ) → IsSwitch a → least_of a ≤ n
switch_least a n switch = omega (arith, switch.least)

abbrev pub PlainRules : List Rule → List Rule → Type 0
PlainRules c [] = Unit {0}
PlainRules c (a ∷ rest) = PlainRule c a × PlainRules c rest

pub both_none : (a b : Kinds) → or_else a b ≡ [] → (a ≡ []) × (b ≡ [])
both_none [] b e = (refl, e)
both_none (k ∷ ks) b e = cc

found_plain : (c xs : List Rule) → PlainRules c xs → (p : Rule → Bool) (a : Rule) → find p xs ≡ Some a → PlainRule c a
found_plain c [] h p a e = cc
found_plain c (x ∷ xs) h p a e = go (p x) (found_plain c xs h.1 p a) e
  where
    go : (b : Bool) → (find p xs ≡ Some a → PlainRule c a) → cond b (Some x) (find p xs) ≡ Some a → PlainRule c a
    go true later is = let same : x ≡ a = cc in subst (PlainRule c) same h.0
    go false later is = later is

-- ---- rows

new_fits : (c : List Rule) (id : Text) (change : Row → List Row) (missing rows : List Row) → has_row id rows ≡ false
    → FitRows c rows → FitRows c missing → FitRows c (at_row id change missing rows)
new_fits c id change missing [] none h m = m
new_fits c id change missing (r ∷ rs) none h m = go (bytes_eq r.id id) (λ n. new_fits c id change missing rs n h.1 m) none
  where
    go : (b : Bool) → (has_row id rs ≡ false → FitRows c (at_row id change missing rs)) → (b || has_row id rs) ≡ false
        → FitRows c (cond b (change r ++ rs) (r ∷ at_row id change missing rs))
    go true later n = cc
    go false later n = (h.0, later n)

kept : (id : Text) (rows : List Row) → has_row id rows ≡ false → without id rows ≡ rows
kept id [] none = refl
kept id (r ∷ rs) none = go (bytes_eq r.id id) (kept id rs) none
  where
    go : (b : Bool) → (has_row id rs ≡ false → without id rs ≡ rs) → (b || has_row id rs) ≡ false → cond b ([] ++ rs) (r ∷ without id rs) ≡ r ∷ rs
    go true later n = cc
    go false later n = ap (λ xs. r ∷ xs) (later n)

more_fits : (c : List Rule) (id : Text) (s : ValueSource) (vs : List Text) (missing rows : List Row)
    → ((r : Row) → r.id ≡ id → FitRow c r → FitRow c (record r { values = r.values ++ vs; source = Some (stronger r.source s) }))
    → FitRows c rows → FitRows c missing → FitRows c (at_row id (more_values s vs) missing rows)
more_fits c id s vs missing [] more h m = m
more_fits c id s vs missing (r ∷ rs) more h m = go (bytes_eq r.id id) refl (more_fits c id s vs missing rs more h.1 m)
  where
    go : (b : Bool) → bytes_eq r.id id ≡ b → FitRows c (at_row id (more_values s vs) missing rs)
        → FitRows c (cond b (more_values s vs r ++ rs) (r ∷ at_row id (more_values s vs) missing rs))
    go true is later = (more r ((bytes_eq-Decides r.id id).0 is) h.0, h.1)
    go false is later = (h.0, later)

-- ---- one use

given : (a : Rule) (values : List Text) → a.missing ≡ [] → values_or_missing a values ≡ values
given a [] none = none
given a (v ∷ vs) none = refl

in_range : (least most n : ℕ) → range_kinds least most n ≡ [] → (least ≤ n) × (n ≤ most)
in_range least most n e = go (nat_lt 0 least && n == 0) (least == most) (least == n) (nat_lt n least) (nat_lt most n) refl refl refl refl e
  where
    go : (none one same few many : Bool) → (least == most) ≡ one → (least == n) ≡ same → nat_lt n least ≡ few → nat_lt most n ≡ many
        → cond none (Rattle.clap.specs.declared.error.kind.ErrorKind.TheVariants.InvalidValue ∷ [])
        (cond one (cond same [] (Rattle.clap.specs.declared.error.kind.ErrorKind.TheVariants.WrongNumberOfValues ∷ []))
        (cond few (Rattle.clap.specs.declared.error.kind.ErrorKind.TheVariants.TooFewValues ∷ [])
        (cond many (Rattle.clap.specs.declared.error.kind.ErrorKind.TheVariants.TooManyValues ∷ []) []))) ≡ []
        → (least ≤ n) × (n ≤ most)
    go true one same few many p q r s e = cc
    go false true true few many p q r s e =
        let x = eqb-true least most p in
        let y = eqb-true least n q in
        (omega arith, omega arith)
    go false true false few many p q r s e = cc
    go false false same true many p q r s e = cc
    go false false same false true p q r s e = cc
    go false false same false false p q r s e = (ltb-false n least r, ltb-false most n s)

join_passes : (a : Rule) (xs ys : List Text) → values_fault a xs ≡ [] → values_fault a ys ≡ [] → values_fault a (xs ++ ys) ≡ []
join_passes a [] ys d e = e
join_passes a (x ∷ xs) ys d e =
    let p = both_none _ (values_fault a xs) d in
    ap (λ k. or_else k (values_fault a (xs ++ ys))) p.0 ∙ join_passes a xs ys p.1 e

-- the row that a first use makes
new_row : (c : List Rule) (a : Rule) (s : ValueSource) (vs : List Text) → PlainRule c a → least_of a ≤ length vs → (action_of a ≡ Set → length vs ≤ most_values a) → values_fault a vs ≡ []
    → FitRow c (record { id = a.id; values = vs; count = None; source = Some s; reading = reading_by a })
new_row c a s vs fair low high passes = (a, fair.own, record { least = low; most = high; passes = passes; reading = refl })

set_fits : (c : List Rule) (a : Rule) (vs : List Text) (rows : List Row) → PlainRule c a → least_of a ≤ length vs → (action_of a ≡ Set → length vs ≤ most_values a)
    → has_row a.id rows ≡ false → values_fault a vs ≡ [] → FitRows c rows → FitRows c (with_values a.id (reading_by a) CommandLine vs (without a.id rows))
set_fits c a vs rows fair low high none passes h =
    let one = new_row c a CommandLine vs fair low high passes in
    subst (λ (xs : List Row). FitRows c (with_values a.id (reading_by a) CommandLine vs xs)) (sym (kept a.id rows none))
    (new_fits c a.id (more_values CommandLine vs) _ rows none h (one, tt))

append_fits : (c : List Rule) (a : Rule) (vs : List Text) (rows : List Row) → PlainRule c a → action_of a ≡ Append → least_of a ≤ length vs → length vs ≤ most_values a
    → values_fault a vs ≡ [] → FitRows c rows → FitRows c (with_values a.id (reading_by a) CommandLine vs rows)
append_fits c a vs rows fair appends low high passes h =
    more_fits c a.id CommandLine vs _ rows more h (new_row c a CommandLine vs fair low (λ _. high) passes, tt)
  where
    more : (r : Row) → r.id ≡ a.id → FitRow c r → FitRow c (record r { values = r.values ++ vs; source = Some (stronger r.source CommandLine) })
    more r is f =
        let own : Some f.0 ≡ Some a = sym f.1 ∙ ap (arg_by_id c) is ∙ fair.own in
        let same : f.0 ≡ a = cc in
        let fit : Fit a r = subst (λ (x : Rule). Fit x r) same f.2 in
        let long = length-append r.values vs in (
          a,
          ap (arg_by_id c) is ∙ fair.own,
          record {
            least = omega (arith, long, low, fit.least);
            most = λ sets. let bad : Set ≡ Append = sym sets ∙ appends in cc;
            passes = join_passes a r.values vs fit.passes passes;
            reading = fit.reading;
          },
        )

not_repeated : (has again : Bool) → again ≡ false → cond (has && not again) (Rattle.clap.specs.declared.error.kind.ErrorKind.TheVariants.ArgumentConflict ∷ []) [] ≡ [] → has ≡ false
not_repeated false again once e = refl
not_repeated true true once e = once
not_repeated true false once e = cc

valued_fits : (c : List Rule) (again : Bool) → again ≡ false → (a : Rule) (values : List Text) (rows : List Row) → PlainRule c a → IsValued a → use_fault again a values rows ≡ []
    → FitRows c rows → FitRows c (used a values rows)
valued_fits c again once a values rows fair valued e h =
    let parts = both_none (range_kinds (least_of a) (most_values a) (length values)) (action_fault (action_of a) again a (values_or_missing a values) rows) e in
    let range = in_range (least_of a) (most_values a) (length values) parts.0 in
    let same = given a values valued.missing in
    let acts : action_fault (action_of a) again a values rows ≡ [] = subst (λ (vs : List Text). action_fault (action_of a) again a vs rows ≡ []) same parts.1 in
    subst (λ (vs : List Text). FitRows c (used_as (action_of a) a.id (reading_by a) vs rows)) (sym same) (by_action range.0 range.1 acts valued.action)
  where
    by_action : least_of a ≤ length values → length values ≤ most_values a → action_fault (action_of a) again a values rows ≡ []
        → (action_of a ≡ Set) ⊎ ((action_of a ≡ Append) ⊎ (action_of a ≡ Help)) → FitRows c (used_as (action_of a) a.id (reading_by a) values rows)
    by_action low high acts (inl sets) =
        let as_set : action_fault Set again a values rows ≡ [] = subst (λ (x : ArgAction). action_fault x again a values rows ≡ []) sets acts in
        let parts = both_none _ (values_fault a values) as_set in
        subst (λ (x : ArgAction). FitRows c (used_as x a.id (reading_by a) values rows)) (sym sets)
        (set_fits c a values rows fair low (λ _. high) (not_repeated (has_row a.id rows) again once parts.0) parts.1 h)
    by_action low high acts (inr (inl appends)) =
        let passes : action_fault Append again a values rows ≡ [] = subst (λ (x : ArgAction). action_fault x again a values rows ≡ []) appends acts in
        subst (λ (x : ArgAction). FitRows c (used_as x a.id (reading_by a) values rows)) (sym appends)
        (append_fits c a values rows fair appends low high passes h)
    by_action low high acts (inr (inr helps)) =
        let bad : action_fault Help again a values rows ≡ [] = subst (λ (x : ArgAction). action_fault x again a values rows ≡ []) helps acts in
        cc

switch_fits : (c : List Rule) (again : Bool) → again ≡ false → (a : Rule) (values : List Text) (rows : List Row) → PlainRule c a → IsSwitch a → use_fault again a values rows ≡ []
    → FitRows c rows → FitRows c (used a values rows)
switch_fits c again once a values rows fair switch e h =
    let vs = values_or_missing a values in
    let parts = both_none (range_kinds (least_of a) (most_values a) (length values)) (action_fault (action_of a) again a (values_or_missing a values) rows) e in
    let acts : action_fault SetTrue again a vs rows ≡ [] = subst (λ (x : ArgAction). action_fault x again a vs rows ≡ []) switch.action parts.1 in
    let faults = both_none _ (values_fault a vs) acts in
    subst (λ (x : ArgAction). FitRows c (used_as x a.id (reading_by a) vs rows)) (sym switch.action)
    (set_fits c a vs rows fair (switch_least a (length vs) switch) (switch_most a (length vs) switch) (not_repeated (has_row a.id rows) again once faults.0) faults.1 h)

used_fits : (c : List Rule) (again : Bool) → again ≡ false → (a : Rule) (values : List Text) (rows : List Row) → PlainRule c a → use_fault again a values rows ≡ []
    → FitRows c rows → FitRows c (used a values rows)
used_fits c again once a values rows fair e h = elim fair.kind [
  | inl valued ↦ valued_fits c again once a values rows fair valued e h
  | inr switch ↦ switch_fits c again once a values rows fair switch e h
]

-- ---- the walk

module _ (c : List Rule) (again : Bool) (once : again ≡ false) (plains : PlainRules c c) where
  settle_fits : (pending : Option (Text × List Text)) (rows : List Row)
      → option_map_or (λ p. option_map_or (λ a. use_fault again a p.1 rows) (arg_by_id c p.0) []) pending [] ≡ []
      → FitRows c rows → FitRows c (settled_rows c pending rows)
  settle_fits None rows e h = h
  settle_fits (Some p) rows e h = go (arg_by_id c p.0) refl e
    where
      go : (o : Option Rule) → arg_by_id c p.0 ≡ o → option_map_or (λ a. use_fault again a p.1 rows) o [] ≡ [] → FitRows c (used_by_id o p.1 rows)
      go None is e = h
      go (Some a) is e = used_fits c again once a p.1 rows (found_plain c c plains _ a is) e h

  react_fits : (a : Rule) (values : List Text) (h : Held) → PlainRule c a → react_fault c again a values h ≡ [] → FitRows c h.rows → FitRows c (reacted c a values h).rows
  react_fits a values h fair e ok =
      let parts = both_none (settle_fault c again h) _ e in
      used_fits c again once a values (settled c h).rows fair parts.1 (settle_fits h.pending h.rows parts.0 ok)

  option_fits : (a : Rule) (v : Option Text) (h : Held) → PlainRule c a → option_fault c again a v h ≡ [] → FitRows c h.rows → FitRows c (option_met c a v h).0.rows
  option_fits a (Some v) h fair e ok = react_fits a (v ∷ []) h fair e ok
  option_fits a None h fair e ok = settle_fits h.pending h.rows e ok

  flag_fits : (a : Rule) (v : Option Text) (h : Held) → PlainRule c a
      → cond (Rattle.std.specs.Option.is_some v) (Rattle.clap.specs.declared.error.kind.ErrorKind.TheVariants.TooManyValues ∷ []) (react_fault c again a [] h) ≡ []
      → FitRows c h.rows → FitRows c (flag_met c a v h).0.rows
  flag_fits a (Some v) h fair e ok = ok
  flag_fits a None h fair e ok = react_fits a [] h fair e ok

  long_fits : (found : Option Rule) → ((a : Rule) → found ≡ Some a → PlainRule c a) → (v : Option Text) (h : Held) → long_fault c again found v h ≡ []
      → FitRows c h.rows → FitRows c (long_met c found v h).0.rows
  long_fits None fair v h e ok = ok
  long_fits (Some a) fair v h e ok = go (takes_values a) e
    where
      go : (b : Bool) → cond b (option_fault c again a v h)
          (cond (Rattle.std.specs.Option.is_some v) (Rattle.clap.specs.declared.error.kind.ErrorKind.TheVariants.TooManyValues ∷ []) (react_fault c again a [] h)) ≡ []
          → FitRows c (cond b (option_met c a v h) (flag_met c a v h)).0.rows
      go true e = option_fits a v h (fair a refl) e ok
      go false e = flag_fits a v h (fair a refl) e ok

  short_fits : (found : Option Rule) → ((a : Rule) → found ≡ Some a → PlainRule c a) → (rest : Text) (h : Held) (fault : Held → Kinds) (met : Held → Held × Outcome)
      → ((g : Held) → fault g ≡ [] → FitRows c g.rows → FitRows c (met g).0.rows) → short_fault c again found rest h fault ≡ []
      → FitRows c h.rows → FitRows c (short_met c found rest h met).0.rows
  short_fits None fair rest h fault met later e ok = ok
  short_fits (Some a) fair rest h fault met later e ok = go (takes_values a) e
    where
      go : (b : Bool) → cond b (option_fault c again a (attached_value rest) h) (or_else (react_fault c again a [] h) (fault (reacted c a [] h))) ≡ []
          → FitRows c (cond b (option_met c a (attached_value rest) h) (met (reacted c a [] h))).0.rows
      go true e = option_fits a (attached_value rest) h (fair a refl) e ok
      go false e =
          let parts = both_none (react_fault c again a [] h) _ e in
          later (reacted c a [] h) parts.1 (react_fits a [] h (fair a refl) parts.0 ok)

  bundle_fits : (k : ℕ) (flags : Text) (skip : ℕ) (so_far : Outcome) (h : Held) → flags_fault c again k flags skip h ≡ [] → FitRows c h.rows
      → FitRows c (bundle_met c k flags skip so_far h).0.rows
  unfolding flags_fault bundle_met
  bundle_fits zero flags skip so_far h e ok = ok
  bundle_fits (suc k) flags skip so_far h e ok = go (slice_get (chars flags) 0) skip (bundle_fits k) e
    where
      go : (o : Option ℕ) (skip : ℕ)
          → ((rest : Text) (n : ℕ) (so : Outcome) (g : Held) → flags_fault c again k rest n g ≡ [] → FitRows c g.rows → FitRows c (bundle_met c k rest n so g).0.rows)
          → bundle_step_fault c again o flags skip h (flags_fault c again k) ≡ []
          → FitRows c (bundle_step c o flags skip so_far h (bundle_met c k)).0.rows
      go None skip later e = ok
      go (Some x) zero later e =
          let rest = drop (length (encode_utf8 x)) flags in
          short_fits (arg_by_short c x) (λ a is. found_plain c c plains _ a is) rest h (flags_fault c again k rest 0) (bundle_met c k rest 0 done)
          (λ g f fits. later rest 0 done g f fits) e ok
      go (Some x) (suc n) later e = later (drop (length (encode_utf8 x)) flags) n so_far h e ok

  option_word_rows : (found : Option Rule) (id word : Text) (h : Held) → FitRows c h.rows → FitRows c (option_word found id word h).0.rows
  option_word_rows None id word h ok = ok
  option_word_rows (Some a) id word h ok = ok

  plain_word_rows : (waiting : Waiting) (word : Text) (h : Held) → FitRows c h.rows → FitRows c (plain_word c waiting word h).0.rows
  plain_word_rows idle word h ok = ok
  plain_word_rows (option id) word h ok = option_word_rows (arg_by_id c id) id word h ok
  plain_word_rows positional word h ok = ok

  after_flag_rows : (waiting : Waiting) (word : Text) (h : Held) (o : Outcome) → FitRows c h.rows → FitRows c (after_flag c waiting word h o).0.rows
  after_flag_rows waiting word h done ok = ok
  after_flag_rows waiting word h (waits id) ok = ok
  after_flag_rows waiting word h plain_flag ok = plain_word_rows waiting word h ok
  after_flag_rows waiting word h refused ok = plain_word_rows waiting word h ok

  other_fits : (s : Shape) → s.rules ≡ c → s.args_override_self ≡ again → (o : Option Text) (waiting : Waiting) (position : ℕ) (word : Text) (h : Held)
      → other_fault s o word h ≡ [] → FitRows c h.rows → FitRows c (subcommand_or_other c o waiting position word h).0.rows
  other_fits s rules overrides (Some name) waiting position word h e ok = ok
  other_fits s rules overrides None waiting position word h e ok = go (bytes_eq word (45 ∷ 45 ∷ [])) as_mine
    where
      short : (flags : Option Text) → option_map_or (λ f. flags_fault c again (length f) f h.skip (record h { skip = 0 })) flags [] ≡ []
          → FitRows c (short_or_plain c waiting word flags h).0.rows
      short None e = plain_word_rows waiting word h ok
      short (Some flags) e = after_flag_rows waiting word _ _ (bundle_fits (length flags) flags h.skip plain_flag (record h { skip = 0 }) e ok)

      long : (p : Option (Text × Option Text)) → Rattle.clap.specs.Faults.flag_word_fault c again p word h ≡ [] → FitRows c (long_or_other c waiting word p h).0.rows
      long None e = short (short_of word) e
      long (Some p) e = after_flag_rows waiting word _ _ (long_fits (arg_by_long c p.0) (λ a is. found_plain c c plains _ a is) p.1 h e ok)

      as_mine : cond (bytes_eq word (45 ∷ 45 ∷ [])) [] (Rattle.clap.specs.Faults.flag_word_fault c again (long_of word) word h) ≡ []
      as_mine =
          subst (λ (b : Bool). cond (bytes_eq word (45 ∷ 45 ∷ [])) [] (Rattle.clap.specs.Faults.flag_word_fault c b (long_of word) word h) ≡ []) overrides
          (subst (λ (x : List Rule). cond (bytes_eq word (45 ∷ 45 ∷ [])) [] (Rattle.clap.specs.Faults.flag_word_fault x s.args_override_self (long_of word) word h) ≡ []) rules e)

      go : (b : Bool) → cond b [] (Rattle.clap.specs.Faults.flag_word_fault c again (long_of word) word h) ≡ []
          → FitRows c (cond b (h, trailing position) (long_or_other c waiting word (long_of word) h)).0.rows
      go true e = ok
      go false e = long (long_of word) e

  to_positional_fits : (found : Option Rule) (stray : Kinds) (word : Text) (w : Walk) (h : Held) → option_map_or (λ a. positional_fault c again a h) found stray ≡ []
      → FitRows c h.rows → FitRows c (to_positional c found word w h).held.rows
  to_positional_fits None stray word w h e ok = ok
  to_positional_fits (Some a) stray word w h e ok = go (is_pending a h.pending && takes_several a) e
    where
      go : (b : Bool) → cond b [] (settle_fault c again h) ≡ [] → FitRows c (cond b h (settled c h)).rows
      go true e = ok
      go false e = settle_fits h.pending h.rows e ok

module _ (s : Shape) (once : s.args_override_self ≡ false) (plains : PlainRules s.rules s.rules) where
  step_fits : (word : Text) (w : Walk) (h : Held) (st : Step) → step_fault s w.position h st ≡ [] → FitRows s.rules h.rows
      → FitRows s.rules (after_step s.rules word w h st).held.rows
  step_fits word w h (next waiting) e ok = ok
  step_fits word w h (trailing position) e ok = ok
  step_fits word w h (subcommand name) e ok = ok
  step_fits word w h value e ok =
      to_positional_fits s.rules s.args_override_self once plains (arg_by_index s.rules w.position) (Rattle.clap.specs.Faults.stray_fault s) word w h e ok

  turn_fits : (names : Names) (w : Walk) (word : Text) → turn_fault s names w word ≡ [] → FitRows s.rules w.held.rows
      → FitRows s.rules (walked s.rules names w word).held.rows
  unfolding walked
  turn_fits names w word e ok = go w.stopped e
    where
      met : (b : Bool) → cond b [] (other_fault s (subcommand_met names w.waiting word) word w.held) ≡ []
          → FitRows s.rules (cond b (w.held, value) (subcommand_or_other s.rules (subcommand_met names w.waiting word) w.waiting w.position word w.held)).0.rows
      met true e = ok
      met false e =
          other_fits s.rules s.args_override_self once plains s refl refl (subcommand_met names w.waiting word) w.waiting w.position word w.held e ok

      go : (o : Option (Text × List Text)) → cond (Rattle.std.specs.Option.is_some o) [] (or_else (word_fault s names w.is_trailing w.waiting word w.held)
          (step_fault s w.position (word_met s.rules names w.is_trailing w.waiting w.position word w.held).0
          (word_met s.rules names w.is_trailing w.waiting w.position word w.held).1)) ≡ []
          → FitRows s.rules (walked_from s.rules names o w word).held.rows
      go (Some p) e = ok
      go None e =
          let parts = both_none (word_fault s names w.is_trailing w.waiting word w.held) _ e in
          step_fits word w _ _ parts.1 (met w.is_trailing parts.0)

  walk_fits : (names : Names) (words : List Text) (w : Walk) → walk_fault s names w words ≡ [] → FitRows s.rules w.held.rows
      → FitRows s.rules (fold (walked s.rules names) w words).held.rows
  unfolding walk_fault
  walk_fits names [] w e ok = ok
  walk_fits names (word ∷ rest) w e ok =
      let parts = both_none (turn_fault s names w word) _ e in
      walk_fits names rest (walked s.rules names w word) parts.1 (turn_fits names w word parts.0 ok)

-- ---- defaults

nonempty : (v : Text) (vs : List Text) → is_empty (v ∷ vs) ≡ false
nonempty v vs = go (is_empty (v ∷ vs)) refl
  where
    go : (b : Bool) → is_empty (v ∷ vs) ≡ b → b ≡ false
    go true is = let bad = eqb-true (length (v ∷ vs)) 0 is in absurd (omega arith)
    go false is = refl

-- the defaults of an argument are none, or as many as it takes
abbrev HasRoomForDefaults : Rule → List Text → Type 0
HasRoomForDefaults a ds = (is_empty ds ≡ true) ⊎ ((least_of a ≤ length ds) × (action_of a ≡ Set → length ds ≤ most_values a))

default_room : (a : Rule) → IsValued a ⊎ IsSwitch a → HasRoomForDefaults a a.defaults
default_room a (inl valued) = elim valued.defaults [
  | inl none ↦ inl none
  | inr range ↦ inr (range.0, λ _. range.1)
]
default_room a (inr switch) = inr (switch_least a (length a.defaults) switch, switch_most a (length a.defaults) switch)

default_fits : (c : List Rule) (a : Rule) (rows : List Row) → PlainRule c a → default_fault rows a ≡ [] → FitRows c rows → FitRows c (with_default rows a)
default_fits c a rows fair e ok = go (has_row a.id rows) refl e
  where
    first : (ds : List Text) → has_row a.id rows ≡ false → HasRoomForDefaults a ds
        → cond (is_empty ds) [] (or_else (Rattle.clap.specs.Kinds.request_kinds (action_of a)) (values_fault a ds)) ≡ []
        → FitRows c (Rattle.clap.specs.Walk.default_rows a.id (reading_by a) ds rows)
    first [] none d e = ok
    first (v ∷ vs) none (inl bad) e = absurd (true≢false (sym bad ∙ nonempty v vs))
    first (v ∷ vs) none (inr range) e =
        let e_here = subst (λ (b : Bool). cond b [] (or_else (Rattle.clap.specs.Kinds.request_kinds (action_of a)) (values_fault a (v ∷ vs))) ≡ []) (nonempty v vs) e in
        let parts = both_none (Rattle.clap.specs.Kinds.request_kinds (action_of a)) (values_fault a (v ∷ vs)) e_here in
        new_fits c a.id (more_values DefaultValue (v ∷ vs)) _ rows none ok (new_row c a DefaultValue (v ∷ vs) fair range.0 range.1 parts.1, tt)

    go : (b : Bool) → has_row a.id rows ≡ b
        → cond (b || is_empty a.defaults) [] (or_else (Rattle.clap.specs.Kinds.request_kinds (action_of a)) (values_fault a a.defaults)) ≡ []
        → FitRows c (cond b rows (Rattle.clap.specs.Walk.default_rows a.id (reading_by a) a.defaults rows))
    go true is e = ok
    go false is e = first a.defaults is (default_room a fair.kind) e

defaults_fit : (c xs : List Rule) (rows : List Row) → PlainRules c xs → defaults_fault rows xs ≡ [] → FitRows c rows → FitRows c (fold with_default rows xs)
unfolding defaults_fault
defaults_fit c [] rows h e ok = ok
defaults_fit c (a ∷ rest) rows h e ok =
    let parts = both_none (default_fault rows a) _ e in
    defaults_fit c rest (with_default rows a) h.1 parts.1 (default_fits c a rows h.0 parts.0 ok)

-- ---- what is found at the end

-- the row that was found fits its argument; one that is required was found
abbrev pub FitFound : Option Rule → Option Row → Type 0
FitFound None None = Unit {0}
FitFound None (Some r) = ⊥
FitFound (Some a) None = a.required ≡ false
FitFound (Some a) (Some r) = Fit a r

find_fit : (c : List Rule) (rows : List Row) (id : Text) (r : Row) → FitRows c rows → find (λ x. bytes_eq x.id id) rows ≡ Some r
    → (a : Rule) × (arg_by_id c id ≡ Some a) × Fit a r
find_fit c [] id r ok e = cc
find_fit c (x ∷ xs) id r ok e = go (bytes_eq x.id id) refl (find_fit c xs id r ok.1) e
  where
    go : (b : Bool) → bytes_eq x.id id ≡ b → (find (λ y. bytes_eq y.id id) xs ≡ Some r → (a : Rule) × (arg_by_id c id ≡ Some a) × Fit a r)
        → cond b (Some x) (find (λ y. bytes_eq y.id id) xs) ≡ Some r → (a : Rule) × (arg_by_id c id ≡ Some a) × Fit a r
    go true is later e =
        let same : x ≡ r = cc in
        (ok.0.0, sym (ap (arg_by_id c) ((bytes_eq-Decides x.id id).0 is)) ∙ ok.0.1, subst (λ (y : Row). Fit ok.0.0 y) same ok.0.2)
    go false is later e = later e

none_passes : (p : Rule → Bool) (xs : List Rule) (q : Rule → Bool) (a : Rule) → list_any p xs ≡ false → find q xs ≡ Some a → (p a ≡ false) × (q a ≡ true)
none_passes p [] q a none e = cc
none_passes p (x ∷ xs) q a none e = go (p x) (q x) refl refl (none_passes p xs q a) none e
  where
    go : (b d : Bool) → p x ≡ b → q x ≡ d → (list_any p xs ≡ false → find q xs ≡ Some a → (p a ≡ false) × (q a ≡ true)) → (b || list_any p xs) ≡ false
        → cond d (Some x) (find q xs) ≡ Some a → (p a ≡ false) × (q a ≡ true)
    go true d is at later none e = cc
    go false true is at later none e = let same : x ≡ a = cc in (subst (λ (y : Rule). p y ≡ false) same is, subst (λ (y : Rule). q y ≡ true) same at)
    go false false is at later none e = later none e

last_check : (help command argument : Bool) → check_kinds help command argument ≡ [] → argument ≡ false
last_check true command argument e = cc
last_check false true argument e = cc
last_check false false true e = cc
last_check false false false e = refl

not_needed : (required : Bool) → (required && not false) ≡ false → required ≡ false
not_needed true e = e
not_needed false e = e

-- what is found for an id, where a command without commands of its own takes the words
pub found_fits : (s : Shape) → s.args_override_self ≡ false → s.subcommand_negates_reqs ≡ false → PlainRules s.rules s.rules → (words : List Text)
    → level_fault s [] nothing_held words false [] ≡ [] → (id : Text)
    → FitFound (arg_by_id s.rules id) (find (λ r. bytes_eq r.id id) (rows_after s.rules [] words))
found_fits s once needs plains words e id = go (arg_by_id s.rules id) refl (find (λ r. bytes_eq r.id id) (rows_after s.rules [] words)) refl
  where
    first : (walk_fault s [] (walk_from nothing_held) words ≡ []) × (or_else [] (or_else (settle_fault s.rules s.args_override_self (walk s.rules [] nothing_held words).held)
        (or_else (defaults_fault (settled s.rules (walk s.rules [] nothing_held words).held).rows s.rules) (check_fault s (rows_after s.rules [] words) false))) ≡ [])
    first = both_none (walk_fault s [] (walk_from nothing_held) words) _ e

    second : (settle_fault s.rules s.args_override_self (walk s.rules [] nothing_held words).held ≡ [])
        × (or_else (defaults_fault (settled s.rules (walk s.rules [] nothing_held words).held).rows s.rules) (check_fault s (rows_after s.rules [] words) false) ≡ [])
    second = both_none (settle_fault s.rules s.args_override_self (walk s.rules [] nothing_held words).held) _ first.1

    third : (defaults_fault (settled s.rules (walk s.rules [] nothing_held words).held).rows s.rules ≡ []) × (check_fault s (rows_after s.rules [] words) false ≡ [])
    third = both_none (defaults_fault (settled s.rules (walk s.rules [] nothing_held words).held).rows s.rules) _ second.1

    fits : FitRows s.rules (rows_after s.rules [] words)
    fits = defaults_fit s.rules s.rules _ plains third.0
        (settle_fits s.rules s.args_override_self once plains _ _ second.0 (walk_fits s once plains [] words (walk_from nothing_held) first.0 tt))

    given_all : list_any (λ a. a.required && not (is_given a.id (rows_after s.rules [] words))) s.rules ≡ false
    given_all =
        let any : (not (s.subcommand_negates_reqs && false) && list_any (λ a. a.required && not (is_given a.id (rows_after s.rules [] words))) s.rules) ≡ false = last_check _ _ _ third.1 in
        subst (λ (b : Bool). (not (b && false) && list_any (λ (a : Rule). a.required && not (is_given a.id (rows_after s.rules [] words))) s.rules) ≡ false) needs any

    go : (o : Option Rule) → arg_by_id s.rules id ≡ o → (r : Option Row) → find (λ x. bytes_eq x.id id) (rows_after s.rules [] words) ≡ r → FitFound o r
    go None is None at = tt
    go None is (Some r) at =
        let f = find_fit s.rules (rows_after s.rules [] words) id r fits at in
        let bad : Some f.0 ≡ None = sym f.1 ∙ is in
        cc
    go (Some a) is None at =
        let passes = none_passes (λ (x : Rule). x.required && not (is_given x.id (rows_after s.rules [] words))) s.rules _ a given_all is in
        let same : a.id ≡ id = (bytes_eq-Decides a.id id).0 passes.1 in
        let left_out : is_given a.id (rows_after s.rules [] words) ≡ false =
        ap (λ t. is_given t (rows_after s.rules [] words)) same ∙ ap (λ o. option_map_or (λ (r : Row). explicit_source r.source) o false) at in
        not_needed a.required (subst (λ (b : Bool). (a.required && not b) ≡ false) left_out passes.0)
    go (Some a) is (Some r) at =
        let f = find_fit s.rules (rows_after s.rules [] words) id r fits at in
        let own : Some f.0 ≡ Some a = sym f.1 ∙ is in
        let same : f.0 ≡ a = cc in
        subst (λ (x : Rule). Fit x r) same f.2
