-- Where the program's command line takes the words, what is found is fit for its command.
use Rattle.std.proofs.Common.{◌≡◌, ◌∙◌, ◌≤◌, ◌+◌, ◌++◌, ℕ, Bool, cond, true, false, refl, sym, ap, subst, arith, List, [], ◌∷◌, length, Option, Some, None, inl, inr, codes}
use Rattle.std.specs.Prelude.{option_map, option_and_then, unwrap_or, pos, slice_get}
use Rattle.std.specs.List.{find}
use Rattle.std.specs.Option.{option_map_or}
use Rattle.std.proofs.lemmas.List.{length-append}
use Rattle.clap.specs.Values.{Accepts, read_as, reading_of, refused_kind}
use Rattle.clap.specs.Facts.{parser_of_value}
use Rattle.clap.specs.Walk.{Row, Rule, Text, action_of, arg_by_id, answers_to, is_empty, most_values, nothing_held, row_text, rows_after, stop_after, walk_from}
use Rattle.clap.specs.Simple.{App, Shape, argument_words, built, built_leaf, entered, inherited, is_simple, label_of, marked_built, matches_of, names_of, rows_at, subcommand_of, with_leaf_noted}
use Rattle.clap.specs.Kinds.{value_kinds}
use Rattle.clap.specs.Faults.{built_fault, entered_fault, fault_of, is_simple_and_free, level_fault, walk_fault, values_fault}
use Rattle.clap.specs.Words.{HasKind, IsAmong, kind_of}
use Rattle.clap.specs.declared.error.Error.{Error}
use Rattle.clap.specs.declared.builder.action.ArgAction.TheVariants.{Append, Set, SetTrue, Help}
use Rattle.clap.specs.declared.builder.value_parser.ValueParser.{ValueParser}
use Rattle.clap.specs.declared.builder.value_parser.ValueParser.TheVariants.{Signed}
use Rattle.clap.proofs.ValueTestLemmas.{accepts-Accepts}
use Rattle.command_words.specs.CommandLine.{option_rule, command, command_line, driven_rules, hub_rules, log_command, names_rule, plan_command, rest_command, described, revising_rules, most_rounds, greatest_seed, most_choices, rounds_rule}
use Rattle.command_words.specs.Given.{values_of}
use Rattle.command_words.specs.Choice.{FitsBetween, Found, IsFit, TakesFiles, NamesOneOf, NamesReason, files_in, found_in, parse_reasons_in, command_word_of}
use Rattle.command_words.specs.declared.words.CommandName.{CommandName}
use Rattle.command_words.specs.declared.words.CommandName.TheVariants.{Facts, Shape as ShapeName, Check, Explain, Schedule, Bounds, Margin, Plan, Improve, Decide, Revise, Drive, Resume, Hub, Digest, Audit, State, Gantt}
use Rattle.command_words.specs.declared.words.WordsFault.{WordsFault}
use Rattle.command_words.specs.declared.words.WordsFault.TheVariants.{Usage, Memory}
use Rattle.command_words.proofs.words.Fits.{FitFound, PlainRule, PlainRules, both_none, found_fits, least_of}

-- how many values an argument brings
data Share : Type 0 where
  none : Share
  one : Share
  several : Share

abbrev SharedBy : Share → Option Rule → Type 0
SharedBy none o = o ≡ None
SharedBy one o = (a : Rule) × (o ≡ Some a) × (a.required ≡ true) × (action_of a ≡ Set) × (least_of a ≡ 1) × (most_values a ≡ 1)
SharedBy several o = (a : Rule) × (o ≡ Some a) × (a.required ≡ true) × (least_of a ≡ 1)

abbrev Shares : Share → ℕ → Type 0
Shares none n = n ≡ 0
Shares one n = n ≡ 1
Shares several n = 1 ≤ n

abbrev count : Option Row → ℕ
count r = length (unwrap_or (option_map (λ (x : Row). x.values) r) [])

shared : (share : Share) (o : Option Rule) (r : Option Row) → SharedBy share o → FitFound o r → Shares share (count r)
shared none None None is fit = refl
shared none None (Some r) is fit = absurd fit
shared none (Some a) r is fit = cc
shared one None r is fit = let bad = is.1 in cc
shared one (Some a) None is fit =
    let same : a ≡ is.0 = let e = is.1 in cc in
    let bad : true ≡ false = sym is.2 ∙ ap (λ (x : Rule). x.required) (sym same) ∙ fit in
    cc
shared one (Some a) (Some r) is fit =
    let same : a ≡ is.0 = let e = is.1 in cc in
    let least : least_of a ≡ 1 = ap least_of same ∙ is.4 in
    let most : most_values a ≡ 1 = ap most_values same ∙ is.5 in
    let high = fit.most (ap action_of same ∙ is.3) in
    let low = fit.least in
    omega arith
shared several None r is fit = let bad = is.1 in cc
shared several (Some a) None is fit =
    let same : a ≡ is.0 = let e = is.1 in cc in
    let bad : true ≡ false = sym is.2 ∙ ap (λ (x : Rule). x.required) (sym same) ∙ fit in
    cc
shared several (Some a) (Some r) is fit =
    let same : a ≡ is.0 = let e = is.1 in cc in
    let least : least_of a ≡ 1 = ap least_of same ∙ is.3 in
    let low = fit.least in
    omega arith

-- ---- numbers

accepted : (a : Bool) (p : ValueParser) → cond a [] (refused_kind p ∷ []) ≡ [] → a ≡ true
accepted true p e = refl
accepted false p e = cc

-- where the command has the argument, its numbers go from the least to the most
abbrev Goes : ℕ → ℕ → Option Rule → Type 0
Goes least most None = Unit {0}
Goes least most (Some a) = a.parser ≡ Some (Signed (pos least) (pos most))

fit_number : (least most : ℕ) (o : Option Rule) (r : Option Row) → Goes least most o → FitFound o r → FitsBetween least most (option_and_then row_text r)
fit_number least most o None counts fit = tt
fit_number least most None (Some r) counts fit = absurd fit
fit_number least most (Some a) (Some r) counts fit =
    read r.values r.reading fit.passes (fit.reading ∙ ap (λ p. reading_of (parser_of_value p)) counts)
  where
    read : (vs : List Text) (how : _) → values_fault a vs ≡ [] → how ≡ reading_of (Signed (pos least) (pos most))
        → FitsBetween least most (option_map (read_as how) (slice_get vs 0))
    read [] how e is = tt
    read (v ∷ vs) how e is =
        let parts = both_none (value_kinds a.ignore_case (parser_of_value a.parser) v) (values_fault a vs) e in
        let takes = accepts-Accepts a.ignore_case (parser_of_value a.parser) v (accepted _ (parser_of_value a.parser) parts.0) in
        (v, ap (λ x. read_as x v) is, subst (λ (p : Option ValueParser). Accepts a.ignore_case (parser_of_value p) v) counts takes)

-- ---- one command

abbrev FitsLeaf : Shape → Type 0
FitsLeaf s = (words : List Text) → level_fault s [] nothing_held words false [] ≡ [] → IsFit (Some (s.name, rows_after s.rules [] words))

fits_leaf : (s : Shape) (name : CommandName) (file plan log : Share) → command_word_of name ≡ Some s.name → s.args_override_self ≡ false → s.subcommand_negates_reqs ≡ false
    → PlainRules s.rules s.rules → SharedBy file (arg_by_id s.rules (codes "FILE")) → SharedBy plan (arg_by_id s.rules (codes "PLAN"))
    → SharedBy log (arg_by_id s.rules (codes "LOG")) → Goes 0 most_rounds (arg_by_id s.rules (codes "rounds"))
    → Goes 0 greatest_seed (arg_by_id s.rules (codes "seed")) → Goes 1 most_choices (arg_by_id s.rules (codes "choices"))
    → ((x y z : ℕ) → Shares file x → Shares plan y → Shares log z → TakesFiles name ((x + y) + z)) → FitsLeaf s
fits_leaf s name file plan log is once needs plains by_file by_plan by_log by_rounds by_seed by_choices counts words e =
    let at = found_fits s once needs plains words e in
    let rows = rows_after s.rules [] words in
    let long : length (files_in rows) ≡ (length (values_of (codes "FILE") rows) + length (values_of (codes "PLAN") rows)) + length (values_of (codes "LOG") rows) =
    length-append (values_of (codes "FILE") rows ++ values_of (codes "PLAN") rows) (values_of (codes "LOG") rows)
    ∙ ap (λ n. n + length (values_of (codes "LOG") rows)) (length-append (values_of (codes "FILE") rows) (values_of (codes "PLAN") rows)) in (
      (
        name,
        is,
        subst (TakesFiles name) (sym long) (counts _ _ _ (shared file _ _ by_file (at (codes "FILE"))) (shared plan _ _ by_plan (at (codes "PLAN")))
            (shared log _ _ by_log (at (codes "LOG")))),
      ),
      fit_number 0 most_rounds _ _ by_rounds (at (codes "rounds")),
      fit_number 0 greatest_seed _ _ by_seed (at (codes "seed")),
      fit_number 1 most_choices _ _ by_choices (at (codes "choices")),
    )

-- ---- each command of the program

-- a command as the program builds it
abbrev as_built : Shape → Shape
as_built s = built_leaf (inherited (with_leaf_noted (marked_built command_line.top)) s)

set_plain : (c : List Rule) (a : Rule) → arg_by_id c a.id ≡ Some a → a.missing ≡ [] → action_of a ≡ Set → is_empty a.defaults ≡ true → PlainRule c a
set_plain c a own missing sets defaults = record { own = own; kind = inl (record { missing = missing; action = inl sets; defaults = inl defaults }) }

append_plain : (c : List Rule) (a : Rule) → arg_by_id c a.id ≡ Some a → a.missing ≡ [] → action_of a ≡ Append → is_empty a.defaults ≡ true → PlainRule c a
append_plain c a own missing appends defaults = record { own = own; kind = inl (record { missing = missing; action = inr (inl appends); defaults = inl defaults }) }

number_plain : (c : List Rule) (a : Rule) → arg_by_id c a.id ≡ Some a → a.missing ≡ [] → action_of a ≡ Set → least_of a ≤ length a.defaults → length a.defaults ≤ most_values a → PlainRule c a
number_plain c a own missing sets least most = record { own = own; kind = inl (record { missing = missing; action = inl sets; defaults = inr (least, most) }) }

switch_plain : (c : List Rule) (a : Rule) → arg_by_id c a.id ≡ Some a → least_of a ≡ 0 → action_of a ≡ SetTrue → PlainRule c a
switch_plain c a own least sets = record { own = own; kind = inr (record { least = least; action = sets }) }

help_plain : (c : List Rule) (a : Rule) → arg_by_id c a.id ≡ Some a → a.missing ≡ [] → action_of a ≡ Help → is_empty a.defaults ≡ true → PlainRule c a
help_plain c a own missing helps defaults = record { own = own; kind = inl (record { missing = missing; action = inr (inr helps); defaults = inl defaults }) }

facts_fits : FitsLeaf (as_built (command (codes "facts") []))
facts_fits = fits_leaf (as_built (command (codes "facts") [])) Facts one none none refl refl refl
    (set_plain _ _ refl refl refl refl, (set_plain _ _ refl refl refl refl, (help_plain _ _ refl refl refl refl, tt)))
    (_, refl, refl, refl, refl, refl) refl refl tt tt tt (λ x y z p q r. omega arith)

plan_fits : (name : Text) (named : CommandName) → command_word_of named ≡ Some name → ((x y z : ℕ) → x ≡ 1 → y ≡ 1 → z ≡ 0 → TakesFiles named ((x + y) + z))
    → FitsLeaf (as_built (plan_command name []))
plan_fits name named is counts = fits_leaf (as_built (plan_command name [])) named one one none is refl refl
    (set_plain _ _ refl refl refl refl, (set_plain _ _ refl refl refl refl, (set_plain _ _ refl refl refl refl, (help_plain _ _ refl refl refl refl, tt))))
    (_, refl, refl, refl, refl, refl) (_, refl, refl, refl, refl, refl) refl tt tt tt counts

rest_fits : (name : Text) (named : CommandName) → command_word_of named ≡ Some name → ((x y z : ℕ) → x ≡ 1 → y ≡ 1 → z ≡ 0 → TakesFiles named ((x + y) + z))
    → FitsLeaf (as_built (rest_command name []))
rest_fits name named is counts = fits_leaf (as_built (rest_command name [])) named one one none is refl refl (
  set_plain _ _ refl refl refl refl,
  (
    set_plain _ _ refl refl refl refl,
    (
      set_plain _ _ refl refl refl refl,
      (
        set_plain _ _ refl refl refl refl,
        (
          set_plain _ _ refl refl refl refl,
          (help_plain _ _ refl refl refl refl, tt),
        ),
      ),
    ),
  ),
)
    (_, refl, refl, refl, refl, refl) (_, refl, refl, refl, refl, refl) refl tt tt tt counts

named_fits : (name : Text) (named : CommandName) → command_word_of named ≡ Some name → ((x y z : ℕ) → x ≡ 1 → y ≡ 1 → z ≡ 0 → TakesFiles named ((x + y) + z))
    → FitsLeaf (as_built (plan_command name (names_rule ∷ [])))
named_fits name named is counts = fits_leaf (as_built (plan_command name (names_rule ∷ []))) named one one none is refl refl (
  set_plain _ _ refl refl refl refl,
  (
    set_plain _ _ refl refl refl refl,
    (
      set_plain _ _ refl refl refl refl,
      (
        set_plain _ _ refl refl refl refl,
        (help_plain _ _ refl refl refl refl, tt),
      ),
    ),
  ),
)
    (_, refl, refl, refl, refl, refl) (_, refl, refl, refl, refl, refl) refl tt tt tt counts

reasons_fits : FitsLeaf (as_built (described Explain))
reasons_fits = fits_leaf (as_built (described Explain)) Explain one one none refl refl refl (
  set_plain _ _ refl refl refl refl,
  (
    set_plain _ _ refl refl refl refl,
    (
      set_plain _ _ refl refl refl refl,
      (
        set_plain _ _ refl refl refl refl,
        (
          set_plain _ _ refl refl refl refl,
          (
            set_plain _ _ refl refl refl refl,
            (
              set_plain _ _ refl refl refl refl,
              (help_plain _ _ refl refl refl refl, tt),
            ),
          ),
        ),
      ),
    ),
  ),
)
    (_, refl, refl, refl, refl, refl) (_, refl, refl, refl, refl, refl) refl tt tt tt (λ x y z p q r. omega arith)

drive_fits : FitsLeaf (as_built (described Drive))
drive_fits = fits_leaf (as_built (described Drive)) Drive one one none refl refl refl (
  set_plain _ _ refl refl refl refl,
  (
    set_plain _ _ refl refl refl refl,
    (
      set_plain _ _ refl refl refl refl,
      (
        set_plain _ _ refl refl refl refl,
        (
          switch_plain _ _ refl refl refl,
          (
            switch_plain _ _ refl refl refl,
            (
              switch_plain _ _ refl refl refl,
              (
                set_plain _ _ refl refl refl refl,
                (
                  set_plain _ _ refl refl refl refl,
                  (
                    set_plain _ _ refl refl refl refl,
                    (help_plain _ _ refl refl refl refl, tt),
                  ),
                ),
              ),
            ),
          ),
        ),
      ),
    ),
  ),
)
    (_, refl, refl, refl, refl, refl) (_, refl, refl, refl, refl, refl) refl tt tt tt (λ x y z p q r. omega arith)

log_fits : (name : Text) (named : CommandName) → command_word_of named ≡ Some name → ((x y z : ℕ) → x ≡ 1 → y ≡ 1 → z ≡ 1 → TakesFiles named ((x + y) + z))
    → FitsLeaf (as_built (log_command name []))
log_fits name named is counts = fits_leaf (as_built (log_command name [])) named one one one is refl refl (
  set_plain _ _ refl refl refl refl,
  (
    set_plain _ _ refl refl refl refl,
    (
      set_plain _ _ refl refl refl refl,
      (
        set_plain _ _ refl refl refl refl,
        (help_plain _ _ refl refl refl refl, tt),
      ),
    ),
  ),
)
    (_, refl, refl, refl, refl, refl) (_, refl, refl, refl, refl, refl) (_, refl, refl, refl, refl, refl) tt tt tt counts

timetable_fits : FitsLeaf (as_built (described Schedule))
timetable_fits = fits_leaf (as_built (described Schedule)) Schedule one one none refl refl refl (
  set_plain _ _ refl refl refl refl,
  (
    set_plain _ _ refl refl refl refl,
    (
      set_plain _ _ refl refl refl refl,
      (
        set_plain _ _ refl refl refl refl,
        (
          set_plain _ _ refl refl refl refl,
          (
            switch_plain _ _ refl refl refl,
            (
              switch_plain _ _ refl refl refl,
              (
                set_plain _ _ refl refl refl refl,
                (help_plain _ _ refl refl refl refl, tt),
              ),
            ),
          ),
        ),
      ),
    ),
  ),
)
    (_, refl, refl, refl, refl, refl) (_, refl, refl, refl, refl, refl) refl tt tt tt (λ x y z p q r. omega arith)

state_fits : FitsLeaf (as_built (described State))
state_fits = fits_leaf (as_built (described State)) State one one one refl refl refl (
  set_plain _ _ refl refl refl refl,
  (
    set_plain _ _ refl refl refl refl,
    (
      set_plain _ _ refl refl refl refl,
      (
        set_plain _ _ refl refl refl refl,
        (
          set_plain _ _ refl refl refl refl,
          (
            set_plain _ _ refl refl refl refl,
            (help_plain _ _ refl refl refl refl, tt),
          ),
        ),
      ),
    ),
  ),
)
    (_, refl, refl, refl, refl, refl) (_, refl, refl, refl, refl, refl) (_, refl, refl, refl, refl, refl) tt tt tt (λ x y z p q r. omega arith)

drawing_fits : FitsLeaf (as_built (described Gantt))
drawing_fits = fits_leaf (as_built (described Gantt)) Gantt one one one refl refl refl (
  set_plain _ _ refl refl refl refl,
  (
    set_plain _ _ refl refl refl refl,
    (
      set_plain _ _ refl refl refl refl,
      (
        set_plain _ _ refl refl refl refl,
        (
          switch_plain _ _ refl refl refl,
          (
            set_plain _ _ refl refl refl refl,
            (help_plain _ _ refl refl refl refl, tt),
          ),
        ),
      ),
    ),
  ),
)
    (_, refl, refl, refl, refl, refl) (_, refl, refl, refl, refl, refl) (_, refl, refl, refl, refl, refl) tt tt tt (λ x y z p q r. omega arith)

resumed_fits : FitsLeaf (as_built (log_command (codes "resume") (option_rule (codes "at") ∷ driven_rules)))
resumed_fits = fits_leaf (as_built (log_command (codes "resume") (option_rule (codes "at") ∷ driven_rules))) Resume one one one refl refl refl (
  set_plain _ _ refl refl refl refl,
  (
    set_plain _ _ refl refl refl refl,
    (
      set_plain _ _ refl refl refl refl,
      (
        set_plain _ _ refl refl refl refl,
        (
          set_plain _ _ refl refl refl refl,
          (
            set_plain _ _ refl refl refl refl,
            (
              set_plain _ _ refl refl refl refl,
              (help_plain _ _ refl refl refl refl, tt),
            ),
          ),
        ),
      ),
    ),
  ),
)
    (_, refl, refl, refl, refl, refl) (_, refl, refl, refl, refl, refl) (_, refl, refl, refl, refl, refl) tt tt tt (λ x y z p q r. omega arith)

search_fits : FitsLeaf (as_built (plan_command (codes "plan") (rounds_rule ∷ [])))
search_fits = fits_leaf (as_built (plan_command (codes "plan") (rounds_rule ∷ []))) Plan one one none refl refl refl (
  set_plain _ _ refl refl refl refl,
  (
    set_plain _ _ refl refl refl refl,
    (
      set_plain _ _ refl refl refl refl,
      (number_plain _ _ refl refl refl (omega arith) (omega arith), (help_plain _ _ refl refl refl refl, tt)),
    ),
  ),
)
    (_, refl, refl, refl, refl, refl) (_, refl, refl, refl, refl, refl) refl refl tt tt (λ x y z p q r. omega arith)

improvement_fits : FitsLeaf (as_built (described Improve))
improvement_fits = fits_leaf (as_built (described Improve)) Improve one one none refl refl refl (
  set_plain _ _ refl refl refl refl,
  (
    set_plain _ _ refl refl refl refl,
    (
      set_plain _ _ refl refl refl refl,
      (
        set_plain _ _ refl refl refl refl,
        (
          set_plain _ _ refl refl refl refl,
          (
            number_plain _ _ refl refl refl (omega arith) (omega arith),
            (
              number_plain _ _ refl refl refl (omega arith) (omega arith),
              (help_plain _ _ refl refl refl refl, tt),
            ),
          ),
        ),
      ),
    ),
  ),
)
    (_, refl, refl, refl, refl, refl) (_, refl, refl, refl, refl, refl) refl refl refl tt (λ x y z p q r. omega arith)

decision_fits : FitsLeaf (as_built (described Decide))
decision_fits = fits_leaf (as_built (described Decide)) Decide one one none refl refl refl (
  set_plain _ _ refl refl refl refl,
  (
    set_plain _ _ refl refl refl refl,
    (
      set_plain _ _ refl refl refl refl,
      (
        set_plain _ _ refl refl refl refl,
        (
          set_plain _ _ refl refl refl refl,
          (
            switch_plain _ _ refl refl refl,
            (
              set_plain _ _ refl refl refl refl,
              (
                number_plain _ _ refl refl refl (omega arith) (omega arith),
                (
                  set_plain _ _ refl refl refl refl,
                  (help_plain _ _ refl refl refl refl, tt),
                ),
              ),
            ),
          ),
        ),
      ),
    ),
  ),
)
    (_, refl, refl, refl, refl, refl) (_, refl, refl, refl, refl, refl) refl tt tt refl (λ x y z p q r. omega arith)

revised_fits : FitsLeaf (as_built (log_command (codes "revise") revising_rules))
revised_fits = fits_leaf (as_built (log_command (codes "revise") revising_rules)) Revise one one one refl refl refl (
  set_plain _ _ refl refl refl refl,
  (
    set_plain _ _ refl refl refl refl,
    (
      set_plain _ _ refl refl refl refl,
      (
        set_plain _ _ refl refl refl refl,
        (
          set_plain _ _ refl refl refl refl,
          (
            append_plain _ _ refl refl refl refl,
            (
              append_plain _ _ refl refl refl refl,
              (
                append_plain _ _ refl refl refl refl,
                (
                  append_plain _ _ refl refl refl refl,
                  (
                    append_plain _ _ refl refl refl refl,
                    (
                      append_plain _ _ refl refl refl refl,
                      (
                        append_plain _ _ refl refl refl refl,
                        (
                          append_plain _ _ refl refl refl refl,
                          (
                            switch_plain _ _ refl refl refl,
                            (
                              switch_plain _ _ refl refl refl,
                              (
                                switch_plain _ _ refl refl refl,
                                (
                                  set_plain _ _ refl refl refl refl,
                                  (switch_plain _ _ refl refl refl, (help_plain _ _ refl refl refl refl, tt)),
                                ),
                              ),
                            ),
                          ),
                        ),
                      ),
                    ),
                  ),
                ),
              ),
            ),
          ),
        ),
      ),
    ),
  ),
)
    (_, refl, refl, refl, refl, refl) (_, refl, refl, refl, refl, refl) (_, refl, refl, refl, refl, refl) tt tt tt (λ x y z p q r. omega arith)

hub_fits : FitsLeaf (as_built (command (codes "hub") hub_rules))
hub_fits = fits_leaf (as_built (command (codes "hub") hub_rules)) Hub one several none refl refl refl (
  set_plain _ _ refl refl refl refl,
  (
    set_plain _ _ refl refl refl refl,
    (
      append_plain _ _ refl refl refl refl,
      (
        set_plain _ _ refl refl refl refl,
        (
          set_plain _ _ refl refl refl refl,
          (help_plain _ _ refl refl refl refl, tt),
        ),
      ),
    ),
  ),
)
    (_, refl, refl, refl, refl, refl) (_, refl, refl, refl) refl tt tt tt (λ x y z p q r. omega arith)

-- ---- the whole command line

abbrev Leaves : List Shape → Type 0
Leaves [] = Unit {0}
Leaves (s ∷ ss) = FitsLeaf s × Leaves ss

leaf_found : (ss : List Shape) → Leaves ss → (p : Shape → Bool) (s : Shape) → find p ss ≡ Some s → FitsLeaf s
leaf_found [] h p s e = let bad : ⊥ = cc in absurd bad
leaf_found (x ∷ xs) h p s e = go (p x) (leaf_found xs h.1 p s) e
  where
    go : (b : Bool) → (find p xs ≡ Some s → FitsLeaf s) → cond b (Some x) (find p xs) ≡ Some s → FitsLeaf s
    go true later is = let same : x ≡ s = cc in subst FitsLeaf same h.0
    go false later is = later is

built_fits : (a : App) (words : List Text) → Leaves a.subs → built_fault a nothing_held words ≡ [] → IsFit (entered a (stop_after a.top.rules (names_of a) words))
built_fits a words leaves e = go (stop_after a.top.rules (names_of a) words) below
  where
    below : entered_fault a (stop_after a.top.rules (names_of a) words) ≡ []
    below = (both_none (entered_fault a (stop_after a.top.rules (names_of a) words)) _ (both_none (walk_fault a.top (names_of a) (walk_from nothing_held) words) _ e).1).0

    at : (p : Text × List Text) (o : Option Shape) → find (λ s. answers_to p.0 (label_of s)) a.subs ≡ o
        → option_map_or (λ s. level_fault s [] nothing_held p.1 false []) o [] ≡ [] → IsFit (option_map (λ s. rows_at s p.1) o)
    at p None is e = tt
    at p (Some s) is e = leaf_found a.subs leaves _ s is p.1 e

    go : (stop : Option (Text × List Text)) → entered_fault a stop ≡ [] → IsFit (entered a stop)
    go None e = tt
    go (Some p) e = at p (find (λ s. answers_to p.0 (label_of s)) a.subs) refl e

leaves : Leaves (built command_line).subs
leaves = (
  facts_fits,
  (
    plan_fits (codes "shape") ShapeName refl (λ x y z p q r. omega arith),
    (
      rest_fits (codes "check") Check refl (λ x y z p q r. omega arith),
      (
        reasons_fits,
        (
          timetable_fits,
          (
            named_fits (codes "bounds") Bounds refl (λ x y z p q r. omega arith),
            (
              named_fits (codes "margin") Margin refl (λ x y z p q r. omega arith),
              (
                search_fits,
                (
                  improvement_fits,
                  (
                    decision_fits,
                    (
                      revised_fits,
                      (
                        drive_fits,
                        (
                          resumed_fits,
                          (
                            hub_fits,
                            (
                              plan_fits (codes "digest") Digest refl (λ x y z p q r. omega arith),
                              (
                                log_fits (codes "audit") Audit refl (λ x y z p q r. omega arith),
                                (
                                  state_fits,
                                  (drawing_fits, tt),
                                ),
                              ),
                            ),
                          ),
                        ),
                      ),
                    ),
                  ),
                ),
              ),
            ),
          ),
        ),
      ),
    ),
  ),
)

pub accepted_fits : (words : List Text) → parse_reasons_in words ≡ [] → IsFit (found_in words)
accepted_fits words e = built_fits (built command_line) (argument_words (built command_line) words) leaves e

-- ---- what the parse says, of the described command line

pub parse_accepts : (a : App) (words : List Text) → a ≡ command_line → (is_simple_and_free a ≡ true → fault_of a words ≡ []) → parse_reasons_in words ≡ []
parse_accepts a words is h = sym (ap (λ x. fault_of x words) is) ∙ h (ap is_simple_and_free is)

pub met : (a : App) (words : List Text) (rows : List Row) (found : Found) → a ≡ command_line
    → (is_simple a ≡ true → (rows ≡ matches_of a words) × (found ≡ subcommand_of a words)) → found ≡ found_in words
met a words rows found is h = (h (ap is_simple is)).1 ∙ ap (λ x. subcommand_of x words) is

pub parse_refuses : (a : App) (words : List Text) (error : Error) (fault : WordsFault) → a ≡ command_line → (is_simple_and_free a ≡ true → HasKind (fault_of a words) error)
    → NamesReason (kind_of error) fault → NamesOneOf (parse_reasons_in words) fault
parse_refuses a words error Memory is h named = tt
parse_refuses a words error (Usage help text) is h named = elim (h (ap is_simple_and_free is)) [
  | inl memory ↦ absurd (named.0 memory)
  | inr among ↦ (kind_of error, subst (λ (x : App). IsAmong (kind_of error) (fault_of x words)) is among, named.1)
]
