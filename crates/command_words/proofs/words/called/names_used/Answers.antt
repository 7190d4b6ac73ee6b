use Rattle.std.proofs.Common.{◌∙◌, codes, map, sym}
use Rattle.clap.specs.Words.{found_of, rows_of}
use Rattle.clap.specs.declared.error.kind.ErrorKind.TheVariants.{ArgumentConflict}
use Rattle.command_words.proofs.words.Asking.{all_named, is_used, names_clash, names_fit, no_names_fit, none_named, not_used}
use Rattle.command_words.proofs.words.Reasons.{names_only}
use Rattle.command_words.proofs.words.called.names_used.Goals as goal

pub returns-then-not-contains_id-clause-exact : goal.returns-then-not-contains_id-clause-exact
returns-then-not-contains_id-clause-exact c =
    let found = found_of c.args.matches.now in
    c.new.ensures.items ∙ none_named (map (λ word. word.now) c.args.words.now) (rows_of found) (not_used found (codes "name") (sym c.contains_id.ensures ∙ c.if-not-contains_id.true))

pub returns-then-not-contains_id-clause-fits : goal.returns-then-not-contains_id-clause-fits
returns-then-not-contains_id-clause-fits c =
    let found = found_of c.args.matches.now in
    no_names_fit (map (λ word. word.now) c.args.words.now) (rows_of found) (not_used found (codes "name") (sym c.contains_id.ensures ∙ c.if-not-contains_id.true))

pub returns-then-not-goes_on-clause-refused : goal.returns-then-not-goes_on-clause-refused
returns-then-not-goes_on-clause-refused c =
    let found = found_of c.args.matches.now in
    let words = map (λ word. word.now) c.args.words.now in
    let named = all_named words (rows_of found) (is_used found (codes "name") (sym c.contains_id.ensures ∙ c.if-not-contains_id.false)) in
    let clash = names_clash words (rows_of found) _ (c.deref.ensures.value ∙ c.in_ok-owners.ensures ∙ named) (sym c.goes_on.ensures ∙ c.if-not-goes_on.true) in
    names_only ArgumentConflict _ c.unnamed.result clash c.unnamed.ensures

pub returns-clause-exact : goal.returns-clause-exact
returns-clause-exact c =
    let found = found_of c.args.matches.now in
    c.in_ok-owners.ensures ∙ all_named (map (λ word. word.now) c.args.words.now) (rows_of found) (is_used found (codes "name") (sym c.contains_id.ensures ∙ c.if-not-contains_id.false))

pub returns-clause-fits : goal.returns-clause-fits
returns-clause-fits c =
    let found = found_of c.args.matches.now in
    let words = map (λ word. word.now) c.args.words.now in
    let named = all_named words (rows_of found) (is_used found (codes "name") (sym c.contains_id.ensures ∙ c.if-not-contains_id.false)) in
    names_fit words (rows_of found) _ (c.deref.ensures.value ∙ c.in_ok-owners.ensures ∙ named) (sym c.goes_on.ensures ∙ c.if-not-goes_on.false)
