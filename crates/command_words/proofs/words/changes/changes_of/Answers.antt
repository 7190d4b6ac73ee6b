use Rattle.std.proofs.Common.{◌∙◌, ap, ap₂, codes, map, List, ℕ}
use Rattle.std.proofs.lemmas.Result.{IfErr-weaker, IfOk-weaker}
use Rattle.clap.specs.Words.{found_of, rows_of}
use Rattle.command_words.specs.Changes.{all_asked, owners_used}
use Rattle.command_words.specs.declared.words.called.NameOwner.{NameOwner}
use Rattle.command_words.proofs.words.Reasons.{names_first, names_later, none_first, passed_on}
use Rattle.command_words.proofs.words.changes.changes_of.Goals as goal

pub returns-in_err-released-clause-refused : goal.returns-in_err-released-clause-refused
returns-in_err-released-clause-refused c =
    passed_on _ c.from_residual.result c.in_err-released.field-0.0 c.from_residual.ensures.1 (names_first _ _ _ c.in_err-released.ensures.refused)

pub returns-in_err-promised-clause-refused : goal.returns-in_err-promised-clause-refused
returns-in_err-promised-clause-refused c =
    passed_on _ c.from_residual-in_err-promised.result c.in_err-promised.field-0.0 c.from_residual-in_err-promised.ensures.1
    (names_later _ _ _ c.in_ok-released.ensures.fits (names_first _ _ _ c.in_err-promised.ensures.refused))

pub returns-in_err-called-clause-refused : goal.returns-in_err-called-clause-refused
returns-in_err-called-clause-refused c =
    passed_on _ c.from_residual-in_err-called.result c.in_err-called.field-0.0 c.from_residual-in_err-called.ensures.1
    (names_later _ _ _ c.in_ok-released.ensures.fits (names_later _ _ _ c.in_ok-promised.ensures.fits (names_first _ _ _ c.in_err-called.ensures.refused)))

pub returns-clause-exact : goal.returns-clause-exact
returns-clause-exact c =
    let rows = rows_of (found_of c.args.matches.now) in
    let owned = ap₂ (λ (released promised : List ℕ). all_asked released promised c.as_slice.result.now rows)
    (c.as_slice-released.ensures.value ∙ c.in_ok-released.ensures.exact) (c.as_slice-promised.ensures.value ∙ c.in_ok-promised.ensures.exact) in
    let words = map (λ word. word.now) c.args.words.now in
    let called = ap (λ (called : List NameOwner).
    all_asked (owners_used (codes "release") (codes "--release") words rows) (owners_used (codes "budget") (codes "--budget") words rows) called rows) (c.as_slice.ensures.value ∙ c.in_ok-called.ensures.exact) in
    IfOk-weaker c.asked.result _ _ (λ changes are. are ∙ owned ∙ called) c.asked.ensures.exact

pub returns-clause-fits : goal.returns-clause-fits
returns-clause-fits c =
    IfOk-weaker c.asked.result _ _ (λ changes fit. none_first _ _ c.in_ok-released.ensures.fits ∙ none_first _ _ c.in_ok-promised.ensures.fits ∙ none_first _ _ c.in_ok-called.ensures.fits ∙ fit) c.asked.ensures.fits

pub returns-clause-refused : goal.returns-clause-refused
returns-clause-refused c =
    IfErr-weaker c.asked.result _ _ (λ fault named. names_later _ _ _ c.in_ok-released.ensures.fits (names_later _ _ _ c.in_ok-promised.ensures.fits (names_later _ _ _ c.in_ok-called.ensures.fits named))) c.asked.ensures.refused
