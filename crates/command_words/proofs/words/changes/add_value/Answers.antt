use Rattle.std.proofs.Common.{◌≡◌, ◌∙◌, ◌&&◌, ◌||◌, Bool, [], ◌∷◌, ap, ap₂, false, sym, true}
use Rattle.clap.specs.declared.error.kind.ErrorKind.TheVariants.{ValueValidation}
use Rattle.command_words.specs.Changes.{is_such}
use Rattle.command_words.proofs.words.Asking.{such_misfit}
use Rattle.command_words.proofs.words.Reasons.{names_only}
use Rattle.command_words.proofs.words.changes.add_value.Goals as goal

pub returns-in-None-clause-refused : goal.returns-in-None-clause-refused
returns-in-None-clause-refused c =
    let such = is_such c.args.form in
    let isnt : such c.args.word.now ≡ false = ap₂ (λ (a b : Bool). a || b) (sym c.is_passed_over.ensures ∙ c.if-is_passed_over.false) c.in-None.ensures in
    let misfit = such_misfit such (c.args.word.now ∷ []) (ap (λ (b : Bool). b && true) isnt) in
    names_only ValueValidation _ c.no_change.result misfit c.no_change.ensures
