use Rattle.std.proofs.Common.{◌∙◌, Option, ℕ, ap, is_some, not, sym}
use Rattle.clap.specs.Words.{found_of, rows_of}
use Rattle.command_words.specs.Given.{values_of}
use Rattle.command_words.proofs.words.Asking.{rises_over}
use Rattle.command_words.proofs.words.changes.rises.Goals as goal

pub loop-place-preserved-then-is_none : goal.loop-place-preserved-then-is_none
loop-place-preserved-then-is_none c =
    let values = values_of c.args.name.now (rows_of (found_of c.args.matches.now)) in
    let none = ap (λ (o : Option ℕ). is_some o) (sym c.moment_at.ensures) ∙ c.is_none.ensures ∙ ap not c.if-is_none.true in
    c.loop-place.invariant ∙ rises_over values c.args.owners.now c.loop-place.place c.loop-place.last 0 c.loop-place-test.true none
