use Rattle.std.proofs.Common.{List, ℕ, ap}
use Rattle.std.specs.Prelude.{slice_get}
use Rattle.clap.specs.Words.{found_of}
use Rattle.command_words.proofs.words.Asking.{value_past, value_there}
use Rattle.command_words.proofs.words.Getters.{values_given, values_left_out}
use Rattle.command_words.proofs.words.called.value_at.Goals as goal

pub returns-in_default : goal.returns-in_default
returns-in_default c =
    ap (λ (values : List (List ℕ)). slice_get values c.args.place) (values_left_out (found_of c.args.matches.now) c.args.name.now c.get_raw.result c.get_raw.ensures c.in_default.is)

pub returns-then-place-given : goal.returns-then-place-given
returns-then-place-given c =
    value_past c.in-Some.given.now _ c.args.place (values_given (found_of c.args.matches.now) c.args.name.now c.get_raw.result c.in-Some.given c.get_raw.ensures c.in-Some.is) c.if-place-given.true

pub returns : goal.returns
returns c =
    value_there c.in-Some.given.now _ c.args.place (values_given (found_of c.args.matches.now) c.args.name.now c.get_raw.result c.in-Some.given c.get_raw.ensures c.in-Some.is) _ c.if-place-given.false
