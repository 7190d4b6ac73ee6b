use Rattle.std.proofs.Common.{◌≡◌, true, false, sym, ◌∙◌}
use Rattle.toml.specs.View.{view}
use Rattle.people_names.specs.Faults.{is_among}
use Rattle.people_names.proofs.SeenNames.{name_twice, name_fine}
use Rattle.people_names.proofs.lists.name_of.Goals as goal

pub returns-then-contains-clause-faults : goal.returns-then-contains-clause-faults
returns-then-contains-clause-faults c = λ before h other.
    let among : is_among c.in-Some.text.now before ≡ true = sym (h c.in-Some.text.now) ∙ sym c.contains.ensures ∙ c.if-contains.true in
    name_twice c.args.key c.args.place before (view c.args.value.now) c.in-Some.text.now (sym c.in-Some.ensures) (sym c.is_name.ensures ∙ c.if-not-is_name.false) among

pub returns-clause-faults : goal.returns-clause-faults
returns-clause-faults c = λ before h.
    let other : is_among c.in-Some.text.now before ≡ false = sym (h c.in-Some.text.now) ∙ sym c.contains.ensures ∙ c.if-contains.false in
    name_fine c.args.key c.args.place before (view c.args.value.now) c.in-Some.text.now (sym c.in-Some.ensures) (sym c.is_name.ensures ∙ c.if-not-is_name.false) other
