use Rattle.std.proofs.Common.{Option, subst, sym}
use Rattle.std.specs.Option.{option_copied}
use Rattle.shop_base.specs.Shop.{JobShop}
use Rattle.command_answers.specs.Cells.{IsReadBefore}
use Rattle.command_answers.proofs.CellPlans.{read_again, read_before}
use Rattle.command_answers.proofs.cells.shop_of.Goals as goal

pub returns-in-Some-clause-read : goal.returns-in-Some-clause-read
returns-in-Some-clause-read c =
    let before = subst (λ (shop : Option JobShop). IsReadBefore c.args.text.now (option_copied c.args.name) shop) (sym c.in-Some.ensures.value) c.requires in
    read_again c.args.text.now (option_copied c.args.name) c.in-Some.shared.now c.one_of.result before c.one_of.ensures

pub returns-clause-kept : goal.returns-clause-kept
returns-clause-kept c = read_before c.args.text.now (option_copied c.args.name) c.in_ok-shared.shared c.in_ok-shared.ensures

pub returns-clause-read : goal.returns-clause-read
returns-clause-read c = read_again c.args.text.now (option_copied c.args.name) c.in_ok-shared.shared c.one_of-one.result (returns-clause-kept c) c.one_of-one.ensures
