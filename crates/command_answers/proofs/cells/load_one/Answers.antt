use Rattle.std.specs.Option.{option_copied}
use Rattle.command_answers.proofs.CellPlans.{loads_for}
use Rattle.command_answers.proofs.cells.load_one.Goals as goal

pub returns-clause-loaded : goal.returns-clause-loaded
returns-clause-loaded g c = loads_for g.T.Texts.gives c.args.text.now (option_copied c.args.name) c.args.path.now c.args.texts.now c.in_ok-shop.shop c.load_for.result c.load_for.new.texts c.in_ok-shop.ensures.read c.load_for.ensures
