use Rattle.std.specs.Option.{option_copied}
use Rattle.command_answers.proofs.CellPlans.{one_added, none_added}
use Rattle.command_answers.proofs.cells.add_cell.Goals as goal

pub returns-in-Ok-clause-added : goal.returns-in-Ok-clause-added
returns-in-Ok-clause-added g c = one_added g.T.Texts.gives c.args.text.now (option_copied c.args.name) c.args.cells.now.items c.args.path.now c.args.texts.now c.load_one.new.texts c.load_one.result c.in-Ok.loaded c.add_loaded.result c.add_loaded.new.cells.items
    c.in-Ok.is c.load_one.ensures.loaded c.add_loaded.ensures

pub returns-in-Err-clause-added : goal.returns-in-Err-clause-added
returns-in-Err-clause-added g c = none_added g.T.Texts.gives c.args.text.now (option_copied c.args.name) c.args.cells.now.items c.args.path.now c.args.texts.now c.load_one.new.texts c.load_one.result c.in-Err.fault c.in-Err.is c.load_one.ensures.loaded
