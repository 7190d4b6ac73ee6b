use Rattle.std.specs.Option.{option_copied}
use Rattle.command_answers.proofs.CellPlans.{now_shared, not_shared}
use Rattle.command_answers.proofs.cells.read_shared.Goals as goal

pub returns-in-Ok : goal.returns-in-Ok
returns-in-Ok c = now_shared c.args.text.now (option_copied c.args.name) c.in_ok-named.named c.in-Ok.shared c.in_ok-named.ensures c.in-Ok.ensures

pub returns : goal.returns
returns c = not_shared c.args.text.now (option_copied c.args.name) c.from.result c.from.ensures
