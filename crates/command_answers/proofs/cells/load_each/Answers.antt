use Rattle.std.proofs.Common.{map, string_bytes}
use Rattle.std.specs.Option.{option_copied}
use Rattle.command_answers.proofs.CellPlans.{carried_on, ended_here}
use Rattle.command_answers.proofs.cells.load_each.Goals as goal

pub returns-in-Some : goal.returns-in-Some
returns-in-Some g c = ended_here g.T.Texts.gives c.args.text.now (option_copied c.args.name) c.loop-path.cells.items c.args.plans.now c.loop-path.path-index c.loop-path.texts (map string_bytes c.args.plans.now) c.args.texts.now c.loop-path.invariant.carries c.path-item.result c.loop-path-test.true c.path-item.is c.as_str.result.now c.as_str.ensures.value
    c.add_cell.result c.add_cell.new.cells.items c.add_cell.new.texts c.add_cell.ensures.added c.in-Some.ended c.in-Some.is

pub loop-path-preserved : goal.loop-path-preserved
loop-path-preserved g c = record {
  carries = carried_on g.T.Texts.gives c.args.text.now (option_copied c.args.name) c.loop-path.cells.items c.args.plans.now c.loop-path.path-index c.loop-path.texts (map string_bytes c.args.plans.now) c.args.texts.now c.loop-path.invariant.carries c.path-item.result c.loop-path-test.true c.path-item.is c.as_str.result.now c.as_str.ensures.value
      c.add_cell.result c.add_cell.new.cells.items c.add_cell.new.texts c.add_cell.ensures.added c.in-None.is;
  read = c.add_cell.ensures.read;
}

pub add_cell-requires : goal.add_cell-requires
add_cell-requires g c = c.loop-path.invariant.read
