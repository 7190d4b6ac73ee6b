use Rattle.std.proofs.Common.{drop, map, string_bytes}
use Rattle.std.specs.Option.{option_copied}
use Rattle.command_answers.specs.Cells.{IsReadBefore}
use Rattle.command_answers.proofs.CellPlans.{Carries}
use Rattle.command_answers.proofs.cells.load_each.Given as goal

abbrev pub invariant-loop-path : goal.invariant-loop-path
invariant-loop-path g l = record {
  carries : Carries g.T.Texts.gives l.text (option_copied l.name) l.cells.items (map string_bytes (drop l.path-index l.plans)) l.texts (map string_bytes l.plans) l.initial.texts;
  read : IsReadBefore l.text (option_copied l.name) l.shop;
}
