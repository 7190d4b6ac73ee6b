use Rattle.std.proofs.Common.{Ok}
use Rattle.command_answers.proofs.cells.load_cells.Goals as goal

pub returns : goal.returns
returns g c = record {
  came = Ok c.in_ok-text.text.items;
  mid = c.text.new.self;
  is = c.in_ok-text.ensures.asked;
  goes_on = rw (← c.deref.ensures.value) c.load_each.ensures;
}
