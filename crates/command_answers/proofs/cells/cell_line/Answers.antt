use Rattle.std.proofs.Common.{refl}
use Rattle.command_answers.proofs.cells.cell_line.Goals as goal

pub returns : goal.returns
returns c = (
  c.in_ok-line.line,
  c.in_ok-line.ensures,
  rw (c.in_ok-extend_from_slice-2.ensures.items, c.in_ok-extend_from_slice.ensures.items, c.in_ok-push_fact.ensures, c.new-text.ensures.items, c.deref.ensures.value) refl,
  refl,
)
