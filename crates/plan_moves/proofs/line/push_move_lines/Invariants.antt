use Rattle.std.proofs.Common.{◌≡◌, ◌++◌, drop}
use Rattle.plan_moves.specs.MoveLines.{move_lines}
use Rattle.plan_moves.proofs.line.push_move_lines.Given as goal

-- what was written, and what is still to come
abbrev pub invariant-loop-order : goal.invariant-loop-order
invariant-loop-order l = l.text.items ++ move_lines l.names (drop l.order-index l.moves) ≡ l.initial.text.items ++ move_lines l.names l.moves
