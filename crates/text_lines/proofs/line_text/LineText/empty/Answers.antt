use Rattle.std.proofs.Common.{ℕ, arith, replicate}
use Rattle.std.proofs.Math.ListN.{drop_of_length-le}
use Rattle.std.proofs.lemmas.List.{length-replicate}
use Rattle.text_lines.proofs.line_text.LineText.empty.Goals as goal

pub returns : goal.returns
returns g c = drop_of_length-le (replicate {A = ℕ} g.row.ROOM 0) (omega (arith, length-replicate {A = ℕ} g.row.ROOM 0))
