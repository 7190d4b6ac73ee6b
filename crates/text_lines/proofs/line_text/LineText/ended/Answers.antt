use Rattle.std.proofs.Common.{ℕ, ◌-◌, ◌∷◌, ap, ◌∙◌, arith, replicate}
use Rattle.std.proofs.Math.ListN.{drop_of_length-le}
use Rattle.std.proofs.lemmas.List.{length-replicate, drop-set}
use Rattle.text_lines.proofs.line_text.LineText.ended.Goals as goal

pub returns : goal.returns
returns g c =
    let zeros = replicate {A = ℕ} g.row.ROOM 0 in
    let size = length-replicate {A = ℕ} g.row.ROOM 0 in
    drop-set zeros (g.row.ROOM - 1) 10 (omega (arith, size, c.requires))
    ∙ ap (λ l. 10 ∷ l) (drop_of_length-le zeros (omega (arith, size)))
