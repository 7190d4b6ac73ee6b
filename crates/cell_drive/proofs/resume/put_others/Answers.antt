use Rattle.std.proofs.Common.{◌≡◌, ℕ, ◌-◌, List, [], ◌∷◌, length, take, drop, sym, ap, ◌∙◌, subst, length-drop}
use Rattle.std.proofs.Math.Seq.{take-length}
use Rattle.cell_tables.specs.declared.entry.Entry.{Entry}
use Rattle.event_lines.specs.EventLines.{entry_lines}
use Rattle.byte_streams.specs.Lent.{WroteTo}
use Rattle.cell_drive.proofs.CellTexts.{broke_first, wrote_next}
use Rattle.cell_drive.proofs.resume.put_others.Goals as goal

rest_whole : {A : Type 0} (n : ℕ) (xs : List A) → take (length xs - n) (drop n xs) ≡ drop n xs
rest_whole n xs = ap (λ m. take m (drop n xs)) (sym (length-drop n xs)) ∙ take-length (drop n xs)

pub returns-in_err-put_all-clause-wrote : goal.returns-in_err-put_all-clause-wrote
returns-in_err-put_all-clause-wrote g c =
    broke_first _ _ _ _ _ (10 ∷ []) _ c.from_residual.ensures.1 c.in_err-put_all.ensures.wrote

pub returns-clause-wrote : goal.returns-clause-wrote
returns-clause-wrote g c =
    let entries = c.args.entries.now in
    let last = subst (λ (es : List Entry). WroteTo g.W.Sink c.write_lines.result c.put_all.new.writer c.write_lines.new.writer (entry_lines es))
    (rest_whole c.args.replayed entries) c.write_lines.ensures.wrote in
    wrote_next c.write_lines.result _ _ _ _ (10 ∷ []) _ c.in_ok-put_all.ensures.wrote last
