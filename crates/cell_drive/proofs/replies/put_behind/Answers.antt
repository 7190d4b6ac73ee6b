use Rattle.std.proofs.{Common.{◌++◌, subst, sym}, lemmas.Result.err_from_is_err_and}
use Rattle.byte_streams.specs.Lent.{WroteTo}
use Rattle.cell_drive.proofs.{CellTexts.{wrote_next, took_first}, LineAnswers.no_bytes}
use Rattle.cell_drive.proofs.replies.put_behind.Goals as goal

pub returns-then-is_empty-clause-wrote : goal.returns-then-is_empty-clause-wrote
returns-then-is_empty-clause-wrote g c =
    subst (λ p. WroteTo g.W.Sink c.put_all.result c.args.writer.now c.put_all.new.writer (p ++ c.args.line.now))
    (sym (no_bytes _ _ c.is_empty.ensures c.if-is_empty.true)) c.put_all.ensures.wrote

pub returns-in_err-put_all-clause-wrote : goal.returns-in_err-put_all-clause-wrote
returns-in_err-put_all-clause-wrote g c =
    let p = err_from_is_err_and c.from_residual.result c.from_residual.ensures.1 in
    rw p.1 (c.in_err-put_all.ensures.wrote.0, took_first _ _ c.args.prefix.now c.args.line.now c.in_err-put_all.ensures.wrote.1)

pub returns-clause-wrote : goal.returns-clause-wrote
returns-clause-wrote g c = wrote_next c.put_all-3.result _ _ _ _ c.args.prefix.now c.args.line.now c.in_ok-put_all.ensures.wrote c.put_all-3.ensures.wrote
