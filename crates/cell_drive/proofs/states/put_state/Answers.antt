use Rattle.std.proofs.{Common.{◌++◌, ap₂, subst, List, ℕ}, lemmas.Result.err_from_is_err_and}
use Rattle.std.specs.Io.KnownBytes.{Appends}
use Rattle.byte_streams.specs.Sinks.{TookPart}
use Rattle.cell_drive.specs.States.{jobs_text, machines_text}
use Rattle.cell_drive.proofs.CellTexts.{wrote_next, took_first}
use Rattle.cell_drive.proofs.states.put_state.Goals as goal

pub returns-in_err-put_under_way-clause-wrote : goal.returns-in_err-put_under_way-clause-wrote
returns-in_err-put_under_way-clause-wrote g c =
    let same = ap₂ (λ q x. jobs_text c.args.prefix.now q x ++ machines_text c.args.prefix.now q x) c.work_cell.ensures.plan c.work_cell.ensures.cell in
    let p = err_from_is_err_and c.from_residual.result c.from_residual.ensures.1 in
    rw p.1 (c.in_err-put_under_way.ensures.wrote.0, took_first _ _ _ _ (subst (λ (t : List ℕ). TookPart (g.W.Sink.written c.args.writer.now) (g.W.Sink.written c.put_under_way.new.writer) t) same c.in_err-put_under_way.ensures.wrote.1))

pub returns-clause-wrote : goal.returns-clause-wrote
returns-clause-wrote g c =
    let same = ap₂ (λ q x. jobs_text c.args.prefix.now q x ++ machines_text c.args.prefix.now q x) c.work_cell.ensures.plan c.work_cell.ensures.cell in
    wrote_next c.put_closing.result _ _ _ _ _ _ (subst (λ (t : List ℕ). Appends (g.W.Sink.written c.args.writer.now) (g.W.Sink.written c.put_under_way.new.writer) t) same c.in_ok-put_under_way.ensures.wrote) c.put_closing.ensures.wrote
