use Rattle.std.proofs.Common.{inl}
use Rattle.std.proofs.lemmas.Result.{err_from_is_err_and}
use Rattle.byte_streams.specs.Lent.{sink_state}
use Rattle.byte_streams.specs.Reading.{reached}
use Rattle.byte_streams.proofs.Streamed.{finish_cut, finish_shown}
use Rattle.byte_streams.proofs.streaming.finish.Goals as goal

pub returns-in_err-answer_last-clause-finished : goal.returns-in_err-answer_last-clause-finished
returns-in_err-answer_last-clause-finished g c =
    let p = err_from_is_err_and c.from_residual.result c.from_residual.ensures.1 in
    rw p.1 (c.in_err-answer_last.ensures.0, inl c.in_err-answer_last.ensures.1)

pub returns-in_err-put_closing-clause-finished : goal.returns-in_err-put_closing-clause-finished
returns-in_err-put_closing-clause-finished g c =
    let p = err_from_is_err_and c.from_residual-in_err-put_closing.result c.from_residual-in_err-put_closing.ensures.1 in
    rw p.1 (finish_cut _ _ _ (reached c.args.handler.now c.args.input.now) _ _ _ _ c.in_ok-answer_last.ensures c.in_err-put_closing.ensures)

pub returns-clause-finished : goal.returns-clause-finished
returns-clause-finished g c = finish_shown _ _ _ _ (reached c.args.handler.now c.args.input.now) _ _ _ _ (sink_state g.W.Sink c.flush.new.self) c.in_ok-answer_last.ensures c.in_ok-put_closing.ensures c.flush.ensures.written c.flush.ensures.unfailed c.flush.ensures.failed
