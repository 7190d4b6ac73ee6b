use Rattle.std.proofs.{Common.{◌++◌, List, ℕ, ap, ◌∙◌, subst}, lemmas.Result.err_from_is_err_and}
use Rattle.byte_streams.specs.{Lent.WroteTo, Sinks.TookPart}
use Rattle.cell_drive.proofs.CellTexts.{accepted_text, wrote_next, took_first, took_second}
use Rattle.cell_drive.proofs.replies.put_accepted.Goals as goal

pub returns-in_err-put_all-clause-wrote : goal.returns-in_err-put_all-clause-wrote
returns-in_err-put_all-clause-wrote g c =
    let p = err_from_is_err_and c.from_residual.result c.from_residual.ensures.1 in
    let a = c.args in
    let text = accepted_text a.prefix.now _ a.report a.overdue a.orders.now c.put_first-others.result.now a.ended c.put_first-others.ensures.written a.late c.bytes.result.now
    (c.bytes.ensures ∙ c.put_text.ensures.written ∙ ap (λ (t : List ℕ). a.prefix.now ++ t) c.put_entry_line.ensures.written) c.put_first-others.ensures.late in
    rw p.1 (c.in_err-put_all.ensures.wrote.0, subst (TookPart _ _) text (took_first _ _ _ _ c.in_err-put_all.ensures.wrote.1))

pub returns-in_err-put_lateness-clause-wrote : goal.returns-in_err-put_lateness-clause-wrote
returns-in_err-put_lateness-clause-wrote g c =
    let p = err_from_is_err_and c.from_residual-in_err-put_lateness.result c.from_residual-in_err-put_lateness.ensures.1 in
    let a = c.args in
    let text = accepted_text a.prefix.now _ a.report a.overdue a.orders.now c.put_first-others.result.now a.ended c.put_first-others.ensures.written a.late c.bytes.result.now
    (c.bytes.ensures ∙ c.put_text.ensures.written ∙ ap (λ (t : List ℕ). a.prefix.now ++ t) c.put_entry_line.ensures.written) c.put_first-others.ensures.late in
    rw p.1 (c.in_err-put_lateness.ensures.wrote.0, subst (TookPart _ _) text (took_second _ _ _ _ _ c.in_ok-put_all.ensures.wrote (took_first _ _ _ _ c.in_err-put_lateness.ensures.wrote.1)))

pub returns-in_err-put_orders-clause-wrote : goal.returns-in_err-put_orders-clause-wrote
returns-in_err-put_orders-clause-wrote g c =
    let p = err_from_is_err_and c.from_residual-in_err-put_orders.result c.from_residual-in_err-put_orders.ensures.1 in
    let a = c.args in
    let text = accepted_text a.prefix.now _ a.report a.overdue a.orders.now c.put_first-others.result.now a.ended c.put_first-others.ensures.written a.late c.bytes.result.now
    (c.bytes.ensures ∙ c.put_text.ensures.written ∙ ap (λ (t : List ℕ). a.prefix.now ++ t) c.put_entry_line.ensures.written) c.put_first-others.ensures.late in
    rw p.1 (
      c.in_err-put_orders.ensures.wrote.0,
      subst (TookPart _ _) text (took_second _ _ _ _ _ c.in_ok-put_all.ensures.wrote
          (took_second _ _ _ _ _ c.in_ok-put_lateness.ensures.wrote (took_first _ _ _ _ c.in_err-put_orders.ensures.wrote.1))),
    )

pub returns-clause-wrote : goal.returns-clause-wrote
returns-clause-wrote g c =
    let a = c.args in
    let text = accepted_text a.prefix.now _ a.report a.overdue a.orders.now c.put_first-others.result.now a.ended c.put_first-others.ensures.written a.late c.bytes.result.now
    (c.bytes.ensures ∙ c.put_text.ensures.written ∙ ap (λ (t : List ℕ). a.prefix.now ++ t) c.put_entry_line.ensures.written) c.put_first-others.ensures.late in
    subst (WroteTo g.W.Sink c.put_end.result c.args.writer.now c.put_end.new.writer) text
    (wrote_next c.put_end.result _ _ _ _ _ _ c.in_ok-put_all.ensures.wrote (wrote_next c.put_end.result _ _ _ _ _ _ c.in_ok-put_lateness.ensures.wrote (wrote_next c.put_end.result _ _ _ _ _ _ c.in_ok-put_orders.ensures.wrote c.put_end.ensures.wrote)))
