use Rattle.std.proofs.Common.{◌+◌, ◌++◌, drop, ap, ◌∙◌, arith}
use Rattle.std.proofs.lemmas.Result.{err_from_is_err_and}
use Rattle.event_lines.specs.EventLines.{entry_lines}
use Rattle.byte_streams.proofs.Written.{AllBut-more, TookPart-rest}
use Rattle.run_log.proofs.Entries.{next_line, alone}
use Rattle.run_log.proofs.log_text.write_lines.Goals as goal

pub returns-in_err-put_all-clause-wrote : goal.returns-in_err-put_all-clause-wrote
returns-in_err-put_all-clause-wrote g c =
    let entries = c.args.entries.now in
    let i = c.loop-entry.entry-index in
    let p = err_from_is_err_and c.from_residual.result c.from_residual.ensures.1 in
    rw p.1 (
      c.in_err-put_all.ensures.wrote.0,
      TookPart-rest _ _ _ _ _ _ (entry_lines (drop (i + 1) entries)) c.loop-entry.invariant.so_far c.in_err-put_all.ensures.wrote.1
          (ap (λ l. l ++ entry_lines (drop (i + 1) entries)) (c.bytes.ensures ∙ c.put_entry_line.ensures.written ∙ alone _ _ c.empty-line.ensures) ∙ next_line entries i _ (omega arith)),
    )

pub loop-entry-preserved : goal.loop-entry-preserved
loop-entry-preserved g c =
    let entries = c.args.entries.now in
    let i = c.loop-entry.entry-index in
    record {
      so_far = AllBut-more _ _ _ _ _ _ _ c.loop-entry.invariant.so_far c.in_ok-put_all.ensures.wrote
          (ap (λ l. l ++ entry_lines (drop (i + 1) entries)) (c.bytes.ensures ∙ c.put_entry_line.ensures.written ∙ alone _ _ c.empty-line.ensures) ∙ next_line entries i _ (omega arith));
      unfailed = c.in_ok-put_all.ensures.unfailed ∙ c.loop-entry.invariant.unfailed;
    }
