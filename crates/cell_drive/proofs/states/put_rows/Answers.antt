use Rattle.std.proofs.Common.{ℕ, List, ◌+◌, ◌-◌, ◌++◌, ◌∙◌, refl, sym, ap, subst, arith}
use Rattle.std.proofs.lemmas.Result.{err_from_is_err_and}
use Rattle.byte_streams.specs.Sinks.{AllBut}
use Rattle.byte_streams.proofs.Written.{AllBut-none, AllBut-more, AllBut-all, TookPart-rest}
use Rattle.cell_tables.specs.declared.standing.Standing.{Standing}
use Rattle.cell_drive.specs.{States.{standing_part, texts_from}, StateRows.{row, row_count, rows_text}}
use Rattle.cell_drive.proofs.StateTexts.{all_texts, next_text, no_more_texts}
use Rattle.cell_drive.proofs.states.put_rows.Goals as goal

pub loop-number-init : goal.loop-number-init
loop-number-init g c =
    let v = c.args.cell.now in
    let text = λ (i : ℕ). standing_part c.args.prefix.now (row v.plan v.cell c.args.rows i) in
    record {
      so_far = subst (λ (rest : List ℕ). AllBut (g.W.Sink.written c.args.writer.now) (g.W.Sink.written c.args.writer.now) (rows_text c.args.prefix.now v.plan v.cell c.args.rows) rest)
          (sym (all_texts text (row_count v.plan c.args.rows))) (AllBut-none _ _);
      unfailed = refl;
    }

pub returns-in_err-put_standing-clause-wrote : goal.returns-in_err-put_standing-clause-wrote
returns-in_err-put_standing-clause-wrote g c =
    let v = c.args.cell.now in
    let i = c.loop-number.number in
    let text = λ (i : ℕ). standing_part c.args.prefix.now (row v.plan v.cell c.args.rows i) in
    let n = row_count v.plan c.args.rows in
    let rest = texts_from text (i + 1) (n - (i + 1)) in
    let p = err_from_is_err_and c.from_residual.result c.from_residual.ensures.1 in
    rw p.1 (
      c.in_err-put_standing.ensures.wrote.0,
      TookPart-rest _ _ _ _ _ _ rest c.loop-number.invariant.so_far c.in_err-put_standing.ensures.wrote.1
          (ap (λ (s : Standing). standing_part c.args.prefix.now s ++ rest) c.row.ensures ∙ next_text text i n (omega (arith, c.loop-number-test.true, c.row_count-number-end.ensures.count))),
    )

pub loop-number-preserved : goal.loop-number-preserved
loop-number-preserved g c =
    let v = c.args.cell.now in
    let i = c.loop-number.number in
    let text = λ (i : ℕ). standing_part c.args.prefix.now (row v.plan v.cell c.args.rows i) in
    let n = row_count v.plan c.args.rows in
    let rest = texts_from text (i + 1) (n - (i + 1)) in
    record {
      so_far = AllBut-more _ _ _ _ _ _ _ c.loop-number.invariant.so_far c.in_ok-put_standing.ensures.wrote
          (ap (λ (s : Standing). standing_part c.args.prefix.now s ++ rest) c.row.ensures ∙ next_text text i n (omega (arith, c.loop-number-test.true, c.row_count-number-end.ensures.count)));
      unfailed = c.in_ok-put_standing.ensures.unfailed ∙ c.loop-number.invariant.unfailed;
    }

pub returns-clause-wrote : goal.returns-clause-wrote
returns-clause-wrote g c =
    let v = c.args.cell.now in
    AllBut-all _ _ _ _ c.loop-number.invariant.so_far
    (no_more_texts (λ (i : ℕ). standing_part c.args.prefix.now (row v.plan v.cell c.args.rows i)) c.loop-number.number (row_count v.plan c.args.rows)
    (omega (arith, c.loop-number-test.false, c.row_count-number-end.ensures.count)))
