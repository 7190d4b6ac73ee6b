use Rattle.std.proofs.Common.{◌-◌, ◌++◌, Bool, List, length, take, drop, ap, ◌∙◌, arith, length-drop}
use Rattle.std.proofs.{lemmas.List.take_rest, lemmas.Result.err_from_is_err_and}
use Rattle.byte_streams.proofs.Written.{AllBut-more, TookPart-rest}
use Rattle.cell_tables.specs.declared.entry.Entry.{Entry}
use Rattle.cell_drive.specs.PlainLines.{plain_lines}
use Rattle.cell_drive.proofs.V1Replay.{first_plain}
use Rattle.cell_drive.proofs.v1_replay.put_v1_replay.Goals as goal

pub returns-in_err-put_few-clause-wrote : goal.returns-in_err-put_few-clause-wrote
returns-in_err-put_few-clause-wrote g c =
    let rest = c.rests.rest.now in
    let late = c.rests.rest_late.now in
    let n = c.min-count.result in
    let p = err_from_is_err_and c.from_residual.result c.from_residual.ensures.1 in
    rw p.1 (
      c.in_err-put_few.ensures.wrote.0,
      TookPart-rest _ _ _ _ _ _ (plain_lines (drop n rest) (drop n late)) c.rests.invariant.so_far c.in_err-put_few.ensures.wrote.1 (first_plain n rest late),
    )

pub rests-preserved : goal.rests-preserved
rests-preserved g c =
    let rest = c.rests.rest.now in
    let late = c.rests.rest_late.now in
    let n = c.min-count.result in
    record {
      so_far = AllBut-more _ _ _ _ _ _ _ c.rests.invariant.so_far c.in_ok-put_few.ensures.wrote
          (ap (λ (es : List Entry). plain_lines (take n rest) (take n late) ++ plain_lines es (take (length late - n) (drop n late))) (take_rest rest n)
          ∙ ap (λ (ls : List Bool). plain_lines (take n rest) (take n late) ++ plain_lines (drop n rest) ls) (take_rest late n)
          ∙ first_plain n rest late);
      same = omega (arith, c.rests.invariant.same, ap length (take_rest rest n), ap length (take_rest late n), length-drop n rest, length-drop n late);
      unfailed = c.in_ok-put_few.ensures.unfailed ∙ c.rests.invariant.unfailed;
    }
