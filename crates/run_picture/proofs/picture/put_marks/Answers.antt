use Rattle.std.proofs.Common.{◌+◌, drop, ◌∙◌, refl, arith}
use Rattle.std.specs.List.{flat_map}
use Rattle.std.proofs.lemmas.Result.{err_from_is_err_and}
use Rattle.byte_streams.proofs.Written.{AllBut-none, AllBut-more, AllBut-all, TookPart-rest}
use Rattle.run_picture.specs.PictureText.{mark_text}
use Rattle.run_picture.proofs.Parts.{took_as, appends_as, next_item, no_item}
use Rattle.run_picture.proofs.picture.put_marks.Goals as goal

pub returns-in_err-put_all-clause-wrote : goal.returns-in_err-put_all-clause-wrote
returns-in_err-put_all-clause-wrote g c =
    let i = c.loop-leaving.leaving-index in
    let p = err_from_is_err_and c.from_residual.result c.from_residual.ensures.1 in
    rw p.1 (
      c.in_err-put_all.ensures.wrote.0,
      TookPart-rest _ _ _ _ _ _ (flat_map (mark_text c.args.last) (drop (i + 1) c.args.late.now)) c.loop-leaving.invariant.so_far
          (took_as _ _ _ _ (c.bytes.ensures ∙ c.mark_line.ensures) c.in_err-put_all.ensures.wrote.1)
          (next_item (mark_text c.args.last) c.args.late.now i _ (omega arith)),
    )

pub loop-leaving-init : goal.loop-leaving-init
loop-leaving-init g c = record { so_far = AllBut-none _ _; unfailed = refl }

pub loop-leaving-preserved : goal.loop-leaving-preserved
loop-leaving-preserved g c = record {
  so_far = AllBut-more _ _ _ _ _ _ _ c.loop-leaving.invariant.so_far (appends_as _ _ _ _ (c.bytes.ensures ∙ c.mark_line.ensures) c.in_ok-put_all.ensures.wrote)
      (next_item (mark_text c.args.last) c.args.late.now c.loop-leaving.leaving-index _ (omega arith));
  unfailed = c.in_ok-put_all.ensures.unfailed ∙ c.loop-leaving.invariant.unfailed;
}

pub returns-clause-wrote : goal.returns-clause-wrote
returns-clause-wrote g c =
    AllBut-all _ _ _ _ c.loop-leaving.invariant.so_far (no_item (mark_text c.args.last) c.args.late.now c.loop-leaving.leaving-index (omega arith))
