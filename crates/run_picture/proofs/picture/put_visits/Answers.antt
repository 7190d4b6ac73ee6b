use Rattle.std.proofs.Common.{◌+◌, drop, ◌∙◌, refl, arith}
use Rattle.std.specs.List.{flat_map}
use Rattle.std.proofs.lemmas.Result.{err_from_is_err_and}
use Rattle.byte_streams.proofs.Written.{AllBut-none, AllBut-more, AllBut-all, TookPart-rest}
use Rattle.run_picture.specs.PictureText.{visit_text}
use Rattle.run_picture.proofs.Parts.{next_item, no_item}
use Rattle.run_picture.proofs.picture.put_visits.Goals as goal

pub returns-in_err-put_visit-clause-wrote : goal.returns-in_err-put_visit-clause-wrote
returns-in_err-put_visit-clause-wrote g c =
    let i = c.loop-visit.visit-index in
    let p = err_from_is_err_and c.from_residual.result c.from_residual.ensures.1 in
    rw p.1 (
      c.in_err-put_visit.ensures.wrote.0,
      TookPart-rest _ _ _ _ _ _ (flat_map (visit_text c.args.names.now c.args.last c.args.late.now) (drop (i + 1) c.args.visits.now)) c.loop-visit.invariant.so_far c.in_err-put_visit.ensures.wrote.1
          (next_item (visit_text c.args.names.now c.args.last c.args.late.now) c.args.visits.now i _ (omega arith)),
    )

pub loop-visit-init : goal.loop-visit-init
loop-visit-init g c = record { so_far = AllBut-none _ _; unfailed = refl }

pub loop-visit-preserved : goal.loop-visit-preserved
loop-visit-preserved g c = record {
  so_far = AllBut-more _ _ _ _ _ _ _ c.loop-visit.invariant.so_far c.in_ok-put_visit.ensures.wrote
      (next_item (visit_text c.args.names.now c.args.last c.args.late.now) c.args.visits.now c.loop-visit.visit-index _ (omega arith));
  unfailed = c.in_ok-put_visit.ensures.unfailed ∙ c.loop-visit.invariant.unfailed;
}

pub returns-clause-wrote : goal.returns-clause-wrote
returns-clause-wrote g c =
    AllBut-all _ _ _ _ c.loop-visit.invariant.so_far (no_item (visit_text c.args.names.now c.args.last c.args.late.now) c.args.visits.now c.loop-visit.visit-index (omega arith))
