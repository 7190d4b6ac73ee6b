use Rattle.std.proofs.Common.{◌≡◌, ◌++◌}
use Rattle.std.specs.List.{flat_map}
use Rattle.std.proofs.lemmas.Result.{err_from_is_err_and}
use Rattle.run_picture.specs.Boxes.{wait_box, clean_box, if_any}
use Rattle.run_picture.specs.BoxText.{box_text}
use Rattle.run_picture.specs.PictureText.{visit_text}
use Rattle.run_picture.proofs.Parts.{wrote_as, took_as, wrote_next, took_first, took_second}
use Rattle.run_picture.proofs.Visits.{visit_parts}
use Rattle.run_picture.proofs.picture.put_visit.Goals as goal

pub returns-in_err-put_box-clause-wrote : goal.returns-in_err-put_box-clause-wrote
returns-in_err-put_box-clause-wrote g c =
    let last = c.args.last in
    let visit = c.args.visit in
    let late = c.args.late.now in
    let names = c.args.names.now in
    let one = box_text names last in
    let p = err_from_is_err_and c.from_residual.result c.from_residual.ensures.1 in
    let parts : one c.work_box.result ++ (flat_map one (if_any (wait_box last c.is_late-is_late.result visit)) ++ flat_map one (if_any (clean_box last visit))) ≡ visit_text names last late visit =
    rw c.work_box.ensures (visit_parts names last late visit c.is_late-is_late.result c.is_late-is_late.ensures) in
    rw p.1 (c.in_err-put_box.ensures.wrote.0, took_as _ _ _ _ parts (took_first _ _ _ _ c.in_err-put_box.ensures.wrote.1))

pub returns-in_err-put_any-clause-wrote : goal.returns-in_err-put_any-clause-wrote
returns-in_err-put_any-clause-wrote g c =
    let last = c.args.last in
    let visit = c.args.visit in
    let late = c.args.late.now in
    let names = c.args.names.now in
    let one = box_text names last in
    let p = err_from_is_err_and c.from_residual-in_err-put_any.result c.from_residual-in_err-put_any.ensures.1 in
    let parts : one c.work_box.result ++ (flat_map one (if_any c.wait_box.result) ++ flat_map one (if_any (clean_box last visit))) ≡ visit_text names last late visit =
    rw (c.work_box.ensures, c.wait_box.ensures) (visit_parts names last late visit c.is_late-is_late.result c.is_late-is_late.ensures) in
    rw p.1 (
      c.in_err-put_any.ensures.wrote.0,
      took_as _ _ _ _ parts (took_second _ _ _ _ _ c.in_ok-put_box.ensures.wrote (took_first _ _ _ _ c.in_err-put_any.ensures.wrote.1)),
    )

pub returns-clause-wrote : goal.returns-clause-wrote
returns-clause-wrote g c =
    let last = c.args.last in
    let visit = c.args.visit in
    let late = c.args.late.now in
    let names = c.args.names.now in
    let one = box_text names last in
    let parts : one c.work_box.result ++ (flat_map one (if_any c.wait_box.result) ++ flat_map one (if_any c.clean_box.result)) ≡ visit_text names last late visit =
    rw (c.work_box.ensures, c.wait_box.ensures, c.clean_box.ensures) (visit_parts names last late visit c.is_late-is_late.result c.is_late-is_late.ensures) in
    wrote_as c.put_any-2.result _ _ _ _ _ parts
    (wrote_next c.put_any-2.result _ _ _ _ _ _ c.in_ok-put_box.ensures.wrote
    (wrote_next c.put_any-2.result _ _ _ _ _ _ c.in_ok-put_any.ensures.wrote c.put_any-2.ensures.wrote))
