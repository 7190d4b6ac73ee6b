use Rattle.std.proofs.Common.{◌≡◌, ℕ, ap}
use Rattle.std.proofs.lemmas.Result.{err_from_is_err_and}
use Rattle.run_picture.specs.declared.head.Head.{Head}
use Rattle.run_picture.specs.PictureText.{frame_text}
use Rattle.run_picture.proofs.Parts.{appends_as, took_as, wrote_next, took_first, took_second}
use Rattle.run_picture.proofs.picture.put_picture.Goals as goal

framed : (margin of machines : ℕ) (head : Head) → margin ≡ of → frame_text margin machines head ≡ frame_text of machines head
framed margin of machines head is = ap (λ (m : ℕ). frame_text m machines head) is

pub returns-in_err-put_head-clause-wrote : goal.returns-in_err-put_head-clause-wrote
returns-in_err-put_head-clause-wrote g c =
    let p = err_from_is_err_and c.from_residual.result c.from_residual.ensures.1 in
    rw p.1 (c.in_err-put_head.ensures.wrote.0, took_first _ _ _ _ (took_as _ _ _ _ (framed _ _ _ _ c.left_margin-margin.ensures.margin) c.in_err-put_head.ensures.wrote.1))

pub returns-in_err-put_axis-clause-wrote : goal.returns-in_err-put_axis-clause-wrote
returns-in_err-put_axis-clause-wrote g c =
    let p = err_from_is_err_and c.from_residual-in_err-put_axis.result c.from_residual-in_err-put_axis.ensures.1 in
    rw p.1 (c.in_err-put_axis.ensures.wrote.0, took_second _ _ _ _ _ (appends_as _ _ _ _ (framed _ _ _ _ c.left_margin-margin.ensures.margin) c.in_ok-put_head.ensures.wrote) (took_first _ _ _ _ c.in_err-put_axis.ensures.wrote.1))

pub returns-clause-wrote : goal.returns-clause-wrote
returns-clause-wrote g c =
    wrote_next c.put_drawing.result _ _ _ _ _ _ (appends_as _ _ _ _ (framed _ _ _ _ c.left_margin-margin.ensures.margin) c.in_ok-put_head.ensures.wrote)
    (wrote_next c.put_drawing.result _ _ _ _ _ _ c.in_ok-put_axis.ensures.wrote
    (c.put_drawing.ensures.wrote))
