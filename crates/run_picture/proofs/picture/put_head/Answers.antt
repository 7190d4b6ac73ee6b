use Rattle.std.proofs.Common.{◌∙◌}
use Rattle.std.proofs.lemmas.Result.{err_from_is_err_and}
use Rattle.run_picture.specs.PictureText.{size_text, style_text, colour_text, ground_text, words_text, frame_text}
use Rattle.run_picture.proofs.Parts.{wrote_as, appends_as, took_as, wrote_next, took_first, took_second}
use Rattle.run_picture.proofs.picture.put_head.Goals as goal

pub returns-in_err-put_all-clause-wrote : goal.returns-in_err-put_all-clause-wrote
unfolding frame_text
returns-in_err-put_all-clause-wrote g c =
    let p = err_from_is_err_and c.from_residual.result c.from_residual.ensures.1 in
    rw p.1 (c.in_err-put_all.ensures.wrote.0, took_first _ _ (size_text c.args.margin c.args.machines) _ (took_as _ _ _ _ (c.bytes.ensures ∙ c.size_line.ensures) c.in_err-put_all.ensures.wrote.1))

pub returns-in_err-put_all-2-clause-wrote : goal.returns-in_err-put_all-2-clause-wrote
unfolding frame_text
returns-in_err-put_all-2-clause-wrote g c =
    let p = err_from_is_err_and c.from_residual-in_err-put_all-2.result c.from_residual-in_err-put_all-2.ensures.1 in
    rw p.1 (
      c.in_err-put_all-2.ensures.wrote.0,
      took_second _ _ _ (size_text c.args.margin c.args.machines) _ (appends_as _ _ _ _ (c.bytes.ensures ∙ c.size_line.ensures) c.in_ok-put_all.ensures.wrote)
          (took_first _ _ style_text _ (took_as _ _ _ _ c.style_text.ensures c.in_err-put_all-2.ensures.wrote.1)),
    )

pub returns-in_err-put_all-3-clause-wrote : goal.returns-in_err-put_all-3-clause-wrote
unfolding frame_text
returns-in_err-put_all-3-clause-wrote g c =
    let p = err_from_is_err_and c.from_residual-in_err-put_all-3.result c.from_residual-in_err-put_all-3.ensures.1 in
    rw p.1 (
      c.in_err-put_all-3.ensures.wrote.0,
      took_second _ _ _ (size_text c.args.margin c.args.machines) _ (appends_as _ _ _ _ (c.bytes.ensures ∙ c.size_line.ensures) c.in_ok-put_all.ensures.wrote)
          (took_second _ _ _ style_text _ (appends_as _ _ _ _ c.style_text.ensures c.in_ok-put_all-2.ensures.wrote)
          (took_first _ _ colour_text _ (took_as _ _ _ _ c.colour_text.ensures c.in_err-put_all-3.ensures.wrote.1))),
    )

pub returns-in_err-put_all-4-clause-wrote : goal.returns-in_err-put_all-4-clause-wrote
unfolding frame_text
returns-in_err-put_all-4-clause-wrote g c =
    let p = err_from_is_err_and c.from_residual-in_err-put_all-4.result c.from_residual-in_err-put_all-4.ensures.1 in
    rw p.1 (
      c.in_err-put_all-4.ensures.wrote.0,
      took_second _ _ _ (size_text c.args.margin c.args.machines) _ (appends_as _ _ _ _ (c.bytes.ensures ∙ c.size_line.ensures) c.in_ok-put_all.ensures.wrote)
          (took_second _ _ _ style_text _ (appends_as _ _ _ _ c.style_text.ensures c.in_ok-put_all-2.ensures.wrote)
          (took_second _ _ _ colour_text _ (appends_as _ _ _ _ c.colour_text.ensures c.in_ok-put_all-3.ensures.wrote)
          (took_first _ _ (ground_text c.args.margin c.args.machines) _ (took_as _ _ _ _ (c.bytes-2.ensures ∙ c.ground_line.ensures) c.in_err-put_all-4.ensures.wrote.1)))),
    )

pub returns-clause-wrote : goal.returns-clause-wrote
unfolding frame_text
returns-clause-wrote g c =
    wrote_next c.put_all-5.result _ _ _ _ (size_text c.args.margin c.args.machines) _ (appends_as _ _ _ _ (c.bytes.ensures ∙ c.size_line.ensures) c.in_ok-put_all.ensures.wrote)
    (wrote_next c.put_all-5.result _ _ _ _ style_text _ (appends_as _ _ _ _ c.style_text.ensures c.in_ok-put_all-2.ensures.wrote)
    (wrote_next c.put_all-5.result _ _ _ _ colour_text _ (appends_as _ _ _ _ c.colour_text.ensures c.in_ok-put_all-3.ensures.wrote)
    (wrote_next c.put_all-5.result _ _ _ _ (ground_text c.args.margin c.args.machines) _ (appends_as _ _ _ _ (c.bytes-2.ensures ∙ c.ground_line.ensures) c.in_ok-put_all-4.ensures.wrote)
    (wrote_as c.put_all-5.result _ _ _ _ (words_text c.args.head) (c.bytes-3.ensures ∙ c.words_line.ensures) c.put_all-5.ensures.wrote))))
