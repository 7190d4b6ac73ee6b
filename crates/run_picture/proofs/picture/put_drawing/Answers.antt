use Rattle.std.proofs.lemmas.Result.{err_from_is_err_and}
use Rattle.run_picture.proofs.Parts.{wrote_next, took_first, took_second}
use Rattle.run_picture.proofs.picture.put_drawing.Goals as goal

pub returns-in_err-put_rows-clause-wrote : goal.returns-in_err-put_rows-clause-wrote
returns-in_err-put_rows-clause-wrote g c =
    let p = err_from_is_err_and c.from_residual.result c.from_residual.ensures.1 in
    rw p.1 (c.in_err-put_rows.ensures.wrote.0, took_first _ _ _ _ c.in_err-put_rows.ensures.wrote.1)

pub returns-in_err-put_visits-clause-wrote : goal.returns-in_err-put_visits-clause-wrote
returns-in_err-put_visits-clause-wrote g c =
    let p = err_from_is_err_and c.from_residual-in_err-put_visits.result c.from_residual-in_err-put_visits.ensures.1 in
    rw p.1 (c.in_err-put_visits.ensures.wrote.0, took_second _ _ _ _ _ c.in_ok-put_rows.ensures.wrote (took_first _ _ _ _ c.in_err-put_visits.ensures.wrote.1))

pub returns-in_err-put_marks-clause-wrote : goal.returns-in_err-put_marks-clause-wrote
returns-in_err-put_marks-clause-wrote g c =
    let p = err_from_is_err_and c.from_residual-in_err-put_marks.result c.from_residual-in_err-put_marks.ensures.1 in
    rw p.1 (c.in_err-put_marks.ensures.wrote.0, took_second _ _ _ _ _ c.in_ok-put_rows.ensures.wrote (took_second _ _ _ _ _ c.in_ok-put_visits.ensures.wrote (took_first _ _ _ _ c.in_err-put_marks.ensures.wrote.1)))

pub returns-in_err-put_present-clause-wrote : goal.returns-in_err-put_present-clause-wrote
returns-in_err-put_present-clause-wrote g c =
    let p = err_from_is_err_and c.from_residual-in_err-put_present.result c.from_residual-in_err-put_present.ensures.1 in
    rw p.1 (c.in_err-put_present.ensures.wrote.0, took_second _ _ _ _ _ c.in_ok-put_rows.ensures.wrote (took_second _ _ _ _ _ c.in_ok-put_visits.ensures.wrote (took_second _ _ _ _ _ c.in_ok-put_marks.ensures.wrote (took_first _ _ _ _ c.in_err-put_present.ensures.wrote.1))))

pub returns-clause-wrote : goal.returns-clause-wrote
returns-clause-wrote g c =
    wrote_next c.put_all.result _ _ _ _ _ _ c.in_ok-put_rows.ensures.wrote
    (wrote_next c.put_all.result _ _ _ _ _ _ c.in_ok-put_visits.ensures.wrote
    (wrote_next c.put_all.result _ _ _ _ _ _ c.in_ok-put_marks.ensures.wrote
    (wrote_next c.put_all.result _ _ _ _ _ _ c.in_ok-put_present.ensures.wrote
    (c.put_all.ensures.wrote))))
