use Rattle.std.proofs.{Common.{◌≡◌, ◌∙◌, ◌+◌, ◌++◌, List, ℕ, ap, drop}, lemmas.Result.err_from_is_err_and}
use Rattle.byte_streams.proofs.Written.{AllBut-all, AllBut-more, TookPart-rest}
use Rattle.event_lines.specs.SentLines.{cell_prefix}
use Rattle.cell_drive.specs.{LineAnswers.closing_line, Numbers.{closing_text, planned_cell}, Tickets.cells_of}
use Rattle.cell_drive.proofs.{Closing.next_closing, SeatedCells.{found_there, has_there, none_past}}
use Rattle.cell_drive.proofs.hub.put_closings.Goals as goal

pub returns-in_err-put_closing-clause-wrote : goal.returns-in_err-put_closing-clause-wrote
returns-in_err-put_closing-clause-wrote g c =
    let k = c.loop-cell.cell in
    let cells = cells_of c.args.hub.now c.args.tickets.now in
    let v = c.controller_of-controller.result.now in
    let there = found_there c.args.hub.now c.args.tickets.now k _ v c.requires.seated c.loop-cell-test.true c.controller_of-controller.ensures in
    let rest = closing_text (k + 1) (drop (k + 1) cells) in
    let prefix : c.bytes.result.now ≡ cell_prefix k = c.bytes.ensures ∙ c.cell_prefix-prefix.ensures.prefix in
    let wrote = c.in_err-put_closing.ensures.wrote in
    let p = err_from_is_err_and c.from_residual.result c.from_residual.ensures.1 in
    rw p.1 (
      wrote.0,
      TookPart-rest _ _ _ _ _ _ rest c.loop-cell.invariant.so_far wrote.1
          (ap (λ (t : List ℕ). (t ++ closing_line v.planned v.cell) ++ rest) prefix ∙ next_closing cells k (planned_cell v) there),
    )

pub loop-cell-preserved : goal.loop-cell-preserved
loop-cell-preserved g c =
    let k = c.loop-cell.cell in
    let cells = cells_of c.args.hub.now c.args.tickets.now in
    let v = c.controller_of-controller.result.now in
    let there = found_there c.args.hub.now c.args.tickets.now k _ v c.requires.seated c.loop-cell-test.true c.controller_of-controller.ensures in
    let rest = closing_text (k + 1) (drop (k + 1) cells) in
    let prefix : c.bytes.result.now ≡ cell_prefix k = c.bytes.ensures ∙ c.cell_prefix-prefix.ensures.prefix in
    record {
      so_far = AllBut-more _ _ _ _ _ _ _ c.loop-cell.invariant.so_far c.in_ok-put_closing.ensures.wrote
          (ap (λ (t : List ℕ). (t ++ closing_line v.planned v.cell) ++ rest) prefix ∙ next_closing cells k (planned_cell v) there);
      unfailed = c.in_ok-put_closing.ensures.unfailed ∙ c.loop-cell.invariant.unfailed;
    }

pub controller_of-controller-requires : goal.controller_of-controller-requires
controller_of-controller-requires g c = has_there c.args.hub.now c.args.tickets.now c.loop-cell.cell _ c.requires.seated c.loop-cell-test.true

pub returns-clause-wrote : goal.returns-clause-wrote
returns-clause-wrote g c =
    AllBut-all _ _ _ _ c.loop-cell.invariant.so_far (ap (closing_text c.loop-cell.cell) (none_past c.args.hub.now c.args.tickets.now c.loop-cell.cell c.requires.seated c.loop-cell-test.false))
