use Rattle.std.proofs.Common.{◌+◌, ◌-◌, ◌∙◌, Option, sym, ap, arith}
use Rattle.event_lines.specs.declared.details.Overdue.{Overdue}
use Rattle.cell_drive.specs.{States.{count_of, with_one, with_those}, StateRows.{row, row_count}}
use Rattle.cell_drive.proofs.StateTexts.{all_found, next_found, no_more_found, one_counted}
use Rattle.cell_drive.proofs.states.with_rows.Goals as goal

pub loop-number-init : goal.loop-number-init
loop-number-init g c =
    let v = c.args.cell.now in
    record { found = all_found c.args.at (row v.plan v.cell c.args.rows) c.args.before (row_count v.plan c.args.rows); few = omega arith }

pub with_one-found-requires : goal.with_one-found-requires
with_one-found-requires g c = omega (arith, c.loop-number.invariant.few, c.loop-number-test.true, c.row_count-number-end.ensures.few, c.requires)

pub loop-number-preserved : goal.loop-number-preserved
loop-number-preserved g c =
    let v = c.args.cell.now in
    let i = c.loop-number.number in
    let n = row_count v.plan c.args.rows in
    let standing = row v.plan v.cell c.args.rows in
    let found_is = c.with_one-found.ensures ∙ ap (with_one c.args.at c.loop-number.found) c.row.ensures in
    record {
      found = ap (λ (o : Option Overdue). with_those c.args.at standing o (i + 1) (n - (i + 1))) found_is
          ∙ next_found c.args.at standing c.loop-number.found i n (omega (arith, c.loop-number-test.true, c.row_count-number-end.ensures.count)) ∙ c.loop-number.invariant.found;
      few = omega (arith, ap count_of found_is, one_counted c.args.at c.loop-number.found (standing i), c.loop-number.invariant.few);
    }

pub returns-clause-found : goal.returns-clause-found
returns-clause-found g c =
    let v = c.args.cell.now in
    sym (no_more_found c.args.at (row v.plan v.cell c.args.rows) c.loop-number.found c.loop-number.number (row_count v.plan c.args.rows)
    (omega (arith, c.loop-number-test.false, c.row_count-number-end.ensures.count))) ∙ c.loop-number.invariant.found

pub returns-clause-few : goal.returns-clause-few
returns-clause-few g c = omega (arith, c.loop-number.invariant.few, c.loop-number.auto.number-end, c.row_count-number-end.ensures.few)
