use Rattle.std.proofs.Common.{◌<◌, List, ℕ, ◌++◌, string_bytes, subst, sym, ap, ◌∙◌, arith}
use Rattle.run_gantt.proofs.Bars.{column-ascii, columns-more}
use Rattle.run_gantt.proofs.gantt_text.push_columns.Goals as goal

pub loop-column-preserved : goal.loop-column-preserved
loop-column-preserved c =
    let i = c.loop-column.column-index in
    let small : c.column_sign.result < 128 = subst (λ (x : ℕ). x < 128) (sym c.column_sign.ensures) (column-ascii _ (c.requires i)) in
    let pushed = c.in_ok-push.ensures.bytes ∙ ap (λ (l : List ℕ). string_bytes c.loop-column.text ++ l) (c.in_ok-push.ensures.ascii small) in
    columns-more _ _ _ c.args.columns.now i _ (omega arith) pushed c.column_sign.ensures c.loop-column.invariant
