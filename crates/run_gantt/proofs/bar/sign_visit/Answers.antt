use Rattle.std.proofs.Common.{◌≡◌, ℕ, ◌+◌, ◌*◌, ◌<◌, true, rules, Some, refl, sym, ap, subst, ◌∙◌, arith}
use Rattle.run_gantt.specs.GanttText.{is_before}
use Rattle.run_gantt.proofs.Bars.{option_or-none, sign-early, sign-there, column-before, column-after, columns-rise, column-done}
use Rattle.run_gantt.proofs.bar.sign_visit.Goals as goal

pub loop-column-init : goal.loop-column-init
loop-column-init c =
    let visit = c.args.visit in
    let scale = c.args.scale in
    let first = c.div_ceil-column.ensures in
    record {
      entered = rw first (column-after visit.enter scale c.requires.above);
      done = λ n less inside. rw (sign-early (n * scale) visit (column-before visit.enter scale n c.requires.above (subst (λ (x : ℕ). n < x) first less))) (sym (option_or-none _));
      others = λ n le. refl;
    }

pub loop-column-preserved : goal.loop-column-preserved
loop-column-preserved c =
    let visit = c.args.visit in
    let scale = c.args.scale in
    let column = c.loop-column.column in
    let inv = c.loop-column.invariant in
    let before : is_before (column * scale) visit.leave ≡ true = first_of (search rules, cc, grind arith) in
    record {
      entered = omega (arith, inv.entered, columns-rise column (column + 1) scale (omega arith));
      done = column-done _ _ _ scale column _ visit inv.done inv.others (sign-there (column * scale) visit inv.entered before ∙ ap Some (sym c.sign_at.ensures)) c.put_sign.ensures.here c.put_sign.ensures.others;
      others = λ n le. c.put_sign.ensures.others n (λ same. absurd (omega (arith, same))) ∙ inv.others n (omega arith);
    }
