use Rattle.std.proofs.Common.{ℕ, List, [], ◌∷◌, ◌++◌, length, sym, subst, ap, ◌∙◌, arith, append_assoc, length-append}
use Rattle.shop_base.specs.Plan.{PlannedShop}
use Rattle.text_lines.specs.Lines.{lines_of}
use Rattle.text_lines.proofs.NextLines.{lines_of-le}
use Rattle.cell_tables.specs.declared.entry.Entry.{Entry}
use Rattle.event_lines.specs.LogLines.{LinesParse}
use Rattle.run_log.specs.Audits.{IsReplayed}
use Rattle.run_log.specs.Auditing.{IsLineReplayed}
use Rattle.event_lines.proofs.Readings.{parse-more}
use Rattle.run_log.proofs.Audits.{few_parsed}
use Rattle.run_log.proofs.logged_run.LoggedRun.take_lines.Goals as goal

pub overflow_add-number : goal.overflow_add-number
overflow_add-number g c =
    let so_far = c.loop-line.invariant in
    omega (arith, so_far.count, ap length so_far.split, length-append so_far.seen (lines_of c.loop-line.rest.now), ap length c.in-Some.ensures.line, lines_of-le c.args.text.now)

pub loop-line-preserved : goal.loop-line-preserved
loop-line-preserved g c =
    let so_far = c.loop-line.invariant in
    let p = c.args.self.now.cell.plan in
    let line = c.in-Some.line.now in
    let rest = lines_of c.in-Some.after.now in
    let before = c.loop-line.self.entries.items in
    let after = c.take_line.new.self.entries.items in
    let grown : IsLineReplayed p line before after = subst (λ (q : PlannedShop). IsLineReplayed q line before after) so_far.plan c.in_ok-take_line.ensures.parses in
    record {
      seen = so_far.seen ++ line ∷ [];
      split = so_far.split ∙ ap (λ (ls : List (List ℕ)). so_far.seen ++ ls) c.in-Some.ensures.line ∙ sym (append_assoc so_far.seen (line ∷ []) rest);
      count = omega (arith, so_far.count, length-append so_far.seen (line ∷ []));
      basis = c.in_ok-take_line.ensures.same_basis ∙ so_far.basis;
      plan = c.in_ok-take_line.ensures.same_plan ∙ so_far.plan;
      parses = subst (λ (es : List Entry). LinesParse p (so_far.seen ++ line ∷ []) es) (sym grown.2) (parse-more p so_far.seen line before grown.0 so_far.parses grown.1);
      replayed = subst (λ (q : PlannedShop). IsReplayed q c.take_line.new.self.cell.cell after) so_far.plan c.in_ok-take_line.ensures.replayed;
      few = omega (
        arith,
        so_far.few,
        few_parsed p line grown.0 grown.1,
        ap length grown.2,
        length-append before grown.0,
        length-append so_far.seen (line ∷ []),
      );
      room = c.in_ok-take_line.ensures.capacity ∙ so_far.room;
    }
