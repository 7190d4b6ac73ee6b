use Rattle.std.proofs.Common.{◌≡◌, ◌++◌, refl, ap}
use Rattle.plan_explain.proofs.Texts.{on_ok_same}
use Rattle.plan_schedule.specs.Lines.{visit_line}
use Rattle.plan_schedule.proofs.lines.push_visit_line.Goals as goal

pub returns : goal.returns
returns c =
    let line : c.put_visit.new.line ≡ visit_line c.args.names.now c.args.begins.now c.args.visit = rw (c.put_visit.ensures.written, c.put_machine.ensures.written, c.put_text-2.ensures.written, c.put_moment-2.ensures.written) (
    rw (c.put_ending.ensures.written, c.put_text.ensures.written, c.put_moment.ensures.written, c.ended-line.ensures) refl) in
    on_ok_same c.push_line.result c.push_line.new.text.items _ _ (ap (λ l. c.args.text.now.items ++ l) line) c.push_line.ensures
