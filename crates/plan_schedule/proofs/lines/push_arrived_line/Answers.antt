use Rattle.std.proofs.Common.{◌≡◌, ◌++◌, refl, ap}
use Rattle.plan_explain.proofs.Texts.{on_ok_same}
use Rattle.plan_schedule.specs.Lines.{arrived_line}
use Rattle.plan_schedule.proofs.lines.push_arrived_line.Goals as goal

pub returns : goal.returns
returns c =
    let line : c.put_job.new.line ≡ arrived_line c.args.names.now c.args.job = rw (c.put_job.ensures.written, c.ended-line.ensures) refl in
    on_ok_same c.push_line.result c.push_line.new.text.items _ _ (ap (λ l. c.args.text.now.items ++ l) line) c.push_line.ensures
