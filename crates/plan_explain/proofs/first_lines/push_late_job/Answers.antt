use Rattle.std.proofs.Common.{◌≡◌, ◌++◌, codes, decimal, ap}
use Rattle.plan_explain.proofs.Texts.{on_ok_same, four_parts}
use Rattle.plan_explain.proofs.first_lines.push_late_job.Goals as goal

pub returns : goal.returns
returns c =
    let line : c.put_text-2.new.self ≡ codes "refused late " ++ decimal c.args.job ++ codes " " ++ decimal c.args.leaves = rw (
      c.put_text-2.ensures.written,
      c.put_short_number.ensures.written,
      c.put_text.ensures.written,
      c.put_number.ensures.written,
      c.empty-line.ensures,
    ) (four_parts (codes "refused late ") (decimal c.args.job) (codes " ") (decimal c.args.leaves)) in
    on_ok_same c.push_line.result c.push_line.new.text.items _ _ (ap (λ l. c.args.text.now.items ++ l) line) c.push_line.ensures
