use Rattle.std.proofs.Common.{◌≡◌, ℕ, ◌+◌, take, sym, ap, ◌∙◌, arith}
use Rattle.shop_base.specs.Ends.{reports_in}
use Rattle.cell_tables.specs.Events.{events_of}
use Rattle.run_log.proofs.Audits.{reports-more}
use Rattle.run_log.proofs.auditing.report_count.Goals as goal

pub loop-entry-preserved : goal.loop-entry-preserved
loop-entry-preserved c =
    let entries = c.args.entries.now in
    let i = c.loop-entry.entry-index in
    let next : reports_in (events_of (take (i + 1) entries)) ≡ reports_in (events_of (take i entries)) + c.reports_of-count.result =
    reports-more entries i _ c.loop-entry-test.true ∙ ap (λ (n : ℕ). reports_in (events_of (take i entries)) + n) (sym c.reports_of-count.ensures.count) in
    record {
      counted = omega (arith, c.loop-entry.invariant.counted, next);
      few = omega (arith, c.loop-entry.invariant.few, c.reports_of-count.ensures.few);
    }
