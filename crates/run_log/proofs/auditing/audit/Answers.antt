use Rattle.std.proofs.Common.{◌≡◌, ◌↔◌, List, true, subst, ap, ◌∙◌, arith}
use Rattle.shop_base.specs.Plan.{PlannedShop}
use Rattle.shop_base.specs.Cell.{Cell}
use Rattle.shop_base.specs.Run.{ends_in}
use Rattle.shop_base.specs.Ends.{HasEnded, reports_in}
use Rattle.text_lines.specs.Lines.{lines_of}
use Rattle.cell_tables.specs.declared.entry.Entry.{Entry}
use Rattle.cell_tables.specs.Events.{events_of}
use Rattle.run_log.proofs.Audits.{entry_counts, only_memory}
use Rattle.run_log.proofs.auditing.audit.Goals as goal

pub returns-in-Ok-clause-kept : goal.returns-in-Ok-clause-kept
returns-in-Ok-clause-kept c =
    let p = c.args.shaped.now in
    let replayed = c.in-Ok.ensures.replayed in
    let entries = c.in-Ok.field-0.entries.items in
    let reports : c.report_count-reports.result ≡ reports_in (events_of entries) =
    c.report_count-reports.ensures.count ∙ ap (λ (es : List Entry). reports_in (events_of es)) c.deref.ensures.value in
    record {
      parses = c.in-Ok.ensures.parses;
      run = replayed.run;
      reports = reports;
      orders = omega (arith, reports, c.len.ensures, c.in-Ok.field-0.entries.ok.0, entry_counts entries);
      last = c.last.ensures ∙ ap (λ (x : Cell). x.last) replayed.cell;
      complete = subst (λ (q : PlannedShop). (c.has_ended.result ≡ true) ↔ HasEnded q (ends_in p (events_of entries))) c.in-Ok.ensures.plan
          (subst (λ (x : Cell). (c.has_ended.result ≡ true) ↔ HasEnded c.in-Ok.field-0.cell.plan x) replayed.cell c.has_ended.ensures);
    }

pub returns-in-Err-clause-only : goal.returns-in-Err-clause-only
returns-in-Err-clause-only c run = only_memory c.args.shaped.now (lines_of c.args.text.now) c.in-Err.fault c.in-Err.ensures.fault run
