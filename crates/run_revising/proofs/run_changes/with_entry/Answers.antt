use Rattle.std.proofs.Common.{◌++◌, ◌-◌, ◌∷◌, [], List, Vec, Global, ap, sym, ◌∙◌}
use Rattle.shop_base.specs.declared.report.Report.TheVariants.{Arrive, Clean}
use Rattle.shop_base.specs.declared.move_order.Spot.TheVariants.{Out, At}
use Rattle.cell_tables.specs.declared.entry.Entry.{Entry}
use Rattle.cell_tables.specs.declared.entry.Entry.TheVariants.{Report as ReportEntry, Order as OrderEntry}
use Rattle.run_revising.proofs.PartsMade.{entered_clean, entered_cleaned, add_two, add_three}
use Rattle.run_revising.proofs.run_changes.with_entry.Goals.{then-is_some+in_ok-push, else-is_some}
use Rattle.run_revising.proofs.run_changes.with_entry.Goals as goal

pub returns-clause-entries : goal.returns-clause-entries
returns-clause-entries g c =
    let items : Vec Entry Global → List Entry = λ v. v.items in
    let machine = c.args.machine in
    let j = c.job_count.result - 1 in
    let t = c.present-at.result in
    let clean : Entry = ReportEntry (Clean machine t) in
    let arrive : Entry = ReportEntry (Arrive j t) in
    let enter : Entry = OrderEntry (record { job = j; source = Out; target = At machine; at = t }) in
    rw (sym c.present-at.ensures.present, sym c.job_count.ensures.count, sym c.cell.ensures.cell) (elim c.if-is_some.branch [
      | then-is_some+in_ok-push w ↦ entered_cleaned c.args.entries.items c.cell.result.now.cell machine j t c.cleaned_since.result c.cleaned_since.ensures.since c.push-3.new.self.items (sym c.is_some.ensures ∙ w.if-is_some.true)
          (c.in_ok-push-3.ensures.items ∙ ap (λ (es : List Entry). es ++ enter ∷ []) (c.in_ok-push-2.ensures.items ∙ ap (λ (es : List Entry). es ++ arrive ∷ []) (ap items w.entries-is ∙ w.in_ok-push.ensures.items)) ∙ add_three c.args.entries.items clean arrive enter)
      | else-is_some w ↦ entered_clean c.args.entries.items c.cell.result.now.cell machine j t c.cleaned_since.result c.cleaned_since.ensures.since c.push-3.new.self.items (sym c.is_some.ensures ∙ w.if-is_some.false)
          (c.in_ok-push-3.ensures.items ∙ ap (λ (es : List Entry). es ++ enter ∷ []) (c.in_ok-push-2.ensures.items ∙ ap (λ (es : List Entry). es ++ arrive ∷ []) (ap items w.entries-is)) ∙ add_two c.args.entries.items arrive enter)
    ])
