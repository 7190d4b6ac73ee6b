use Rattle.std.proofs.Common.{◌↔◌, IfSome, subst}
use Rattle.std.specs.Prelude.{IsOk}
use Rattle.shop_base.specs.Report.{CanReport}
use Rattle.cell_hub.specs.{Hub.{HubState, cell_at, AreSerialsBelow}, Slots.hub_of, Calls.{Reported, EndsNow, IsCall}}
use Rattle.cell_hub.proofs.{Lives.call_serials, Called.{report_called, report_finds, report_only}}
use Rattle.cell_hub.proofs.hub.HubOf.report.Goals as goal

called : (g : _) (c : goal.After-report_in g) → IsCall c.args.self.now (Reported c.args.ticket c.args.report c.report_in.result) (hub_of c.report_in.new.cells c.self.inside.next_serial)
called g c =
    report_called c.self.inside.cells c.report_in.new.cells c.self.inside.next_serial c.args.self.now c.self.view_is c.args.ticket c.args.report c.report_in.result
    c.report_in.ensures.reported c.report_in.ensures.refused c.report_in.ensures.unchanged

pub invariant_of-self : goal.invariant_of-self
invariant_of-self g c = call_serials c.args.self.now _ (Reported c.args.ticket c.args.report c.report_in.result) (called g c) (subst AreSerialsBelow c.self.view_is c.self.invariant)

pub returns-clause-no_such_cell : goal.returns-clause-no_such_cell
returns-clause-no_such_cell g c = report_finds c.args.self.now _ c.args.ticket c.args.report c.report_in.result (called g c)

pub returns-clause-only_reason : goal.returns-clause-only_reason
returns-clause-only_reason g c = report_only c.args.self.now _ c.args.ticket c.args.report c.report_in.result (called g c)

pub returns-clause-possible : goal.returns-clause-possible
returns-clause-possible g c = subst (λ (h : HubState). IfSome (cell_at h c.args.ticket) (λ x. IsOk c.report_in.result ↔ CanReport x.planned x.cell c.args.report)) c.self.view_is (c.report_in.ensures.possible c.self.inside.next_serial)

pub returns-clause-never_refused : goal.returns-clause-never_refused
returns-clause-never_refused g c = subst (λ (h : HubState). IfSome (cell_at h c.args.ticket) (λ x. EndsNow x c.args.report → IsOk c.report_in.result)) c.self.view_is (c.report_in.ensures.never_refused c.self.inside.next_serial)
