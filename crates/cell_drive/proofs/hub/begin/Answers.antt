use Rattle.std.proofs.Common.{◌∙◌, ◌++◌, ◌∷◌, ◌+◌, [], List, length, ap, sym, subst, arith}
use Rattle.std.proofs.lemmas.List.{length_push}
use Rattle.cell_control.specs.Control.{control_at_start}
use Rattle.cell_hub.specs.declared.slots.Ticket.{Ticket}
use Rattle.cell_drive.specs.{ManyCells.{HubCell, cell_start}, Numbers.{AreInRun, planned_cells}, Tickets.{AreSeated, cells_of}}
use Rattle.cell_drive.proofs.{Hubs.one_more_begun, ManyCells.{one_more_verified, start_in_run}, SeatedCells.{one_more, planned_more}}
use Rattle.cell_drive.proofs.hub.begin.Goals as goal

pub loop-plan-preserved : goal.loop-plan-preserved
loop-plan-preserved g c =
    let w = c.in-Some.plan in
    let old = c.loop-plan.hub in
    let new = c.seat.new.hub in
    let ts = c.loop-plan.tickets.items in
    let so_far = c.loop-plan.invariant in
    let seat = c.in_ok-seat.ensures.seated in
    let ticket = seat.0 in
    let admitted = seat.1 in
    let more = one_more old new 0 ts ticket (control_at_start w) so_far.seated (let counted = so_far.counted in let serial = admitted.serial in omega (arith, counted, serial)) admitted.cells in
    record {
      started = ap (cells_of new) seat.2 ∙ ap planned_cells more.contents_are ∙ planned_more _ (control_at_start w)
          ∙ ap (λ (cells : List HubCell). cells ++ cell_start w ∷ []) so_far.started ∙ one_more_begun c.loop-plan.yielded w;
      verified = one_more_verified c.loop-plan.yielded w so_far.verified c.in_ok-seat.ensures.verified;
      seated = subst (AreSeated new 0) (sym seat.2) more.seated;
      counted = admitted.next_serial ∙ ap (λ n. n + 1) so_far.counted ∙ sym (length_push ts ticket) ∙ ap (λ (us : List Ticket). length us) (sym seat.2);
    }

pub returns-clause-seated : goal.returns-clause-seated
returns-clause-seated g c = record {
  seated = c.loop-plan.invariant.seated;
  in_run = subst AreInRun (sym c.loop-plan.invariant.started) (start_in_run c.loop-plan.yielded c.loop-plan.invariant.verified);
}
