use Rattle.std.proofs.Common.{◌≡◌, length}
use Rattle.cell_drive.specs.{ManyCells.{AreVerified, hub_start}, Tickets.{AreSeated, cells_of}}
use Rattle.cell_drive.proofs.hub.begin.Given as goal

abbrev pub invariant-loop-plan : goal.invariant-loop-plan
invariant-loop-plan g l = record {
  started : cells_of l.hub l.tickets.items ≡ hub_start l.yielded;
  verified : AreVerified l.yielded;
  seated : AreSeated l.hub 0 l.tickets.items;
  counted : l.hub.next_serial ≡ length l.tickets.items;
}
