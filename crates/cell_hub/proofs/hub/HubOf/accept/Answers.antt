use Rattle.std.proofs.Common.{subst}
use Rattle.std.specs.declared.result.Result.TheVariants.{Ok}
use Rattle.cell_hub.specs.{Hub.{HubState, AreSerialsBelow}, Slots.hub_of, Calls.{Reported, IsCall}}
use Rattle.cell_hub.proofs.{Called.possible_there, Lives.call_serials}
use Rattle.cell_hub.proofs.hub.HubOf.accept.Goals as goal

pub accept_in-requires : goal.accept_in-requires
accept_in-requires g c next = possible_there c.self.inside.cells c.self.inside.next_serial c.args.self.now c.self.view_is c.args.ticket c.args.possible c.requires next

called : (g : _) (c : goal.After-accept_in g) → IsCall c.args.self.now (Reported c.args.ticket c.args.possible.report (Ok c.accept_in.result)) (hub_of c.accept_in.new.cells c.self.inside.next_serial)
called g c = subst (λ (h : HubState). IsCall h (Reported c.args.ticket c.args.possible.report (Ok c.accept_in.result)) (hub_of c.accept_in.new.cells c.self.inside.next_serial)) c.self.view_is (c.accept_in.ensures c.self.inside.next_serial)

pub invariant_of-self : goal.invariant_of-self
invariant_of-self g c = call_serials c.args.self.now _ (Reported c.args.ticket c.args.possible.report (Ok c.accept_in.result)) (called g c) (subst AreSerialsBelow c.self.view_is c.self.invariant)

pub returns-clause-reported : goal.returns-clause-reported
returns-clause-reported g c = called g c

pub returns-clause-called : goal.returns-clause-called
returns-clause-called g c = called g c
