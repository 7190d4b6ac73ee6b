use Rattle.std.proofs.Common.{refl, sym}
use Rattle.std.specs.declared.result.Result.TheVariants.{Ok}
use Rattle.cell_control.proofs.ClaimReasons.{claim_reason-cannot}
use Rattle.cell_hub.specs.{Hub.cell_at}
use Rattle.cell_hub.specs.declared.hub_fault.HubFault.TheVariants.{Cell}
use Rattle.cell_hub.proofs.{Called.only_refusal, Claimed.{possible_there, not_possible_there, report_claimed}}
use Rattle.cell_hub.proofs.hub.HubOf.claim.Goals as goal

pub accept-requires : goal.accept-requires
accept-requires g c = record { control = c.in-Some.cell.now; cell = sym c.in-Some.ensures.cell; possible = c.in-Ok.ensures.examined.1 }

pub returns-in-Ok : goal.returns-in-Ok
returns-in-Ok g c =
    let there = sym c.in-Some.ensures.cell in
    let claimed = report_claimed c.args.self.now c.accept.new.self c.args.ticket c.args.claim c.in-Some.cell.now c.in-Ok.possible.report c.accept.result there c.in-Ok.ensures.examined.0 c.accept.ensures.reported in
    record {
      claimed = claimed;
      possible = possible_there (cell_at c.args.self.now c.args.ticket) c.in-Some.cell.now there c.args.claim c.in-Ok.ensures.possible;
      refused = tt;
      only_reason = tt;
      unchanged = tt;
      no_such_cell = (λ same. absurd (cc), λ none. absurd (cc));
      called = claimed;
    }

pub returns-in-Err : goal.returns-in-Err
returns-in-Err g c =
    let v = c.in-Some.cell.now in
    let there = sym c.in-Some.ensures.cell in
    let first = c.in-Err.ensures.first_reason in
    let control = c.shaped-plan.ensures.control in
    record {
      claimed = tt;
      possible = not_possible_there (cell_at c.args.self.now c.args.ticket) v there c.args.claim
          (claim_reason-cannot v.planned v.cell c.args.claim c.in-Err.reason control.ranks.shaped control.sound first);
      refused = (v, there, first);
      only_reason = only_refusal c.args.self.now c.args.ticket c.args.claim (Cell c.in-Err.reason) (v, there, first);
      unchanged = refl;
      no_such_cell = (λ same. absurd (cc), λ none. absurd (cc));
      called = (refl, refl);
    }
