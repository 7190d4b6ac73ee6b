-- What is claimed on a ticket.
use Rattle.std.proofs.Common.{◌≡◌, ◌↔◌, false, true, Option, Some, IfSome, refl, sym, subst}
use Rattle.std.specs.declared.result.Result.TheVariants.{Ok}
use Rattle.std.proofs.lemmas.Bool.{false≢true}
use Rattle.shop_base.specs.declared.report.Report.{Report}
use Rattle.cell_tables.specs.{declared.claim.Claim.Claim, Claims.claimed}
use Rattle.cell_control.specs.{declared.ack.Ack.Ack, Control.Control, Claims.CanClaim}
use Rattle.cell_hub.specs.{declared.slots.Ticket.Ticket, Hub.{HubState, cell_at}, Calls.{IsReported, IsClaimed}}

module _ (o : Option Control) (v : Control) (there : o ≡ Some v) (claim : Claim) where
  -- a claim that its controller finds possible is so
  pub possible_there : CanClaim v.planned v.cell claim → IfSome o (λ c. true ≡ true ↔ CanClaim c.planned c.cell claim)
  possible_there can = subst (λ (x : Option Control). IfSome x (λ c. true ≡ true ↔ CanClaim c.planned c.cell claim)) (sym there) ((λ ok. can), λ again. refl)

  -- where its controller refuses it, it isn't
  pub not_possible_there : (CanClaim v.planned v.cell claim → ⊥) → IfSome o (λ c. false ≡ true ↔ CanClaim c.planned c.cell claim)
  not_possible_there cannot =
      subst (λ (x : Option Control). IfSome x (λ c. false ≡ true ↔ CanClaim c.planned c.cell claim)) (sym there) ((λ wrong. absurd (false≢true wrong)), λ can. absurd (cannot can))

-- where its report is accepted, so is the claim
pub report_claimed : (old new : HubState) (t : Ticket) (claim : Claim) (v : Control) (r : Report) (ack : Ack) → cell_at old t ≡ Some v → r ≡ claimed v.planned claim → IsReported old t r ack new → IsClaimed old t claim ack new
report_claimed old new t claim v r ack there is reported = (v, there, subst (λ x. IsReported old t x ack new) is reported)
