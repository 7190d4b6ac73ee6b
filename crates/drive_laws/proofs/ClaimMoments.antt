-- The moment of a claim is that of its report.
use Rattle.std.proofs.Common.{◌≡◌, refl}
use Rattle.shop_base.specs.{Plan.PlannedShop, Report.at}
use Rattle.cell_tables.specs.Claims.{claimed, claim_moment}
use Rattle.cell_tables.specs.declared.claim.Claim.{Claim, TheVariants.{Report, CleanAfter, FinishStep, CleanAfterStep}}

pub claimed_at : (p : PlannedShop) (claim : Claim) → at (claimed p claim) ≡ claim_moment claim
claimed_at p (Report report) = refl
claimed_at p (CleanAfter machine job moment) = refl
claimed_at p (FinishStep job step moment) = refl
claimed_at p (CleanAfterStep machine job step moment) = refl
