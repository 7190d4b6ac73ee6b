-- What is known of a verdict on the rest of a run.
use Rattle.std.specs.Prelude.{ℕ}
use Rattle.shop_base.specs.{Plan.PlannedShop, Cell.Cell}
use Rattle.alt_graph.specs.Times.{AreRanks}
use Rattle.plan_verifier.specs.{RestVerdicts.IsAcceptedAhead, RestVerdicts.IsReasonAhead, declared.verdict.Judged.Judged}
use Rattle.plan_verifier.specs.declared.verdict.Judged.TheVariants.{Accepted, Refused}

-- it is accepted with its earliest moments, or refused with the reason
pub record IsKnownVerdict (p : PlannedShop) (c : Cell) (t : ℕ) (verdict : Judged) : Type 0 where
  pub accepted : IsAcceptedAhead p c t verdict
  pub refused : IsReasonAhead p c t verdict

-- of an accepted rest each node of the shop has a rank
abbrev pub HasRanks : PlannedShop → Judged → Type 0
HasRanks p (Accepted times) = AreRanks p times
HasRanks p (Refused why) = Unit {0}
