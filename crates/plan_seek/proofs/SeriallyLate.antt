-- The serial plan is refused only where it is late.
use Rattle.std.proofs.Common.{◌≡◌, subst}
use Rattle.shop_base.specs.Plan.{PlannedShop, IsWellShaped}
use Rattle.shop_base.specs.Graph.{IsSimpleCycle}
use Rattle.shop_base.proofs.SerialLaw.{serial_plan_has_no_cycle}
use Rattle.alt_graph.proofs.CycleParts.{cycle_simple}
use Rattle.plan_verifier.specs.declared.verdict.Why.{Why}
use Rattle.plan_verifier.specs.declared.verdict.Why.TheVariants.{Cycle, Late}
use Rattle.plan_verifier.specs.Verdicts.{IsReason, IsFirstLate}
use Rattle.plan_seek.specs.Tasks.{PlanTask, serial_plan}
use Rattle.plan_seek.specs.Search.{IsSeriallyLate}
use Rattle.plan_seek.proofs.SerialPlan.{serial-rises}

pub serial_reason : (t : PlanTask) (p : PlannedShop) (why : Why) → IsWellShaped p → p ≡ serial_plan t → IsReason p why → IsSeriallyLate t
serial_reason t p (Cycle nodes) shaped is cycle =
    absurd (serial_plan_has_no_cycle (serial_plan t) nodes.items (subst IsWellShaped is shaped) (serial-rises t) (subst (λ x. IsSimpleCycle x nodes.items) is (cycle_simple p nodes.items cycle)))
serial_reason t p (Late job leaves chain times) shaped is late =
    record { job = job; leaves = leaves; chain = chain.items; late = subst (λ x. IsFirstLate x job leaves chain.items) is late.0 }
