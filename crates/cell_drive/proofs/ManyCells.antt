-- Several driven cells, each as it can be in a run.
use Rattle.std.proofs.Common.{◌≡◌, ℕ, zero, suc, List, [], ◌∷◌, ◌++◌, set, Some, subst}
use Rattle.std.specs.Prelude.{slice_get}
use Rattle.shop_base.proofs.{Keeping.start-sound, ControlledRuns.start_at_rest}
use Rattle.plan_verifier.specs.Accepted.{VerifiedPlan, IsVerified}
use Rattle.cell_drive.specs.{ManyCells.{HubCell, AreVerified, cell_start, hub_start}, Numbers.{IsInRun, AreInRun}}

pub starts_in_run : (v : VerifiedPlan) → IsVerified v → IsInRun (cell_start v)
starts_in_run v verified = record { verified = verified; sound = start-sound v.planned verified.schedule.shaped; rest = start_at_rest v.planned }

pub start_in_run : (plans : List VerifiedPlan) → AreVerified plans → AreInRun (hub_start plans)
start_in_run [] verified = tt
start_in_run (v ∷ plans) (first, others) = (starts_in_run v first, start_in_run plans others)

-- those that are accepted join them one by one
pub one_more_verified : (plans : List VerifiedPlan) (v : VerifiedPlan) → AreVerified plans → IsVerified v → AreVerified (plans ++ v ∷ [])
one_more_verified [] v all is = (is, tt)
one_more_verified (w ∷ plans) v all is = (all.0, one_more_verified plans v all.1 is)

pub one_in_run : (cells : List HubCell) (k : ℕ) (c : HubCell) → AreInRun cells → slice_get cells k ≡ Some c → IsInRun c
one_in_run [] k c all found = absurd (cc)
one_in_run (d ∷ cells) zero c all found = let same : d ≡ c = cc in subst IsInRun same all.0
one_in_run (d ∷ cells) (suc k) c all found = one_in_run cells k c all.1 found

pub set_in_run : (cells : List HubCell) (k : ℕ) (next : HubCell) → AreInRun cells → IsInRun next → AreInRun (set cells k next)
set_in_run [] k next all is = tt
set_in_run (d ∷ cells) zero next all is = (is, all.1)
set_in_run (d ∷ cells) (suc k) next all is = (all.0, set_in_run cells k next all.1 is)
