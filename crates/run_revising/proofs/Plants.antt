-- The machines of the plant, once jobs are left out.
use Rattle.std.proofs.Common.{◌≡◌, ℕ, List, Bool, length, inl, inr, sym, ap, ◌∙◌, subst}
use Rattle.shop_base.specs.declared.shop.Step.{Step}
use Rattle.shop_base.specs.Shop.{step_at}
use Rattle.shop_base.specs.Plan.{PlannedShop, jobs, Visits}
use Rattle.shop_base.proofs.Visits.{visits_job}
use Rattle.plan_revise.specs.Aside.{IsAsideJob, IsPlant, IsPlantOf}
use Rattle.run_pruning.specs.Pruned.{pruned}
use Rattle.run_pruning.proofs.Left.{staying_at}
use Rattle.run_pruning.proofs.PrunedShops.{old_job, route_kept, visits_were}

-- all machines are the plant's, or one more is that of the jobs that are put aside
pub plant_is_of : (p : PlannedShop) (plant : ℕ) → IsPlant p plant → IsPlantOf p plant
plant_is_of p plant (inl aside) = inr (record { last = aside.last; uncleaned = aside.uncleaned; visitors = aside.visitors })
plant_is_of p plant (inr whole) = inl whole.0

-- so without jobs
pub plant_left : (p : PlannedShop) (marks : List Bool) (plant : ℕ) → length marks ≡ jobs p → IsPlantOf p plant → IsPlantOf (pruned marks p) plant
plant_left p marks plant count (inl whole) = inl whole
plant_left p marks plant count (inr aside) = inr (record { last = aside.last; uncleaned = aside.uncleaned; visitors = visitors })
  where
    visitors : (i k : ℕ) → Visits (pruned marks p) i k plant → IsAsideJob (pruned marks p) i
    visitors i k visits =
        let (j, inside, kept, is) = old_job p marks count i (visits_job (pruned marks p) i k plant visits) in
        let job = aside.visitors j k (visits_were p marks count j k plant kept (subst (λ x. Visits (pruned marks p) x k plant) (sym is) visits)) in
        subst (IsAsideJob (pruned marks p)) is (record {
          whole = ap length (route_kept p marks count j kept) ∙ job.whole;
          timeless = ap (λ (r : List Step). (step_at r 0).nominal) (route_kept p marks count j kept) ∙ job.timeless;
          unpromised = staying_at marks p.plan.budget j 0 kept ∙ job.unpromised;
        })
