-- No deadline comes sooner where jobs are scrapped and machines are down.
use Rattle.std.proofs.Common.{◌≡◌, ℕ, ◌<◌, ◌≤◌, ◌⊎◌, inl, inr, List, refl, ap, ◌∙◌, arith}
use Rattle.std.proofs.lemmas.Bool.{cases_lt, lt-ltb, le-ltb}
use Rattle.shop_base.specs.declared.job_state.JobState.{JobState}
use Rattle.shop_base.specs.Plan.{PlannedShop, jobs}
use Rattle.shop_base.specs.Cell.{made}
use Rattle.shop_base.specs.Run.{Event, ends_in}
use Rattle.shop_base.proofs.Cycles.{source_node}
use Rattle.shop_base.proofs.Deadlines.{deadlines_are_the_latest-holds}
use Rattle.cell_tables.specs.Carried.{carried_job}
use Rattle.cell_tables.specs.KeptLaw.{AKeptRunIsOneOfTheOtherPlan}
use Rattle.plan_revise.specs.declared.change.Change.{Change}
use Rattle.plan_revise.specs.Settings.{setting, moves_made}
use Rattle.plan_revise.specs.RevisedLaw.{IsRevisedRun, NoDeadlineComesSooner}
use Rattle.plan_revise.proofs.Revisions.{given_revision}
use Rattle.plan_revise.proofs.Outcomes.{run_stays, run_setting, jobs_there}
use Rattle.plan_revise.proofs.Lifted.{AreFitting, given_sound, made_lifted}

-- what a job has made in the cell of the revised plan
pub moves_there : (kept : AKeptRunIsOneOfTheOtherPlan) (p q : PlannedShop) (es : List Event) (t plant : ℕ) (changes : List Change) (r : IsRevisedRun p es t plant changes q) (j : ℕ) → j < jobs q
    → made (ends_in q es) j ≡ moves_made (setting p (ends_in p es) t plant) j
moves_there kept p q es t plant changes r j inside = ap (λ (x : JobState). x.made) ((run_stays kept p q es t plant changes r).2.jobs_same j inside) ∙ same (cases_lt j (jobs p))
  where
    same : (j < jobs p) ⊎ (jobs p ≤ j) → (carried_job p (ends_in p es) j).made ≡ moves_made (setting p (ends_in p es) t plant) j
    same (inl there) = rw (lt-ltb j (jobs p) there) refl
    same (inr past) = rw (le-ltb j (jobs p) past) refl

pub no_deadline_sooner : AKeptRunIsOneOfTheOtherPlan → NoDeadlineComesSooner
no_deadline_sooner kept_law p q es t plant changes r less rank kept later ranks deadlines laters v before inside ahead free =
    let stays = run_stays kept_law p q es t plant changes r in
    let is = run_setting p q es t plant changes r in
    let fits : AreFitting (ends_in q es) p kept = record {
      arcs = λ u w d here arc. deadlines.arcs u w d (omega (arith, here, ap (λ (x : JobState). x.made) (jobs_there kept_law p q es t plant changes r u.job (source_node p u w d arc).job))) arc;
      budgets = λ j there here. deadlines.budgets j there (λ gone. here (omega (arith, gone, ap (λ (x : JobState). x.made) (jobs_there kept_law p q es t plant changes r j there))));
    } in
    let lifted = made_lifted (setting p (ends_in p es) t plant) is (ends_in q es) (jobs q) (moves_there kept_law p q es t plant changes r) p kept changes q less (given_revision (setting p (ends_in p es) t plant) is) r.made (omega arith) fits
    (given_sound (setting p (ends_in p es) t plant) is (ends_in q es) (jobs q) (moves_there kept_law p q es t plant changes r)) in
    let same = lifted.2 v before.job free in
    omega (arith, same, deadlines_are_the_latest-holds q rank later lifted.0 es stays.0 ranks stays.1 laters lifted.1.arcs lifted.1.budgets v inside ahead)
