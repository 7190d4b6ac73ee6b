-- Every list of reports has exactly one controlled run.
use Rattle.std.proofs.Common.{◌≡◌, ℕ, List, [], ◌∷◌, ◌++◌, ◌⊎◌, inl, inr, refl, ◌∙◌, ap, subst}
use Rattle.shop_base.specs.declared.report.Report.{Report}
use Rattle.shop_base.specs.Plan.{PlannedShop, IsWellShaped}
use Rattle.shop_base.specs.Cell.{Cell, start}
use Rattle.shop_base.specs.Report.{CanReport}
use Rattle.shop_base.specs.Run.{Event, Reported, IsAtRest}
use Rattle.shop_base.specs.Controlled.{after_step, step_orders, IsStep, moved, Leads, done, accepted, refused}
use Rattle.shop_base.specs.Sound.{IsSound}
use Rattle.shop_base.proofs.Keeping.{start-sound}
use Rattle.shop_base.proofs.ControlledRuns.{after_step-sound, start_at_rest}
use Rattle.shop_base.proofs.Decisions.{reports_or_not}
use Rattle.shop_base.proofs.OneStep.{one_step}

-- no reports lead to no events, and to the same cell
pub leads-none : (p : PlannedShop) (c : Cell) (es : List Event) (end : Cell) → Leads p c [] es end → (es ≡ []) × (end ≡ c)
leads-none p _ _ _ (done c) = (refl, refl)

-- the events and the cell come from a step of the first report, and then from the others
pub record LeadsOn (p : PlannedShop) (c : Cell) (r : Report) (rs : List Report) (es : List Event) (end : Cell) : Type 0 where
  pub jobs : List ℕ
  pub step : IsStep p c r jobs
  pub rest : List Event
  pub leads : Leads p (after_step p c r jobs) rs rest end
  pub events : es ≡ Reported r ∷ (moved (step_orders p c r jobs) ++ rest)

-- they come from the others alone, since the first report isn't possible
pub record LeadsPast (p : PlannedShop) (c : Cell) (r : Report) (rs : List Report) (es : List Event) (end : Cell) : Type 0 where
  pub cannot : CanReport p c r → ⊥
  pub leads : Leads p c rs es end

pub leads-some : (p : PlannedShop) (c : Cell) (r : Report) (rs : List Report) (es : List Event) (end : Cell)
    → Leads p c (r ∷ rs) es end → LeadsOn p c r rs es end ⊎ LeadsPast p c r rs es end
leads-some p _ _ _ _ _ (accepted c r js rs es end step leads) = inl (record { jobs = js; step = step; rest = es; leads = leads; events = refl })
leads-some p _ _ _ _ _ (refused c r rs es end cannot leads) = inr (record { cannot = cannot; leads = leads })

-- the reports lead to these events and this cell, and to no others
pub record LeadsOnlyTo (p : PlannedShop) (c : Cell) (rs : List Report) (es : List Event) (end : Cell) : Type 0 where
  pub leads : Leads p c rs es end
  pub only : (es' : List Event) (end' : Cell) → Leads p c rs es' end' → (es' ≡ es) × (end' ≡ end)

leads_only-accepted : (p : PlannedShop) (c : Cell) (r : Report) (js : List ℕ) (rs : List Report) (es : List Event) (end : Cell)
    → IsStep p c r js → ((others : List ℕ) → IsStep p c r others → others ≡ js) → LeadsOnlyTo p (after_step p c r js) rs es end
    → LeadsOnlyTo p c (r ∷ rs) (Reported r ∷ (moved (step_orders p c r js) ++ es)) end
leads_only-accepted p c r js rs es end step one later = record {
  leads = accepted c r js rs es end step later.leads;
  only = λ es' end' leads. go es' end' (leads-some p c r rs es' end' leads);
}
  where
    go : (es' : List Event) (end' : Cell) → LeadsOn p c r rs es' end' ⊎ LeadsPast p c r rs es' end'
        → (es' ≡ Reported r ∷ (moved (step_orders p c r js) ++ es)) × (end' ≡ end)
    go es' end' (inl on) = (
      on.events ∙ ap (λ ks. Reported r ∷ (moved (step_orders p c r ks) ++ on.rest)) same ∙ ap (λ fs. Reported r ∷ (moved (step_orders p c r js) ++ fs)) both.0,
      both.1,
    )
      where
        same : on.jobs ≡ js
        same = one on.jobs on.step

        both : (on.rest ≡ es) × (end' ≡ end)
        both = later.only on.rest end' (subst (λ ks. Leads p (after_step p c r ks) rs on.rest end') same on.leads)
    go es' end' (inr past) = absurd (past.cannot step.can)

leads_only-refused : (p : PlannedShop) (c : Cell) (r : Report) (rs : List Report) (es : List Event) (end : Cell)
    → (CanReport p c r → ⊥) → LeadsOnlyTo p c rs es end → LeadsOnlyTo p c (r ∷ rs) es end
leads_only-refused p c r rs es end cannot later = record {
  leads = refused c r rs es end cannot later.leads;
  only = λ es' end' leads. go es' end' (leads-some p c r rs es' end' leads);
}
  where
    go : (es' : List Event) (end' : Cell) → LeadsOn p c r rs es' end' ⊎ LeadsPast p c r rs es' end' → (es' ≡ es) × (end' ≡ end)
    go es' end' (inl on) = absurd (cannot on.step.can)
    go es' end' (inr past) = later.only es' end' past.leads

-- from a sound cell at rest every list of reports leads to exactly one list of events and one cell
pub leads_once : (p : PlannedShop) (c : Cell) (rs : List Report) → IsWellShaped p → IsSound p c → IsAtRest p c → (es : List Event) × (end : Cell) × LeadsOnlyTo p c rs es end
leads_once p c [] shaped sound rest = ([], c, record { leads = done c; only = leads-none p c })
leads_once p c (r ∷ rs) shaped sound rest =
    go (reports_or_not p c r) (leads_once p c rs shaped sound rest)
    λ js step. leads_once p (after_step p c r js) rs shaped (after_step-sound p c r js shaped sound step) step.quiescent
  where
    go : CanReport p c r ⊎ (CanReport p c r → ⊥) → (es : List Event) × (end : Cell) × LeadsOnlyTo p c rs es end
        → ((js : List ℕ) → IsStep p c r js → (es : List Event) × (end : Cell) × LeadsOnlyTo p (after_step p c r js) rs es end)
        → (es : List Event) × (end : Cell) × LeadsOnlyTo p c (r ∷ rs) es end
    go (inl can) same next =
        let (js, step, one) = one_step p c r shaped sound rest can in
        let (es, end, later) = next js step in
        (Reported r ∷ (moved (step_orders p c r js) ++ es), end, leads_only-accepted p c r js rs es end step one later)
    go (inr cannot) (es, end, later) next = (es, end, leads_only-refused p c r rs es end cannot later)

-- every list of reports has exactly one controlled run
pub controlled_run_once : (p : PlannedShop) (rs : List Report) → IsWellShaped p → (es : List Event) × (end : Cell) × LeadsOnlyTo p (start p) rs es end
controlled_run_once p rs shaped = leads_once p (start p) rs shaped (start-sound p shaped) (start_at_rest p)
