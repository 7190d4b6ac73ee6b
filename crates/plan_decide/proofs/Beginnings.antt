-- A run of which no job shows anything hasn't begun.
use Rattle.std.proofs.Common.{◌≡◌, ◌↔◌, IsTrue, Bool, ℕ, ◌<◌, ◌≤◌, List, [], ◌∷◌, false, is_some, arith, sym, ap, ◌∙◌, subst, true≢false}
use Rattle.std.proofs.lemmas.List.{get_or-replicate}
use Rattle.shop_base.specs.declared.job_state.JobState.{JobState}
use Rattle.shop_base.specs.declared.report.Report.TheVariants.{Arrive, Finish, Clean}
use Rattle.shop_base.specs.Plan.{PlannedShop, jobs, IsWellShaped}
use Rattle.shop_base.specs.Cell.{Cell, MachineState, absent, start, made, ready}
use Rattle.shop_base.specs.Run.{Event, Reported, Moved, CanHappen, after, AreEvents, after_all}
use Rattle.shop_base.specs.Sound.{IsSound}
use Rattle.shop_base.proofs.InShop.{ready_in_shop, outside_in_shop, start_unused}
use Rattle.shop_base.proofs.Visits.{visits_job}
use Rattle.shop_base.proofs.Changes.{with_ready-readied}
use Rattle.shop_base.proofs.Keeping.{start-sound, after-sound}
use Rattle.cell_tables.specs.{Carried.awaited, Rests.IsReached}
use Rattle.cell_tables.proofs.KeptBefore.{event_before}
use Rattle.plan_decide.specs.Settings.{AreAwaited}
use Rattle.plan_decide.specs.Pasts.{HasNotBegun}

-- a job of which nothing shows at the end of some events showed nothing before them
awaited_before : (p : PlannedShop) (c : Cell) (es : List Event) (j : ℕ) → IsWellShaped p → IsSound p c → AreEvents p c es → made (after_all p c es) j ≡ 0 → ready (after_all p c es) j ≡ false → (made c j ≡ 0) × (ready c j ≡ false)
awaited_before p c [] j shaped sound events none idle = (none, idle)
awaited_before p c (e ∷ es) j shaped sound (can, events) none idle =
    let next = awaited_before p (after p c e) es j shaped (after-sound p c e shaped sound can) events none idle in
    let before = event_before p c e shaped sound can in
    (omega (arith, before.made_less j, next.0), before.waits j next.0 next.1)

-- at the start nothing shows of a job
pub start_awaited : (p : PlannedShop) → AreAwaited p (start p)
start_awaited p j inside =
    let is = get_or-replicate (jobs p) j awaited absent inside in
    (ap (λ (s : JobState). s.made) is, ap (λ (s : JobState). s.ready) is)

-- what can happen first is the arrival of a job, which then shows
none_first : (p : PlannedShop) (e : Event) (es : List Event) → IsWellShaped p → CanHappen p (start p) e → AreEvents p (after p (start p) e) es → AreAwaited p (after_all p (after p (start p) e) es) → ⊥
none_first p (Reported (Arrive j t)) es shaped can run idle =
    let first = start-sound p shaped in
    let there : j < jobs p = outside_in_shop p (start p) j first can.going.1.outside in
    let new = after p (start p) (Reported (Arrive j t)) in
    let is_ready = (with_ready-readied (start p) j t can.going.1.not_ready (omega (arith, there, first.job_count))).ready_mine in
    let sound = after-sound p (start p) (Reported (Arrive j t)) shaped first can in
    let before = awaited_before p new es j shaped sound run (idle j there).0 (idle j there).1 in
    true≢false (sym is_ready ∙ before.1)
none_first p (Reported (Finish j m t)) es shaped can run idle =
    let on = can.going.1.1.on in
    let idle_there = start_awaited p j (visits_job p j can.going.1.0 m on.visits) in
    omega (arith, on.entered, idle_there.0)
none_first p (Reported (Clean m t)) es shaped can run idle =
    true≢false (sym (ap is_some (sym (ap (λ (s : MachineState). s.cleaning) (start_unused p m)) ∙ can.going.1.1.is_cleaned)))
none_first p (Moved o) es shaped (obeys, keeps) run idle =
    let there = ready_in_shop p (start p) o.job (start-sound p shaped) obeys.can.is_ready in
    true≢false (sym obeys.can.is_ready ∙ (start_awaited p o.job there).1)

-- so a run of which no job shows anything is at the start
pub not_begun : (p : PlannedShop) (c : Cell) → IsWellShaped p → IsReached p c → AreAwaited p c → c ≡ start p
not_begun p c shaped reached idle = go reached.events reached.run reached.ends
  where
    go : (es : List Event) → AreEvents p (start p) es → after_all p (start p) es ≡ c → c ≡ start p
    go [] run ends = sym ends
    go (e ∷ es) (can, run) ends = absurd (none_first p e es shaped can run (subst (AreAwaited p) (sym ends) idle))

-- what is seen of the jobs is so of the rest
pub not_begun_exact : (p : PlannedShop) (c : Cell) (t : ℕ) (b : Bool) → IsWellShaped p → IsReached p c → t ≤ 0 → IsTrue b ↔ AreAwaited p c → IsTrue b ↔ HasNotBegun p c t
not_begun_exact p c t b shaped reached zero seen = (
  λ is. (not_begun p c shaped reached (seen.0 is), omega (arith, zero)),
  λ is. seen.1 (subst (AreAwaited p) (sym is.0) (start_awaited p)),
)
