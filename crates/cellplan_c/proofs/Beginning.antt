-- What beginning a cell comes to, by what is said of the plan that the two texts give.
use Rattle.std.proofs.Common.{◌≡◌, ◌≢◌, ℕ, ◌<◌, ◌≤◌, ◌⊎◌, inl, inr, List, Option, None, Some, IfSome, Result, Ok, sym, ap, ◌∙◌, subst, arith}
use Rattle.shop_base.specs.Plan.{PlannedShop, jobs}
use Rattle.shop_base.specs.Ends.{stated_number}
use Rattle.shop_base.specs.ReportsLeft.{reports_left}
use Rattle.shop_base.proofs.ReportsLeft.{start-reports_left}
use Rattle.plan_verifier.specs.declared.verdict.Verdict.TheVariants.{Accepted, Refused}
use Rattle.plan_verifier.specs.Accepted.{VerifiedPlan, IsVerified, IsAcceptable}
use Rattle.plan_verifier.proofs.Reasons.{verified_greatest, verified_never_before, verified_no_later, verified_just_in_time}
use Rattle.cell_control.specs.Control.{control_at_start, Control}
use Rattle.command_answers.specs.declared.command_fault.CommandFault.{CommandFault}
use Rattle.command_answers.specs.declared.loading.Loaded.{Loaded}
use Rattle.command_answers.specs.declared.loading.Loaded.TheVariants.{NotShaped, Judged}
use Rattle.command_answers.specs.Checks.{IsLoaded}
use Rattle.command_answers.specs.Plans.{BothParse}
use Rattle.command_answers.specs.Parsed.{AreTextsAnswered}
use Rattle.cellplan_c.specs.Calls.{IsEarliestLeaving, IsStarted, loaded_status, IsStatusOfBoth, IsStatusOfPlan}
use Rattle.cellplan_c.specs.Begun.{IsControllerOf}
use Rattle.cellplan_c.specs.Held.{Held}
use Rattle.cellplan_c.specs.contracts.inner.Inner as Inner
use Rattle.cellplan_c.proofs.Judging.{verdict_bound}

status_bound : (loaded : Loaded) → loaded_status loaded ≤ 1
status_bound (Judged verdict) = verdict_bound verdict
status_bound (NotShaped fault) = omega arith

-- what follows for each inner value follows for what is held
pub held_so : (P Q : Inner.the_row.Denot → Type 0) (held : Held) → ((inner : Inner.the_row.Denot) → P inner → Q inner) → IfSome held P → IfSome held Q
held_so P Q None more is = tt
held_so P Q (Some inner) more is = more inner is

-- each job keeps to its earliest leaving by an accepted plan
leavings_kept : (v : VerifiedPlan) → IsVerified v → (j : ℕ) → j < jobs v.planned → IsEarliestLeaving (control_at_start v) j
leavings_kept v sound j inside = record {
  greatest = verified_greatest v sound j inside;
  in_budget = sound.budgets j inside;
  no_faster = verified_never_before v sound j inside;
  no_later = verified_no_later v sound j inside;
  just_in_time = verified_just_in_time v sound j inside;
}

module _ (instance : List ℕ) (name : Option (List ℕ)) (plan : List ℕ) where
  -- the name as it is called and as it is meant
  pub under : (other : Option (List ℕ)) (outcome : Result Loaded CommandFault) → other ≡ name
      → AreTextsAnswered instance other plan IsLoaded outcome → AreTextsAnswered instance name plan IsLoaded outcome
  under other outcome same are = subst (λ (n : Option (List ℕ)). AreTextsAnswered instance n plan IsLoaded outcome) same are

  pub started : (loaded : Loaded) → AreTextsAnswered instance name plan IsLoaded (Ok loaded) → (control : Control)
      → IsControllerOf loaded control → IsStarted instance name plan control
  started (NotShaped fault) are control is = absurd is
  started (Judged (Refused back why)) are control is = absurd is
  started (Judged (Accepted verified)) are control is =
      let judged = are.found.is.accepted in
      record {
        accepted = verified;
        parsed = subst (λ (p : PlannedShop). BothParse instance name plan p) (sym judged.0) are.found.parsed;
        well_shaped = is.0.schedule.shaped;
        acceptable = subst IsAcceptable (sym judged.0) judged.1;
        verified = is.0;
        start = is.1;
        same = λ p parse. ap (λ (c : Control). c.planned) is.1 ∙ (are.only p parse).accepted.0;
        left = subst (λ (c : Control). reports_left c.planned c.cell ≡ stated_number c.planned) (sym is.1) (start-reports_left verified.planned);
        leavings = subst (λ (c : Control). (j : ℕ) → j < jobs c.planned → IsEarliestLeaving c j) (sym is.1) (leavings_kept verified is.0);
      }

  module _ (loaded : Loaded) (are : AreTextsAnswered instance name plan IsLoaded (Ok loaded)) (result : ℕ)
      (status : (result ≡ 4) ⊎ (result ≡ loaded_status loaded)) where
    pub judged : result ≤ 1 → IsStatusOfBoth instance name plan result
    judged small = elim status [ inl four ↦ absurd (omega (arith, four, small)) | inr is ↦ record { loaded = loaded; both = are.found; status_is = is } ]

    pub only : (p : PlannedShop) → BothParse instance name plan p → IsStatusOfPlan p result
    only p parse = elim status [ inl four ↦ inl four | inr is ↦ inr (loaded, are.only p parse, is) ]

    pub statuses : (result ≤ 4) × (result ≢ 2)
    statuses = elim status [
      | inl four ↦ (omega (arith, four), λ two. omega (arith, four, two))
      | inr is ↦ (omega (arith, is, status_bound loaded), λ two. omega (arith, is, two, status_bound loaded))
    ]

    pub no_fault : {A : Type 0} → result ≡ 3 → A
    no_fault three = elim status [ inl four ↦ absurd (omega (arith, four, three)) | inr is ↦ absurd (omega (arith, is, three, status_bound loaded)) ]
