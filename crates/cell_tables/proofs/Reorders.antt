-- A plan with other orders keeps what was done in a cell exactly where each of its orders begins with the entries so far.
use Rattle.std.proofs.Common.{◌≡◌, ◌∙◌, ℕ, ◌<◌, List, Option, None, Some, inl, inr, arith, refl, sym, ap, lt-ltb, le-ltb, if◌then◌else◌, subst}
use Rattle.std.proofs.lemmas.Bool.{cases_lt}
use Rattle.shop_base.specs.{Plan.{PlannedShop, jobs, machines, clean, IsWellShaped}, Cell.{Cell, job_in, cleaning}, Sound.IsSound}
use Rattle.shop_base.specs.Report.{IsNextMoment}
use Rattle.shop_base.proofs.Keeping.{run-sound}
use Rattle.cell_tables.specs.{Kept.{KeepsJob, KeepsMachine, KeepsSoFar}, Carried.{awaited, carried_cleaning}}
use Rattle.cell_tables.specs.{Recasts.IsRecast, Rests.{IsReached, IsRest}, Reordered.{reordered, BeginsWithEntries, TheEntriesTellWhatIsKept}}
use Rattle.cell_tables.proofs.{KeptSoFar.kept_begins, Reaching.recast_reached}

-- a cell to which a run leads is sound
pub reached_sound : (p : PlannedShop) (c : Cell) → IsWellShaped p → IsReached p c → IsSound p c
reached_sound p c shaped reached = subst (IsSound p) reached.ends (run-sound p reached.events shaped reached.run)

module _ (p : PlannedShop) (orders : List (List ℕ)) (c : Cell) (begins : BeginsWithEntries c (reordered p orders)) where
  job_keeps : (j : ℕ) → j < jobs p → KeepsJob p c (reordered p orders) j
  job_keeps j inside = record { lacking = λ past. absurd (omega (arith, inside, past)); entered = λ k done here. record { within = here; here = refl }; gone = λ gone. refl }

  machine_keeps : (m : ℕ) → m < machines p → KeepsMachine p c (reordered p orders) m
  machine_keeps m inside = record {
    in_order = begins m;
    cleanings = record { cleaned = λ timed untimed. absurd (omega (arith, timed, untimed)); uncleaned = λ untimed timed. absurd (omega (arith, timed, untimed)) };
  }

  pub begins_keeps : KeepsSoFar p c (reordered p orders)
  begins_keeps = record { jobs_keep = job_keeps; machines_keep = machine_keeps }

  module _ (sound : IsSound p c) where
    -- a machine without a cleaning time isn't being cleaned
    uncleaned : (m : ℕ) (o : Option ℕ) → cleaning c m ≡ o → clean p m ≡ 0 → o ≡ None
    uncleaned m None is untimed = refl
    uncleaned m (Some s) is untimed = absurd (omega (arith, sound.cleaned_timed m s is, untimed))

    cleaning_kept : (m : ℕ) → cleaning c m ≡ carried_cleaning c (reordered p orders) m
    cleaning_kept m = elim (cases_lt 0 (clean p m)) [
      | inl timed ↦ sym (ap (λ b. if b then cleaning c m else None) (lt-ltb 0 (clean p m) timed))
      | inr untimed ↦ uncleaned m (cleaning c m) refl (omega arith) ∙ sym (ap (λ b. if b then cleaning c m else None) (le-ltb 0 (clean p m) untimed))
    ]

    pub begins_recast : IsRecast p c (reordered p orders) c
    begins_recast = record {
      kept = begins_keeps;
      carried = record {
        job_count = sound.job_count;
        machine_count = sound.machine_count;
        jobs_same = λ j inside. sym (ap (λ b. if b then job_in c j else awaited) (lt-ltb j (jobs p) inside));
        entries_same = λ m inside. refl;
        cleaning_is = λ m inside. cleaning_kept m;
        last_same = refl;
      };
    }

pub entries_tell : TheEntriesTellWhatIsKept
entries_tell p q c shaped fits same reached = (
  kept_begins p c q (reached_sound p c shaped reached),
  λ begins. subst (KeepsSoFar p c) (sym same) (begins_keeps p q.plan.order c (subst (BeginsWithEntries c) same begins)),
)

-- and a run of it leads there too
pub reached_on : (p : PlannedShop) (orders : List (List ℕ)) (c : Cell) → IsWellShaped p → IsWellShaped (reordered p orders) → IsReached p c → BeginsWithEntries c (reordered p orders)
    → IsReached (reordered p orders) c
reached_on p orders c shaped fits reached begins =
    recast_reached p c (reordered p orders) c shaped fits reached (begins_recast p orders c begins (reached_sound p c shaped reached))

-- so what is left of the run is a rest by that plan
pub rest_on : {P : Type 0} (basis : P) (p q : PlannedShop) (orders : List (List ℕ)) (c d : Cell) (t u : ℕ) → IsWellShaped p → IsWellShaped (reordered p orders) → IsReached p c → IsNextMoment c t
    → BeginsWithEntries c (reordered p orders) → q ≡ reordered p orders → d ≡ c → u ≡ t → IsRest (record { basis = basis; plan = q; cell = d; present = u })
rest_on basis p q orders c d t u shaped fits reached moment begins plan cell present = record {
  reached = subst (λ (x : PlannedShop). IsReached x d) (sym plan) (subst (IsReached (reordered p orders)) (sym cell) (reached_on p orders c shaped fits reached begins));
  moment = subst (λ (x : Cell). IsNextMoment x u) (sym cell) (subst (IsNextMoment c) (sym present) moment);
}
