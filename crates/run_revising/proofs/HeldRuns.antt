-- A job more enters the machine that it holds: the events by which it does are possible.
use Rattle.std.proofs.Common.{◌≡◌, ◌≢◌, ℕ, ◌<◌, List, [], ◌∷◌, ◌++◌, length, get_or, Option, None, Some, refl, sym, ap, ◌∙◌, subst, arith, inr}
use Rattle.shop_base.specs.declared.job_state.JobState.{JobState}
use Rattle.shop_base.specs.declared.report.Report.TheVariants.{Arrive, Clean}
use Rattle.shop_base.specs.declared.move_order.Spot.TheVariants.{Out, At}
use Rattle.shop_base.specs.Plan.{PlannedShop, order, Visits, IsWellShaped}
use Rattle.shop_base.specs.Cell.{Cell, absent, job_in, made, entries, cleaning, IsFree}
use Rattle.shop_base.specs.Report.{IsNextMoment, with_ready, with_clean}
use Rattle.shop_base.specs.Move.{IsPrefix, CanMove}
use Rattle.shop_base.specs.Sound.{IsSound}
use Rattle.shop_base.specs.Run.{Reported, Moved, CanHappen, AreEvents, after_all}
use Rattle.shop_base.proofs.Changes.{IsReadied, IsTidied, after_move-moved, with_ready-readied, with_clean-tidied}
use Rattle.shop_base.proofs.Keeping.{after-sound}
use Rattle.shop_base.proofs.CellFacts.{target_visited, source_outside}
use Rattle.cell_tables.specs.Carried.{awaited}
use Rattle.plan_revise.specs.Held.{entry_at_once}
use Rattle.run_revising.specs.Holding.{end_of_cleaning, hold_events}

-- nothing was reported of job j, its first step is on machine m, on which no job is, and it is the next in the machine's order; moment t can be the next
pub record IsAboutToHold (p : PlannedShop) (c : Cell) (m j t : ℕ) : Type 0 where
  pub inside : j < length c.jobs
  pub untouched : job_in c j ≡ awaited
  pub first : Visits p j 0 m
  pub free : IsFree p c m
  pub next : IsPrefix (entries c m ++ j ∷ []) (order p m)
  pub moment : IsNextMoment c t

module _ (p : PlannedShop) (m j t : ℕ) where
  -- the machine is free where the jobs are where they were
  free_still : (c new : Cell) → ((i : ℕ) → made new i ≡ made c i) → IsFree p c m → IsFree p new m
  free_still c new same free i k on = free i k (record { entered = sym (same i) ∙ on.entered; visits = on.visits })

  -- that the machine is clean can be reported
  cleaned : (c : Cell) (from : ℕ) → cleaning c m ≡ Some from → IsAboutToHold p c m j t → CanHappen p c (Reported (Clean m t))
  cleaned c from is about = record { going = (_, (from, record { is_cleaned = is; is_due = refl })); moment = about.moment }

  then_about : (c new : Cell) → IsTidied c m t new → IsAboutToHold p c m j t → IsAboutToHold p new m j t
  then_about c new tidied about = record {
    inside = omega (arith, about.inside, ap length tidied.jobs_same);
    untouched = ap (λ (x : List JobState). get_or x j absent) tidied.jobs_same ∙ about.untouched;
    first = about.first;
    free = free_still c new (λ i. ap (λ (x : List JobState). (get_or x i absent).made) tidied.jobs_same) about.free;
    next = subst (λ (xs : List ℕ). IsPrefix (xs ++ j ∷ []) (order p m)) (sym (tidied.entries_same m)) about.next;
    moment = record { in_order = omega (arith, tidied.moment); in_range = about.moment.in_range };
  }

  module _ (c : Cell) (about : IsAboutToHold p c m j t) where
    -- so can the job's arrival
    arrives : CanHappen p c (Reported (Arrive j t))
    arrives = record {
      going = (_, record { outside = ap (λ (x : JobState). x.made) about.untouched; not_ready = ap (λ (x : JobState). x.ready) about.untouched; is_due = refl });
      moment = about.moment;
    }

    readied : IsReadied c j t (with_ready c j t)
    readied = with_ready-readied c j t (ap (λ (x : JobState). x.ready) about.untouched) about.inside

    outside_still : made (with_ready c j t) j ≡ 0
    outside_still = readied.made_same j ∙ ap (λ (x : JobState). x.made) about.untouched

    first_now : Visits p j (made (with_ready c j t) j) m
    first_now = subst (λ n. Visits p j n m) (sym outside_still) about.first

    -- and it can go onto the machine, which is clean
    moves : cleaning c m ≡ None → CanHappen p (with_ready c j t) (Moved (record { job = j; source = Out; target = At m; at = t }))
    moves is_clean = (
      record {
        can = record {
          is_ready = readied.ready_mine;
          way = inr (
            m,
            record {
              next = first_now;
              free = free_still c (with_ready c j t) readied.made_same about.free;
              is_clean = is_clean;
            },
          );
          moment = record { in_order = omega arith; in_range = about.moment.in_range };
        };
        is_move = rw (source_outside p (with_ready c j t) j outside_still, target_visited p (with_ready c j t) j m first_now) refl;
      },
      λ n visits. subst (λ x. IsPrefix (entries c x ++ j ∷ []) (order p x)) (sym first_now.here ∙ visits.here) about.next,
    )

    enters : cleaning c m ≡ None → AreEvents p c (entry_at_once m j t)
    enters is_clean = (arrives, (moves is_clean, tt))

  -- all its events are possible, one after another
  pub holds : (c : Cell) → IsAboutToHold p c m j t → AreEvents p c (hold_events c m j t)
  holds c about = go (cleaning c m) refl
    where
      go : (since : Option ℕ) → cleaning c m ≡ since → AreEvents p c (end_of_cleaning since m t ++ entry_at_once m j t)
      go None is = enters c about is
      go (Some from) is =
          let tidied = with_clean-tidied c m from t is in
          (cleaned c from is about, enters (with_clean c m t) (then_about c (with_clean c m t) tidied about) tidied.cleaning_mine)

  -- they touch no other job
  entered_others : (c : Cell) → IsWellShaped p → IsSound p c → IsAboutToHold p c m j t → cleaning c m ≡ None → (i : ℕ) → i ≢ j → job_in (after_all p c (entry_at_once m j t)) i ≡ job_in c i
  entered_others c shaped sound about is_clean i other =
      let can : CanMove p (with_ready c j t) j t = (moves c about is_clean).0.can in
      let ready_sound : IsSound p (with_ready c j t) = after-sound p c (Reported (Arrive j t)) shaped sound (arrives c about) in
      (after_move-moved p (with_ready c j t) j t shaped ready_sound can).others i other ∙ (readied c about).others i other

  pub held_others : (c : Cell) → IsWellShaped p → IsSound p c → IsAboutToHold p c m j t → (i : ℕ) → i ≢ j → job_in (after_all p c (hold_events c m j t)) i ≡ job_in c i
  held_others c shaped sound about i other = go (cleaning c m) refl
    where
      go : (since : Option ℕ) → cleaning c m ≡ since → job_in (after_all p c (end_of_cleaning since m t ++ entry_at_once m j t)) i ≡ job_in c i
      go None is = entered_others c shaped sound about is i other
      go (Some from) is =
          let tidied = with_clean-tidied c m from t is in
          let clean_sound : IsSound p (with_clean c m t) = after-sound p c (Reported (Clean m t)) shaped sound (cleaned c from is about) in
          entered_others (with_clean c m t) shaped clean_sound (then_about c (with_clean c m t) tidied about) tidied.cleaning_mine i other
          ∙ ap (λ (x : List JobState). get_or x i absent) tidied.jobs_same

  -- they end at their moment
  pub held_last : (c : Cell) → (after_all p c (hold_events c m j t)).last ≡ t
  held_last c = go (cleaning c m)
    where
      go : (since : Option ℕ) → (after_all p c (end_of_cleaning since m t ++ entry_at_once m j t)).last ≡ t
      go None = refl
      go (Some from) = refl
