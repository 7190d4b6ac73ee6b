-- The run so far is kept where a job ends behind what it has entered, where one that is outside is placed, and where a step lasts.
use Rattle.std.proofs.Common.{◌≡◌, ℕ, ◌-◌, ◌<◌, ◌≤◌, inl, inr, List, [], ◌++◌, length, get_or, replicate, refl, sym, ap, ◌∙◌, subst, arith, append_assoc, length-append}
use Rattle.std.specs.Prelude.{remove}
use Rattle.std.proofs.lemmas.Bool.{cases_eq, cases_lt, lt-ltb}
use Rattle.std.proofs.lemmas.List.{get_or_past}
use Rattle.std.proofs.lemmas.List.Edits.{remove-append_right}
use Rattle.std.proofs.Math.ListN.{get_or-append}
use Rattle.shop_base.specs.declared.shop.Step.{Step}
use Rattle.shop_base.specs.Shop.{step_at}
use Rattle.shop_base.specs.Plan.{PlannedShop, jobs, machines, machine_of, order, job_at, clean, Visits, Stands}
use Rattle.shop_base.specs.Cell.{MachineState, unused, made, entries, IsGone}
use Rattle.shop_base.specs.Move.{IsPrefix}
use Rattle.shop_base.proofs.Visits.{visits_job, stands_alike, stands_step}
use Rattle.plan_revise.specs.Ended.{with_job_ended}
use Rattle.plan_revise.specs.Settings.{RevisionSetting, moves_made}
use Rattle.plan_revise.specs.Fits.{IsFit, IsKept, IsSetting}
use Rattle.plan_revise.specs.Parts.{visits_in, Places}
use Rattle.plan_revise.proofs.EndedParts.{EndsOnce, visits_others, visits_mine, ended_by}
use Rattle.plan_revise.proofs.PlacedParts.{SameVisits, same-visits}

-- a given job has made as many moves as the cell says
pub moves_given : (s : RevisionSetting) (j : ℕ) → j < jobs s.given → moves_made s j ≡ made s.cell j
moves_given s j inside = rw (lt-ltb j (jobs s.given) inside) refl

-- what is given keeps its own run
pub given_kept : (s : RevisionSetting) → IsSetting s → IsKept s s.given
given_kept s is = record {
  jobs_there = omega arith;
  entered = λ j k made visits. visits;
  left = λ j inside gone. refl;
  begun = λ m inside. is.sound.in_order m;
  cleaned = λ m. refl;
}

-- a job that has entered a machine has made the step that it stands there for
pub entered_moves : (s : RevisionSetting) (p : PlannedShop) → IsSetting s → IsKept s p → (m a j k : ℕ) → m < machines s.given → a < length (entries s.cell m) → Stands p m a j k → (j < jobs s.given) × (k < made s.cell j)
entered_moves s p is kept m a j k inside within stands =
    (visits_job s.given j found.0 m stood.visits, omega (arith, moved, stands_step p m a j k found.0 stands there))
  where
    given_is : IsPrefix (entries s.cell m) (order s.given m)
    given_is = is.sound.in_order m

    prefix : IsPrefix (entries s.cell m) (order p m)
    prefix = kept.begun m inside

    shorter : a < length (order s.given m)
    shorter = omega (arith, ap length given_is.1, length-append (entries s.cell m) given_is.0)

    alike : (b : ℕ) → b ≤ a → job_at p m b ≡ job_at s.given m b
    alike b few =
        ap (λ (xs : List ℕ). get_or xs b 0) prefix.1 ∙ get_or-append (entries s.cell m) prefix.0 0 b (omega arith)
        ∙ sym (ap (λ (xs : List ℕ). get_or xs b 0) given_is.1 ∙ get_or-append (entries s.cell m) given_is.0 0 b (omega arith))

    found : (k : ℕ) × Stands s.given m a (job_at s.given m a) k
    found = (is.shaped.orders m inside).on_route a shorter

    stood : Stands s.given m a j found.0
    stood = subst (λ i. Stands s.given m a i found.0) (sym (alike a (omega arith)) ∙ stands.job) found.1

    moved : found.0 < made s.cell j
    moved = is.sound.entered_made m a j found.0 stood within

    step_kept : (l : ℕ) → l ≤ found.0 → Visits p j l (machine_of s.given j l)
    step_kept l few = kept.entered j l (omega (arith, moved)) (record { within = omega (arith, stood.visits.within); here = refl })

    there : Stands p m a j found.0
    there = stands_alike s.given p m a j found.0 stood stands.within alike (step_kept found.0 (omega arith)).within (λ l few. (step_kept l few).here)

-- nobody has entered a machine that the given shop hasn't
pub unused_entries : (s : RevisionSetting) → IsSetting s → (m : ℕ) → machines s.given ≤ m → entries s.cell m ≡ []
unused_entries s is m past = ap (λ (x : MachineState). x.entries) (get_or_past s.cell.machines m unused (omega (arith, is.sound.machine_count)))

-- ---- a job that ends behind what it has entered

module _ (s : RevisionSetting) (p : PlannedShop) (j n : ℕ) (is : IsSetting s) (kept : IsKept s p) (behind : j < jobs s.given → made s.cell j ≤ n) where
  -- it hasn't entered the machines behind
  pub unentered : (m x k : ℕ) → n ≤ k → Stands p m x j k → length (entries s.cell m) ≤ x
  unentered m x k more stands = elim (cases_lt m (machines s.given)) [
    | inr past ↦ omega (arith, ap length (unused_entries s is m past))
    | inl inside ↦ elim (cases_lt x (length (entries s.cell m))) [
      | inr enough ↦ enough
      | inl less ↦ (let moved = entered_moves s p is kept m x j k inside less stands in absurd (omega (arith, moved.1, behind moved.0)))
    ]
  ]

module _ (s : RevisionSetting) (p : PlannedShop) (j n : ℕ) (q : PlannedShop) (is : IsSetting s) (kept : IsKept s p) (once : EndsOnce p j n q) (behind : j < jobs s.given → made s.cell j ≤ n) where
  begun_still : (m : ℕ) → m < machines s.given → IsPrefix (entries s.cell m) (order q m)
  begun_still m inside = elim (once.orders m) [
    | inl left ↦ (prefix.0, left.same ∙ prefix.1)
    | inr t ↦ (
      remove prefix.0 (t.place - length (entries s.cell m)),
      t.removed.is ∙ ap (λ (xs : List ℕ). remove xs t.place) prefix.1
          ∙ remove-append_right (entries s.cell m) prefix.0 (length (entries s.cell m)) t.place refl (unentered s p j n is kept behind m t.place t.step t.behind t.stands),
    )
  ]
    where
      prefix : IsPrefix (entries s.cell m) (order p m)
      prefix = kept.begun m inside

  pub once_keep : (j < jobs s.given → IsGone s.given s.cell j → ⊥) → IsKept s q
  once_keep here = record {
    jobs_there = omega (arith, kept.jobs_there, once.ends.jobs_same);
    entered = λ i k moved visits. entered_still i k moved visits;
    left = λ i inside gone. elim (cases_eq i j) [
      | inl same ↦ absurd (here (omega arith) (subst (λ i. IsGone s.given s.cell i) same gone))
      | inr other ↦ ap length (once.ends.others i other) ∙ kept.left i inside gone
    ];
    begun = begun_still;
    cleaned = λ m. once.ends.cleans m ∙ kept.cleaned m;
  }
    where
      entered_still : (i k : ℕ) → k < made s.cell i → Visits s.given i k (machine_of s.given i k) → Visits q i k (machine_of s.given i k)
      entered_still i k moved visits = elim (cases_eq i j) [
        | inr other ↦ visits_others p j n q once.ends i k (machine_of s.given i k) other (kept.entered i k moved visits)
        | inl same ↦ subst (λ i. Visits q i k (machine_of s.given i k)) (sym same)
            (visits_mine p j n q once.ends k (machine_of s.given j k) (omega (arith, behind (subst (λ i. i < jobs s.given) same (visits_job s.given i k (machine_of s.given i k) visits)), ap (made s.cell) same))
            (subst (λ i. Visits p i k (machine_of s.given i k)) same (kept.entered i k moved visits)))
      ]

-- however many steps it loses
pub ends_keep : (s : RevisionSetting) (p : PlannedShop) (j n : ℕ) → IsSetting s → IsFit p → j < jobs p → IsKept s p → (j < jobs s.given → made s.cell j ≤ n) → (j < jobs s.given → IsGone s.given s.cell j → ⊥) → IsKept s (with_job_ended p j n)
ends_keep s p j n is fit inside kept behind here =
    (ended_by p j fit inside (IsKept s) n kept (λ q r k more there fits once holds. once_keep s q j k r is holds once (λ given. omega (arith, behind given)) here)).1

-- ---- a job that is placed

pub places_keep : (s : RevisionSetting) (p : PlannedShop) (j : ℕ) (r : List Step) (first last : ℕ) (q : PlannedShop) → IsKept s p → Places p j r first last q → jobs p ≤ jobs q → (j < jobs s.given → made s.cell j ≡ 0) → IsKept s q
places_keep s p j r first last q kept places more outside = record {
  jobs_there = omega (arith, kept.jobs_there);
  entered = λ i k moved visits. elim (cases_eq i j) [
    | inl same ↦ absurd (omega (arith, ap (made s.cell) same, outside (subst (λ i. i < jobs s.given) same (visits_job s.given i k (machine_of s.given i k) visits))))
    | inr other ↦ (let old = kept.entered i k moved visits in record {
      within = omega (arith, ap length (places.others i other), old.within);
      here = ap (λ (r : List Step). (step_at r k).machine) (places.others i other) ∙ old.here;
    })
  ];
  left = λ i inside gone. elim (cases_eq i j) [
    | inl same ↦ absurd (omega (arith, ap (made s.cell) same, outside (omega arith)))
    | inr other ↦ ap length (places.others i other) ∙ kept.left i inside gone
  ];
  begun = λ m inside. (let prefix = kept.begun m inside in
      (prefix.0 ++ replicate (visits_in r m) j, places.last m ∙ ap (λ (xs : List ℕ). xs ++ replicate (visits_in r m) j) prefix.1 ∙ append_assoc (entries s.cell m) prefix.0 (replicate (visits_in r m) j)));
  cleaned = λ m. places.cleans m ∙ kept.cleaned m;
}

-- ---- what is read the same

pub same_keep : (s : RevisionSetting) (p q : PlannedShop) → IsKept s p → SameVisits p q → jobs p ≤ jobs q → ((m : ℕ) → clean q m ≡ clean p m) → IsKept s q
same_keep s p q kept same more cleans = record {
  jobs_there = omega (arith, kept.jobs_there);
  entered = λ j k moved visits. same-visits p q same j k (machine_of s.given j k) (kept.entered j k moved visits);
  left = λ j inside gone. same.lengths j ∙ kept.left j inside gone;
  begun = λ m inside. (let prefix = kept.begun m inside in (prefix.0, same.orders m ∙ prefix.1));
  cleaned = λ m. cleans m ∙ kept.cleaned m;
}
