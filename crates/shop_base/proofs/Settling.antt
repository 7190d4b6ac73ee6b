-- Every sound cell settles, and whatever the order of the moves, in one cell: two jobs that can move don't disturb each other.
use Rattle.std.proofs.Common.{◌≡◌, ◌≢◌, ℕ, zero, suc, ◌+◌, ◌<◌, ◌⊎◌, inl, inr, List, [], ◌∷◌, ◌++◌, length, Some, Bool, Option, false, refl, sym, ap, ◌∙◌, subst, arith, le_refl}
use Rattle.std.proofs.lemmas.Bool.{cases_lt, cases_eq}
use Rattle.std.proofs.lemmas.List.{ext_get_or}
use Rattle.shop_base.specs.declared.job_state.JobState.{JobState}
use Rattle.shop_base.specs.Plan.{PlannedShop, jobs, clean, Visits, IsWellShaped}
use Rattle.shop_base.specs.Cell.{Cell, MachineState, absent, unused, job_in, machine_in, made, entries, cleaning, IsOn, IsFree}
use Rattle.shop_base.proofs.MovesOnce.{moves_once}
use Rattle.shop_base.proofs.ReadyCount.{after_moves-ready_count}
use Rattle.shop_base.proofs.CellFacts.{ready_count-le}
use Rattle.shop_base.specs.Report.{at, IsNextMoment, after_report}
use Rattle.shop_base.specs.Move.{CanMove, KeepsPlan, after_move}
use Rattle.shop_base.specs.Run.{ends_in, IsAtRest}
use Rattle.shop_base.specs.Controlled.{AreMoves, after_moves, orders_for, moved}
use Rattle.shop_base.specs.Sound.{IsSound}
use Rattle.shop_base.specs.Ahead.{Settles, settled}
use Rattle.shop_base.specs.AheadLaw.{EveryCellSettlesOnce, EveryListGoesOn, NoJobSettlesTwice, ACutStepSettlesAsItWas}
use Rattle.shop_base.proofs.Visits.{on_or_not, visits_or_not}
use Rattle.shop_base.proofs.Changes.{IsMoved, after_move-moved}
use Rattle.shop_base.proofs.Keeping.{after_move-sound, run-sound, target_free, target_next, alone_on}
use Rattle.shop_base.proofs.ControlledRuns.{after_moves-sound}
use Rattle.shop_base.proofs.Decisions.{move_at, moves_or_not}
use Rattle.shop_base.proofs.OneStep.{LooksSame, same_can, same_keeps, moves_left, move-left, move-inside}
use Rattle.shop_base.proofs.OneControlledRun.{leads_once}

-- of the first n jobs one can move at moment t and keep the plan, or none can
mover_or_none : (p : PlannedShop) (c : Cell) (t n : ℕ) → IsWellShaped p → IsSound p c
    → ((j : ℕ) × CanMove p c j t × KeepsPlan p c j) ⊎ ((j : ℕ) → j < n → CanMove p c j t → KeepsPlan p c j → ⊥)
mover_or_none p c t zero shaped sound = inr (λ j below can keeps. absurd (omega arith))
mover_or_none p c t (suc n) shaped sound = elim (mover_or_none p c t n shaped sound) [
  | inl found ↦ inl found
  | inr none ↦ elim (moves_or_not p c n t shaped sound) [
    | inl (can, keeps) ↦ inl (n, can, keeps)
    | inr not_last ↦ inr (λ j below can keeps. elim (cases_lt j n) [
      | inl before ↦ none j before can keeps
      | inr at ↦ (let same : j ≡ n = omega arith in not_last (rw same at can, rw same at keeps))
    ])
  ]
]

-- at a moment that can be the next, a sound cell is at rest, or a job can move then
mover_or_rest : (p : PlannedShop) (c : Cell) (t : ℕ) → IsWellShaped p → IsSound p c → IsNextMoment c t → ((j : ℕ) × CanMove p c j t × KeepsPlan p c j) ⊎ IsAtRest p c
mover_or_rest p c t shaped sound moment = elim (mover_or_none p c t (jobs p) shaped sound) [
  | inl found ↦ inl found
  | inr none ↦ inr (λ j u can keeps. none j (move-inside p c j u sound can) (move_at p c j u t can moment) keeps)
]

-- it settles
settles_by : (n : ℕ) (p : PlannedShop) (c : Cell) (t : ℕ) → IsWellShaped p → IsSound p c → IsNextMoment c t → moves_left p c < n → (js : List ℕ) × Settles p c t js
settles_by zero p c t shaped sound moment enough = absurd (omega arith)
settles_by (suc n) p c t shaped sound moment enough =
    go (mover_or_rest p c t shaped sound moment) λ j can keeps.
    let change : IsMoved p c j t (after_move p c j t) = after_move-moved p c j t shaped sound can in
    settles_by n p (after_move p c j t) t shaped (after_move-sound p c j t shaped sound can keeps) (record { in_order = le_refl t; in_range = moment.in_range })
    (omega (arith, move-left p c (after_move p c j t) j t sound can change))
  where
    go : ((j : ℕ) × CanMove p c j t × KeepsPlan p c j) ⊎ IsAtRest p c → ((j : ℕ) → CanMove p c j t → KeepsPlan p c j → (js : List ℕ) × Settles p (after_move p c j t) t js)
        → (js : List ℕ) × Settles p c t js
    go (inr rest) later = ([], record { moves = tt; quiescent = rest })
    go (inl (j, can, keeps)) later =
        let (js, settles) = later j can keeps in
        (j ∷ js, record { moves = (can, keeps, settles.moves); quiescent = settles.quiescent })

pub cell_settles : (p : PlannedShop) (c : Cell) (t : ℕ) → IsWellShaped p → IsSound p c → IsNextMoment c t → (js : List ℕ) × Settles p c t js
cell_settles p c t shaped sound moment = settles_by (moves_left p c + 1) p c t shaped sound moment (omega arith)

job_is : (s : JobState) (n t : ℕ) (b : Bool) → s.made ≡ n → s.ready ≡ b → s.since ≡ t → s ≡ record { made = n; ready = b; since = t }
job_is s n t b one two three =
    ap (λ x. record { made = x; ready = s.ready; since = s.since }) one
    ∙ ap (λ x. record { made = n; ready = x; since = s.since }) two
    ∙ ap (λ x. record { made = n; ready = b; since = x }) three

-- machines and cells of equal parts are equal
machine_of_parts : List ℕ → Option ℕ → MachineState
machine_of_parts es o = record { entries = es; cleaning = o }

machine_same : (x y : MachineState) → x.entries ≡ y.entries → x.cleaning ≡ y.cleaning → x ≡ y
unfolding machine_of_parts
machine_same x y one two = ap (λ es. machine_of_parts es x.cleaning) one ∙ ap (λ o. machine_of_parts y.entries o) two

cell_of_parts : List JobState → List MachineState → ℕ → Cell
cell_of_parts js ms t = record { jobs = js; machines = ms; last = t }

cell_same : (x y : Cell) → x.jobs ≡ y.jobs → x.machines ≡ y.machines → x.last ≡ y.last → x ≡ y
unfolding cell_of_parts
cell_same x y one two three =
    ap (λ js. cell_of_parts js x.machines x.last) one ∙ ap (λ ms. cell_of_parts y.jobs ms x.last) two ∙ ap (λ t. cell_of_parts y.jobs y.machines t) three

-- two jobs that can move in a cell, once the first has moved
module _ (p : PlannedShop) (c : Cell) (j k t : ℕ) (shaped : IsWellShaped p) (sound : IsSound p c)
    (can : CanMove p c j t) (keeps : KeepsPlan p c j) (can_too : CanMove p c k t) (keeps_too : KeepsPlan p c k) (differ : k ≢ j) where
  one : Cell
  one = after_move p c j t

  first : IsMoved p c j t (after_move p c j t)
  first = after_move-moved p c j t shaped sound can

  sound_one : IsSound p (after_move p c j t)
  sound_one = after_move-sound p c j t shaped sound can keeps

  made_too : made (after_move p c j t) k ≡ made c k
  made_too = ap (λ (s : JobState). s.made) (first.others k differ)

  -- they don't enter the same machine
  apart : (m : ℕ) → Visits p j (made c j) m → Visits p k (made c k) m → ⊥
  apart m mine other =
      differ (sym (target_next p c k m keeps_too other).1 ∙ (target_next p c j m keeps mine).1)

  -- nor does the second enter the machine that the first leaves
  off_target : (m l : ℕ) → Visits p k (made c k) m → IsOn p c j l m → ⊥
  off_target m l visits on = (target_free p c k t m can_too visits).0 j l on

  still_free : (m : ℕ) → Visits p k (made c k) m → IsFree p c m → IsFree p (after_move p c j t) m
  still_free m visits free i l on = elim (cases_eq i j) [
    | inl same ↦ (let mine : IsOn p (after_move p c j t) j l m = rw same at on in
        let at : l ≡ made c j = omega (arith, mine.entered, first.made_mine) in
        apart m (rw at at mine.visits) visits)
    | inr other ↦ free i l (record { entered = sym (ap (λ (s : JobState). s.made) (first.others i other)) ∙ on.entered; visits = on.visits })
  ]

  looks : LooksSame p c (after_move p c j t) k
  looks = record {
    job = sym (first.others k differ);
    entries_same = λ m visits. sym (first.not_entered m (λ mine. apart m mine (rw made_too at visits)));
    free = λ m visits free. still_free m (rw made_too at visits) free;
    is_clean = λ m visits clear. first.cleaning_elsewhere m (λ l on. off_target m l (rw made_too at visits) on) ∙ clear;
  }

  pub can_then : CanMove p (after_move p c j t) k t
  can_then = same_can p c (after_move p c j t) k t sound_one looks can_too

  pub keeps_then : KeepsPlan p (after_move p c j t) k
  keeps_then = same_keeps p c (after_move p c j t) k looks keeps_too

  second : IsMoved p (after_move p c j t) k t (after_move p (after_move p c j t) k t)
  second = after_move-moved p (after_move p c j t) k t shaped sound_one can_then

  -- what both moves make of the cell
  pub both_first : job_in (after_move p (after_move p c j t) k t) j ≡ record { made = made c j + 1; ready = false; since = t }
  both_first = second.others j (λ same. differ (sym same)) ∙ job_is (job_in (after_move p c j t) j) (made c j + 1) t false first.made_mine first.ready_mine first.since_mine

  pub both_second : job_in (after_move p (after_move p c j t) k t) k ≡ record { made = made c k + 1; ready = false; since = t }
  both_second = job_is (job_in (after_move p (after_move p c j t) k t) k) (made c k + 1) t false (omega (arith, second.made_mine, made_too)) second.ready_mine second.since_mine

  pub both_else : (i : ℕ) → i ≢ j → i ≢ k → job_in (after_move p (after_move p c j t) k t) i ≡ job_in c i
  both_else i not_first not_second = second.others i not_second ∙ first.others i not_first

  off_then : (m : ℕ) → (Visits p k (made c k) m → ⊥) → Visits p k (made (after_move p c j t) k) m → ⊥
  off_then m off visits = off (rw made_too at visits)

  pub entered_first : (m : ℕ) → Visits p j (made c j) m → entries (after_move p (after_move p c j t) k t) m ≡ entries c m ++ j ∷ []
  entered_first m visits = second.not_entered m (off_then m (apart m visits)) ∙ first.entered m visits

  pub entered_second : (m : ℕ) → Visits p k (made c k) m → entries (after_move p (after_move p c j t) k t) m ≡ entries c m ++ k ∷ []
  entered_second m visits = second.entered m (rw made_too visits) ∙ ap (λ (es : List ℕ). es ++ k ∷ []) (first.not_entered m (λ mine. apart m mine visits))

  pub entered_else : (m : ℕ) → (Visits p j (made c j) m → ⊥) → (Visits p k (made c k) m → ⊥) → entries (after_move p (after_move p c j t) k t) m ≡ entries c m
  entered_else m not_first not_second = second.not_entered m (off_then m not_second) ∙ first.not_entered m not_first

  on_before : (l m : ℕ) → IsOn p (after_move p c j t) k l m → IsOn p c k l m
  on_before l m on = record { entered = sym made_too ∙ on.entered; visits = on.visits }

  pub cleaned_first : (l m : ℕ) → IsOn p c j l m → 0 < clean p m → cleaning (after_move p (after_move p c j t) k t) m ≡ Some t
  cleaned_first l m on timed =
      second.cleaning_elsewhere m (λ i other. differ (alone_on p c k i j l m shaped sound (on_before i m other) on)) ∙ first.cleaning_begins l m on timed

  pub cleaned_second : (l m : ℕ) → IsOn p c k l m → 0 < clean p m → cleaning (after_move p (after_move p c j t) k t) m ≡ Some t
  cleaned_second l m on timed = second.cleaning_begins l m (record { entered = made_too ∙ on.entered; visits = on.visits }) timed

  first_same : (m : ℕ) → ((l : ℕ) → IsOn p c j l m → 0 < clean p m → ⊥) → cleaning (after_move p c j t) m ≡ cleaning c m
  first_same m none = elim (on_or_not p c j m) [
    | inr off ↦ first.cleaning_elsewhere m off
    | inl (l, on) ↦ elim (cases_lt 0 (clean p m)) [ inl timed ↦ absurd (none l on timed) | inr needless ↦ first.cleaning_needless l m on (omega arith) ]
  ]

  pub cleaned_else : (m : ℕ) → ((l : ℕ) → IsOn p c j l m → 0 < clean p m → ⊥) → ((l : ℕ) → IsOn p c k l m → 0 < clean p m → ⊥)
      → cleaning (after_move p (after_move p c j t) k t) m ≡ cleaning c m
  cleaned_else m none none_too = elim (on_or_not p (after_move p c j t) k m) [
    | inr off ↦ second.cleaning_elsewhere m off ∙ first_same m none
    | inl (l, on) ↦ elim (cases_lt 0 (clean p m)) [
      | inl timed ↦ absurd (none_too l (on_before l m on) timed)
      | inr needless ↦ second.cleaning_needless l m on (omega arith) ∙ first_same m none
    ]
  ]

  pub both_counts : (length (after_move p (after_move p c j t) k t).jobs ≡ length c.jobs) × (length (after_move p (after_move p c j t) k t).machines ≡ length c.machines)
  both_counts = (second.job_count ∙ first.job_count, second.machine_count ∙ first.machine_count)

-- in whatever order two jobs move, it comes to the same cell
module _ (p : PlannedShop) (c : Cell) (j k t : ℕ) (shaped : IsWellShaped p) (sound : IsSound p c)
    (can : CanMove p c j t) (keeps : KeepsPlan p c j) (can_too : CanMove p c k t) (keeps_too : KeepsPlan p c k) (differ : k ≢ j) where
  other_way : j ≢ k
  other_way same = differ (sym same)

  job_either : (i : ℕ) → job_in (after_move p (after_move p c j t) k t) i ≡ job_in (after_move p (after_move p c k t) j t) i
  job_either i = elim (cases_eq i j) [
    | inl same ↦ rw same (both_first p c j k t shaped sound can keeps can_too keeps_too differ ∙ sym (both_second p c k j t shaped sound can_too keeps_too can keeps other_way))
    | inr not_first ↦ elim (cases_eq i k) [
      | inl same ↦ rw same (both_second p c j k t shaped sound can keeps can_too keeps_too differ ∙ sym (both_first p c k j t shaped sound can_too keeps_too can keeps other_way))
      | inr not_second ↦ both_else p c j k t shaped sound can keeps can_too keeps_too differ i not_first not_second
          ∙ sym (both_else p c k j t shaped sound can_too keeps_too can keeps other_way i not_second not_first)
    ]
  ]

  entries_either : (m : ℕ) → entries (after_move p (after_move p c j t) k t) m ≡ entries (after_move p (after_move p c k t) j t) m
  entries_either m = elim (visits_or_not p j (made c j) m) [
    | inl mine ↦ entered_first p c j k t shaped sound can keeps can_too keeps_too differ m mine ∙ sym (entered_second p c k j t shaped sound can_too keeps_too can keeps other_way m mine)
    | inr not_first ↦ elim (visits_or_not p k (made c k) m) [
      | inl other ↦ entered_second p c j k t shaped sound can keeps can_too keeps_too differ m other ∙ sym (entered_first p c k j t shaped sound can_too keeps_too can keeps other_way m other)
      | inr not_second ↦ entered_else p c j k t shaped sound can keeps can_too keeps_too differ m not_first not_second
          ∙ sym (entered_else p c k j t shaped sound can_too keeps_too can keeps other_way m not_second not_first)
    ]
  ]

  -- a job leaves a machine with a cleaning time, or not
  leaves_or_not : (i m : ℕ) → ((l : ℕ) × IsOn p c i l m × (0 < clean p m)) ⊎ ((l : ℕ) → IsOn p c i l m → 0 < clean p m → ⊥)
  leaves_or_not i m = elim (on_or_not p c i m) [
    | inr off ↦ inr (λ l on timed. off l on)
    | inl (l, on) ↦ elim (cases_lt 0 (clean p m)) [ inl timed ↦ inl (l, on, timed) | inr needless ↦ inr (λ n at timed. omega arith) ]
  ]

  cleaning_either : (m : ℕ) → cleaning (after_move p (after_move p c j t) k t) m ≡ cleaning (after_move p (after_move p c k t) j t) m
  cleaning_either m = elim (leaves_or_not j m) [
    | inl (l, on, timed) ↦ cleaned_first p c j k t shaped sound can keeps can_too keeps_too differ l m on timed
        ∙ sym (cleaned_second p c k j t shaped sound can_too keeps_too can keeps other_way l m on timed)
    | inr not_first ↦ elim (leaves_or_not k m) [
      | inl (l, on, timed) ↦ cleaned_second p c j k t shaped sound can keeps can_too keeps_too differ l m on timed
          ∙ sym (cleaned_first p c k j t shaped sound can_too keeps_too can keeps other_way l m on timed)
      | inr not_second ↦ cleaned_else p c j k t shaped sound can keeps can_too keeps_too differ m not_first not_second
          ∙ sym (cleaned_else p c k j t shaped sound can_too keeps_too can keeps other_way m not_second not_first)
    ]
  ]

  pub moves_commute : after_move p (after_move p c j t) k t ≡ after_move p (after_move p c k t) j t
  moves_commute =
      let (jobs_one, machines_one) = both_counts p c j k t shaped sound can keeps can_too keeps_too differ in
      let (jobs_two, machines_two) = both_counts p c k j t shaped sound can_too keeps_too can keeps other_way in
      cell_same (after_move p (after_move p c j t) k t) (after_move p (after_move p c k t) j t)
      (ext_get_or absent (after_move p (after_move p c j t) k t).jobs (after_move p (after_move p c k t) j t).jobs (jobs_one ∙ sym jobs_two) (λ i inside. job_either i))
      (ext_get_or unused (after_move p (after_move p c j t) k t).machines (after_move p (after_move p c k t) j t).machines (machines_one ∙ sym machines_two)
      (λ m inside. machine_same (machine_in (after_move p (after_move p c j t) k t) m) (machine_in (after_move p (after_move p c k t) j t) m) (entries_either m) (cleaning_either m)))
      refl

-- two settlings end in one cell
settle_once : (n : ℕ) (p : PlannedShop) (c : Cell) (t : ℕ) (js others : List ℕ) → IsWellShaped p → IsSound p c → moves_left p c < n
    → Settles p c t js → Settles p c t others → after_moves p c t others ≡ after_moves p c t js
settle_once zero p c t js others shaped sound enough settles again = absurd (omega arith)
settle_once (suc n) p c t [] [] shaped sound enough settles again = refl
settle_once (suc n) p c t [] (k ∷ ks) shaped sound enough settles again = absurd (settles.quiescent k t again.moves.0 again.moves.1)
settle_once (suc n) p c t (j ∷ js) [] shaped sound enough settles again = absurd (again.quiescent j t settles.moves.0 settles.moves.1)
settle_once (suc n) p c t (j ∷ js) (k ∷ ks) shaped sound enough settles again =
    go (cases_eq k j)
    (λ ms last. settle_once n p (after_move p c j t) t js ms shaped sound_j less_j (record { moves = settles.moves.2; quiescent = settles.quiescent }) last)
    (λ ms last. settle_once n p (after_move p c k t) t ms ks shaped sound_k less_k last (record { moves = again.moves.2; quiescent = again.quiescent }))
  where
    sound_j : IsSound p (after_move p c j t)
    sound_j = after_move-sound p c j t shaped sound settles.moves.0 settles.moves.1

    sound_k : IsSound p (after_move p c k t)
    sound_k = after_move-sound p c k t shaped sound again.moves.0 again.moves.1

    less_j : moves_left p (after_move p c j t) < n
    less_j = omega (arith, move-left p c (after_move p c j t) j t sound settles.moves.0 (after_move-moved p c j t shaped sound settles.moves.0))

    less_k : moves_left p (after_move p c k t) < n
    less_k = omega (arith, move-left p c (after_move p c k t) k t sound again.moves.0 (after_move-moved p c k t shaped sound again.moves.0))

    go : (k ≡ j) ⊎ (k ≡ j → ⊥)
        → ((ms : List ℕ) → Settles p (after_move p c j t) t ms → after_moves p (after_move p c j t) t ms ≡ after_moves p (after_move p c j t) t js)
        → ((ms : List ℕ) → Settles p (after_move p c k t) t ms → after_moves p (after_move p c k t) t ks ≡ after_moves p (after_move p c k t) t ms)
        → after_moves p (after_move p c k t) t ks ≡ after_moves p (after_move p c j t) t js
    go (inl same) from_j from_k =
        ap (λ i. after_moves p (after_move p c i t) t ks) same
        ∙ from_j ks (subst (λ i. Settles p (after_move p c i t) t ks) same (record { moves = again.moves.2; quiescent = again.quiescent }))
    go (inr differ) from_j from_k =
        from_k (j ∷ ms) (record { moves = (can_j, keeps_j, subst (λ x. AreMoves p x t ms) commute found.1.moves); quiescent = subst (λ x. IsAtRest p (after_moves p x t ms)) commute found.1.quiescent })
        ∙ ap (λ x. after_moves p x t ms) (sym commute)
        ∙ from_j (k ∷ ms) (record { moves = (can_k, keeps_k, found.1.moves); quiescent = found.1.quiescent })
      where
        can_k : CanMove p (after_move p c j t) k t
        can_k = can_then p c j k t shaped sound settles.moves.0 settles.moves.1 again.moves.0 again.moves.1 differ

        keeps_k : KeepsPlan p (after_move p c j t) k
        keeps_k = keeps_then p c j k t shaped sound settles.moves.0 settles.moves.1 again.moves.0 again.moves.1 differ

        can_j : CanMove p (after_move p c k t) j t
        can_j = can_then p c k j t shaped sound again.moves.0 again.moves.1 settles.moves.0 settles.moves.1 (λ same. differ (sym same))

        keeps_j : KeepsPlan p (after_move p c k t) j
        keeps_j = keeps_then p c k j t shaped sound again.moves.0 again.moves.1 settles.moves.0 settles.moves.1 (λ same. differ (sym same))

        commute : after_move p (after_move p c j t) k t ≡ after_move p (after_move p c k t) j t
        commute = moves_commute p c j k t shaped sound settles.moves.0 settles.moves.1 again.moves.0 again.moves.1 differ

        found : (ms : List ℕ) × Settles p (after_move p (after_move p c j t) k t) t ms
        found = cell_settles p (after_move p (after_move p c j t) k t) t shaped (after_move-sound p (after_move p c j t) k t shaped sound_j can_k keeps_k)
            (record { in_order = le_refl t; in_range = can_k.moment.in_range })

        ms : List ℕ
        ms = found.0

pub every_cell_settles_once-holds : EveryCellSettlesOnce
every_cell_settles_once-holds p es t shaped run moment =
    let sound : IsSound p (ends_in p es) = run-sound p es shaped run in
    let (js, settles) = cell_settles p (ends_in p es) t shaped sound moment in
    (js, settles, λ others again. settle_once (moves_left p (ends_in p es) + 1) p (ends_in p es) t js others shaped sound (omega arith) settles again)

pub every_list_goes_on-holds : EveryListGoesOn
every_list_goes_on-holds p es t rs shaped run moment =
    let sound : IsSound p (ends_in p es) = run-sound p es shaped run in
    let (js, settles) = cell_settles p (ends_in p es) t shaped sound moment in
    let (fs, end, once) = leads_once p (after_moves p (ends_in p es) t js) rs shaped (after_moves-sound p (ends_in p es) t js shaped sound settles.moves) settles.quiescent in
    (moved (orders_for p (ends_in p es) t js) ++ fs, end, settled js rs fs end settles once.leads)

pub no_job_settles_twice-holds : NoJobSettlesTwice
no_job_settles_twice-holds p es t js shaped run settles =
    let sound : IsSound p (ends_in p es) = run-sound p es shaped run in (
      moves_once p (ends_in p es) t js shaped sound settles.moves,
      omega (arith, after_moves-ready_count p (ends_in p es) t js shaped sound settles.moves, ready_count-le p (ends_in p es)),
    )

-- moves, and then moves in the cell that they leave, are moves
moves_join : (p : PlannedShop) (c : Cell) (t : ℕ) (front js : List ℕ) → AreMoves p c t front → AreMoves p (after_moves p c t front) t js → AreMoves p c t (front ++ js)
moves_join p c t [] js moves later = later
moves_join p c t (j ∷ front) js moves later = (moves.0, moves.1, moves_join p (after_move p c j t) t front js moves.2 later)

after_moves_join : (p : PlannedShop) (c : Cell) (t : ℕ) (front js : List ℕ) → after_moves p c t (front ++ js) ≡ after_moves p (after_moves p c t front) t js
after_moves_join p c t [] js = refl
after_moves_join p c t (j ∷ front) js = after_moves_join p (after_move p c j t) t front js

pub a_cut_step_settles-holds : ACutStepSettlesAsItWas
a_cut_step_settles-holds p c r front js can moves settles = record {
  can = can;
  moves = moves_join p (after_report c r) (at r) front js moves settles.moves;
  quiescent = rw (after_moves_join p (after_report c r) (at r) front js) settles.quiescent;
}
