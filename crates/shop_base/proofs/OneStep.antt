-- Exactly one list of moves fits a possible report: from rest only one job can move after it, after each move only the job that is next at the machine that was left can, and the moves come to an end.
use Rattle.std.proofs.Common.{◌≡◌, ◌≢◌, ℕ, zero, suc, ◌+◌, ◌-◌, ◌<◌, ◌≤◌, List, [], ◌∷◌, ◌++◌, length, slice_index_or, None, Some, true, false, ◌⊎◌, inl, inr, refl, sym, ◌∙◌, ap, subst, arith, lt_of_not-le}
use Rattle.std.proofs.lemmas.Bool.{cases_lt, cases_eq}
use Rattle.std.proofs.lemmas.List.{get_or_past}
use Rattle.shop_base.specs.Plan.{PlannedShop, jobs, steps, machine_of, clean, order, job_at, Visits, IsWellShaped}
use Rattle.shop_base.specs.Cell.{Cell, MachineState, absent, unused, job_in, machine_in, made, ready, entries, cleaning, IsOutside, IsOn, IsFree}
use Rattle.shop_base.specs.declared.job_state.JobState.{JobState}
use Rattle.shop_base.specs.declared.report.Report.{Report}
use Rattle.shop_base.specs.Activity.{Activity, Arrival, Operation, Cleaning, GoesOn}
use Rattle.shop_base.specs.Report.{ended, at, IsNextMoment, CanReport, with_ready, with_clean, after_end, after_report}
use Rattle.shop_base.specs.Move.{CanEnter, CanMove, IsPrefix, KeepsPlan, after_move}
use Rattle.shop_base.specs.Run.{IsAtRest}
use Rattle.shop_base.specs.Controlled.{AreMoves, after_moves, IsStep}
use Rattle.shop_base.specs.Ends.{sum_below}
use Rattle.shop_base.specs.Movers.{OnlyMoves}
use Rattle.shop_base.specs.Sound.{IsSound}
use Rattle.shop_base.proofs.Visits.{visits_job, on_or_not, leaves_past, past_leaves}
use Rattle.shop_base.proofs.Changes.{IsMoved, IsReadied, IsTidied, moves_within, after_move-moved, with_ready-readied, with_clean-tidied}
use Rattle.shop_base.proofs.Keeping.{target_next, after_report-sound, after_move-sound}
use Rattle.shop_base.proofs.Decisions.{HasWay, moment_now, move_at, moves_or_not}

-- a job to which nothing matters that differs between two cells can move in the one if it can in the other
pub record LooksSame (p : PlannedShop) (new c : Cell) (i : ℕ) : Type 0 where
  pub job : job_in new i ≡ job_in c i
  pub entries_same : (m : ℕ) → Visits p i (made c i) m → entries new m ≡ entries c m
  pub free : (m : ℕ) → Visits p i (made c i) m → IsFree p new m → IsFree p c m
  pub is_clean : (m : ℕ) → Visits p i (made c i) m → cleaning new m ≡ None → cleaning c m ≡ None

same_made : (new c : Cell) (i : ℕ) → job_in new i ≡ job_in c i → made new i ≡ made c i
same_made new c i same = ap (λ (x : JobState). x.made) same

pub same_can : (p : PlannedShop) (new c : Cell) (i t : ℕ) → IsSound p c → LooksSame p new c i → CanMove p new i t → CanMove p c i c.last
same_can p new c i t sound looks can = record {
  is_ready = sym (ap (λ (x : JobState). x.ready) looks.job) ∙ can.is_ready;
  way = go can.way;
  moment = moment_now p c sound;
}
  where
    is : made new i ≡ made c i
    is = same_made new c i looks.job

    go : HasWay p new i → HasWay p c i
    go (inl leaves) = inl (past_leaves p c i (omega (arith, is, leaves_past p new i leaves)))
    go (inr (m, enters)) =
        let next : Visits p i (made c i) m = subst (λ k. Visits p i k m) is enters.next in
        inr (m, record { next = next; free = looks.free m next enters.free; is_clean = looks.is_clean m next enters.is_clean })

pub same_keeps : (p : PlannedShop) (new c : Cell) (i : ℕ) → LooksSame p new c i → KeepsPlan p new i → KeepsPlan p c i
same_keeps p new c i looks keeps m visits =
    subst (λ (es : List ℕ). IsPrefix (es ++ i ∷ []) (order p m)) (looks.entries_same m visits)
    (keeps m (subst (λ k. Visits p i k m) (sym (same_made new c i looks.job)) visits))

-- from rest, once a job has become ready, no other can move
pub only_readied-moves : (p : PlannedShop) (c new : Cell) (j t : ℕ) → IsSound p c → IsAtRest p c → IsReadied c j t new → OnlyMoves p new j
only_readied-moves p c new j t sound rest readied i u can keeps = go (cases_eq i j)
  where
    machine_same : (m : ℕ) → machine_in new m ≡ machine_in c m
    machine_same m = ap (λ (ms : List MachineState). slice_index_or ms m unused) readied.machines_same

    looks : i ≢ j → LooksSame p new c i
    looks other = record {
      job = readied.others i other;
      entries_same = λ m visits. ap (λ (x : MachineState). x.entries) (machine_same m);
      free = λ m visits free x k on. free x k (record { entered = readied.made_same x ∙ on.entered; visits = on.visits });
      is_clean = λ m visits clear. sym (ap (λ (x : MachineState). x.cleaning) (machine_same m)) ∙ clear;
    }

    go : (i ≡ j) ⊎ (i ≡ j → ⊥) → i ≡ j
    go (inl same) = same
    go (inr other) = absurd (rest i c.last (same_can p new c i u sound (looks other) can) (same_keeps p new c i (looks other) keeps))

-- from rest, once a machine has become clean, no job but the next in its order can move
pub only_next_in-moves : (p : PlannedShop) (c new : Cell) (m t : ℕ) → IsSound p c → IsAtRest p c → IsTidied c m t new → OnlyMoves p new (job_at p m (length (entries c m)))
only_next_in-moves p c new m t sound rest tidied i u can keeps = go can.way
  where
    job_same : (x : ℕ) → job_in new x ≡ job_in c x
    job_same x = ap (λ (js : List JobState). slice_index_or js x absent) tidied.jobs_same

    looks : ((n : ℕ) → Visits p i (made c i) n → n ≢ m) → LooksSame p new c i
    looks other = record {
      job = job_same i;
      entries_same = λ n visits. tidied.entries_same n;
      free = λ n visits free x k on. free x k (record { entered = same_made new c x (job_same x) ∙ on.entered; visits = on.visits });
      is_clean = λ n visits clear. sym (tidied.cleaning_elsewhere n (other n visits)) ∙ clear;
    }

    still : ((n : ℕ) → Visits p i (made c i) n → n ≢ m) → ⊥
    still other = rest i c.last (same_can p new c i u sound (looks other) can) (same_keeps p new c i (looks other) keeps)

    enters_at : (n : ℕ) → Visits p i (made new i) n → (n ≡ m) ⊎ (n ≡ m → ⊥) → i ≡ job_at p m (length (entries c m))
    enters_at n visits (inl same) =
        sym (subst (λ x. job_at p x (length (entries c x)) ≡ i) same
        (ap (λ (es : List ℕ). job_at p n (length es)) (sym (tidied.entries_same n)) ∙ (target_next p new i n keeps visits).1))
    enters_at n visits (inr other) = absurd (still λ o there is. other (sym visits.here ∙ ap (machine_of p i) (same_made new c i (job_same i)) ∙ there.here ∙ is))

    go : HasWay p new i → i ≡ job_at p m (length (entries c m))
    go (inl leaves) = absurd (still λ n visits is. omega (arith, visits.within, same_made new c i (job_same i), leaves_past p new i leaves))
    go (inr (n, enters)) = enters_at n enters.next (cases_eq n m)

-- the job that can move after the end of an activity: that which became ready, or the next in the order of the machine that became clean
abbrev next_after_end : PlannedShop → Cell → Activity → ℕ
next_after_end p c (Arrival j) = j
next_after_end p c (Operation j m) = j
next_after_end p c (Cleaning m) = job_at p m (length (entries c m))

-- from rest, after a possible report only one job can move
pub only_one_after_report : (p : PlannedShop) (c : Cell) (r : Report) → IsSound p c → IsAtRest p c → CanReport p c r → OnlyMoves p (after_report c r) (next_after_end p c (ended r))
only_one_after_report p c r sound rest can = go (ended r) can.going.0 can.going.1
  where
    inside : (j : ℕ) → made c j ≢ 1 → j < length c.jobs
    inside j other = lt_of_not-le λ past. other (ap (λ (x : JobState). x.made) (get_or_past c.jobs j absent past))

    on-inside : (j k m : ℕ) → IsOn p c j k m → j < length c.jobs
    on-inside j k m on = omega (arith, sound.job_count, visits_job p j k m on.visits)

    go : (a : Activity) (due : ℕ) → GoesOn p c a due → OnlyMoves p (after_end c a (at r)) (next_after_end p c a)
    go (Arrival j) due awaited =
        only_readied-moves p c (with_ready c j (at r)) j (at r) sound rest
        (with_ready-readied c j (at r) awaited.not_ready (inside j λ is. absurd (omega (arith, awaited.outside))))
    go (Operation j m) due (k, worked) =
        only_readied-moves p c (with_ready c j (at r)) j (at r) sound rest (with_ready-readied c j (at r) worked.not_ready (on-inside j k m worked.on))
    go (Cleaning m) due (s, cleaned) =
        only_next_in-moves p c (with_clean c m (at r)) m (at r) sound rest (with_clean-tidied c m s (at r) cleaned.is_cleaned)

-- job i is next where job j is: on a machine with no cleaning time, in whose order its next visit stands directly after the entrants
pub record IsNextAfter (p : PlannedShop) (c : Cell) (j i : ℕ) : Type 0 where
  pub left : ℕ
  pub step : ℕ
  pub on : IsOn p c j step left
  pub uncleaned : clean p left ≡ 0
  pub stands : (length (entries c left) < length (order p left)) × (job_at p left (length (entries c left)) ≡ i)
  pub another : i ≢ j

-- where only j can move, once it has moved only the job that is next where it was can
pub moved-next : (p : PlannedShop) (c new : Cell) (j t i u : ℕ) → IsSound p c → OnlyMoves p c j → IsMoved p c j t new
    → CanMove p new i u → KeepsPlan p new i → IsNextAfter p c j i
moved-next p c new j t i u sound only moved can keeps = go can.way
  where
    another : i ≢ j
    another same = absurd (differ (subst (λ x. ready new x ≡ true) same can.is_ready))
      where
        differ : ready new j ≡ true → ⊥
        differ is_ready = let idle = moved.ready_mine in cc

    is : made new i ≡ made c i
    is = same_made new c i (moved.others i another)

    still : LooksSame p new c i → ⊥
    still looks = another (only i c.last (same_can p new c i u sound looks can) (same_keeps p new c i looks keeps))

    not_target : (m : ℕ) → IsFree p new m → Visits p j (made c j) m → ⊥
    not_target m free visits = free j (made c j) (record { entered = moved.made_mine; visits = visits })

    -- a free machine where j wasn't
    looks_at : (m : ℕ) → CanEnter p new i m → ((k : ℕ) → IsOn p c j k m → ⊥) → LooksSame p new c i
    looks_at m enters off = record {
      job = moved.others i another;
      entries_same = λ n visits. subst (λ x. entries new x ≡ entries c x) (here n visits) (moved.not_entered m (not_target m enters.free));
      free = λ n visits free. subst (IsFree p c) (here n visits) λ x k on. held x k on (cases_eq x j);
      is_clean = λ n visits clear. subst (λ x. cleaning c x ≡ None) (here n visits) (sym (moved.cleaning_elsewhere m off) ∙ enters.is_clean);
    }
      where
        here : (n : ℕ) → Visits p i (made c i) n → m ≡ n
        here n visits = sym enters.next.here ∙ ap (machine_of p i) is ∙ visits.here

        held : (x k : ℕ) → IsOn p c x k m → (x ≡ j) ⊎ (x ≡ j → ⊥) → ⊥
        held x k on (inl same) = off k (subst (λ y. IsOn p c y k m) same on)
        held x k on (inr other) = enters.free x k (record { entered = same_made new c x (moved.others x other) ∙ on.entered; visits = on.visits })

    enters_at : (m : ℕ) → CanEnter p new i m → ((k : ℕ) × IsOn p c j k m) ⊎ ((k : ℕ) → IsOn p c j k m → ⊥) → IsNextAfter p c j i
    enters_at m enters (inr off) = absurd (still (looks_at m enters off))
    enters_at m enters (inl (k, on)) = record {
      left = m;
      step = k;
      on = on;
      uncleaned = uncleaned (cases_lt 0 (clean p m));
      stands = subst (λ (es : List ℕ). (length es < length (order p m)) × (job_at p m (length es) ≡ i)) (moved.not_entered m (not_target m enters.free))
          (target_next p new i m keeps enters.next);
      another = another;
    }
      where
        dirty : cleaning new m ≡ Some t → ⊥
        dirty cleaned = let clear = enters.is_clean in absurd (cc)

        uncleaned : (0 < clean p m) ⊎ (clean p m ≤ 0) → clean p m ≡ 0
        uncleaned (inl timed) = absurd (dirty (moved.cleaning_begins k m on timed))
        uncleaned (inr none) = omega arith

    go : HasWay p new i → IsNextAfter p c j i
    go (inl leaves) = absurd (still (record {
      job = moved.others i another;
      entries_same = λ m visits. absurd (omega (arith, is, visits.within, leaves_past p new i leaves));
      free = λ m visits free. absurd (omega (arith, is, visits.within, leaves_past p new i leaves));
      is_clean = λ m visits clear. absurd (omega (arith, is, visits.within, leaves_past p new i leaves));
    }))
    go (inr (m, enters)) = enters_at m enters (on_or_not p c j m)

-- where job j was, for a job that has made n moves, the next in that machine's order; nobody else, where j was outside
abbrev pub next_of : PlannedShop → Cell → ℕ → ℕ → ℕ
next_of p c j zero = j
next_of p c j (suc k) = job_at p (machine_of p j k) (length (entries c (machine_of p j k)))

abbrev pub next_after_move : PlannedShop → Cell → ℕ → ℕ
next_after_move p c j = next_of p c j (made c j)

next-is : (p : PlannedShop) (c : Cell) (i j : ℕ) → IsNextAfter p c j i → i ≡ next_after_move p c j
next-is p c i j next = go (made c j) refl
  where
    go : (n : ℕ) → made c j ≡ n → i ≡ next_of p c j n
    go zero is = absurd (omega (arith, next.on.entered))
    go (suc k) is =
        let same : next.step ≡ k = omega (arith, next.on.entered) in
        sym (subst (λ m. job_at p m (length (entries c m)) ≡ i) (sym next.on.visits.here ∙ ap (machine_of p j) same) next.stands.1)

-- after a move of the only job that could, only one job can move
pub only_one_after_move : (p : PlannedShop) (c : Cell) (j t : ℕ) → IsWellShaped p → IsSound p c → OnlyMoves p c j → CanMove p c j t → OnlyMoves p (after_move p c j t) (next_after_move p c j)
only_one_after_move p c j t shaped sound only can i u can_next keeps_next =
    next-is p c i j (moved-next p c (after_move p c j t) j t i u sound only (after_move-moved p c j t shaped sound can) can_next keeps_next)

-- after a move of the only job that could, from machine m, a job that can move stands next in the order of m, which has no cleaning time
pub only_next_can_move : (p : PlannedShop) (c : Cell) (j k m t i u : ℕ) → IsWellShaped p → IsSound p c → OnlyMoves p c j → CanMove p c j t → IsOn p c j k m
    → CanMove p (after_move p c j t) i u → KeepsPlan p (after_move p c j t) i → ((length (entries c m) < length (order p m)) × (job_at p m (length (entries c m)) ≡ i)) × (clean p m ≡ 0)
only_next_can_move p c j k m t i u shaped sound only can on can_next keeps_next =
    subst (λ n. ((length (entries c n) < length (order p n)) × (job_at p n (length (entries c n)) ≡ i)) × (clean p n ≡ 0)) here (next.stands, next.uncleaned)
  where
    next : IsNextAfter p c j i
    next = moved-next p c (after_move p c j t) j t i u sound only (after_move-moved p c j t shaped sound can) can_next keeps_next

    same : next.step ≡ k
    same = omega (arith, next.on.entered, on.entered)

    here : next.left ≡ m
    here = sym next.on.visits.here ∙ ap (machine_of p j) same ∙ on.visits.here

-- a move from outside, of the only job that could, leaves the cell at rest
pub rest_after_first_entry : (p : PlannedShop) (c : Cell) (j t : ℕ) → IsWellShaped p → IsSound p c → OnlyMoves p c j → CanMove p c j t → IsOutside c j → IsAtRest p (after_move p c j t)
rest_after_first_entry p c j t shaped sound only can outside i u can_next keeps_next =
    absurd (omega (arith, (moved-next p c (after_move p c j t) j t i u sound only (after_move-moved p c j t shaped sound can) can_next keeps_next).on.entered))

-- so does a move from a machine that all jobs of its order have entered
pub rest_after_last_entrant : (p : PlannedShop) (c : Cell) (j k m t : ℕ) → IsWellShaped p → IsSound p c → OnlyMoves p c j → CanMove p c j t → IsOn p c j k m
    → length (order p m) ≤ length (entries c m) → IsAtRest p (after_move p c j t)
rest_after_last_entrant p c j k m t shaped sound only can on all i u can_next keeps_next =
    absurd (omega (arith, (only_next_can_move p c j k m t i u shaped sound only can on can_next keeps_next).0.0))

sum_same : (f g : ℕ → ℕ) (n : ℕ) → ((i : ℕ) → i < n → g i ≡ f i) → sum_below g n ≡ sum_below f n
sum_same f g zero same = refl
sum_same f g (suc n) same = omega (arith, sum_same f g n (λ i below. same i (omega arith)), same n (omega arith))

-- a sum falls by one with one of its terms
sum_falls : (f g : ℕ → ℕ) (n j : ℕ) → j < n → g j + 1 ≡ f j → ((i : ℕ) → i ≢ j → g i ≡ f i) → sum_below g n + 1 ≡ sum_below f n
sum_falls f g zero j below falls same = absurd (omega arith)
sum_falls f g (suc n) j below falls same = go (cases_eq j n) (λ less. sum_falls f g n j less falls same)
  where
    go : (j ≡ n) ⊎ (j ≡ n → ⊥) → (j < n → sum_below g n + 1 ≡ sum_below f n) → sum_below g n + g n + 1 ≡ sum_below f n + f n
    go (inl last) before =
        let here : g n + 1 ≡ f n = subst (λ x. g x + 1 ≡ f x) last falls in
        omega (arith, here, sum_same f g n (λ i less. same i λ is. absurd (omega (arith, is, last))))
    go (inr other) before = omega (arith, before (omega (arith, other)), same n (λ is. other (sym is)))

-- how many moves all jobs have before them
pub moves_left : PlannedShop → Cell → ℕ
moves_left p c = sum_below (λ j. steps p j + 1 - made c j) (jobs p)

pub move-inside : (p : PlannedShop) (c : Cell) (j t : ℕ) → IsSound p c → CanMove p c j t → j < jobs p
move-inside p c j t sound can = omega (arith, sound.job_count, inside)
  where
    none : ready c j ≡ false → ⊥
    none idle = let is_ready = can.is_ready in cc

    inside : j < length c.jobs
    inside = lt_of_not-le λ past. none (ap (λ (x : JobState). x.ready) (get_or_past c.jobs j absent past))

pub move-left : (p : PlannedShop) (c new : Cell) (j t : ℕ) → IsSound p c → CanMove p c j t → IsMoved p c j t new → moves_left p new + 1 ≡ moves_left p c
unfolding moves_left
move-left p c new j t sound can moved =
    sum_falls (λ i. steps p i + 1 - made c i) (λ i. steps p i + 1 - made new i) (jobs p) j (move-inside p c j t sound can)
    (omega (arith, moved.made_mine, moves_within p c j t sound can))
    λ i other. ap (λ n. steps p i + 1 - n) (same_made new c i (moved.others i other))

-- where only j could move and it can't, the cell is at rest
pub rest_unless : (p : PlannedShop) (c : Cell) (j t : ℕ) → IsNextMoment c t → OnlyMoves p c j → (CanMove p c j t → KeepsPlan p c j → ⊥) → IsAtRest p c
rest_unless p c j t moment only none i u can keeps =
    let same : i ≡ j = only i u can keeps in
    none (move_at p c j u t (subst (λ x. CanMove p c x u) same can) moment) (subst (KeepsPlan p c) same keeps)

-- where only one job can move, there are moves that end at rest
moves_exist : (n : ℕ) (p : PlannedShop) (c : Cell) (j t : ℕ) → IsWellShaped p → IsSound p c → IsNextMoment c t → OnlyMoves p c j → moves_left p c < n
    → (js : List ℕ) × AreMoves p c t js × IsAtRest p (after_moves p c t js)
moves_exist zero p c j t shaped sound moment only enough = absurd (omega arith)
moves_exist (suc n) p c j t shaped sound moment only enough = go (moves_or_not p c j t shaped sound) λ can keeps.
    let moved : IsMoved p c j t (after_move p c j t) = after_move-moved p c j t shaped sound can in
    moves_exist n p (after_move p c j t) (next_after_move p c j) t shaped (after_move-sound p c j t shaped sound can keeps)
    (record { in_order = omega (arith, moved.moment); in_range = moment.in_range }) (only_one_after_move p c j t shaped sound only can)
    (omega (arith, move-left p c (after_move p c j t) j t sound can moved))
  where
    go : (CanMove p c j t × KeepsPlan p c j) ⊎ (CanMove p c j t × KeepsPlan p c j → ⊥)
        → (CanMove p c j t → KeepsPlan p c j → (js : List ℕ) × AreMoves p (after_move p c j t) t js × IsAtRest p (after_moves p (after_move p c j t) t js))
        → (js : List ℕ) × AreMoves p c t js × IsAtRest p (after_moves p c t js)
    go (inl (can, keeps)) later = let (js, moves, rest) = later can keeps in (j ∷ js, (can, keeps, moves), rest)
    go (inr none) later = ([], tt, rest_unless p c j t moment only λ can keeps. none (can, keeps))

-- where only one job can move, two lists of moves that end at rest are one
pub moves_unique : (p : PlannedShop) (c : Cell) (j t : ℕ) (js others : List ℕ) → IsWellShaped p → IsSound p c → OnlyMoves p c j
    → AreMoves p c t js → IsAtRest p (after_moves p c t js) → AreMoves p c t others → IsAtRest p (after_moves p c t others) → others ≡ js
moves_unique p c j t [] [] shaped sound only moves rest moves' rest' = refl
moves_unique p c j t [] (y ∷ ys) shaped sound only moves rest moves' rest' = absurd (rest y t moves'.0 moves'.1)
moves_unique p c j t (x ∷ xs) [] shaped sound only moves rest moves' rest' = absurd (rest' x t moves.0 moves.1)
moves_unique p c j t (x ∷ xs) (y ∷ ys) shaped sound only moves rest moves' rest' =
    let tails : ys ≡ xs = moves_unique p (after_move p c x t) (next_after_move p c x) t xs ys shaped (after_move-sound p c x t shaped sound moves.0 moves.1)
    (only_one_after_move p c x t shaped sound (subst (OnlyMoves p c) (sym (only x t moves.0 moves.1)) only) moves.0) moves.2 rest
    (subst (λ z. AreMoves p (after_move p c z t) t ys) same moves'.2) (subst (λ z. IsAtRest p (after_moves p (after_move p c z t) t ys)) same rest') in
    cc (same, tails)
  where
    same : y ≡ x
    same = only y t moves'.0 moves'.1 ∙ sym (only x t moves.0 moves.1)

-- from a sound cell at rest, exactly one list of moves makes a step of a possible report
pub one_step : (p : PlannedShop) (c : Cell) (r : Report) → IsWellShaped p → IsSound p c → IsAtRest p c → CanReport p c r
    → (js : List ℕ) × IsStep p c r js × ((others : List ℕ) → IsStep p c r others → others ≡ js)
one_step p c r shaped sound rest can = (
  found.0,
  record { can = can; moves = found.1; quiescent = found.2 },
  λ others step. moves_unique p (after_report c r) j (at r) found.0 others shaped sound_after only found.1 found.2 step.moves step.quiescent,
)
  where
    j : ℕ
    j = next_after_end p c (ended r)

    sound_after : IsSound p (after_report c r)
    sound_after = after_report-sound p c r shaped sound can

    only : OnlyMoves p (after_report c r) j
    only = only_one_after_report p c r sound rest can

    moment : (a : Activity) → IsNextMoment (after_end c a (at r)) (at r)
    moment (Arrival i) = record { in_order = omega arith; in_range = can.moment.in_range }
    moment (Operation i m) = record { in_order = omega arith; in_range = can.moment.in_range }
    moment (Cleaning m) = record { in_order = omega arith; in_range = can.moment.in_range }

    found : (js : List ℕ) × AreMoves p (after_report c r) (at r) js × IsAtRest p (after_moves p (after_report c r) (at r) js)
    found = moves_exist (moves_left p (after_report c r) + 1) p (after_report c r) j (at r) shaped sound_after (moment (ended r)) only (omega arith)
