-- The due moments stay tied to the cell: at the start, after a move, and after the end of an activity.
use Rattle.std.proofs.Common.{◌≡◌, ◌≢◌, ℕ, ◌+◌, ◌<◌, Bool, false, cond, List, length, length-set, get_or-set_same, get_or-set_other, set, Option, None, refl, sym, subst, ◌∙◌, ap, arith, inl, inr}
use Rattle.std.proofs.lemmas.Bool.{cases_eq}
use Rattle.shop_base.specs.{Plan.{PlannedShop, jobs, machines, machine_of}, Movers.{due_of_job, due_after, due_of_cleaning}}
use Rattle.shop_base.specs.{Cell.{Cell, job_in, ready, cleaning, IsOutside, IsOn}, Sound.IsSound}
use Rattle.shop_base.specs.{Report.{CanReport, with_ready, with_clean}, declared.report.Report.TheVariants.{Arrive, Finish, Clean}}
use Rattle.shop_base.proofs.{Changes.{IsMoved, with_ready-readied, with_clean-tidied}, Visits.visits_job}
use Rattle.shop_base.proofs.InShop.{outside_in_shop, cleaned_in_shop}
use Rattle.cell_control.specs.{Dues.due_at, DueMoments.AreDueMoments, Noted.AreDueMomentsOf}

module _ (p : PlannedShop) (c : Cell) (dues : List (Option ℕ)) (J M : ℕ → Type 0) (are : AreDueMomentsOf p c dues J M) where
  -- the key of a job renewed
  pub job_renewed : (j : ℕ) → j < jobs p → AreDueMomentsOf p c (set dues j (due_of_job p j (job_in c j))) (λ i. i ≢ j → J i) M
  job_renewed j inside = record {
    count = length-set dues j (due_of_job p j (job_in c j)) ∙ are.count;
    of_jobs = λ i below was. elim (cases_eq i j) [
      | inl same ↦ rw same (get_or-set_same dues j (due_of_job p j (job_in c j)) None (omega (arith, are.count)))
      | inr other ↦ get_or-set_other dues j i (due_of_job p j (job_in c j)) None other ∙ are.of_jobs i below (was other)
    ];
    of_others = λ m below was. get_or-set_other dues j (jobs p + m) (due_of_job p j (job_in c j)) None (λ same. absurd (omega (arith, same))) ∙ are.of_others m below was;
  }

  -- that of a machine
  pub machine_renewed : (m : ℕ) → m < machines p → AreDueMomentsOf p c (set dues (jobs p + m) (due_of_cleaning p m (cleaning c m))) J (λ n. n ≢ m → M n)
  machine_renewed m inside = record {
    count = length-set dues (jobs p + m) (due_of_cleaning p m (cleaning c m)) ∙ are.count;
    of_jobs = λ j below was. get_or-set_other dues (jobs p + m) j (due_of_cleaning p m (cleaning c m)) None (λ same. absurd (omega (arith, same))) ∙ are.of_jobs j below was;
    of_others = λ n below was. elim (cases_eq n m) [
      | inl same ↦ rw same (get_or-set_same dues (jobs p + m) (due_of_cleaning p m (cleaning c m)) None (omega (arith, are.count)))
      | inr other ↦ get_or-set_other dues (jobs p + m) (jobs p + n) (due_of_cleaning p m (cleaning c m)) None (λ same. other (omega (arith, same))) ∙ are.of_others n below (was other)
    ];
  }

  -- they are those of fewer
  pub of_fewer : (J' M' : ℕ → Type 0) → ((j : ℕ) → j < jobs p → J' j → J j) → ((m : ℕ) → m < machines p → M' m → M m) → AreDueMomentsOf p c dues J' M'
  of_fewer J' M' job machine = record { count = are.count; of_jobs = λ j below is. are.of_jobs j below (job j below is); of_others = λ m below is. are.of_others m below (machine m below is) }

  -- or of all
  pub of_all : ((j : ℕ) → j < jobs p → J j) → ((m : ℕ) → m < machines p → M m) → AreDueMoments p c dues
  of_all job machine = record { count = are.count; of_jobs = λ j below. are.of_jobs j below (job j below); of_machines = λ m below. are.of_others m below (machine m below) }

-- the due moments of all but the machine m
pub record AreDueMomentsBut (p : PlannedShop) (c : Cell) (dues : List (Option ℕ)) (m : ℕ) : Type 0 where
  pub count : length dues ≡ jobs p + machines p
  pub of_jobs : (j : ℕ) → j < jobs p → due_at dues j ≡ due_of_job p j (job_in c j)
  pub of_others : (n : ℕ) → n < machines p → n ≢ m → due_at dues (jobs p + n) ≡ due_of_cleaning p n (cleaning c n)

pub due_moments_but-renewed : (p : PlannedShop) (c : Cell) (dues : List (Option ℕ)) (m : ℕ) → m < machines p → AreDueMomentsBut p c dues m
    → AreDueMoments p c (set dues (jobs p + m) (due_of_cleaning p m (cleaning c m)))
due_moments_but-renewed p c dues m inside are =
    let but : AreDueMomentsOf p c dues (λ _. Unit {0}) (λ n. n ≢ m) = record { count = are.count; of_jobs = λ j below _. are.of_jobs j below; of_others = are.of_others } in
    of_all p c _ _ _ (machine_renewed p c dues _ _ but m inside) (λ j below. tt) (λ n below other. other)

-- the key of a job renewed, where no other job has changed, nor a machine but m
pub due_moments-renewed : (p : PlannedShop) (c new : Cell) (dues : List (Option ℕ)) (j m : ℕ) → j < jobs p → AreDueMoments p c dues
    → ((i : ℕ) → i ≢ j → job_in new i ≡ job_in c i) → ((n : ℕ) → n ≢ m → cleaning new n ≡ cleaning c n)
    → AreDueMomentsBut p new (set dues j (due_of_job p j (job_in new j))) m
due_moments-renewed p c new dues j m inside due_moments others elsewhere =
    let but : AreDueMomentsOf p new dues (λ i. i ≢ j) (λ n. n ≢ m) = record {
      count = due_moments.count;
      of_jobs = λ i below other. due_moments.of_jobs i below ∙ ap (due_of_job p i) (sym (others i other));
      of_others = λ n below other. due_moments.of_machines n below ∙ ap (due_of_cleaning p n) (sym (elsewhere n other));
    } in
    let all = job_renewed p new dues (λ i. i ≢ j) (λ n. n ≢ m) but j inside in
    record { count = all.count; of_jobs = λ i below. all.of_jobs i below (λ other. other); of_others = all.of_others }

-- where no machine has changed either, these are all of the cell's
pub due_moments_but-none : (p : PlannedShop) (c : Cell) (dues : List (Option ℕ)) → AreDueMomentsBut p c dues (machines p) → AreDueMoments p c dues
due_moments_but-none p c dues are =
    record { count = are.count; of_jobs = are.of_jobs; of_machines = λ m below. are.of_others m below (λ same. absurd (omega (arith, same))) }

-- after a move from outside
pub due_moments-entered : (p : PlannedShop) (c new : Cell) (dues : List (Option ℕ)) (j t : ℕ) → j < jobs p → AreDueMoments p c dues → IsMoved p c j t new → IsOutside c j
    → AreDueMoments p new (set dues j (due_of_job p j (job_in new j)))
due_moments-entered p c new dues j t inside due_moments moved outside =
    due_moments_but-none p new (set dues j (due_of_job p j (job_in new j)))
    (due_moments-renewed p c new dues j (machines p) inside due_moments moved.others (λ n other. moved.cleaning_elsewhere n (λ k on. absurd (omega (arith, on.entered, outside)))))

-- after a move from machine m
pub due_moments-moved : (p : PlannedShop) (c new : Cell) (dues : List (Option ℕ)) (j k m t : ℕ) → j < jobs p → m < machines p → AreDueMoments p c dues → IsMoved p c j t new → IsOn p c j k m
    → AreDueMoments p new (set (set dues j (due_of_job p j (job_in new j))) (jobs p + m) (due_of_cleaning p m (cleaning new m)))
due_moments-moved p c new dues j k m t inside within due_moments moved on =
    due_moments_but-renewed p new (set dues j (due_of_job p j (job_in new j))) m within
    (due_moments-renewed p c new dues j m inside due_moments moved.others λ n other. moved.cleaning_elsewhere n λ l here. other (place l here))
  where
    place : {n : ℕ} (l : ℕ) → IsOn p c j l n → n ≡ m
    place {n} l here =
        let same : l ≡ k = omega (arith, here.entered, on.entered) in
        sym here.visits.here ∙ ap (machine_of p j) same ∙ on.visits.here

-- after the end of an activity
module _ (p : PlannedShop) (c : Cell) (dues : List (Option ℕ)) (t : ℕ) (sound : IsSound p c) (due_moments : AreDueMoments p c dues) where
  readied : (j : ℕ) → j < jobs p → ready c j ≡ false → AreDueMoments p (with_ready c j t) (set dues j None)
  readied j inside idle =
      let new = with_ready c j t in
      let is = with_ready-readied c j t idle (omega (arith, inside, sound.job_count)) in
      let none : due_of_job p j (job_in new j) ≡ None = ap (λ (b : Bool). cond b None (due_after p j (job_in new j).made (job_in new j).since)) is.ready_mine in
      subst (λ (d : Option ℕ). AreDueMoments p new (set dues j d)) none
      (due_moments_but-none p new (set dues j (due_of_job p j (job_in new j))) (due_moments-renewed p c new dues j (machines p) inside due_moments is.others λ n other. refl))

  pub arrived_dues : (j : ℕ) → CanReport p c (Arrive j t) → AreDueMoments p (with_ready c j t) (set dues j None)
  arrived_dues j can = readied j (outside_in_shop p c j sound can.going.1.outside) can.going.1.not_ready

  pub worked_dues : (j m : ℕ) → CanReport p c (Finish j m t) → AreDueMoments p (with_ready c j t) (set dues j None)
  worked_dues j m can = let worked = can.going.1.1 in readied j (visits_job p j can.going.1.0 m worked.on.visits) worked.not_ready

  pub cleaned_dues : (m : ℕ) → CanReport p c (Clean m t) → AreDueMoments p (with_clean c m t) (set dues (jobs p + m) None)
  cleaned_dues m can =
      let new = with_clean c m t in
      let cleaned = can.going.1.1.is_cleaned in
      let is = with_clean-tidied c m can.going.1.0 t cleaned in
      subst (λ (s : Option ℕ). AreDueMoments p new (set dues (jobs p + m) (due_of_cleaning p m s))) is.cleaning_mine
      (due_moments_but-renewed p new dues m (cleaned_in_shop p c m can.going.1.0 sound cleaned) (record {
        count = due_moments.count;
        of_jobs = due_moments.of_jobs;
        of_others = λ n below other. due_moments.of_machines n below ∙ ap (due_of_cleaning p n) (sym (is.cleaning_elsewhere n other));
      }))
