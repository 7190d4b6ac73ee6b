-- The visits of a run, one after another.
use Rattle.std.proofs.Common.{◌≡◌, ℕ, inl, inr, ◌+◌, ◌-◌, ◌<◌, ◌≤◌, List, [], ◌∷◌, ◌++◌, length, map, drop, drop-cons, get_or, Option, None, Some, refl, sym, ap, ◌∙◌, append-nil, append_assoc, add-one, arith}
use Rattle.std.proofs.{lemmas.List.{map-id, flat_map_more, get_or_past}, lemmas.List.FromFn.map-range_with_len_more}
use Rattle.std.proofs.{lemmas.Bool.{cases_lt, eq-eqb, ne_eqb, le-leb, lt-leb}, Math.ListN.drop_of_length-le}
use Rattle.std.specs.{Prelude.flat_map, List.range_with_len}
use Rattle.shop_base.specs.{declared.node.Node.Node, Plan.{PlannedShop, jobs, machines, steps, machine_of, clean}}
use Rattle.shop_base.specs.{Cell.{Cell, MachineState, absent, unused, made, start}, declared.job_state.JobState.JobState, Sound.IsSound}
use Rattle.shop_base.specs.Graph.{leaving}
use Rattle.run_picture.specs.{declared.visit.Cleaned.TheVariants.By, declared.visit.DrawnVisit.DrawnVisit}
use Rattle.plan_schedule.specs.{declared.lines.Cleaning.Cleaning, Schedules.IsCleaningBehind}
use Rattle.plan_schedule.specs.DrawnVisits.{known_cleaning, cleaned_behind, drawn_visit, job_visits, place_behind, place_inside, cleaning_end, job_ahead, visits_ahead, leavings_by}

range-more : (n : ℕ) → range_with_len 0 (n + 1) ≡ range_with_len 0 n ++ n ∷ []
range-more n =
    sym (map-id (range_with_len 0 (n + 1))) ∙ map-range_with_len_more (λ x. x) 0 n n (omega arith) ∙ ap (λ (l : List ℕ). l ++ n ∷ []) (map-id (range_with_len 0 n))

-- how many places were looked at from one on, up to an end that may be before it
pub count_ahead : (m k n : ℕ) → m ≤ k → n ≤ k → (m ≤ n → k ≤ n) → (n < m → k ≤ m) → k - m ≡ n - m
count_ahead m k n from past within gone = elim (cases_lt n m) [
  | inl before ↦ (let none = gone before in omega (arith, from, none, before))
  | inr behind ↦ (let all = within behind in omega (arith, past, all))
]

module _ (p : PlannedShop) (at : Node → ℕ) where
  -- one more visit of a job, from a place of its route on
  pub one_more_visit : (start now new : List DrawnVisit) (j first k : ℕ) → first ≤ k → now ≡ start ++ job_visits p at j first (k - first) → new ≡ now ++ drawn_visit p at j k ∷ []
      → new ≡ start ++ job_visits p at j first (k + 1 - first)
  one_more_visit start now new j first k from so_far pushed =
      let more : k + 1 - first ≡ (k - first) + 1 = omega (arith, from) in
      pushed
      ∙ ap (λ (l : List DrawnVisit). l ++ drawn_visit p at j k ∷ []) so_far
      ∙ append_assoc start (job_visits p at j first (k - first)) (drawn_visit p at j k ∷ [])
      ∙ ap (λ (l : List DrawnVisit). start ++ l) (sym (map-range_with_len_more (drawn_visit p at j) first (k - first) k (omega (arith, from))))
      ∙ ap (λ (n : ℕ). start ++ job_visits p at j first n) (sym more)

  -- at first there is none
  pub no_visit : (start : List DrawnVisit) (j first : ℕ) → start ≡ start ++ job_visits p at j first (first - first)
  no_visit start j first =
      let none : first - first ≡ 0 = omega arith in
      sym (append-nil start) ∙ ap (λ (n : ℕ). start ++ job_visits p at j first n) (sym none)

  -- the cleaning behind a visit
  pub behind : (due : Node → Option ℕ) (j k : ℕ) (found : Option Cleaning) → IsCleaningBehind p at due j k found
      → known_cleaning found ≡ cleaned_behind p at j k
  behind due j k None none = rw (eq-eqb (clean p (machine_of p j k)) 0 none) refl
  behind due j k (Some cleaning) is =
      rw (ne_eqb (clean p (machine_of p j k)) 0 (λ none. absurd (omega (arith, none, is.cleaned)))) (ap By is.ends)

  -- the leaving of one more job
  pub one_more_leaving : (now new : List (Option ℕ)) (j moment : ℕ) → now ≡ leavings_by p at j → moment ≡ at (leaving p j) → new ≡ now ++ Some moment ∷ [] → new ≡ leavings_by p at (j + 1)
  one_more_leaving now new j moment so_far is pushed =
      let of : ℕ → Option ℕ = λ i. Some (at (leaving p i)) in
      pushed
      ∙ ap (λ (l : List (Option ℕ)). l ++ Some moment ∷ []) so_far
      ∙ ap (λ (n : ℕ). leavings_by p at j ++ Some n ∷ []) is
      ∙ sym (map-range_with_len_more of 0 j j (omega arith))

module _ (p : PlannedShop) (c : Cell) (at : Node → ℕ) where
  -- the visits ahead of one more job
  pub one_more_job : (start now new : List DrawnVisit) (j : ℕ) → now ≡ start ++ visits_ahead p c at j → new ≡ now ++ job_ahead p c at j → new ≡ start ++ visits_ahead p c at (j + 1)
  one_more_job start now new j so_far pushed =
      pushed
      ∙ ap (λ (l : List DrawnVisit). l ++ job_ahead p c at j) so_far
      ∙ flat_map_more (job_ahead p c at) start (range_with_len 0 j) j
      ∙ ap (λ (l : List ℕ). start ++ flat_map (job_ahead p c at) l) (sym (range-more j))

-- one more of the visits that are known
pub one_more_drawn : (of : DrawnVisit → DrawnVisit) (start now new drawn : List DrawnVisit) (i : ℕ) (d : DrawnVisit) → i < length drawn → now ++ map of (drop i drawn) ≡ start ++ map of drawn
    → new ≡ now ++ of (get_or drawn i d) ∷ [] → new ++ map of (drop (i + 1) drawn) ≡ start ++ map of drawn
one_more_drawn of start now new drawn i d below so_far pushed =
    let one = of (get_or drawn i d) in
    let rest = map of (drop (i + 1) drawn) in
    let here : drop i drawn ≡ get_or drawn i d ∷ drop (i + 1) drawn = drop-cons drawn i d below ∙ ap (λ (n : ℕ). get_or drawn i d ∷ drop n drawn) (sym (add-one i)) in
    ap (λ (l : List DrawnVisit). l ++ rest) pushed ∙ append_assoc now (one ∷ []) rest ∙ ap (λ (l : List DrawnVisit). now ++ map of l) (sym here) ∙ so_far

-- all of them
pub all_drawn : (of : DrawnVisit → DrawnVisit) (now whole drawn : List DrawnVisit) (i : ℕ) → length drawn ≤ i → now ++ map of (drop i drawn) ≡ whole → now ≡ whole
all_drawn of now whole drawn i all so_far =
    sym (append-nil now) ∙ ap (λ (l : List DrawnVisit). now ++ map of l) (sym (drop_of_length-le drawn all)) ∙ so_far

-- ---- where a job is

-- a job that isn't of the shop is nowhere
pub past_nowhere : (p : PlannedShop) (c : Cell) (j : ℕ) → IsSound p c → jobs p ≤ j → place_inside p c j ≡ None
past_nowhere p c j sound past =
    let one : made c j ≡ 1 = ap (λ (s : JobState). s.made) (get_or_past c.jobs j absent (omega (arith, sound.job_count, past))) in
    let few : steps p j ≡ 0 = ap length (get_or_past p.shop.routes j [] past) in
    rw (lt-leb (made c j) (steps p j) (omega (arith, one, few))) refl

-- nor is one outside
pub outside_nowhere : (p : PlannedShop) (c : Cell) (j : ℕ) → made c j ≡ 0 → place_inside p c j ≡ None
outside_nowhere p c j none = rw (le-leb (made c j) (steps p j) (omega (arith, none))) (ap place_behind none)

-- nor one that is gone
pub gone_nowhere : (p : PlannedShop) (c : Cell) (j : ℕ) → steps p j < made c j → place_inside p c j ≡ None
gone_nowhere p c j gone = rw (lt-leb (made c j) (steps p j) gone) refl

-- any other is behind its last move
pub inside_behind : (p : PlannedShop) (c : Cell) (j k : ℕ) → made c j ≡ k + 1 → k < steps p j → place_inside p c j ≡ Some k
inside_behind p c j k is within = rw (le-leb (made c j) (steps p j) (omega (arith, is, within))) (ap place_behind (is ∙ add-one k))

-- a machine that isn't of the shop isn't cleaned
pub past_uncleaned : (p : PlannedShop) (c : Cell) (t m : ℕ) → IsSound p c → machines p ≤ m → cleaning_end p c t m ≡ None
past_uncleaned p c t m sound past =
    let none = ap (λ (x : MachineState). x.cleaning) (get_or_past c.machines m unused (omega (arith, sound.machine_count, past))) in
    rw none refl

-- those that are known, and then those ahead
pub run_visits : (start mid new drawn ahead : List DrawnVisit) → start ≡ [] → mid ≡ start ++ drawn → new ≡ mid ++ ahead → new ≡ drawn ++ ahead
run_visits start mid new drawn ahead none ended added = added ∙ ap (λ (l : List DrawnVisit). l ++ ahead) (ended ∙ ap (λ (l : List DrawnVisit). l ++ drawn) none)
