-- Places in lists: the last entry of a job taken out, and orders that change at the machines of some steps.
use Rattle.std.proofs.Common.{◌≡◌, ◌≢◌, ℕ, zero, suc, ◌+◌, ◌<◌, ◌≤◌, ◌⊎◌, inl, inr, List, [], ◌∷◌, ◌++◌, length, get_or, set, replicate, Bool, true, false, cond, nat_eq, eqb, refl, sym, ap, ◌∙◌, arith, add-one, append_assoc}
use Rattle.std.specs.Prelude.{remove}
use Rattle.std.specs.List.{list_any}
use Rattle.std.proofs.lemmas.Bool.{ne_eqb, eq-eqb, cases_eq, cases_lt}
use Rattle.std.proofs.lemmas.List.{get_or-set_same, get_or-set_other, length-set, get_or_past, append-nil}
use Rattle.std.proofs.lemmas.List.Folds.{list_any_at}
use Rattle.std.proofs.lemmas.List.Edits.{length-remove, get_or-remove_below, get_or-remove_above}
use Rattle.shop_base.specs.declared.shop.Step.{Step}
use Rattle.shop_base.specs.Shop.{step_at}
use Rattle.shop_base.specs.Plan.{count_below}
use Rattle.shop_base.proofs.Counting.{count_same}
use Rattle.plan_revise.specs.Orders.{without_last, then_last, changed_at}
use Rattle.plan_revise.specs.Parts.{visits_in}

-- ---- an entry taken out

-- the entry at place x, which is j, is taken out, and those behind it move up
pub record IsRemoved (j : ℕ) (xs : List ℕ) (x : ℕ) (ys : List ℕ) : Type 0 where
  pub within : x < length xs
  pub here : get_or xs x 0 ≡ j
  pub is : ys ≡ remove xs x

module _ (j : ℕ) (xs : List ℕ) (x : ℕ) (ys : List ℕ) (t : IsRemoved j xs x ys) where
  pub removed-size : length xs ≡ length ys + 1
  removed-size = omega (arith, length-remove xs x t.within, ap length t.is)

  pub removed-before : (a : ℕ) → a < x → get_or ys a 0 ≡ get_or xs a 0
  removed-before a less = ap (λ (zs : List ℕ). get_or zs a 0) t.is ∙ get_or-remove_below xs x 0 a less t.within

  pub removed-after : (a : ℕ) → x ≤ a → get_or ys a 0 ≡ get_or xs (a + 1) 0
  removed-after a more = ap (λ (zs : List ℕ). get_or zs a 0) t.is ∙ get_or-remove_above xs x 0 a more t.within

  -- behind the place another job stands as often before
  pub removed-count : (i a : ℕ) → i ≢ j → x ≤ a → count_below (λ b. nat_eq (get_or ys b 0) i) a ≡ count_below (λ b. nat_eq (get_or xs b 0) i) (a + 1)
  removed-count i a other more = go a (cases_eq a x) more ∙ sym (ap (count_below (λ b. nat_eq (get_or xs b 0) i)) (add-one a))
    where
      passed : ◌≡◌ {A = ℕ} (cond (nat_eq (get_or xs x 0) i) 1 0) 0
      passed = ap {B = ℕ} (λ (b : Bool). cond b 1 0) (ne_eqb (get_or xs x 0) i (λ mine. other (sym mine ∙ t.here)))

      go : (n : ℕ) → (n ≡ x) ⊎ (n ≢ x) → x ≤ n → count_below (λ b. nat_eq (get_or ys b 0) i) n ≡ count_below (λ b. nat_eq (get_or xs b 0) i) (suc n)
      go n (inl same) above =
          omega (
            arith,
            ap (count_below (λ b. nat_eq (get_or ys b 0) i)) same,
            ap (λ k. count_below (λ b. nat_eq (get_or xs b 0) i) (suc k)) same,
            count_same (λ b. nat_eq (get_or ys b 0) i) (λ b. nat_eq (get_or xs b 0) i) x (λ b less. ap (λ k. nat_eq k i) (removed-before b less)),
            passed,
          )
      go zero (inr apart) above = absurd (apart (omega arith))
      go (suc n) (inr apart) above =
          omega (
            arith,
            go n (cases_eq n x) (omega arith),
            ap {B = ℕ} (λ k. cond (nat_eq k i) 1 0) (removed-after n (omega arith) ∙ ap (λ k. get_or xs k 0) (add-one n)),
          )

list_none : (j : ℕ) (xs : List ℕ) → ((a : ℕ) → a < length xs → get_or xs a 0 ≢ j) → list_any (λ other. eqb other j) xs ≡ false
list_none j [] none = refl
list_none j (y ∷ ys) none = rw (ne_eqb y j (none 0 (omega arith))) (list_none j ys (λ a less. none (suc a) (omega arith)))

-- the last place of j is the one that is taken out
pub last_taken : (j : ℕ) (xs : List ℕ) (x : ℕ) → x < length xs → get_or xs x 0 ≡ j → ((a : ℕ) → x < a → a < length xs → get_or xs a 0 ≢ j) → without_last j xs ≡ remove xs x
last_taken j [] x within here none = absurd (omega arith)
last_taken j (y ∷ ys) zero within here none = rw (list_none j ys (λ a less. none (suc a) (omega arith) (omega arith)), eq-eqb y j here) refl
last_taken j (y ∷ ys) (suc x) within here none =
    rw (list_any_at (λ other. eqb other j) ys x 0 (omega arith) (eq-eqb (get_or ys x 0) j here)) (ap (λ (zs : List ℕ). y ∷ zs) (last_taken j ys x (omega arith) here (λ a more less. none (suc a) (omega arith) (omega arith))))

-- and where j isn't there, none is
pub none_taken : (j : ℕ) (xs : List ℕ) → ((a : ℕ) → a < length xs → get_or xs a 0 ≢ j) → without_last j xs ≡ xs
none_taken j [] none = refl
none_taken j (y ∷ ys) none = rw (list_none j ys (λ a less. none (suc a) (omega arith)), ne_eqb y j (none 0 (omega arith))) refl

-- ---- entries put last

-- a count rises by no more than one a number, and by no less where all pass
pub count_few : (f : ℕ → Bool) (n d : ℕ) → count_below f (n + d) ≤ count_below f n + d
count_few f n zero = let same : n + zero ≡ n = omega arith in omega (arith, ap (count_below f) same)
count_few f n (suc d) = let same : n + suc d ≡ suc (n + d) = omega arith in omega (arith, ap (count_below f) same, count_few f n d, one (f (n + d)))
  where
    one : (b : Bool) → cond b 1 0 ≤ 1
    one true = omega arith
    one false = omega arith

pub count_all : (f : ℕ → Bool) (n d : ℕ) → ((i : ℕ) → n ≤ i → i < n + d → f i ≡ true) → d ≤ count_below f (n + d)
count_all f n zero all = omega arith
count_all f n (suc d) all =
    let same : n + suc d ≡ suc (n + d) = omega arith in
    omega (arith, ap (count_below f) same, count_all f n d (λ i more less. all i more (omega arith)), ap {B = ℕ} (λ (b : Bool). cond b 1 0) (all (n + d) (omega arith) (omega arith)))

pub count_no : (f : ℕ → Bool) (n : ℕ) → ((i : ℕ) → i < n → f i ≡ false) → count_below f n ≡ 0
count_no f zero none = refl
count_no f (suc n) none = omega (arith, count_no f n (λ i less. none i (omega arith)), ap {B = ℕ} (λ (b : Bool). cond b 1 0) (none n (omega arith)))

pub count_first : (f : ℕ → Bool) (n : ℕ) → count_below f (suc n) ≡ cond (f 0) 1 0 + count_below (λ i. f (suc i)) n
count_first f zero = omega arith
count_first f (suc n) = omega (arith, count_first f n)

-- how many steps are on a machine, by their places
pub visits_in-count : (steps : List Step) (m : ℕ) → visits_in steps m ≡ count_below (λ i. nat_eq (step_at steps i).machine m) (length steps)
visits_in-count [] m = refl
visits_in-count (step ∷ steps) m = go (cases_eq step.machine m) (visits_in-count steps m)
  where
    first : count_below (λ i. nat_eq (step_at (step ∷ steps) i).machine m) (suc (length steps)) ≡ cond (nat_eq step.machine m) 1 0 + count_below (λ i. nat_eq (step_at steps i).machine m) (length steps)
    first = count_first (λ i. nat_eq (step_at (step ∷ steps) i).machine m) (length steps)

    go : (step.machine ≡ m) ⊎ (step.machine ≢ m) → visits_in steps m ≡ count_below (λ i. nat_eq (step_at steps i).machine m) (length steps)
        → visits_in (step ∷ steps) m ≡ count_below (λ i. nat_eq (step_at (step ∷ steps) i).machine m) (suc (length steps))
    go (inl same) rest =
        let more : visits_in (step ∷ steps) m ≡ suc (visits_in steps m) = rw (eq-eqb step.machine m same) refl in
        omega (arith, more, first, rest, ap {B = ℕ} (λ (b : Bool). cond b 1 0) (eq-eqb step.machine m same))
    go (inr other) rest =
        let as_many : visits_in (step ∷ steps) m ≡ visits_in steps m = rw (ne_eqb step.machine m other) refl in
        omega (arith, as_many, first, rest, ap {B = ℕ} (λ (b : Bool). cond b 1 0) (ne_eqb step.machine m other))

-- ---- orders that change at the machines of steps

pub changed-length : (f : List ℕ → List ℕ) (steps : List Step) (orders : List (List ℕ)) → length (changed_at f steps orders) ≡ length orders
changed-length f [] orders = refl
changed-length f (s ∷ ss) orders = changed-length f ss (set orders s.machine (f (get_or orders s.machine []))) ∙ length-set orders s.machine (f (get_or orders s.machine []))

-- an order changed so often
abbrev pub again : (List ℕ → List ℕ) → ℕ → List ℕ → List ℕ
again f zero xs = xs
again f (suc n) xs = again f n (f xs)

again_last : (f : List ℕ → List ℕ) (n : ℕ) (xs : List ℕ) → again f n (f xs) ≡ f (again f n xs)
again_last f zero xs = refl
again_last f (suc n) xs = again_last f n (f xs)

pub visits_here : (s : Step) (ss : List Step) (m : ℕ) → s.machine ≡ m → visits_in (s ∷ ss) m ≡ suc (visits_in ss m)
visits_here s ss m here = rw (eq-eqb s.machine m here) refl

pub visits_there : (s : Step) (ss : List Step) (m : ℕ) → s.machine ≢ m → visits_in (s ∷ ss) m ≡ visits_in ss m
visits_there s ss m there = rw (ne_eqb s.machine m there) refl

-- an order changes as often as steps are on its machine
pub changed-often : (f : List ℕ → List ℕ) (steps : List Step) (orders : List (List ℕ)) (m : ℕ) → m < length orders → get_or (changed_at f steps orders) m [] ≡ again f (visits_in steps m) (get_or orders m [])
changed-often f [] orders m inside = refl
changed-often f (s ∷ ss) orders m inside = changed-often f ss (set orders s.machine (f (get_or orders s.machine []))) m (omega (arith, length-set orders s.machine (f (get_or orders s.machine [])))) ∙ go (cases_eq s.machine m)
  where
    go : (s.machine ≡ m) ⊎ (s.machine ≢ m) → again f (visits_in ss m) (get_or (set orders s.machine (f (get_or orders s.machine []))) m []) ≡ again f (visits_in (s ∷ ss) m) (get_or orders m [])
    go (inl here) =
        ap (λ n. again f (visits_in ss m) (get_or (set orders n (f (get_or orders n []))) m [])) here
        ∙ ap (again f (visits_in ss m)) (get_or-set_same orders m (f (get_or orders m [])) [] inside)
        ∙ sym (ap (λ n. again f n (get_or orders m [])) (visits_here s ss m here))
    go (inr there) =
        ap (again f (visits_in ss m)) (get_or-set_other orders s.machine m (f (get_or orders s.machine [])) [] (λ same. there (sym same)))
        ∙ sym (ap (λ n. again f n (get_or orders m [])) (visits_there s ss m there))

-- one step more changes the order of its machine once more, and no other one
pub changed-here : (f : List ℕ → List ℕ) (s : Step) (ss : List Step) (orders : List (List ℕ)) (m : ℕ) → m < length orders → s.machine ≡ m
    → get_or (changed_at f (s ∷ ss) orders) m [] ≡ f (get_or (changed_at f ss orders) m [])
changed-here f s ss orders m inside here =
    changed-often f (s ∷ ss) orders m inside ∙ ap (λ n. again f n (get_or orders m [])) (visits_here s ss m here) ∙ again_last f (visits_in ss m) (get_or orders m [])
    ∙ sym (ap f (changed-often f ss orders m inside))

pub changed-there : (f : List ℕ → List ℕ) (s : Step) (ss : List Step) (orders : List (List ℕ)) (m : ℕ) → s.machine ≢ m → get_or (changed_at f (s ∷ ss) orders) m [] ≡ get_or (changed_at f ss orders) m []
changed-there f s ss orders m there = elim (cases_lt m (length orders)) [
  | inl inside ↦ changed-often f (s ∷ ss) orders m inside ∙ ap (λ n. again f n (get_or orders m [])) (visits_there s ss m there) ∙ sym (changed-often f ss orders m inside)
  | inr past ↦ get_or_past (changed_at f (s ∷ ss) orders) m [] (omega (arith, changed-length f (s ∷ ss) orders)) ∙ sym (get_or_past (changed_at f ss orders) m [] (omega (arith, changed-length f ss orders)))
]

pub again-last : (j n : ℕ) (xs : List ℕ) → again (then_last j) n xs ≡ xs ++ replicate n j
again-last j zero xs = sym (append-nil xs)
again-last j (suc n) xs = again-last j n (xs ++ j ∷ []) ∙ append_assoc xs (j ∷ []) (replicate n j)
