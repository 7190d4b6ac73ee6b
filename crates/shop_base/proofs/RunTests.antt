-- Tests that decide what is said of a cell as a whole and of a list of reports: rest, idleness, stuck, ended, punctual, exact, and the controlled run.
use Rattle.std.proofs.Common.{◌≡◌, ℕ, ◌-◌, ◌<◌, ◌≤◌, List, [], ◌∷◌, ◌++◌, length, Option, None, Some, Bool, true, false, not, ◌&&◌, ◌||◌, ltb, leb, eqb, Decides, ◌⊎◌, inl, inr, refl, sym, ◌∙◌, ap, subst, arith, lt_of_not-le}
use Rattle.std.proofs.lemmas.Bool.{and_parts}
use Rattle.std.proofs.lemmas.Bool.Decides.{Decides-like, Decides-and, Decides-not, Decides-ltb, Decides-eqb}
use Rattle.std.proofs.lemmas.List.{get_or_past}
use Rattle.shop_base.specs.Plan.{PlannedShop, jobs, steps, machine_of}
use Rattle.shop_base.specs.Cell.{Cell, MachineState, absent, unused, job_in, made, ready, cleaning, IsGone}
use Rattle.shop_base.specs.declared.job_state.JobState.{JobState}
use Rattle.shop_base.specs.declared.report.Report.{Report}
use Rattle.shop_base.specs.Activity.{Activity, Arrival, Operation, Cleaning, GoesOn, IsIdle}
use Rattle.shop_base.specs.Report.{ended, at, after_report}
use Rattle.shop_base.specs.Move.{CanMove, KeepsPlan, after_move}
use Rattle.shop_base.specs.Run.{Event, Reported, Moved, after, IsAtRest, IsStuck}
use Rattle.shop_base.specs.Controlled.{AreMoves, after_step, step_orders, IsStep, moved, Leads, done, accepted, refused}
use Rattle.shop_base.specs.Punctual.{IsPunctual, IsExact, ArePunctual, AreExact}
use Rattle.shop_base.specs.Ends.{HasEnded}
use Rattle.shop_base.proofs.Visits.{visits_job}
use Rattle.shop_base.proofs.CellTests.{all_below, some_below, all_below_decides, some_below_decides, leb_decides, move_test, move_decides, keeps_test, keeps_decides, going_test, going_decides, due_of, due-is, report_test, report_decides}

pub implies_decides : {P Q : Type 0} (x y : Bool) → Decides x P → Decides y Q → Decides (not x || y) (P → Q)
implies_decides true y one other = ((λ is _. other.0 is), (λ both. other.1 (both (one.0 refl))))
implies_decides false y one other = ((λ _ h. absurd (differ (one.1 h))), (λ _. refl))
  where
    differ : false ≡ true → ⊥
    differ bad = cc

false_decides : Decides false ⊥
false_decides = ((λ bad. cc), (λ bad. absurd bad))

-- a job that is ready, or has made no move, is one of the cell's
job_known : (c : Cell) (j : ℕ) → (made c j ≡ 0) ⊎ (ready c j ≡ true) → j < length c.jobs
job_known c j why = lt_of_not-le λ past. absurd (go (get_or_past c.jobs j absent past) why)
  where
    go : job_in c j ≡ absent → (made c j ≡ 0) ⊎ (ready c j ≡ true) → ⊥
    go is (inl outside) = omega (arith, ap (λ (s : JobState). s.made) is)
    go is (inr is_ready) = let idle : ready c j ≡ false = ap (λ (s : JobState). s.ready) is in cc

machine_known : (c : Cell) (m from : ℕ) → cleaning c m ≡ Some from → m < length c.machines
machine_known c m from cleaned = lt_of_not-le λ past. absurd (go (ap (λ (s : MachineState). s.cleaning) (get_or_past c.machines m unused past)))
  where
    go : cleaning c m ≡ None → ⊥
    go is_clean = cc

abbrev going_passes : PlannedShop → Cell → (Activity → Bool) → Activity → Bool
going_passes p c test a = not (going_test p c a) || test a

-- whether each activity that is going on passes the test
abbrev pub each_going : PlannedShop → Cell → (Activity → Bool) → Bool
each_going p c test = all_below (λ j. going_passes p c test (Arrival j)) (length c.jobs)
    && (all_below (λ j. going_passes p c test (Operation j (machine_of p j (made c j - 1)))) (jobs p)
    && all_below (λ m. going_passes p c test (Cleaning m)) (length c.machines))

module _ (p : PlannedShop) (c : Cell) (test : Activity → Bool) (P : Activity → Type 0) (each : (a : Activity) → Decides (test a) (P a)) where
  abbrev Passes : Activity → Type 0
  Passes a = GoesOn p c a (due_of p c a) → P a

  abbrev worked : ℕ → Activity
  worked j = Operation j (machine_of p j (made c j - 1))

  passes_decides : (a : Activity) → Decides (going_passes p c test a) (Passes a)
  passes_decides a = implies_decides (going_test p c a) (test a) (going_decides p c a) (each a)

  abbrev AllPass : Type 0
  AllPass = ((j : ℕ) → j < length c.jobs → Passes (Arrival j)) × (((j : ℕ) → j < jobs p → Passes (worked j)) × ((m : ℕ) → m < length c.machines → Passes (Cleaning m)))

  at_its_due : (a : Activity) (due : ℕ) → GoesOn p c a due → GoesOn p c a (due_of p c a)
  at_its_due a due going = subst (GoesOn p c a) (due-is p c a due going) going

  each_one : AllPass → (a : Activity) (due : ℕ) → GoesOn p c a due → P a
  each_one all (Arrival j) due going = all.0 j (job_known c j (inl going.outside)) (at_its_due (Arrival j) due going)
  each_one all (Operation j m) due (k, works) = subst (λ (n : ℕ). P (Operation j n)) here (all.1.0 j (visits_job p j k m works.on.visits) (subst (λ (n : ℕ). GoesOn p c (Operation j n) (due_of p c (Operation j n))) (sym here) (at_its_due (Operation j m) due (k, works))))
    where
      here : machine_of p j (made c j - 1) ≡ m
      here = let same : made c j - 1 ≡ k = omega (arith, works.on.entered) in ap (machine_of p j) same ∙ works.on.visits.here
  each_one all (Cleaning m) due (from, works) = all.1.1 m (machine_known c m from works.is_cleaned) (at_its_due (Cleaning m) due (from, works))

  pub each_going_decides : Decides (each_going p c test) ((a : Activity) (due : ℕ) → GoesOn p c a due → P a)
  each_going_decides = Decides-like (each_going p c test) each_one
      (λ every. ((λ j within going. every (Arrival j) _ going), ((λ j within going. every (worked j) _ going), (λ m within going. every (Cleaning m) _ going))))
      (Decides-and _ _ (all_below_decides _ (λ j. Passes (Arrival j)) (λ j. passes_decides (Arrival j)) (length c.jobs))
      (Decides-and _ _ (all_below_decides _ (λ j. Passes (worked j)) (λ j. passes_decides (worked j)) (jobs p))
      (all_below_decides _ (λ m. Passes (Cleaning m)) (λ m. passes_decides (Cleaning m)) (length c.machines))))

abbrev pub idle_test : PlannedShop → Cell → Bool
idle_test p c = each_going p c (λ a. false)

pub idle_decides : (p : PlannedShop) (c : Cell) → Decides (idle_test p c) (IsIdle p c)
idle_decides p c = each_going_decides p c (λ a. false) (λ a. ⊥) (λ a. false_decides)

abbrev pub punctual_test : PlannedShop → Cell → Report → Bool
punctual_test p c r = each_going p c (λ a. leb (at r) (due_of p c a))

pub punctual_decides : (p : PlannedShop) (c : Cell) (r : Report) → Decides (punctual_test p c r) (IsPunctual p c r)
punctual_decides p c r = Decides-like (punctual_test p c r) is_punctual was_punctual
    (each_going_decides p c (λ a. leb (at r) (due_of p c a)) (λ a. at r ≤ due_of p c a) (λ a. leb_decides (at r) (due_of p c a)))
  where
    is_punctual : ((a : Activity) (due : ℕ) → GoesOn p c a due → at r ≤ due_of p c a) → IsPunctual p c r
    is_punctual all a due going = omega (arith, all a due going, due-is p c a due going)

    was_punctual : IsPunctual p c r → (a : Activity) (due : ℕ) → GoesOn p c a due → at r ≤ due_of p c a
    was_punctual punctual a due going = omega (arith, punctual a due going, due-is p c a due going)

abbrev pub exact_test : PlannedShop → Cell → Report → Bool
exact_test p c r = punctual_test p c r && (going_test p c (ended r) && eqb (at r) (due_of p c (ended r)))

pub exact_decides : (p : PlannedShop) (c : Cell) (r : Report) → Decides (exact_test p c r) (IsExact p c r)
exact_decides p c r = Decides-like (exact_test p c r) is_exact was_exact
    (Decides-and (punctual_test p c r) _ (punctual_decides p c r)
    (Decides-and (going_test p c (ended r)) (eqb (at r) (due_of p c (ended r))) (going_decides p c (ended r)) (Decides-eqb (at r) (due_of p c (ended r)))))
  where
    is_exact : IsPunctual p c r × (GoesOn p c (ended r) (due_of p c (ended r)) × (at r ≡ due_of p c (ended r))) → IsExact p c r
    is_exact (punctual, (going, is)) = record { punctual = punctual; due = subst (GoesOn p c (ended r)) (sym is) going }

    was_exact : IsExact p c r → IsPunctual p c r × (GoesOn p c (ended r) (due_of p c (ended r)) × (at r ≡ due_of p c (ended r)))
    was_exact exact =
        let is : at r ≡ due_of p c (ended r) = due-is p c (ended r) (at r) exact.due in
        (exact.punctual, (subst (GoesOn p c (ended r)) is exact.due, is))

abbrev pub all_punctual_test : PlannedShop → Cell → List Event → Bool
all_punctual_test p c [] = true
all_punctual_test p c (Reported r ∷ es) = punctual_test p c r && all_punctual_test p (after p c (Reported r)) es
all_punctual_test p c (Moved o ∷ es) = all_punctual_test p (after p c (Moved o)) es

pub all_punctual_decides : (p : PlannedShop) (c : Cell) (es : List Event) → Decides (all_punctual_test p c es) (ArePunctual p c es)
all_punctual_decides p c [] = ((λ _. tt), (λ _. refl))
all_punctual_decides p c (Reported r ∷ es) = Decides-and (punctual_test p c r) _ (punctual_decides p c r) (all_punctual_decides p (after p c (Reported r)) es)
all_punctual_decides p c (Moved o ∷ es) = all_punctual_decides p (after p c (Moved o)) es

abbrev pub all_exact_test : PlannedShop → Cell → List Event → Bool
all_exact_test p c [] = true
all_exact_test p c (Reported r ∷ es) = exact_test p c r && all_exact_test p (after p c (Reported r)) es
all_exact_test p c (Moved o ∷ es) = all_exact_test p (after p c (Moved o)) es

pub all_exact_decides : (p : PlannedShop) (c : Cell) (es : List Event) → Decides (all_exact_test p c es) (AreExact p c es)
all_exact_decides p c [] = ((λ _. tt), (λ _. refl))
all_exact_decides p c (Reported r ∷ es) = Decides-and (exact_test p c r) _ (exact_decides p c r) (all_exact_decides p (after p c (Reported r)) es)
all_exact_decides p c (Moved o ∷ es) = all_exact_decides p (after p c (Moved o)) es

-- whether no job can move at the last moment and keep the plan: then none can at any moment
abbrev pub rest_test : PlannedShop → Cell → Bool
rest_test p c = all_below (λ j. not (move_test p c j c.last && keeps_test p c j)) (length c.jobs)

pub rest_decides : (p : PlannedShop) (c : Cell) → Decides (rest_test p c) (IsAtRest p c)
rest_decides p c = Decides-like (rest_test p c) at_rest was_at_rest
    (all_below_decides _ (λ j. CanMove p c j c.last × KeepsPlan p c j → ⊥)
    (λ j. Decides-not _ (Decides-and (move_test p c j c.last) (keeps_test p c j) (move_decides p c j c.last) (keeps_decides p c j))) (length c.jobs))
  where
    at_rest : ((j : ℕ) → j < length c.jobs → CanMove p c j c.last × KeepsPlan p c j → ⊥) → IsAtRest p c
    at_rest none j t can keeps = none j (job_known c j (inr can.is_ready))
        (record { is_ready = can.is_ready; way = can.way; moment = record { in_order = omega arith; in_range = omega (arith, can.moment.in_order, can.moment.in_range) } }, keeps)

    was_at_rest : IsAtRest p c → (j : ℕ) → j < length c.jobs → CanMove p c j c.last × KeepsPlan p c j → ⊥
    was_at_rest rest j within (can, keeps) = rest j c.last can keeps

abbrev pub gone_test : PlannedShop → Cell → ℕ → Bool
gone_test p c j = ltb (steps p j) (made c j)

pub gone_decides : (p : PlannedShop) (c : Cell) (j : ℕ) → Decides (gone_test p c j) (IsGone p c j)
gone_decides p c j = Decides-ltb (steps p j) (made c j)

abbrev pub stuck_test : PlannedShop → Cell → Bool
stuck_test p c = rest_test p c && (idle_test p c && some_below (λ j. not (gone_test p c j)) (jobs p))

pub stuck_decides : (p : PlannedShop) (c : Cell) → Decides (stuck_test p c) (IsStuck p c)
stuck_decides p c = Decides-like (stuck_test p c) (λ all. record { at_rest = all.0; idle = all.1.0; unfinished = all.1.1 }) (λ stuck. (stuck.at_rest, (stuck.idle, stuck.unfinished)))
    (Decides-and (rest_test p c) _ (rest_decides p c) (Decides-and (idle_test p c) _ (idle_decides p c)
    (some_below_decides _ (λ j. IsGone p c j → ⊥) (λ j. Decides-not (gone_test p c j) (gone_decides p c j)) (jobs p))))

abbrev pub ended_test : PlannedShop → Cell → Bool
ended_test p c = all_below (gone_test p c) (jobs p) && idle_test p c

pub ended_decides : (p : PlannedShop) (c : Cell) → Decides (ended_test p c) (HasEnded p c)
ended_decides p c = Decides-like (ended_test p c) (λ both. record { gone = both.0; idle = both.1 }) (λ ended. (ended.gone, ended.idle))
    (Decides-and _ (idle_test p c) (all_below_decides (gone_test p c) (IsGone p c) (gone_decides p c) (jobs p)) (idle_decides p c))

abbrev pub moves_test : PlannedShop → Cell → ℕ → List ℕ → Bool
moves_test p c t [] = true
moves_test p c t (j ∷ js) = move_test p c j t && (keeps_test p c j && moves_test p (after_move p c j t) t js)

pub moves_decides : (p : PlannedShop) (c : Cell) (t : ℕ) (js : List ℕ) → Decides (moves_test p c t js) (AreMoves p c t js)
moves_decides p c t [] = ((λ _. tt), (λ _. refl))
moves_decides p c t (j ∷ js) = Decides-like (moves_test p c t (j ∷ js)) (λ all. (all.0, all.1.0, all.1.1)) (λ all. (all.0, (all.1, all.2)))
    (Decides-and (move_test p c j t) _ (move_decides p c j t) (Decides-and (keeps_test p c j) _ (keeps_decides p c j) (moves_decides p (after_move p c j t) t js)))

abbrev pub step_test : PlannedShop → Cell → Report → List ℕ → Bool
step_test p c r js = report_test p c r && (moves_test p (after_report c r) (at r) js && rest_test p (after_step p c r js))

pub step_decides : (p : PlannedShop) (c : Cell) (r : Report) (js : List ℕ) → Decides (step_test p c r js) (IsStep p c r js)
step_decides p c r js = Decides-like (step_test p c r js) (λ all. record { can = all.0; moves = all.1.0; quiescent = all.1.1 }) (λ step. (step.can, (step.moves, step.quiescent)))
    (Decides-and (report_test p c r) _ (report_decides p c r) (Decides-and _ _ (moves_decides p (after_report c r) (at r) js) (rest_decides p (after_step p c r js))))

-- the events to which reports lead, where for each report the jobs are given that then move, none where the report isn't possible
abbrev pub turn_events : PlannedShop → Cell → List Report → List (Option (List ℕ)) → List Event
turn_events p c [] turns = []
turn_events p c (r ∷ rs) [] = []
turn_events p c (r ∷ rs) (Some js ∷ turns) = Reported r ∷ (moved (step_orders p c r js) ++ turn_events p (after_step p c r js) rs turns)
turn_events p c (r ∷ rs) (None ∷ turns) = turn_events p c rs turns

-- the cell to which they lead
abbrev pub turn_end : PlannedShop → Cell → List Report → List (Option (List ℕ)) → Cell
turn_end p c [] turns = c
turn_end p c (r ∷ rs) [] = c
turn_end p c (r ∷ rs) (Some js ∷ turns) = turn_end p (after_step p c r js) rs turns
turn_end p c (r ∷ rs) (None ∷ turns) = turn_end p c rs turns

-- whether each report makes such a step, or isn't possible
abbrev pub turns_test : PlannedShop → Cell → List Report → List (Option (List ℕ)) → Bool
turns_test p c [] turns = true
turns_test p c (r ∷ rs) [] = false
turns_test p c (r ∷ rs) (Some js ∷ turns) = step_test p c r js && turns_test p (after_step p c r js) rs turns
turns_test p c (r ∷ rs) (None ∷ turns) = not (report_test p c r) && turns_test p c rs turns

-- then the reports lead to those events and that cell
pub turns_lead : (p : PlannedShop) (c : Cell) (rs : List Report) (turns : List (Option (List ℕ))) → turns_test p c rs turns ≡ true → Leads p c rs (turn_events p c rs turns) (turn_end p c rs turns)
turns_lead p c [] turns pass = done c
turns_lead p c (r ∷ rs) [] pass = absurd (cc)
turns_lead p c (r ∷ rs) (Some js ∷ turns) pass =
    let both = and_parts (step_test p c r js) (turns_test p (after_step p c r js) rs turns) pass in
    accepted c r js rs _ _ ((step_decides p c r js).0 both.0) (turns_lead p (after_step p c r js) rs turns both.1)
turns_lead p c (r ∷ rs) (None ∷ turns) pass =
    let both = and_parts (not (report_test p c r)) (turns_test p c rs turns) pass in
    refused c r rs _ _ ((Decides-not (report_test p c r) (report_decides p c r)).0 both.0) (turns_lead p c rs turns both.1)
