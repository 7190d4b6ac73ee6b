-- What writes to the rows of a draft make of its plan.
use Rattle.plan_revise.specs.AnotherWay.{with_visit_at}
use Rattle.std.proofs.Common.{◌++◌, ◌≡◌, ℕ, zero, suc, ◌+◌, ◌-◌, ◌<◌, List, [], ◌∷◌, length, take, drop, get_or, set, Vec, Global, None, Some, Result, Ok, Err, Bool, true, false, refl, sym, ap, ◌∙◌, subst, arith, inl, inr, add-one, drop-cons}
use Rattle.std.specs.Prelude.{insert, IfOk, IfErr, IsTrue, ◌↔◌, slice_get}
use Rattle.std.proofs.lemmas.Bool.{lt-ltb}
use Rattle.std.proofs.lemmas.List.{get_or-map, get_or_default, map-set, map-append, length-map}
use Rattle.std.proofs.lemmas.Option.{same_Some}
use Rattle.shop_base.specs.declared.job_state.JobState.{JobState}
use Rattle.shop_base.specs.declared.shop.Step.{Step}
use Rattle.shop_base.specs.Vectors.{lists_of}
use Rattle.shop_base.specs.Shop.{step_at, no_step}
use Rattle.shop_base.specs.Plan.{PlannedShop, jobs, machines, route, machine_of, steps, order, job_at, clean, IsWellShaped}
use Rattle.shop_base.specs.Cell.{Cell, job_in, made, ready, IsOn}
use Rattle.shop_base.proofs.Visits.{visits_job, visits-stands}
use Rattle.shop_base.proofs.Keeping.{alone_on}
use Rattle.plan_revise.specs.declared.change.Change.{Change}
use Rattle.plan_revise.specs.declared.change.ChangeFault.{ChangeFault}
use Rattle.plan_revise.specs.declared.change.NotRevised.{NotRevised}
use Rattle.plan_revise.specs.declared.change.NotRevised.TheVariants.{Refused, Memory as NoMemory}
use Rattle.plan_revise.specs.declared.change.Refusal.{Refusal}
use Rattle.plan_revise.specs.declared.change.Refusal.TheVariants.{Fault, Memory}
use Rattle.plan_revise.specs.Orders.{changed_at, removed, put_last}
use Rattle.plan_revise.specs.Promises.{no_promise}
use Rattle.plan_revise.specs.Ended.{with_job_ended}
use Rattle.plan_revise.specs.Placed.{placed}
use Rattle.plan_revise.specs.Aside.{IsAside, IsAsideJob, IsPlant, IsPlantOf}
use Rattle.plan_revise.specs.Changes.{lasting, IsChangedTo}
use Rattle.plan_revise.specs.Refusals.{IsRefusedChange}
use Rattle.plan_revise.specs.Revised.{AreMade, IsRevised, IsReasonNotRevised, IsRevisedWithin, IsReasonNotRevisedWithin}
use Rattle.plan_revise.specs.Settings.{RevisionSetting, setting, moves_made, OperationGoesOn}
use Rattle.plan_revise.specs.Fits.{IsSetting}
use Rattle.plan_revise.specs.Answers.{UnlessMemory, ParsesFirst, refused_at}

differ : false ≡ true → ⊥
differ e = cc

-- one row is written
pub row_set : {X : Type 0} (rows : List (Vec X Global)) (i : ℕ) (old new : Vec X Global) (f : List X → List X) → i < length rows → old ≡ get_or rows i old → new.items ≡ f old.items
    → lists_of (set rows i new) ≡ set (lists_of rows) i (f (get_or (lists_of rows) i []))
row_set {X} rows i old new f within read written =
    map-set (λ (r : Vec X Global). r.items) rows i new
    ∙ ap (set (lists_of rows) i) (written ∙ ap f (ap (λ (r : Vec X Global). r.items) read ∙ sym (get_or-map (λ (r : Vec X Global). r.items) rows i old [] within)))

pub row_read : {X : Type 0} (rows : List (Vec X Global)) (i : ℕ) (old : Vec X Global) → i < length rows → old ≡ get_or rows i old → old.items ≡ get_or (lists_of rows) i []
row_read {X} rows i old within read = ap (λ (r : Vec X Global). r.items) read ∙ sym (get_or-map (λ (r : Vec X Global). r.items) rows i old [] within)

pub length_lists : {X : Type 0} (rows : List (Vec X Global)) → length (lists_of rows) ≡ length rows
length_lists {X} rows = length-map rows (λ (r : Vec X Global). r.items)

-- one more row is copied
take_next : {X : Type 0} (xs : List X) (n : ℕ) (d : X) → n < length xs → take (suc n) xs ≡ take n xs ++ get_or xs n d ∷ []
take_next [] n d less = absurd (omega arith)
take_next (x ∷ xs) zero d less = refl
take_next {X} (x ∷ xs) (suc n) d less = ap (λ (ys : List X). x ∷ ys) (take_next xs n d (omega arith))

pub copied_more : {X : Type 0} (rows copies : List (Vec X Global)) (i : ℕ) (row copy : Vec X Global) (new : List (Vec X Global)) → new ≡ copies ++ copy ∷ [] → copy.items ≡ row.items → row ≡ get_or rows i row → i < length rows → lists_of copies ≡ take i (lists_of rows) → lists_of new ≡ take (i + 1) (lists_of rows)
copied_more {X} rows copies i row copy new pushed same read within so_far =
    ap lists_of pushed ∙ map-append (λ (r : Vec X Global). r.items) copies (copy ∷ [])
    ∙ ap (λ (xs : List (List X)). xs ++ copy.items ∷ []) so_far
    ∙ ap (λ (xs : List X). take i (lists_of rows) ++ xs ∷ []) (same ∙ row_read rows i row within read)
    ∙ sym (take_next (lists_of rows) i [] (omega (arith, within, length_lists rows)))
    ∙ ap (λ n. take n (lists_of rows)) (sym (add-one i))

-- the order at one more step is changed
pub changed_step : (f : List ℕ → List ℕ) (steps : List Step) (rows : List (Vec ℕ Global)) (i m : ℕ) (old new : Vec ℕ Global) (total : List (List ℕ))
    → i < length steps → (step_at steps i).machine ≡ m → m < length rows → old ≡ get_or rows m old → new.items ≡ f old.items
    → changed_at f (drop i steps) (lists_of rows) ≡ total → changed_at f (drop (i + 1) steps) (lists_of (set rows m new)) ≡ total
changed_step f steps rows i m old new total within here inside read written so_far =
    ap (λ n. changed_at f (drop n steps) (lists_of (set rows m new))) (add-one i)
    ∙ ap (changed_at f (drop (suc i) steps)) (row_set rows m old new f inside read written ∙ ap (λ n. set (lists_of rows) n (f (get_or (lists_of rows) n []))) (sym here))
    ∙ sym (ap (λ (ss : List Step). changed_at f ss (lists_of rows)) (drop-cons steps i no_step within))
    ∙ so_far

pub draft_ended : (p : PlannedShop) (j n : ℕ) (routes : List (List Step)) (orders : List (List ℕ)) → routes ≡ set p.shop.routes j (take n (route p j)) → orders ≡ removed j (drop n (route p j)) p.plan.order
    → record p { shop = record p.shop { routes = routes }; plan = record p.plan { budget = set p.plan.budget j no_promise; order = orders } } ≡ with_job_ended p j n
draft_ended p j n routes orders cut out = rw (cut, out) refl

pub draft_placed : (p : PlannedShop) (j : ℕ) (mine : List Step) (first last : ℕ) (routes : List (List Step)) (orders : List (List ℕ)) → routes ≡ set p.shop.routes j mine → orders ≡ put_last j mine p.plan.order
    → record p { shop = record p.shop { routes = routes }; plan = record p.plan { release = set p.plan.release j first; budget = set p.plan.budget j last; order = orders } } ≡ placed p j mine first last
draft_placed p j mine first last routes orders one other = rw (one, other) refl

pub draft_visit : (p : PlannedShop) (j : ℕ) (step : Step) (a : ℕ) (routes : List (List Step)) (orders : List (List ℕ)) → routes ≡ set p.shop.routes j (route p j ++ step ∷ []) → orders ≡ set p.plan.order step.machine (insert (order p step.machine) a j)
    → record p { shop = record p.shop { routes = routes }; plan = record p.plan { order = orders } } ≡ with_visit_at p j step a
draft_visit p j step a routes orders one other = rw (one, other) refl

pub draft_lasting : (p : PlannedShop) (j k time : ℕ) (routes : List (List Step)) → routes ≡ set p.shop.routes j (set (route p j) k (record { machine = machine_of p j k; nominal = time }))
    → record p { shop = record p.shop { routes = routes } } ≡ lasting p j k time
draft_lasting p j k time routes one = rw one refl

-- a step that is written in its row
pub step_written : (row : List Step) (k time : ℕ) (read : Step) → k < length row → read ≡ get_or row k read → set row k (record { machine = read.machine; nominal = time }) ≡ set row k (record { machine = (step_at row k).machine; nominal = time })
step_written row k time read within is = ap (λ (s : Step). set row k (record { machine = s.machine; nominal = time })) (is ∙ get_or_default row k read no_step within)

-- what is answered of one kind is of another
pub reason_more : {X : Type 0} (One Other : ChangeFault → Type 0) → ((fault : ChangeFault) → One fault → Other fault) → (answer : Result X Refusal) → IfErr answer (UnlessMemory One) → IfErr answer (UnlessMemory Other)
reason_more One Other more (Ok x) why = tt
reason_more One Other more (Err (Fault fault)) why = more fault why
reason_more One Other more (Err Memory) why = tt

-- the step that goes on is the one that the job's last move began
pub work_at : (s : RevisionSetting) (j k m : ℕ) → OperationGoesOn s j k m → moves_made s j - 1 ≡ k
work_at s j k m work = rw (lt-ltb j (jobs s.given) (visits_job s.given j k m work.on.visits)) (let entered = work.on.entered in omega (arith, entered))

-- a job in an order is of the shop
pub listed_job : (p : PlannedShop) (m a : ℕ) → IsWellShaped p → m < machines p → a < length (order p m) → job_at p m a < jobs p
listed_job p m a shaped inside within = let found = (shaped.orders m inside).on_route a within in visits_job p (job_at p m a) found.0 m found.1.visits

-- ---- who is at work on a machine

-- where the job on a machine is ready, none is at work there
pub none_at_work : (s r : RevisionSetting) (m j : ℕ) (state : JobState) → s ≡ r → IsSetting s → IsOn s.given s.cell j (made s.cell j - 1) m → state ≡ job_in s.cell j → state.ready ≡ true → (i k : ℕ) → OperationGoesOn r i k m → ⊥
none_at_work s r m j state same is on read done i k work_there =
    let work : OperationGoesOn s i k m = subst (λ (s : RevisionSetting). OperationGoesOn s i k m) (sym same) work_there in
    let one : i ≡ j = alone_on s.given s.cell i k j (made s.cell j - 1) m is.shaped is.sound work.on on in
    differ (sym work.not_ready ∙ ap (ready s.cell) one ∙ sym (ap (λ (x : JobState). x.ready) read) ∙ done)

-- where it isn't, it is at work
pub one_at_work : (s r : RevisionSetting) (m j : ℕ) (state : JobState) → s ≡ r → IsOn s.given s.cell j (made s.cell j - 1) m → state ≡ job_in s.cell j → state.ready ≡ false → (k : ℕ) × OperationGoesOn r j k m
one_at_work s r m j state same on read working =
    (made s.cell j - 1, subst (λ (x : RevisionSetting). OperationGoesOn x j (made s.cell j - 1) m) same (record { on = on; not_ready = sym (ap (λ (x : JobState). x.ready) read) ∙ working }))

-- ---- the machine of the jobs that are put aside

pub aside_by_places : (p : PlannedShop) (m : ℕ) (b : Bool) → IsWellShaped p → m + 1 ≡ machines p → 0 < length (order p m) → clean p m ≡ 0
    → IsTrue b ↔ ((a : ℕ) → a < length (order p m) → IsAsideJob p (job_at p m a)) → IsTrue b ↔ IsAside p m
aside_by_places p m b shaped last visited uncleaned says = (
  λ pass. record {
    last = last;
    visited = visited;
    uncleaned = uncleaned;
    visitors = λ j k visits. (let found = visits-stands p j k m shaped visits in subst (IsAsideJob p) found.1.job (says.0 pass found.0 found.1.within));
  },
  λ aside. says.1 (λ a within. (let found = (shaped.orders m (omega arith)).on_route a within in aside.visitors (job_at p m a) found.0 found.1.visits)),
)

-- ---- changes one after another

made_more : (s : RevisionSetting) (p : PlannedShop) (changes : List Change) (n : ℕ) (q r : PlannedShop) (change : Change) → slice_get changes n ≡ Some change → AreMade s p (take n changes) q → IsChangedTo s q change r → AreMade s p (take (suc n) changes) r
made_more s p [] n q r change there made one = absurd (no_some there)
  where
    no_some : None ≡ Some change → ⊥
    no_some same = cc
made_more s p (first ∷ changes) zero q r change there made one = (r, subst (λ (x : PlannedShop). IsChangedTo s x first r) made (subst (λ (x : Change). IsChangedTo s q x r) (sym (same_Some first change there)) one), refl)
made_more s p (first ∷ changes) (suc n) q r change there (next, begun, rest) one = (next, begun, made_more s next changes n q r change there rest one)

pub changes_more : (s : RevisionSetting) (p : PlannedShop) (changes : List Change) (n : ℕ) (q r : PlannedShop) (change : Change) → slice_get changes n ≡ Some change → AreMade s p (take n changes) q → IsChangedTo s q change r → AreMade s p (take (n + 1) changes) r
changes_more s p changes n q r change there made one = subst (λ k. AreMade s p (take k changes) r) (sym (add-one n)) (made_more s p changes n q r change there made one)

-- the refusal of a change is answered at its place
pub first_reason_at : (s : RevisionSetting) (p : PlannedShop) (changes : List Change) (n : ℕ) (q : PlannedShop) (change : Change) (refusal : Refusal) → slice_get changes n ≡ Some change → AreMade s p (take n changes) q → UnlessMemory (IsRefusedChange s q change) refusal
    → ParsesFirst s p changes (refused_at n refusal)
first_reason_at s p changes n q change (Fault fault) there made refused = record { reached = q; before = made; change = change; there = there; refused = refused }
first_reason_at s p changes n q change Memory there made refused = tt

-- what is answered first of the changes that are given
first_reason : (p : PlannedShop) (c : Cell) (t plant : ℕ) (changes : List Change) (answer : NotRevised) → ParsesFirst (setting p c t plant) p changes answer → IsReasonNotRevisedWithin p c t plant changes answer
first_reason p c t plant changes (Refused n fault) first = first
first_reason p c t plant changes NoMemory first = tt

-- by the machines of the plant
reason_by_plant : (p : PlannedShop) (c : Cell) (t plant : ℕ) (changes : List Change) (answer : NotRevised) → IsPlant p plant → IsReasonNotRevisedWithin p c t plant changes answer → IsReasonNotRevised p c t changes answer
reason_by_plant p c t plant changes (Refused n fault) is_plant first = record { plant = plant; is_plant = is_plant; first = first }
reason_by_plant p c t plant changes NoMemory is_plant first = tt

pub plant_is_of : (p : PlannedShop) (plant : ℕ) → IsPlant p plant → IsPlantOf p plant
plant_is_of p plant (inl aside) = inr (record { last = aside.last; uncleaned = aside.uncleaned; visitors = aside.visitors })
plant_is_of p plant (inr whole) = inl whole.0

module _ (p : PlannedShop) (c : Cell) (t plant : ℕ) (changes : List Change) (is_plant : IsPlant p plant) where
  pub revised_by_plant : (answer : Result PlannedShop NotRevised) → IfOk answer (IsRevisedWithin p c t plant changes) → IfOk answer (IsRevised p c t changes)
  revised_by_plant (Ok q) made = record { plant = plant; is_plant = is_plant; made = made }
  revised_by_plant (Err answer) made = tt

  pub refused_by_plant : (answer : Result PlannedShop NotRevised) → IfErr answer (IsReasonNotRevisedWithin p c t plant changes) → IfErr answer (IsReasonNotRevised p c t changes)
  refused_by_plant (Ok q) why = tt
  refused_by_plant (Err answer) why = reason_by_plant p c t plant changes answer is_plant why

-- ---- the whole

module _ (run : RevisionSetting) (p : PlannedShop) (c : Cell) (t plant : ℕ) (changes : List Change) (draft : PlannedShop) (is : run ≡ setting p c t plant) (same : draft ≡ p) where
  pub revised_answer : (answer : Result PlannedShop NotRevised) → IfOk answer (AreMade run draft changes) → IfOk answer (IsRevisedWithin p c t plant changes)
  revised_answer (Ok q) made = subst (λ (x : PlannedShop). AreMade (setting p c t plant) x changes q) same (subst (λ (s : RevisionSetting). AreMade s draft changes q) is made)
  revised_answer (Err answer) made = tt

  pub refused_answer : (answer : Result PlannedShop NotRevised) → IfErr answer (ParsesFirst run draft changes) → IfErr answer (IsReasonNotRevisedWithin p c t plant changes)
  refused_answer (Ok q) why = tt
  refused_answer (Err answer) why = first_reason p c t plant changes answer
      (subst (λ (x : PlannedShop). ParsesFirst (setting p c t plant) x changes answer) same (subst (λ (s : RevisionSetting). ParsesFirst s draft changes answer) is why))

  pub draft_given : run.given ≡ draft
  draft_given = ap (λ (s : RevisionSetting). s.given) is ∙ sym same
