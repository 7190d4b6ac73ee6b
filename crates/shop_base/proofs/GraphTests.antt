-- Tests that decide arcs, cycles and moments on a plan that is written out, and paths made of a list of nodes.
use Rattle.std.proofs.Common.{◌≡◌, ℕ, ◌+◌, ◌-◌, ◌<◌, ◌≤◌, List, [], ◌∷◌, ◌++◌, length, Bool, true, false, not, ◌&&◌, ◌||◌, ltb, leb, eqb, cond, Decides, ◌⊎◌, inl, inr, refl, sym, ap, subst, arith}
use Rattle.std.proofs.lemmas.Bool.{and_parts, leb-true, ltb-true}
use Rattle.std.proofs.lemmas.Bool.Decides.{Decides-like, Decides-and, Decides-or, Decides-not, Decides-ltb, Decides-eqb}
use Rattle.shop_base.specs.declared.node.Node.{Node}
use Rattle.shop_base.specs.Plan.{PlannedShop, jobs, steps, machine_of, nominal, release, clean, order, job_at, places_before, visits_before, Stands, budget}
use Rattle.shop_base.specs.Graph.{node, Arc, job_arc, blocking_arc, HasArc, Path, begins, follows, ArcsLead, IsNew, AreDistinct, IsSimpleCycle, MomentsFit, RanksRise, MeetBudgets, leaving}
use Rattle.shop_base.proofs.Visits.{steps_job, visits_job}
use Rattle.shop_base.proofs.CellTests.{all_below, some_below, all_below_decides, some_below_decides, leb_decides, visits_test, visits_decides}

abbrev pub stands_test : PlannedShop → ℕ → ℕ → ℕ → ℕ → Bool
stands_test p m a j k = ltb a (length (order p m)) && (eqb (job_at p m a) j && (visits_test p j k m && eqb (places_before p m j a) (visits_before p j m k)))

pub stands_decides : (p : PlannedShop) (m a j k : ℕ) → Decides (stands_test p m a j k) (Stands p m a j k)
stands_decides p m a j k = Decides-like (stands_test p m a j k) (λ all. record { within = all.0; job = all.1.0; visits = all.1.1.0; turn = all.1.1.1 }) (λ stands. (stands.within, (stands.job, (stands.visits, stands.turn))))
    (Decides-and (ltb a (length (order p m))) _ (Decides-ltb a (length (order p m))) (Decides-and (eqb (job_at p m a) j) _ (Decides-eqb (job_at p m a) j) (Decides-and (visits_test p j k m) _ (visits_decides p j k m) (Decides-eqb (places_before p m j a) (visits_before p j m k)))))

-- the node v is the next place of u's job
record IsNext (p : PlannedShop) (u v : Node) : Type 0 where
  pub same_job : v.job ≡ u.job
  pub next_place : v.place ≡ u.place + 1
  pub within : u.place < steps p u.job

abbrev next_test : PlannedShop → Node → Node → Bool
next_test p u v = eqb v.job u.job && (eqb v.place (u.place + 1) && ltb u.place (steps p u.job))

next_decides : (p : PlannedShop) (u v : Node) → Decides (next_test p u v) (IsNext p u v)
next_decides p u v = Decides-like (next_test p u v) (λ all. record { same_job = all.0; next_place = all.1.0; within = all.1.1 }) (λ next. (next.same_job, (next.next_place, next.within)))
    (Decides-and (eqb v.job u.job) _ (Decides-eqb v.job u.job) (Decides-and (eqb v.place (u.place + 1)) _ (Decides-eqb v.place (u.place + 1)) (Decides-ltb u.place (steps p u.job))))

-- u's job has left v's machine with u, and directly after it v's job enters that machine
abbrev Follows : PlannedShop → Node → Node → Type 0
Follows p u v = (0 < u.place) × ((a : ℕ) × (a < length (order p (machine_of p v.job v.place)))
    × (Stands p (machine_of p v.job v.place) a u.job (u.place - 1) × Stands p (machine_of p v.job v.place) (a + 1) v.job v.place))

abbrev follows_test : PlannedShop → Node → Node → Bool
follows_test p u v = ltb 0 u.place && some_below (λ a. stands_test p (machine_of p v.job v.place) a u.job (u.place - 1) && stands_test p (machine_of p v.job v.place) (a + 1) v.job v.place)
    (length (order p (machine_of p v.job v.place)))

follows_decides : (p : PlannedShop) (u v : Node) → Decides (follows_test p u v) (Follows p u v)
follows_decides p u v = Decides-and (ltb 0 u.place) _ (Decides-ltb 0 u.place)
    (some_below_decides _ (λ a. Stands p m a u.job (u.place - 1) × Stands p m (a + 1) v.job v.place)
    (λ a. Decides-and _ _ (stands_decides p m a u.job (u.place - 1)) (stands_decides p m (a + 1) v.job v.place)) (length (order p m)))
  where
    m : ℕ
    m = machine_of p v.job v.place

-- an arc of length d is a job's, or between two jobs on one machine
abbrev ArcKinds : PlannedShop → Node → Node → ℕ → Type 0
ArcKinds p u v d = (IsNext p u v × (d ≡ nominal p u.job u.place)) ⊎ (Follows p u v × (d ≡ clean p (machine_of p v.job v.place)))

kind_of_arc : (p : PlannedShop) (u v : Node) (d : ℕ) → Arc p u v d → ArcKinds p u v d
kind_of_arc p u v d (job_arc j k within) = inl (record { same_job = refl; next_place = refl; within = within }, refl)
kind_of_arc p u v d (blocking_arc m a i k j l one other) = inr ((some, (a, inside, (left, enters))), ap (clean p) (sym here))
  where
    here : machine_of p j l ≡ m
    here = other.visits.here

    some : 0 < k + 1
    some = omega arith

    inside : a < length (order p (machine_of p j l))
    inside = subst (λ (n : ℕ). a < length (order p n)) (sym here) one.within

    step : k ≡ k + 1 - 1
    step = omega arith

    left : Stands p (machine_of p j l) a i (k + 1 - 1)
    left = subst (λ (n : ℕ). Stands p n a i (k + 1 - 1)) (sym here) (subst (λ (n : ℕ). Stands p m a i n) step one)

    enters : Stands p (machine_of p j l) (a + 1) j l
    enters = subst (λ (n : ℕ). Stands p n (a + 1) j l) (sym here) other

arc_of_kind : (p : PlannedShop) (u v : Node) (d : ℕ) → ArcKinds p u v d → Arc p u v d
arc_of_kind p u v d (inl (next, is)) = subst (λ (w : Node). Arc p u w d) target (subst (λ (n : ℕ). Arc p u (node u.job (u.place + 1)) n) (sym is) (job_arc u.job u.place next.within))
  where
    target : node u.job (u.place + 1) ≡ v
    target = λ i. record { job = (sym next.same_job) i; place = (sym next.next_place) i }
arc_of_kind p u v d (inr ((some, (a, inside, (left, enters))), is)) =
    subst (λ (w : Node). Arc p w v d) source (subst (λ (n : ℕ). Arc p (node u.job (u.place - 1 + 1)) v n) (sym is) (blocking_arc (machine_of p v.job v.place) a u.job (u.place - 1) v.job v.place left enters))
  where
    place : u.place - 1 + 1 ≡ u.place
    place = omega arith

    source : node u.job (u.place - 1 + 1) ≡ u
    source = λ i. record { job = u.job; place = place i }

abbrev pub arc_test : PlannedShop → Node → Node → ℕ → Bool
arc_test p u v d = (next_test p u v && eqb d (nominal p u.job u.place)) || (follows_test p u v && eqb d (clean p (machine_of p v.job v.place)))

pub arc_decides : (p : PlannedShop) (u v : Node) (d : ℕ) → Decides (arc_test p u v d) (Arc p u v d)
arc_decides p u v d = Decides-like (arc_test p u v d) (arc_of_kind p u v d) (kind_of_arc p u v d)
    (Decides-or _ _ (Decides-and (next_test p u v) _ (next_decides p u v) (Decides-eqb d (nominal p u.job u.place)))
    (Decides-and (follows_test p u v) _ (follows_decides p u v) (Decides-eqb d (clean p (machine_of p v.job v.place)))))

abbrev pub has_arc_test : PlannedShop → Node → Node → Bool
has_arc_test p u v = next_test p u v || follows_test p u v

pub has_arc_decides : (p : PlannedShop) (u v : Node) → Decides (has_arc_test p u v) (HasArc p u v)
has_arc_decides p u v = Decides-like (has_arc_test p u v) has had (Decides-or (next_test p u v) (follows_test p u v) (next_decides p u v) (follows_decides p u v))
  where
    has : IsNext p u v ⊎ Follows p u v → HasArc p u v
    has (inl next) = (nominal p u.job u.place, arc_of_kind p u v _ (inl (next, refl)))
    has (inr behind) = (clean p (machine_of p v.job v.place), arc_of_kind p u v _ (inr (behind, refl)))

    some_kind : (d : ℕ) → ArcKinds p u v d → IsNext p u v ⊎ Follows p u v
    some_kind d (inl (next, is)) = inl next
    some_kind d (inr (behind, is)) = inr behind

    had : HasArc p u v → IsNext p u v ⊎ Follows p u v
    had (d, arc) = some_kind d (kind_of_arc p u v d arc)

abbrev pub node_test : Node → Node → Bool
node_test u v = eqb u.job v.job && eqb u.place v.place

pub node_decides : (u v : Node) → Decides (node_test u v) (u ≡ v)
node_decides u v = Decides-like (node_test u v) same (λ is. (ap (λ (w : Node). w.job) is, ap (λ (w : Node). w.place) is))
    (Decides-and (eqb u.job v.job) _ (Decides-eqb u.job v.job) (Decides-eqb u.place v.place))
  where
    same : (u.job ≡ v.job) × (u.place ≡ v.place) → u ≡ v
    same (job, place) = λ i. record { job = job i; place = place i }

abbrev lead_test : PlannedShop → Node → List Node → Node → Bool
lead_test p u [] v = has_arc_test p u v
lead_test p u (w ∷ ws) v = has_arc_test p u w && lead_test p w ws v

lead_decides : (p : PlannedShop) (u : Node) (ws : List Node) (v : Node) → Decides (lead_test p u ws v) (ArcsLead p u ws v)
lead_decides p u [] v = has_arc_decides p u v
lead_decides p u (w ∷ ws) v = Decides-and (has_arc_test p u w) _ (has_arc_decides p u w) (lead_decides p w ws v)

abbrev new_test : Node → List Node → Bool
new_test u [] = true
new_test u (w ∷ ws) = not (node_test u w) && new_test u ws

new_decides : (u : Node) (ws : List Node) → Decides (new_test u ws) (IsNew u ws)
new_decides u [] = ((λ _. tt), (λ _. refl))
new_decides u (w ∷ ws) = Decides-and (not (node_test u w)) _ (Decides-not (node_test u w) (node_decides u w)) (new_decides u ws)

abbrev distinct_test : List Node → Bool
distinct_test [] = true
distinct_test (u ∷ us) = new_test u us && distinct_test us

distinct_decides : (us : List Node) → Decides (distinct_test us) (AreDistinct us)
distinct_decides [] = ((λ _. tt), (λ _. refl))
distinct_decides (u ∷ us) = Decides-and (new_test u us) _ (new_decides u us) (distinct_decides us)

abbrev pub cycle_test : PlannedShop → List Node → Bool
cycle_test p [] = false
cycle_test p (u ∷ us) = distinct_test (u ∷ us) && lead_test p u us u

pub cycle_decides : (p : PlannedShop) (us : List Node) → Decides (cycle_test p us) (IsSimpleCycle p us)
cycle_decides p [] = ((λ bad. cc), (λ bad. absurd bad))
cycle_decides p (u ∷ us) = Decides-and (distinct_test (u ∷ us)) _ (distinct_decides (u ∷ us)) (lead_decides p u us u)

-- the length of the arc between two nodes, where there is one
abbrev pub length_between : PlannedShop → Node → Node → ℕ
length_between p u v = cond (eqb v.job u.job) (nominal p u.job u.place) (clean p (machine_of p v.job v.place))

-- a path to u that goes on along more nodes: its nodes, its end and its length
abbrev pub nodes_along : List Node → List Node → List Node
nodes_along front [] = front
nodes_along front (v ∷ vs) = nodes_along (front ++ v ∷ []) vs

abbrev pub end_along : Node → List Node → Node
end_along u [] = u
end_along u (v ∷ vs) = end_along v vs

abbrev pub length_along : PlannedShop → ℕ → Node → List Node → ℕ
length_along p n u [] = n
length_along p n u (v ∷ vs) = length_along p (n + length_between p u v) v vs

abbrev pub arcs_test : PlannedShop → Node → List Node → Bool
arcs_test p u [] = true
arcs_test p u (v ∷ vs) = arc_test p u v (length_between p u v) && arcs_test p v vs

pub path_along : (p : PlannedShop) (front : List Node) (n : ℕ) (u : Node) (vs : List Node) → Path p front u n → arcs_test p u vs ≡ true → Path p (nodes_along front vs) (end_along u vs) (length_along p n u vs)
path_along p front n u [] path pass = path
path_along p front n u (v ∷ vs) path pass =
    let both = and_parts (arc_test p u v (length_between p u v)) (arcs_test p v vs) pass in
    path_along p (front ++ v ∷ []) (n + length_between p u v) v vs (follows front u v n (length_between p u v) path ((arc_decides p u v (length_between p u v)).0 both.0)) both.1

-- whether each arc, with its length, passes the test
abbrev arc_passes : PlannedShop → (Node → Node → ℕ → Bool) → Node → Node → Bool
arc_passes p test u v = (not (next_test p u v) || test u v (nominal p u.job u.place)) && (not (follows_test p u v) || test u v (clean p (machine_of p v.job v.place)))

abbrev pub each_node : PlannedShop → (Node → Bool) → Bool
each_node p test = all_below (λ j. all_below (λ k. test (node j k)) (steps p j + 1)) (jobs p)

abbrev pub each_arc : PlannedShop → (Node → Node → ℕ → Bool) → Bool
each_arc p test = each_node p (λ u. each_node p (λ v. arc_passes p test u v))

pub each_node_at : (p : PlannedShop) (test : Node → Bool) (v : Node) → each_node p test ≡ true → v.job < jobs p → v.place ≤ steps p v.job → test v ≡ true
each_node_at p test v pass job place = (of_job.0 ((all_below_decides _ (λ j. all_below (λ k. test (node j k)) (steps p j + 1) ≡ true) (λ j. same _) (jobs p)).0 pass v.job job)) v.place (omega arith)
  where
    same : (b : Bool) → Decides b (b ≡ true)
    same b = ((λ is. is), (λ is. is))

    of_job : Decides (all_below (λ k. test (node v.job k)) (steps p v.job + 1)) ((k : ℕ) → k < steps p v.job + 1 → test (node v.job k) ≡ true)
    of_job = all_below_decides _ (λ k. test (node v.job k) ≡ true) (λ k. same _) (steps p v.job + 1)

pub passes_at : (x y : Bool) → (not x || y) ≡ true → x ≡ true → y ≡ true
passes_at true y pass is = pass
passes_at false y pass is = absurd (differ is)
  where
    differ : false ≡ true → ⊥
    differ bad = cc

pub each_arc_at : (p : PlannedShop) (test : Node → Node → ℕ → Bool) (u v : Node) (d : ℕ) → each_arc p test ≡ true → Arc p u v d → test u v d ≡ true
each_arc_at p test u v d pass arc = go (kind_of_arc p u v d arc)
  where
    at : arc_passes p test u v ≡ true
    at = each_node_at p (λ w. arc_passes p test u w) v (each_node_at p (λ w. each_node p (λ x. arc_passes p test w x)) u pass (from.0) (from.1)) (to.0) (to.1)
      where
        ends : (u v : Node) (d : ℕ) → Arc p u v d → ((u.job < jobs p) × (u.place ≤ steps p u.job)) × ((v.job < jobs p) × (v.place ≤ steps p v.job))
        ends u v d (job_arc j k within) = ((steps_job p j k within, omega arith), (steps_job p j k within, omega arith))
        ends u v d (blocking_arc m a i k j l one other) = ((visits_job p i k m one.visits, omega (arith, one.visits.within)), (visits_job p j l m other.visits, omega (arith, other.visits.within)))

        from : (u.job < jobs p) × (u.place ≤ steps p u.job)
        from = (ends u v d arc).0

        to : (v.job < jobs p) × (v.place ≤ steps p v.job)
        to = (ends u v d arc).1

    go : ArcKinds p u v d → test u v d ≡ true
    go (inl (next, is)) = subst (λ (n : ℕ). test u v n ≡ true) (sym is) (passes_at (next_test p u v) _ (and_parts _ _ at).0 ((next_decides p u v).1 next))
    go (inr (behind, is)) = subst (λ (n : ℕ). test u v n ≡ true) (sym is) (passes_at (follows_test p u v) _ (and_parts _ _ at).1 ((follows_decides p u v).1 behind))

pub moments_fit : (p : PlannedShop) (kept : Node → ℕ) → all_below (λ j. leb (release p j) (kept (node j 0))) (jobs p) ≡ true → each_arc p (λ u v d. leb (kept u + d) (kept v)) ≡ true → MomentsFit p kept
moments_fit p kept starts pass = record {
  releases = (all_below_decides _ (λ j. release p j ≤ kept (node j 0)) (λ j. leb_decides (release p j) (kept (node j 0))) (jobs p)).0 starts;
  arcs = λ u v d arc. leb-true _ _ (each_arc_at p (λ u v d. leb (kept u + d) (kept v)) u v d pass arc);
}

-- no path is longer than the moments that fit
pub path_within : (p : PlannedShop) (kept : Node → ℕ) (nodes : List Node) (v : Node) (n : ℕ) → MomentsFit p kept → Path p nodes v n → n ≤ kept v
path_within p kept nodes v n fit (begins j within) = fit.releases j within
path_within p kept nodes v n fit (follows front u w m d path arc) = omega (arith, path_within p kept front u m fit path, fit.arcs u w d arc)

-- ranks rise where they do along each arc
pub ranks_rise : (p : PlannedShop) (rank : Node → ℕ) → each_arc p (λ u v d. ltb (rank u) (rank v)) ≡ true → RanksRise p rank
ranks_rise p rank all u v d arc = ltb-true (rank u) (rank v) (each_arc_at p (λ u v d. ltb (rank u) (rank v)) u v d all arc)

-- budgets are met where each is
pub budgets_decide : (p : PlannedShop) (kept : Node → ℕ) → Decides (all_below (λ j. leb (kept (leaving p j)) (budget p j)) (jobs p)) (MeetBudgets p kept)
budgets_decide p kept = all_below_decides (λ j. leb (kept (leaving p j)) (budget p j)) (λ j. kept (leaving p j) ≤ budget p j) (λ j. leb_decides (kept (leaving p j)) (budget p j)) (jobs p)
