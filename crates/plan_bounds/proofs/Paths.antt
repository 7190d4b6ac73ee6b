-- Paths along one job, and along the order of a machine: what is known of whatever leads on along arcs.
use Rattle.std.proofs.Common.{◌≡◌, ℕ, zero, suc, ◌+◌, ◌-◌, ◌<◌, ◌≤◌, [], ◌∷◌, ◌++◌, drop, arith, ap, subst, add-one, drop_of_length-le, nat_eq, eq-eqb}
use Rattle.std.proofs.lemmas.List.Sums.{sum_by_more, sum_by-drop_more}
use Rattle.shop_base.specs.declared.shop.Step.{Step}
use Rattle.shop_base.specs.declared.node.Node.{Node}
use Rattle.shop_base.specs.Shop.{no_step}
use Rattle.shop_base.specs.Work.{route_work}
use Rattle.shop_base.specs.Plan.{PlannedShop, jobs, route, steps, machine_of, nominal, release, clean, job_at, Visits, Stands, IsWellShaped}
use Rattle.shop_base.specs.Graph.{node, leaving, Arc, job_arc, blocking_arc, begins, follows}
use Rattle.shop_base.proofs.Counting.{count_less, count_rises}
use Rattle.shop_base.proofs.Visits.{visits_machine, visits-stands}
use Rattle.shop_base.proofs.Places.{stands_at}
use Rattle.plan_bounds.specs.Bounds.{times_of, head}
use Rattle.plan_bounds.specs.BoundsLaw.{HasPathOf}

module _ (p : PlannedShop) where
  pub shorter : (v : Node) (n k : ℕ) → HasPathOf p v n → k ≤ n → HasPathOf p v k
  shorter v n k found less = record { nodes = found.nodes; size = found.size; path = found.path; long = omega (arith, found.long) }

  pub onward : (u v : Node) (n d : ℕ) → HasPathOf p u n → Arc p u v d → HasPathOf p v (n + d)
  onward u v n d found arc = record {
    nodes = found.nodes ++ v ∷ [];
    size = found.size + d;
    path = follows found.nodes u v found.size d found.path arc;
    long = omega (arith, found.long);
  }

  pub begun : (j : ℕ) → j < jobs p → HasPathOf p (node j 0) (release p j)
  begun j inside = record { nodes = node j 0 ∷ []; size = release p j; path = begins j inside; long = omega arith }

  -- R v n: something that leads to the node is at least n long
  module _ (R : Node → ℕ → Type 0) (less : (v : Node) (n k : ℕ) → R v n → k ≤ n → R v k) (on : (u v : Node) (n d : ℕ) → R u n → Arc p u v d → R v (n + d)) where
    -- to each place of a job something leads that is as long as its head
    pub to_place : (j k : ℕ) → R (node j 0) (release p j) → k ≤ steps p j → R (node j k) (head (times_of p) j k)
    to_place j zero begun within = less (node j 0) _ _ begun (omega arith)
    to_place j (suc k) begun within =
        let next = on (node j k) (node j (k + 1)) _ _ (to_place j k begun (omega arith)) (job_arc j k (omega arith)) in
        let at = subst (λ (l : ℕ). R (node j l) (head (times_of p) j k + nominal p j k)) (add-one k) next in
        less (node j (suc k)) _ _ at (let more = rw add-one at (sum_by_more (λ (s : Step). s.nominal) (route p j) k no_step (omega arith)) in omega (arith, more))

    -- and from each place on to the leaving
    pub to_leaving : (d j k n : ℕ) → k + d ≡ steps p j → R (node j k) n → R (leaving p j) (n + route_work (drop k (route p j)))
    to_leaving zero j k n is found =
        let last : k ≡ steps p j = omega (arith, is) in
        let none : route_work (drop k (route p j)) ≡ 0 = ap route_work (drop_of_length-le (route p j) (omega (arith, last))) in
        less (leaving p j) n _ (subst (λ (l : ℕ). R (node j l) n) last found) (omega (arith, none))
    to_leaving (suc d) j k n is found =
        let next = on (node j k) (node j (k + 1)) _ _ found (job_arc j k (omega (arith, is))) in
        let more = sum_by-drop_more (λ (s : Step). s.nominal) (route p j) k no_step (omega (arith, is)) in
        less (leaving p j) _ _ (to_leaving d j (k + 1) (n + nominal p j k) (omega (arith, is)) next) (omega (arith, more))

    -- from where a job leaves a machine on to the entry of a later place of its order
    to_later : IsWellShaped p → (m a i k n : ℕ) → Stands p m a i k → R (node i (k + 1)) n → (d b j l : ℕ) → b ≡ a + suc d → Stands p m b j l → R (node j l) (n + clean p m)
    to_later shaped m a i k n here left zero b j l is there =
        on (node i (k + 1)) (node j l) n (clean p m) left (blocking_arc m a i k j l here (subst (λ (c : ℕ). Stands p m c j l) (omega (arith, is)) there))
    to_later shaped m a i k n here left (suc d) b j l is there =
        let c = a + suc d in
        let (e, between) = stands_at p m c shaped (visits_machine p j l m shaped there.visits) (omega (arith, is, there.within)) in
        let entered = to_later shaped m a i k n here left d c (job_at p m c) e (omega arith) between in
        let gone = on (node (job_at p m c) e) (node (job_at p m c) (e + 1)) _ _ entered (job_arc (job_at p m c) e between.visits.within) in
        let next : Stands p m (c + 1) j l = subst (λ (x : ℕ). Stands p m x j l) (omega (arith, is)) there in
        less (node j l) _ _ (on (node (job_at p m c) (e + 1)) (node j l) _ _ gone (blocking_arc m c (job_at p m c) e j l between next)) (omega arith)

    -- a job visits a machine again at least the cleaning time after it has left it
    pub to_again : IsWellShaped p → (m j i k n : ℕ) → Visits p j i m → Visits p j k m → i < k → R (node j (i + 1)) n → R (node j k) (n + clean p m)
    to_again shaped m j i k n one other before left =
        let (a, here) = visits-stands p j i m shaped one in
        let (b, there) = visits-stands p j k m shaped other in
        let rises = count_rises (λ (x : ℕ). nat_eq (machine_of p j x) m) i k (eq-eqb (machine_of p j i) m one.here) before in
        let later : a < b = count_less (λ (x : ℕ). nat_eq (job_at p m x) j) a b (omega (arith, here.turn, there.turn, rises)) in
        to_later shaped m a j i n here left (b - a - 1) b j k (omega (arith, later)) there
