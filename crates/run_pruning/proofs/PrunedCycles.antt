-- A plan without a cycle has none without jobs, nor without the machine that nobody visits.
use Rattle.std.proofs.Common.{◌≡◌, ℕ, zero, suc, ◌+◌, ◌-◌, ◌<◌, inl, inr, List, [], ◌∷◌, ◌++◌, length, Bool, true, sym, ap, ◌∙◌, subst, arith}
use Rattle.std.proofs.lemmas.Bool.{cases_lt}
use Rattle.shop_base.specs.declared.node.Node.{Node}
use Rattle.shop_base.specs.Plan.{PlannedShop, jobs, steps, nominal, order, job_at, clean, Stands, IsWellShaped}
use Rattle.shop_base.specs.Graph.{Arc, job_arc, blocking_arc, node, HasArc, ArcsLead}
use Rattle.shop_base.proofs.{Cycles.first_arc, Cycles.source_node, Counting.count_grows, Places.stands_at, Visits.steps_job, Visits.visits_machine}
use Rattle.alt_graph.proofs.NodeNumbers.{node_same}
use Rattle.alt_graph.proofs.ClosedWalks.{leads_append, no_way_back, no_cycle_by_ways}
use Rattle.plan_verifier.specs.Accepted.{HasNoCycle}
use Rattle.run_pruning.specs.Staying.{stays}
use Rattle.run_pruning.specs.Pruned.{pruned}
use Rattle.run_pruning.specs.RestLaw.{new_node}
use Rattle.run_pruning.specs.Spare.{narrowed}
use Rattle.run_pruning.specs.CycleLaw.{NoCycleComesWithoutJobs, NoCycleComesWithoutSpare}
use Rattle.run_pruning.proofs.Left.{number_once, stays_at}
use Rattle.run_pruning.proofs.PrunedShops.{old_job, route_kept, stood}
use Rattle.run_pruning.proofs.Alike.{AreAlike, alike_back, route_there, stands_there}
use Rattle.run_pruning.proofs.Narrowed.{narrowed-alike}
use Rattle.run_pruning.proofs.WithoutSpare.{left_enough}

-- ---- along an order

module _ (p : PlannedShop) (shaped : IsWellShaped p) where
  -- from the leaving of a machine a way leads to each later entry
  later : (m a n j k i l : ℕ) → Stands p m a j k → Stands p m (a + 1 + n) i l → (ws : List Node) × ArcsLead p (node j (k + 1)) ws (node i l)
  later m a zero j k i l one other = ([], (clean p m, blocking_arc m a j k i l one (subst (λ x. Stands p m x i l) (omega arith) other)))
  later m a (suc n) j k i l one other =
      let (o, between) = stands_at p m (a + 1) shaped (visits_machine p j k m shaped one.visits) (omega (arith, other.within)) in
      let (ws, leads) = later m (a + 1) n (job_at p m (a + 1)) o i l between (subst (λ x. Stands p m x i l) (omega arith) other) in (
        node (job_at p m (a + 1)) o ∷ node (job_at p m (a + 1)) (o + 1) ∷ ws,
        (
          (clean p m, blocking_arc m a j k (job_at p m (a + 1)) o one between),
          ((nominal p (job_at p m (a + 1)) o, job_arc (job_at p m (a + 1)) o between.visits.within), leads),
        ),
      )

  module _ (marks : List Bool) (count : length marks ≡ jobs p) where
    abbrev q : PlannedShop
    q = pruned marks p

    -- what a node of the jobs that stay was
    record Was (u x : Node) : Type 0 where
      kept : stays marks u.job ≡ true
      is : x ≡ new_node marks u

    -- a way from a node that stays to what another was
    record Leads (u y : Node) : Type 0 where
      v : Node
      was : Was v y
      ws : List Node
      leads : ArcsLead p u ws v

    same_was : (u v x : Node) → Was u x → Was v x → v ≡ u
    same_was u v x one other = node_same v u (number_once marks v.job u.job other.kept one.kept (ap (λ (z : Node). z.job) (sym other.is ∙ one.is))) (ap (λ (z : Node). z.place) (sym other.is ∙ one.is))

    arc_leads : (u x y : Node) (d : ℕ) → Was u x → Arc q x y d → Leads u y
    arc_leads u _ _ _ was (job_arc i k within) =
        let (j, less, kept, is) = old_job p marks count i (steps_job q i k within) in
        let same : node j k ≡ u = same_was u (node j k) (node i k) was (record { kept = kept; is = ap (λ z. node z k) (sym is) }) in
        record {
          v = node j (k + 1);
          was = record { kept = kept; is = ap (λ z. node z (k + 1)) (sym is) };
          ws = [];
          leads = subst (λ z. HasArc p z (node j (k + 1))) same (nominal p j k, job_arc j k (omega (arith, within, ap length (route_kept p marks count j kept), ap (steps q) is)));
        }
    arc_leads u _ _ _ was (blocking_arc m b x k y l one other) =
        let (j, a, kept, is, stands, place) = stood p marks count shaped m b x k one in
        let (i, a2, kept2, is2, stands2, place2) = stood p marks count shaped m (b + 1) y l other in
        let same : node j (k + 1) ≡ u = same_was u (node j (k + 1)) (node x (k + 1)) was (record { kept = kept; is = ap (λ z. node z (k + 1)) (sym is) }) in
        let more : a < a2 = elim (cases_lt a a2) [
          | inl less ↦ less
          | inr past ↦ absurd (omega (arith, place, place2, count_grows (stays_at marks (order p m)) a2 a past))
        ] in
        let (ws, leads) = later m a (a2 - (a + 1)) j k i l stands (subst (λ z. Stands p m z i l) (omega (arith, more)) stands2) in
        record {
          v = node i l;
          was = record { kept = kept2; is = ap (λ z. node z l) (sym is2) };
          ws = ws;
          leads = subst (λ z. ArcsLead p z ws (node i l)) same leads;
        }

    way_leads : (u x y : Node) (xs : List Node) → Was u x → ArcsLead q x xs y → Leads u y
    way_leads u x y [] was (d, arc) = arc_leads u x y d was arc
    way_leads u x y (z ∷ xs) was ((d, arc), rest) =
        let first = arc_leads u x z d was arc in
        let others = way_leads first.v z y xs first.was rest in
        record { v = others.v; was = others.was; ws = first.ws ++ first.v ∷ others.ws; leads = leads_append p u first.ws first.v others.ws others.v first.leads others.leads }

    no_cycle_left : HasNoCycle p → HasNoCycle q
    no_cycle_left acyclic [] cycle = cycle
    no_cycle_left acyclic (x ∷ xs) (distinct, leads) =
        let (j, less, kept, is) = old_job p marks count x.job (let (w, arc) = first_arc q x xs x leads in (source_node q x w arc.0 arc.1).job) in
        let u : Node = node j x.place in
        let was : Was u x = record { kept = kept; is = ap (λ z. node z x.place) (sym is) } in
        let found = way_leads u x x xs was leads in
        no_way_back p u found.ws acyclic (subst (λ z. ArcsLead p u found.ws z) (same_was u found.v x was found.was) found.leads)

pub no_cycle_comes_without_jobs-holds : NoCycleComesWithoutJobs
no_cycle_comes_without_jobs-holds p marks shaped choice acyclic = no_cycle_left p shaped marks choice.count acyclic

-- ---- without a machine

arc_there : (p q : PlannedShop) → AreAlike p q → (u v : Node) → HasArc p u v → HasArc q u v
arc_there p q alike u v (d, arc) = at u v d arc
  where
    at : (u v : Node) (d : ℕ) → Arc p u v d → HasArc q u v
    at _ _ _ (job_arc j k within) = (nominal q j k, job_arc j k (omega (arith, within, ap length (route_there p q alike j))))
    at _ _ _ (blocking_arc m a i k j l one other) = (clean q m, blocking_arc m a i k j l (stands_there p q alike m a i k one) (stands_there p q alike m (a + 1) j l other))

pub no_cycle_comes_without_spare-holds : NoCycleComesWithoutSpare
no_cycle_comes_without_spare-holds p plant shaped acyclic =
    let (n, enough, is) = left_enough p shaped plant in
    subst HasNoCycle is (no_cycle_by_ways p (narrowed n p) (λ u v arc. ([], arc_there (narrowed n p) p (alike_back p (narrowed n p) (narrowed-alike p n shaped enough)) u v arc)) acyclic)
