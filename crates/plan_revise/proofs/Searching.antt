-- Nodes found one after another: what a mark more changes, and that in the end exactly the nodes are marked that are reached.
use Rattle.std.proofs.Common.{◌≡◌, ◌≢◌, ℕ, zero, suc, ◌+◌, ◌<◌, ◌≤◌, inl, inr, List, [], ◌∷◌, ◌++◌, length, get_or, set, replicate, Bool, true, false, cond, nat_eq, Option, None, Some, refl, sym, ap, ◌∙◌, subst, arith}
use Rattle.std.specs.Prelude.{OnOk, Result, Ok, Err}
use Rattle.std.specs.Option.{ForSome}
use Rattle.std.proofs.lemmas.Bool.{cases_eq, cases_lt, ne_eqb}
use Rattle.std.proofs.lemmas.List.{get_or_append_left, get_or_push, length_push, length-set, get_or-set_same, get_or-set_other, get_or-replicate, length-replicate}
use Rattle.std.proofs.lemmas.List.Sums.{sum_by-set, sum_by-cons}
use Rattle.shop_base.specs.declared.limits.TheConstants.{MAX_STEPS}
use Rattle.shop_base.specs.declared.node.Node.{Node}
use Rattle.shop_base.specs.Plan.{PlannedShop, jobs, machines, steps, machine_of, order, job_at, clean, Visits, Stands, IsWellShaped}
use Rattle.shop_base.specs.Graph.{node, IsNode, Arc, HasArc}
use Rattle.shop_base.proofs.Visits.{stands_once, steps_job}
use Rattle.shop_base.proofs.Places.{stands_at, same_stand}
use Rattle.alt_graph.specs.Layout.{number_of}
use Rattle.alt_graph.specs.Places.{node_at}
use Rattle.alt_graph.specs.PlanGraph.{PlanGraph, IsSoundGraph}
use Rattle.alt_graph.specs.Sources.{IsJobArc, IsBlockingArc, IsTarget}
use Rattle.alt_graph.proofs.ArcKinds.{arc_kind, target_node, job_target_once, blocking_target_once}
use Rattle.alt_graph.proofs.NodeNumbers.{number_inside, number_same}
use Rattle.plan_revise.specs.declared.reaching.Found.{Found}
use Rattle.plan_revise.proofs.Places.{count_no}
use Rattle.plan_revise.specs.Reaching.{Reaches, is_itself, goes_on, IsMarked, unmarked, AreFound, AreFollowed, HasFoundMore, AreReached, ReachesLeaving}

-- ---- nothing is marked

none_marked : (n : ℕ) → unmarked (replicate n false) ≡ n
none_marked zero = refl
none_marked (suc n) =
    let more : unmarked (replicate (suc n) false) ≡ 1 + unmarked (replicate n false) = sum_by-cons (λ marked. cond marked 0 1) false (replicate n false) in
    omega (arith, more, none_marked n)

differ : false ≡ true → ⊥
differ e = cc

module _ (g : PlanGraph) (sound : IsSoundGraph g) where
  -- a node's number is one of the marks
  pub mark-inside : (found : Found) → AreFound g found → (v : Node) → IsNode g.plan v → number_of g.firsts v < length found.marks.items
  mark-inside found are v is = omega (arith, are.size, number_inside g.plan g.firsts sound.firsts v is)

  pub found-none : (found : Found) → found.nodes.items ≡ [] → found.marks.items ≡ replicate (get_or g.firsts (jobs g.plan) 0) false → AreFound g found
  found-none found no_node no_mark = record {
    size = ap length no_mark ∙ length-replicate (get_or g.firsts (jobs g.plan) 0) false;
    count = omega (arith, ap length no_node, ap length no_mark, ap unmarked no_mark, none_marked (get_or g.firsts (jobs g.plan) 0), length-replicate (get_or g.firsts (jobs g.plan) 0) false);
    nodes_in = λ i less. absurd (omega (arith, less, ap length no_node));
    reached = λ i less. absurd (omega (arith, less, ap length no_node));
    listed = λ v is marked. absurd (differ (sym (get_or-replicate (get_or g.firsts (jobs g.plan) 0) (number_of g.firsts v) false false (number_inside g.plan g.firsts sound.firsts v is))
        ∙ sym (ap (λ (marks : List Bool). get_or marks (number_of g.firsts v) false) no_mark) ∙ marked));
  }

  -- ---- a node more

  module _ (old new : Found) (are : AreFound g old) (v : Node) (is : IsNode g.plan v) (reached : Reaches g.plan old.origin v) (free : get_or old.marks.items (number_of g.firsts v) false ≡ false)
      (origin : new.origin ≡ old.origin) (nodes : new.nodes.items ≡ old.nodes.items ++ v ∷ []) (marks : new.marks.items ≡ set old.marks.items (number_of g.firsts v) true) where
    inside : number_of g.firsts v < length old.marks.items
    inside = mark-inside old are v is

    pub more-marked : IsMarked g new.marks.items v
    more-marked = ap (λ (xs : List Bool). get_or xs (number_of g.firsts v) false) marks ∙ get_or-set_same old.marks.items (number_of g.firsts v) true false inside

    still : (w : Node) → number_of g.firsts w ≢ number_of g.firsts v → get_or new.marks.items (number_of g.firsts w) false ≡ get_or old.marks.items (number_of g.firsts w) false
    still w other = ap (λ (xs : List Bool). get_or xs (number_of g.firsts w) false) marks ∙ get_or-set_other old.marks.items (number_of g.firsts v) (number_of g.firsts w) true false other

    earlier : (i : ℕ) → i < length old.nodes.items → node_at new.nodes.items i ≡ node_at old.nodes.items i
    earlier i less = ap (λ (xs : List Node). get_or xs i (node 0 0)) nodes ∙ get_or_append_left old.nodes.items (v ∷ []) (node 0 0) i less

    newest : (i : ℕ) → length old.nodes.items ≡ i → node_at new.nodes.items i ≡ v
    newest i same = ap (λ (xs : List Node). get_or xs i (node 0 0)) nodes ∙ get_or_push old.nodes.items v (node 0 0) i same

    longer : length new.nodes.items ≡ length old.nodes.items + 1
    longer = omega (arith, ap length nodes, length_push old.nodes.items v)

    at_each : (P : Node → Type 0) → ((i : ℕ) → i < length old.nodes.items → P (node_at old.nodes.items i)) → P v → (i : ℕ) → i < length new.nodes.items → P (node_at new.nodes.items i)
    at_each P before here i less = elim (cases_lt i (length old.nodes.items)) [
      | inl lower ↦ subst P (sym (earlier i lower)) (before i lower)
      | inr higher ↦ subst P (sym (newest i (omega (arith, less, higher, longer)))) here
    ]

    pub more-kept : HasFoundMore g old new
    more-kept = record {
      origin = origin;
      size = omega (arith, longer);
      nodes = earlier;
      marks = λ w marked. elim (cases_eq (number_of g.firsts w) (number_of g.firsts v)) [
        | inl same ↦ ap (λ n. get_or new.marks.items n false) same ∙ more-marked
        | inr other ↦ still w other ∙ marked
      ];
    }

    pub more-found : AreFound g new
    more-found = record {
      size = ap length marks ∙ length-set old.marks.items (number_of g.firsts v) true ∙ are.size;
      count = omega (
        arith,
        longer,
        are.count,
        ap length marks,
        length-set old.marks.items (number_of g.firsts v) true,
        ap unmarked marks,
        sum_by-set (λ (marked : Bool). cond {A = ℕ} marked 0 1) old.marks.items (number_of g.firsts v) true false inside,
        ap {B = ℕ} (λ (marked : Bool). cond marked 0 1) free,
      );
      nodes_in = at_each (IsNode g.plan) are.nodes_in is;
      reached = at_each (Reaches g.plan new.origin) (λ i less. subst (λ u. Reaches g.plan u (node_at old.nodes.items i)) (sym origin) (are.reached i less)) (subst (λ u. Reaches g.plan u v) (sym origin) reached);
      listed = λ w other marked. elim (cases_eq (number_of g.firsts w) (number_of g.firsts v)) [
        | inl same ↦ (length old.nodes.items, omega (arith, longer), newest (length old.nodes.items) refl ∙ sym (number_same g.plan g.firsts sound.firsts w v other is same))
        | inr apart ↦ (let there = are.listed w other (sym (still w apart) ∙ marked) in (there.0, omega (arith, there.1, longer), earlier there.0 there.1 ∙ there.2))
      ];
    }

-- nothing is changed
pub same-kept : (g : PlanGraph) (found : Found) → HasFoundMore g found found
same-kept g found = record { origin = refl; size = omega arith; nodes = λ i less. refl; marks = λ v marked. marked }

pub kept-both : (g : PlanGraph) (old mid new : Found) → HasFoundMore g old mid → HasFoundMore g mid new → HasFoundMore g old new
kept-both g old mid new one other = record {
  origin = other.origin ∙ one.origin;
  size = omega (arith, one.size, other.size);
  nodes = λ i less. other.nodes i (omega (arith, less, one.size)) ∙ one.nodes i less;
  marks = λ v marked. other.marks v (one.marks v marked);
}

-- ---- the arcs out of a node

-- what holds of the target of a kind holds wherever an arc of the kind leads
target_all : (Kind : Node → Node → ℕ → Type 0) (P : Node → Type 0) (u : Node) → ((v w : Node) (d e : ℕ) → Kind u v d → Kind u w e → v ≡ w) → (found : Option Node) → IsTarget Kind u found → ForSome found P
    → (w : Node) (d : ℕ) → Kind u w d → P w
target_all Kind P u once None none all w d kind = absurd (none w d kind)
target_all Kind P u once (Some v) (e, there) all w d kind = subst P (once v w e d there kind) (all v refl)

-- a target is a node that is reached
pub target-reached : (p : PlannedShop) (Kind : Node → Node → ℕ → Type 0) (origin u : Node) → ((v : Node) (d : ℕ) → Kind u v d → HasArc p u v) → Reaches p origin u → (found : Option Node) → IsTarget Kind u found → (v : Node) → found ≡ Some v → Reaches p origin v
target-reached p Kind origin u arcs reached None target v same = absurd (none_some v same)
  where
    none_some : (v : Node) → None ≡ Some v → ⊥
    none_some v is = cc
target-reached p Kind origin u arcs reached (Some w) (d, kind) v same = subst (Reaches p origin) (same_some w v same) (goes_on u w reached (arcs w d kind))
  where
    same_some : (w v : Node) → Some w ≡ Some v → w ≡ v
    same_some w v is = cc

pub followed-more : (g : PlanGraph) → IsSoundGraph g → (old mid new : Found) (place : ℕ) (u : Node) (along behind : Option Node) → AreFollowed g place old → place < length old.nodes.items → u ≡ node_at old.nodes.items place → HasFoundMore g old mid → HasFoundMore g mid new
    → IsTarget (IsJobArc g.plan) u along → ForSome along (IsMarked g mid.marks.items) → IsTarget (IsBlockingArc g.plan) u behind → ForSome behind (IsMarked g new.marks.items) → AreFollowed g (place + 1) new
followed-more g sound old mid new place u along behind followed within is first second target_along marked_along target_behind marked_behind i w less (d, arc) = elim (cases_lt i place) [
  | inl lower ↦ both.marks w (followed i w lower (d, subst (λ x. Arc g.plan x w d) (both.nodes i (omega (arith, lower, within))) arc))
  | inr higher ↦ (let same : i ≡ place = omega (arith, less, higher) in
      let at : node_at new.nodes.items i ≡ u = ap (node_at new.nodes.items) same ∙ both.nodes place within ∙ sym is in
      elim (arc_kind g.plan u w d (subst (λ x. Arc g.plan x w d) at arc)) [
        | inl job ↦ second.marks w (target_all (IsJobArc g.plan) (IsMarked g mid.marks.items) u (λ v w d e. job_target_once g.plan sound.shaped u v w d e) along target_along marked_along w d job)
        | inr blocks ↦ target_all (IsBlockingArc g.plan) (IsMarked g new.marks.items) u (λ v w d e. blocking_target_once g.plan sound.shaped u v w d e) behind target_behind marked_behind w d blocks
      ])
]
  where
    both : HasFoundMore g old new
    both = kept-both g old mid new first second

-- once all arcs are followed, exactly the nodes are marked that are reached
pub all-reached : (g : PlanGraph) → IsSoundGraph g → (origin : Node) (n : ℕ) (found : Found) → IsNode g.plan origin → AreFound g found → AreFollowed g n found → length found.nodes.items ≤ n → found.origin ≡ origin → IsMarked g found.marks.items origin → AreReached g origin found
all-reached g sound origin n found is are followed all same begun = record {
  sound = sound;
  origin = same;
  size = are.size;
  exact = λ v inside. (λ marked. (let there = are.listed v inside marked in subst (λ u. Reaches g.plan u v) same (subst (Reaches g.plan found.origin) there.2 (are.reached there.0 there.1))), λ reached. (every v reached).1);
}
  where
    every : (v : Node) → Reaches g.plan origin v → IsNode g.plan v × IsMarked g found.marks.items v
    every _ is_itself = (is, begun)
    every _ (goes_on u v rest (d, arc)) =
        let before = every u rest in
        let there = are.listed u before.0 before.1 in
        (target_node g.plan u v d arc, followed there.0 v (omega (arith, there.1, all)) (subst (λ x. HasArc g.plan x v) (sym there.2) (d, arc)))

-- ---- visits in turn

-- a step's number is small
pub few-place : (p : PlannedShop) → IsWellShaped p → (j k : ℕ) → k < steps p j → k < MAX_STEPS
few-place p shaped j k less = omega (arith, less, (shaped.shop.routes j (steps_job p j k less)).few_steps)

module _ (p : PlannedShop) (shaped : IsWellShaped p) (m : ℕ) where
  -- who is entered behind a visit stands behind it
  pub next-stands : (a : ℕ) (u v w : Node) (d : ℕ) → Stands p m a u.job u.place → w ≡ node u.job (u.place + 1) → IsBlockingArc p w v d → Stands p m (a + 1) v.job v.place
  next-stands a u v w d stands is arc = subst (λ x. Stands p x (a + 1) v.job v.place) machine (subst (λ b. Stands p arc.machine (b + 1) v.job v.place) place arc.enters)
    where
      step : arc.step ≡ u.place
      step = omega (arith, arc.place, ap (λ (x : Node). x.place) is)

      left : Stands p arc.machine arc.ahead u.job u.place
      left = subst (λ k. Stands p arc.machine arc.ahead u.job k) step (subst (λ i. Stands p arc.machine arc.ahead i arc.step) (ap (λ (x : Node). x.job) is) arc.left)

      machine : arc.machine ≡ m
      machine = sym left.visits.here ∙ stands.visits.here

      place : arc.ahead ≡ a
      place = stands_once p m arc.ahead a u.job u.place (subst (λ x. Stands p x arc.ahead u.job u.place) machine left) stands

  -- where nobody is, it stands last
  pub next-none : m < machines p → (a : ℕ) (u w : Node) → Stands p m a u.job u.place → w ≡ node u.job (u.place + 1) → ((v : Node) (d : ℕ) → IsBlockingArc p w v d → ⊥) → a + 1 < length (order p m) → ⊥
  next-none inside a u w stands is none less =
      let next = stands_at p m (a + 1) shaped inside less in
      none (node (job_at p m (a + 1)) next.0) (clean p m) (record {
        machine = m;
        ahead = a;
        step = u.place;
        left = subst (λ i. Stands p m a i u.place) (sym (ap (λ (x : Node). x.job) is)) stands;
        enters = next.1;
        place = ap (λ (x : Node). x.place) is;
        length = refl;
      })

  -- at a place whose visit's leaving isn't reached, none is
  pub none-left : (x : Node) (a j k : ℕ) → Stands p m a j k → (Reaches p x (node j (k + 1)) → ⊥) → ReachesLeaving p x m a → ⊥
  none-left x a j k stands apart (i, l, other, reached) =
      let same = same_stand p m a a i l j k shaped refl other stands in
      apart (subst (Reaches p x) (ap (λ y. node y (l + 1)) same.0 ∙ ap (λ y. node j (y + 1)) same.1) reached)

  -- a job's first visit stands at its first place
  pub first-stands : (j k : ℕ) → 0 < length (order p m) → job_at p m 0 ≡ j → Visits p j k m → ((l : ℕ) → l < k → machine_of p j l ≢ m) → Stands p m 0 j k
  first-stands j k some here visits none = record { within = some; job = here; visits = visits; turn = sym (count_no (λ i. nat_eq (machine_of p j i) m) k (λ l less. ne_eqb (machine_of p j l) m (none l less))) }

-- what follows from two answers follows from them where there is no fault
pub on_both : {T E : Type 0} (r : Result T E) (A B C : Type 0) → (A → B → C) → OnOk r A → OnOk r B → OnOk r C
on_both (Ok x) A B C from one other = from one other
on_both (Err e) A B C from one other = tt
