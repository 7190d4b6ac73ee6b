-- What the lines of explanations say.
use Rattle.std.proofs.Common.{◌≡◌, ℕ, ◌+◌, ◌-◌, ◌<◌, ◌≤◌, List, [], ◌∷◌, ◌++◌, inl, inr, arith, refl, sym, ap, subst, ◌∙◌}
use Rattle.std.proofs.lemmas.{Bool.cases_lt, List.{append-nil, append_assoc}}
use Rattle.shop_base.specs.{declared.node.Node.Node, Plan.{PlannedShop, jobs, steps, nominal, clean, Stands}}
use Rattle.shop_base.specs.{Cell.{Cell, made, IsGone}, Sound.IsSound, Graph.{node, blocking_arc, HasArc, ArcsLead, IsSimpleCycle}}
use Rattle.alt_graph.specs.{Evidence.EndsIn, Sources.{IsJobArc, IsBlockingArc, IsLongestArc}}
use Rattle.people_names.specs.NameBooks.{NameBook}
use Rattle.plan_explain.specs.Labels.{label_of}
use Rattle.plan_verifier.specs.{declared.verdict.Judged.Judged, declared.verdict.Judged.TheVariants.{Accepted, Refused}}
use Rattle.plan_verifier.specs.Leavings.{AreLeavingsAhead, IsLastLeaving}
use Rattle.plan_explain.specs.FirstLines.{accepted_line, moments_below, IsAcceptedFirstLine, IsFirstLine}
use Rattle.plan_explain.specs.{declared.arcs.ArcKind.TheVariants.Blocking, Arcs.arc_kind, Cycles.{arc_line, arc_lines, cycle_lines}, Holds.node_bound_line}
use Rattle.plan_explain.specs.Chains.{reached_at, length_from, reached_line, reached_lines, IsLongestAheadTo, AreChainLines}
use Rattle.plan_explain.specs.LineLaws.{AreExactArcs, IsBoundLine, IsLastLine}
use Rattle.plan_explain.proofs.{Moments.moments_same, AheadPaths.{led, bound_length}}
use Rattle.plan_explain.proofs.ArcFacts.{next_arc, own_kind, blocking_kind, kind_longest, longest_time, last_from}

pub exact_arcs : (p : PlannedShop) → AreExactArcs p
exact_arcs p = record {
  job = λ j k within longest. own_kind p (node j k) (node j (k + 1)) (record { job = refl; place = refl }) longest;
  blocking = λ m a i k j l one other longer. blocking m a i k j l one other longer;
  time = λ u v arc. kind_longest p u v arc;
}
  where
    blocking : (m a i k j l : ℕ) → Stands p m a i k → Stands p m (a + 1) j l → ((n : ℕ) → IsJobArc p (node i (k + 1)) (node j l) n → n < clean p m)
        → arc_kind p (node i (k + 1)) (node j l) ≡ Blocking m (label_of p.shop i k) (label_of p.shop j l) (clean p m)
    blocking m a i k j l one other longer =
        let is : IsBlockingArc p (node i (k + 1)) (node j l) (clean p m) = record { machine = m; ahead = a; step = k; left = one; enters = other; place = refl; length = refl } in
        let step : k + 1 - 1 ≡ k = omega arith in
        blocking_kind p (node i (k + 1)) (node j l) (clean p m) is
        (λ next. longer (nominal p i (k + 1)) (next_arc p (node i (k + 1)) (node j l) next (clean p m, blocking_arc m a i k j l one other)))
        ∙ ap (λ n. Blocking n (label_of p.shop i (k + 1 - 1)) (label_of p.shop j l) (clean p n)) other.visits.here
        ∙ ap (λ n. Blocking m (label_of p.shop i n) (label_of p.shop j l) (clean p m)) step

module _ (names : NameBook) (p : PlannedShop) where
  -- the lines of nodes, and those of the nodes behind them
  lines_behind : (t : ℕ) (u : Node) (us : List Node) (v : Node) (vs : List Node) →
      reached_lines names p t u (us ++ v ∷ vs) ≡ reached_lines names p t u us ++ reached_lines names p (length_from p t u us) (last_from u us) (v ∷ vs)
  lines_behind t u [] v vs = refl
  lines_behind t u (w ∷ ws) v vs =
      let line = reached_line names (reached_at p t u w) w (arc_kind p u w) in
      ap (λ l. line ++ l) (lines_behind (reached_at p t u w) w ws v vs) ∙ sym (append_assoc line _ _)

module _ (names : NameBook) (p : PlannedShop) (c : Cell) (t : ℕ) (sound : IsSound p c) where
  pub each_line : (path nodes : List Node) (u v : Node) (n d : ℕ) (lines : List ℕ) → IsLongestAheadTo p c t path u n → IsLongestArc p u v d → AreChainLines names p c t (path ++ v ∷ nodes) lines
      → (front : List ℕ) × AreChainLines names p c t path front × (lines ≡ front ++ (reached_line names (n + d) v (arc_kind p u v) ++ reached_lines names p (n + d) v nodes))
  each_line [] nodes u v n d lines is arc are = absurd is.begins
  each_line (w ∷ ws) nodes u v n d lines is arc (b, bound, written) =
      let first = node_bound_line names p.shop w b in
      let ends = (led p c t w ws u n is).ends in
      let size = bound_length p c t w ws u n is b sound bound in (
        first ++ reached_lines names p b.moment w ws,
        (b, bound, refl),
        written
            ∙ ap (λ l. first ++ l) (lines_behind names p b.moment w ws v nodes)
            ∙ sym (append_assoc first (reached_lines names p b.moment w ws) _)
            ∙ ap (λ k. (first ++ reached_lines names p b.moment w ws) ++ reached_lines names p k (last_from w ws) (v ∷ nodes)) size
            ∙ ap (λ (x : Node). (first ++ reached_lines names p b.moment w ws) ++ reached_lines names p n x (v ∷ nodes)) ends
            ∙ ap (λ k. (first ++ reached_lines names p b.moment w ws) ++ (reached_line names (n + k) v (arc_kind p u v) ++ reached_lines names p (n + k) v nodes)) (longest_time p u v d arc),
      )

  -- the lines of the nodes behind the first one end with that of the last
  reached_last : (m : ℕ) (w x : Node) (xs : List Node) → (front : List ℕ) × (nodes : List Node) × (u : Node) × (w ∷ x ∷ xs ≡ nodes ++ u ∷ last_from x xs ∷ [])
      × (reached_lines names p m w (x ∷ xs) ≡ front ++ reached_line names (length_from p m w (x ∷ xs)) (last_from x xs) (arc_kind p u (last_from x xs)))
  reached_last m w x [] = ([], [], w, refl, append-nil _)
  reached_last m w x (y ∷ ys) =
      let line = reached_line names (reached_at p m w x) x (arc_kind p w x) in
      let (front, nodes, u, are, written) = reached_last (reached_at p m w x) x y ys in
      (line ++ front, w ∷ nodes, u, ap (λ (l : List Node). w ∷ l) are, ap (λ l. line ++ l) written ∙ sym (append_assoc line front _))

  pub last_line : (nodes : List Node) (v : Node) (n : ℕ) (lines : List ℕ) → IsLongestAheadTo p c t nodes v n → AreChainLines names p c t nodes lines
      → (front last : List ℕ) × (lines ≡ front ++ last) × IsLastLine names p c t nodes v n last
  last_line [] v n lines is are = absurd is.begins
  last_line (w ∷ []) v n lines is (b, bound, written) =
      let ends : w ≡ v = (led p c t w [] v n is).ends in
      let size : b.moment ≡ n = bound_length p c t w [] v n is b sound bound in (
        [],
        node_bound_line names p.shop w b,
        written ∙ append-nil _,
        inr (ap (λ (x : Node). x ∷ []) ends, subst (λ (x : Node). IsBoundLine names p c t x n (node_bound_line names p.shop w b)) ends (b, bound, size, refl)),
      )
  last_line (w ∷ x ∷ xs) v n lines is (b, bound, written) =
      let ends : last_from x xs ≡ v = (led p c t w (x ∷ xs) v n is).ends in
      let (front, nodes, u, are, lasts) = reached_last b.moment w x xs in
      let first = node_bound_line names p.shop w b in (
        first ++ front,
        reached_line names n v (arc_kind p u v),
        written
            ∙ ap (λ l. first ++ l) (lasts
            ∙ ap (λ k. front ++ reached_line names k (last_from x xs) (arc_kind p u (last_from x xs))) (bound_length p c t w (x ∷ xs) v n is b sound bound)
            ∙ ap (λ (y : Node). front ++ reached_line names n y (arc_kind p u y)) ends)
            ∙ sym (append_assoc first front _),
        inl (nodes, u, are ∙ ap (λ (y : Node). nodes ++ u ∷ y ∷ []) ends, refl),
      )

module _ (names : NameBook) (p : PlannedShop) where
  lines_close : (u : Node) (us : List Node) (v : Node) → ArcsLead p u us v
      → (lines : List ℕ) × (last : Node) × (arc_lines names p u us v ≡ lines ++ arc_line names p last v) × EndsIn (u ∷ us) last × HasArc p last v
  lines_close u [] v arc = ([], u, refl, ([], refl), arc)
  lines_close u (w ∷ ws) v arcs =
      let (lines, last, are, ends, arc) = lines_close w ws v arcs.1 in (
        arc_line names p u w ++ lines,
        last,
        ap (λ l. arc_line names p u w ++ l) are ∙ sym (append_assoc (arc_line names p u w) lines (arc_line names p last v)),
        (u ∷ ends.0, ap (λ (nodes : List Node). u ∷ nodes) ends.1),
        arc,
      )

  pub cycle_closes : (first : Node) (rest : List Node) → IsSimpleCycle p (first ∷ rest)
      → (lines : List ℕ) × (last : Node) × (cycle_lines names p (first ∷ rest) ≡ lines ++ arc_line names p last first) × EndsIn (first ∷ rest) last × HasArc p last first
  cycle_closes first rest cycle = lines_close first rest first cycle.1

-- a job leaves once
leaves_once : (p : PlannedShop) (c : Cell) (t : ℕ) (one other : ℕ → ℕ) → AreLeavingsAhead p c t one → AreLeavingsAhead p c t other → (j : ℕ) → j < jobs p → one j ≡ other j
leaves_once p c t one other here there j inside = elim (cases_lt (steps p j) (made c j)) [
  | inl gone ↦ here.left j inside gone ∙ sym (there.left j inside gone)
  | inr still ↦ (
      let first = here.ahead j inside (λ gone. omega (arith, still, (let is : IsGone p c j = gone in is))) in
      let second = there.ahead j inside (λ gone. omega (arith, still, (let is : IsGone p c j = gone in is))) in
      omega (arith, second.longest first.reached.0 (one j) first.reached.1, first.longest second.reached.0 (other j) second.reached.1))
]

last_le : (p : PlannedShop) (one other : ℕ → ℕ) (m n : ℕ) → ((j : ℕ) → j < jobs p → one j ≡ other j) → IsLastLeaving p one m → IsLastLeaving p other n → m ≤ n
last_le p one other m n same here there = (let (j, inside, is) = here.reached in omega (arith, is, same j inside, there.bound j inside))

accepted_once : (p : PlannedShop) (c : Cell) (t : ℕ) (one other : List ℕ) → IsAcceptedFirstLine p c t one → IsAcceptedFirstLine p c t other → one ≡ other
accepted_once p c t one other here there =
    let same = leaves_once p c t here.leaves there.leaves here.leavings there.leavings in
    let (m, last, written) = here.text in
    let (n, end, so) = there.text in
    let makespans : m ≡ n = omega (arith, last_le p here.leaves there.leaves m n same last end, last_le p there.leaves here.leaves n m (λ j inside. sym (same j inside)) end last) in
    written ∙ ap (λ k. accepted_line k (moments_below here.leaves (jobs p))) makespans ∙ ap (accepted_line n) (moments_same here.leaves there.leaves (jobs p) same) ∙ sym so

pub first_line_once : (p : PlannedShop) (c : Cell) (t : ℕ) (verdict : Judged) (one other : List ℕ) → IsFirstLine p c t verdict one → IsFirstLine p c t verdict other → one ≡ other
first_line_once p c t (Accepted times) one other here there = accepted_once p c t one other here there
first_line_once p c t (Refused why) one other here there = here ∙ sym there
