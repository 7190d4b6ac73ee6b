-- Tests that decide what is said of what is ahead, on a plan that is written out: what holds up a node, reports by the moment of what they held up, deadlines, and moments that fit.
use Rattle.std.proofs.Common.{◌≡◌, ℕ, ◌+◌, ◌-◌, ◌<◌, ◌≤◌, List, [], ◌∷◌, length, Bool, true, not, ◌&&◌, ◌||◌, leb, eqb, Decides, ◌⊎◌, inl, inr, sym, subst, arith}
use Rattle.std.proofs.lemmas.Bool.{and_parts, leb-true}
use Rattle.std.proofs.lemmas.Bool.Decides.{Decides-and, Decides-or, Decides-eqb}
use Rattle.shop_base.specs.declared.node.Node.{Node}
use Rattle.shop_base.specs.Plan.{PlannedShop, jobs, steps, budget}
use Rattle.shop_base.specs.Cell.{Cell, made, since, entries, IsGone}
use Rattle.shop_base.specs.Activity.{Activity, Arrival, Operation, Cleaning, GoesOn}
use Rattle.shop_base.specs.Report.{ended, at}
use Rattle.shop_base.specs.Run.{Event, Reported, Moved, after}
use Rattle.shop_base.specs.Graph.{node, leaving, Arc}
use Rattle.shop_base.specs.Ahead.{next_node, HoldsUp, MomentsFitAhead}
use Rattle.shop_base.specs.Within.{AreByTheirOwn}
use Rattle.shop_base.specs.Deadlines.{IsPressed, AreDeadlines}
use Rattle.shop_base.proofs.Visits.{visits_job}
use Rattle.shop_base.proofs.CellTests.{all_below, some_below, all_below_decides, some_below_decides, leb_decides, due_of, due-is}
use Rattle.shop_base.proofs.RunTests.{each_going, each_going_decides, gone_test, gone_decides, implies_decides}
use Rattle.shop_base.proofs.GraphTests.{stands_test, stands_decides, node_test, node_decides, arc_test, arc_decides, each_node, each_node_at, passes_at, each_arc, each_arc_at, budgets_decide}

-- whether the activity holds up the node
abbrev pub holds_test : PlannedShop → Cell → Activity → Node → Bool
holds_test p c (Arrival j) v = node_test v (next_node c j)
holds_test p c (Operation j m) v = node_test v (next_node c j)
holds_test p c (Cleaning m) v = stands_test p m (length (entries c m)) v.job v.place

pub holds_decides : (p : PlannedShop) (c : Cell) (a : Activity) (v : Node) → Decides (holds_test p c a v) (HoldsUp p c a v)
holds_decides p c (Arrival j) v = node_decides v (next_node c j)
holds_decides p c (Operation j m) v = node_decides v (next_node c j)
holds_decides p c (Cleaning m) v = stands_decides p m (length (entries c m)) v.job v.place

-- whether each node that the activity holds up is kept to moment n or later
abbrev pub held_test : PlannedShop → (Node → ℕ) → Cell → Activity → ℕ → Bool
held_test p kept c (Arrival j) n = leb n (kept (next_node c j))
held_test p kept c (Operation j m) n = leb n (kept (next_node c j))
held_test p kept c (Cleaning m) n = each_node p (λ v. not (holds_test p c (Cleaning m) v) || leb n (kept v))

pub held_holds : (p : PlannedShop) (kept : Node → ℕ) (c : Cell) (a : Activity) (n : ℕ) → held_test p kept c a n ≡ true → (v : Node) → HoldsUp p c a v → n ≤ kept v
held_holds p kept c (Arrival j) n pass v is = subst (λ (w : Node). n ≤ kept w) (sym is) (leb-true n (kept (next_node c j)) pass)
held_holds p kept c (Operation j m) n pass v is = subst (λ (w : Node). n ≤ kept w) (sym is) (leb-true n (kept (next_node c j)) pass)
held_holds p kept c (Cleaning m) n pass v stands = leb-true n (kept v)
    (passes_at (holds_test p c (Cleaning m) v) (leb n (kept v))
    (each_node_at p (λ w. not (holds_test p c (Cleaning m) w) || leb n (kept w)) v pass (visits_job p v.job v.place m stands.visits) (omega (arith, stands.visits.within)))
    ((holds_decides p c (Cleaning m) v).1 stands))

-- whether each report comes by the moment kept for what its own activity holds up
abbrev pub own_test : PlannedShop → (Node → ℕ) → Cell → List Event → Bool
own_test p kept c [] = true
own_test p kept c (Reported r ∷ es) = held_test p kept c (ended r) (at r) && own_test p kept (after p c (Reported r)) es
own_test p kept c (Moved o ∷ es) = own_test p kept (after p c (Moved o)) es

pub own_holds : (p : PlannedShop) (kept : Node → ℕ) (c : Cell) (es : List Event) → own_test p kept c es ≡ true → AreByTheirOwn p kept c es
own_holds p kept c [] pass = tt
own_holds p kept c (Reported r ∷ es) pass =
    let both = and_parts (held_test p kept c (ended r) (at r)) (own_test p kept (after p c (Reported r)) es) pass in
    (held_holds p kept c (ended r) (at r) both.0, own_holds p kept (after p c (Reported r)) es both.1)
own_holds p kept c (Moved o ∷ es) pass = own_holds p kept (after p c (Moved o)) es pass

-- whether an arc leads from v to w, and is just as long as there is between their moments
abbrev presses_test : PlannedShop → (Node → ℕ) → Node → Node → Bool
presses_test p kept v w = arc_test p v w (kept w - kept v) && leb (kept v) (kept w)

presses_decides : (p : PlannedShop) (kept : Node → ℕ) (v w : Node) → Decides (presses_test p kept v w) (Arc p v w (kept w - kept v) × (kept v ≤ kept w))
presses_decides p kept v w = Decides-and (arc_test p v w (kept w - kept v)) (leb (kept v) (kept w)) (arc_decides p v w (kept w - kept v)) (leb_decides (kept v) (kept w))

-- whether the moment of the node can't be later
abbrev pub pressed_test : PlannedShop → (Node → ℕ) → Node → Bool
pressed_test p kept v = (eqb v.place (steps p v.job) && eqb (kept v) (budget p v.job))
    || some_below (λ j. some_below (λ k. presses_test p kept v (node j k)) (steps p j + 1)) (jobs p)

pressed_holds : (p : PlannedShop) (kept : Node → ℕ) (v : Node) → pressed_test p kept v ≡ true → IsPressed p kept v
pressed_holds p kept v pass = go ((Decides-or _ _
    (Decides-and (eqb v.place (steps p v.job)) (eqb (kept v) (budget p v.job)) (Decides-eqb v.place (steps p v.job)) (Decides-eqb (kept v) (budget p v.job)))
    (some_below_decides _ Some (λ j. some_below_decides _ _ (λ k. presses_decides p kept v (node j k)) (steps p j + 1)) (jobs p))).0 pass)
  where
    Some : ℕ → Type 0
    Some j = (k : ℕ) × (k < steps p j + 1) × (Arc p v (node j k) (kept (node j k) - kept v) × (kept v ≤ kept (node j k)))

    go : ((v.place ≡ steps p v.job) × (kept v ≡ budget p v.job)) ⊎ ((j : ℕ) × (j < jobs p) × Some j) → IsPressed p kept v
    go (inl leaves) = inl leaves
    go (inr (j, inside, (k, within, (arc, le)))) = inr (node j k, kept (node j k) - kept v, arc, omega (arith, le))

-- moments are deadlines where these tests pass
pub deadlines_hold : (p : PlannedShop) (c : Cell) (kept : Node → ℕ) → all_below (λ j. leb (kept (leaving p j)) (budget p j)) (jobs p) ≡ true → each_arc p (λ u v d. leb (kept u + d) (kept v)) ≡ true
    → each_node p (pressed_test p kept) ≡ true → AreDeadlines p c kept
deadlines_hold p c kept meets arcs pressed = record {
  budgets = λ j inside here. (budgets_decide p kept).0 meets j inside;
  arcs = λ u v d ahead arc. leb-true _ _ (each_arc_at p (λ u v d. leb (kept u + d) (kept v)) u v d arcs arc);
  pressed = λ v is ahead. pressed_holds p kept v (each_node_at p (pressed_test p kept) v pressed is.job is.place);
}

-- whether a job that is gone left at most at the moment of its leaving, and one that isn't makes no move before the present moment
abbrev pub present_test : PlannedShop → Cell → ℕ → (Node → ℕ) → ℕ → Bool
present_test p c t kept j = (not (gone_test p c j) || leb (since c j) (kept (leaving p j))) && (not (leb (made c j) (steps p j)) || leb t (kept (next_node c j)))

-- moments fit what is ahead where these tests pass
pub ahead_fit : (p : PlannedShop) (c : Cell) (t : ℕ) (kept : Node → ℕ) → all_below (present_test p c t kept) (jobs p) ≡ true → each_going p c (λ a. held_test p kept c a (due_of p c a)) ≡ true
    → each_arc p (λ u v d. leb (kept u + d) (kept v)) ≡ true → MomentsFitAhead p c t kept
ahead_fit p c t kept now going arcs = record {
  left = λ j inside. (present j inside).0;
  present = λ j inside. (present j inside).1;
  activities = λ a due v goes holds.
      let held : due_of p c a ≤ kept v = held_holds p kept c a (due_of p c a) (each a due goes) v holds in
      omega (arith, due-is p c a due goes);
  arcs = λ u v d ahead arc. leb-true _ _ (each_arc_at p (λ u v d. leb (kept u + d) (kept v)) u v d arcs arc);
}
  where
    present : (j : ℕ) → j < jobs p → (IsGone p c j → since c j ≤ kept (leaving p j)) × (made c j ≤ steps p j → t ≤ kept (next_node c j))
    present = (all_below_decides _ _ (λ j. Decides-and _ _
        (implies_decides (gone_test p c j) (leb (since c j) (kept (leaving p j))) (gone_decides p c j) (leb_decides (since c j) (kept (leaving p j))))
        (implies_decides (leb (made c j) (steps p j)) (leb t (kept (next_node c j))) (leb_decides (made c j) (steps p j)) (leb_decides t (kept (next_node c j))))) (jobs p)).0 now

    each : (a : Activity) (due : ℕ) → GoesOn p c a due → held_test p kept c a (due_of p c a) ≡ true
    each = (each_going_decides p c (λ a. held_test p kept c a (due_of p c a)) (λ a. held_test p kept c a (due_of p c a) ≡ true) (λ a. ((λ is. is), (λ is. is)))).0 going
