-- Paths ahead, from their first node on.
use Rattle.std.proofs.Common.{◌≡◌, ℕ, ◌+◌, ◌^◌, ◌<◌, ◌≤◌, List, [], ◌∷◌, ◌++◌, Option, Some, inl, inr, arith, refl, sym, ap, subst}
use Rattle.std.proofs.lemmas.Bool.{cases_lt}
use Rattle.shop_base.specs.{declared.node.Node.Node, Plan.{PlannedShop, jobs, nominal, clean}}
use Rattle.shop_base.specs.{Cell.{Cell, made, since, IsGone}, Sound.IsSound}
use Rattle.shop_base.specs.{Activity.{Activity, Arrival, Operation, Cleaning, GoesOn}, Graph.{Arc, HasArc, IsNode, leaving}}
use Rattle.shop_base.specs.Ahead.{next_node, HoldsUp, IsAhead, PathAhead, now, held, onward}
use Rattle.alt_graph.specs.{Sources.IsLongestArc, Times.{NodeTimes, earliest_of, IsPathFromBy}}
use Rattle.plan_verifier.specs.{Rest.AreOrderedAhead, declared.node_bound.Hold.Hold, declared.node_bound.NodeBound.NodeBound}
use Rattle.plan_verifier.specs.declared.node_bound.Hold.TheVariants.{Awaited, Worked, Cleaned}
use Rattle.plan_verifier.specs.Held.{IsHeldBy, awaited, arrived, worked, done, cleaned, BeginHeldUp, later_than, overdue_at, IsHoldBound, IsBoundOf}
use Rattle.plan_verifier.proofs.{Tables.{later_is, later_above, later_other}, Acceptable.leaving_node, GoingOn.leaving_ahead}
use Rattle.plan_verifier.proofs.{Holding.{hold_up, free_passed}, PathsAhead.along_greatest}
use Rattle.plan_explain.specs.{Arcs.{time_of, arc_kind}, Chains.{AreAlong, length_from, IsLongestAheadTo, IsLongest}}
use Rattle.plan_explain.proofs.ArcFacts.{kind_longest, last_from, last_more, along_more, length_more, length_rises}

-- what a path ahead to v of length n is, from its first node on: along the longest arcs it is no shorter, and any length with which a path ahead begins there leads to such a path
pub record IsLedAhead (p : PlannedShop) (c : Cell) (t : ℕ) (u : Node) (us : List Node) (v : Node) (n : ℕ) : Type 0 where
  pub along : AreAlong p u us
  pub ends : last_from u us ≡ v
  pub start : ℕ
  pub begins : PathAhead p c t (u ∷ []) u start
  pub size : n ≤ length_from p start u us
  pub again : (s : ℕ) → PathAhead p c t (u ∷ []) u s → PathAhead p c t (u ∷ us) v (length_from p s u us)
  pub bounded : (b : NodeBound) → IsBoundOf p c t u b → start ≤ b.moment

abbrev pub IsLedPathAhead : PlannedShop → Cell → ℕ → List Node → Node → ℕ → Type 0
IsLedPathAhead p c t [] v n = ⊥
IsLedPathAhead p c t (u ∷ us) v n = IsLedAhead p c t u us v n

module _ (p : PlannedShop) (c : Cell) (t : ℕ) where
  led_more : (nodes : List Node) (u v : Node) (n d : ℕ) → Arc p u v d → IsLedPathAhead p c t nodes u n → IsLedPathAhead p c t (nodes ++ v ∷ []) v (n + d)
  led_more [] u v n d arc led = absurd led
  led_more (w ∷ ws) u v n d arc led = record {
    along = along_more p w ws v led.along (subst (λ (x : Node). HasArc p x v) (sym led.ends) (d, arc));
    ends = last_more w ws v;
    start = led.start;
    begins = led.begins;
    size = omega (arith, longer led.start, led.size, last.longest d arc);
    bounded = led.bounded;
    again = λ s begin. subst (λ (m : ℕ). PathAhead p c t (w ∷ ws ++ v ∷ []) v m) (sym (longer s)) (onward (w ∷ ws) u v (length_from p s w ws) (time_of (arc_kind p u v)) (led.again s begin) last.arc);
  }
    where
      last : IsLongestArc p u v (time_of (arc_kind p u v))
      last = kind_longest p u v (d, arc)

      longer : (s : ℕ) → length_from p s w (ws ++ v ∷ []) ≡ length_from p s w ws + time_of (arc_kind p u v)
      longer s = omega (arith, length_more p s w ws v, ap (λ (x : Node). time_of (arc_kind p x v)) led.ends)

  -- its bound is no sooner than what holds it up is due
  hold_bounded : (h : Hold) (due : ℕ) (v : Node) → IsHeldBy p c h (Some due) v → (b : NodeBound) → IsBoundOf p c t v b → due ≤ b.moment
  hold_bounded h due v is b bound =
      let other : NodeBound = record { moment = later_than t (Some due); holds = h; overdue = overdue_at t (Some due) } in
      let later : due ≤ other.moment = later_other t due (Some due) refl in
      elim (bound.first other (record { due = Some due; holds = is; moment = refl; overdue = refl })) [
        | inl sooner ↦ omega (arith, later, sooner)
        | inr (same, turns) ↦ omega (arith, later, same)
      ]

  going_bounded : (a : Activity) (due : ℕ) (v : Node) → GoesOn p c a due → HoldsUp p c a v → (b : NodeBound) → IsBoundOf p c t v b → due ≤ b.moment
  going_bounded (Arrival j) due v goes holds = hold_bounded (Awaited j) due v (subst (IsHeldBy p c (Awaited j) (Some due)) (sym holds) (awaited j due goes))
  going_bounded (Operation j m) due v (k, works) holds =
      let h : Hold = Worked j m (since c j) (nominal p j k) in
      hold_bounded h due v (subst (IsHeldBy p c h (Some due)) (sym holds) (worked j k m due works))
  going_bounded (Cleaning m) due v (from, is) holds = hold_bounded (Cleaned m from (clean p m)) due v (cleaned m from due v is holds)

  -- a path ahead, from its first node on
  pub ahead_led : (nodes : List Node) (v : Node) (n : ℕ) → PathAhead p c t nodes v n → IsLedPathAhead p c t nodes v n
  ahead_led _ _ _ (now v is ahead) = record {
    along = tt;
    ends = refl;
    start = t;
    begins = now v is ahead;
    size = omega arith;
    again = λ s begin. begin;
    bounded = λ b bound. omega (arith, bound.by_hold.moment, later_above t bound.by_hold.due);
  }
  ahead_led _ _ _ (held a due v goes holds) = record {
    along = tt;
    ends = refl;
    start = due;
    begins = held a due v goes holds;
    size = omega arith;
    again = λ s begin. begin;
    bounded = λ b bound. going_bounded a due v goes holds b bound;
  }
  ahead_led _ _ _ (onward nodes u v n d path arc) = led_more nodes u v n d arc (ahead_led nodes u n path)

-- ---- what is printed of a node begins a path ahead

module _ (p : PlannedShop) (c : Cell) (t : ℕ) where
  held_path : (h : Hold) (due : Option ℕ) (v : Node) (m : ℕ) → IsHeldBy p c h due v → due ≡ Some m → PathAhead p c t (v ∷ []) v m
  held_path _ _ _ m (awaited j d is) some = let same : d ≡ m = cc in subst (λ (n : ℕ). PathAhead p c t (next_node c j ∷ []) (next_node c j) n) same (held (Arrival j) d (next_node c j) is refl)
  held_path _ _ _ m (arrived j outside is) none = absurd cc
  held_path _ _ _ m (worked j k x d is) some = let same : d ≡ m = cc in subst (λ (n : ℕ). PathAhead p c t (next_node c j ∷ []) (next_node c j) n) same (held (Operation j x) d (next_node c j) (k, is) refl)
  held_path _ _ _ m (done j k x on is) none = absurd cc
  held_path _ _ _ m (cleaned x from d v is stands) some = let same : d ≡ m = cc in subst (λ (n : ℕ). PathAhead p c t (v ∷ []) v n) same (held (Cleaning x) d v (from, is) stands)

  pub bound_path : (v : Node) (b : NodeBound) → IsSound p c → IsNode p v → IsHoldBound p c t v b → PathAhead p c t (v ∷ []) v b.moment
  bound_path v b sound is bound = subst (λ (n : ℕ). PathAhead p c t (v ∷ []) v n) (sym bound.moment) (elim (later_is t bound.due) [
    | inl same ↦ subst (λ (n : ℕ). PathAhead p c t (v ∷ []) v n) (sym same) (now v is ahead)
    | inr (m, some, same) ↦ subst (λ (n : ℕ). PathAhead p c t (v ∷ []) v n) (sym same) (held_path b.holds bound.due v m bound.holds some)
  ])
    where
      ahead : IsAhead c v
      ahead = elim (cases_lt v.place (made c v.job)) [
        | inl passed ↦ absurd (free_passed p c t v sound passed (hold_up p c b.holds bound.due v bound.holds))
        | inr here ↦ here
      ]

-- ---- a longest path ahead

module _ (p : PlannedShop) (c : Cell) (t : ℕ) (first : Node) (rest : List Node) (last : Node) (size : ℕ) (is : IsLongestAheadTo p c t (first ∷ rest) last size) where
  pub led : IsLedAhead p c t first rest last size
  led = ahead_led p c t (first ∷ rest) last size is.path

  -- it is as long as from the bound of its first node on
  pub bound_length : (b : NodeBound) → IsSound p c → IsBoundOf p c t first b → length_from p b.moment first rest ≡ size
  bound_length b sound bound =
      let least = length_rises p led.start b.moment first rest (led.bounded b bound) in
      omega (arith, led.size, least, is.greatest last (length_from p b.moment first rest) (led.again b.moment (bound_path p c t first b sound is.begins.0 bound.by_hold)))

-- a longest chain to the leaving of a job that isn't gone is one of which the lines can be written
pub leaving_chain : (p : PlannedShop) (c : Cell) (t n j : ℕ) (times : NodeTimes) (nodes : List Node) → AreOrderedAhead p c t times → j < jobs p → (IsGone p c j → ⊥) → IsPathFromBy times (leaving p j) nodes
    → n ≡ earliest_of times (leaving p j) → n < 2 ^ 64 → PathAhead p c t nodes (leaving p j) n × IsLongest p c t nodes
leaving_chain p c t n j times nodes ordered inside still chain is small = (
  path,
  record {
    last = leaving p j;
    size = n;
    is = record {
      path = path;
      begins = both.1;
      greatest = along_greatest p c t nodes (leaving p j) n path (λ k other. omega (arith, ordered.greatest nodes (leaving p j) k other, is));
    };
    small = small;
  },
)
  where
    both : PathAhead p c t nodes (leaving p j) (earliest_of times (leaving p j)) × BeginHeldUp p c nodes
    both = ordered.chains nodes (leaving p j) (leaving_node p j inside) (leaving_ahead p c j still) chain

    path : PathAhead p c t nodes (leaving p j) n
    path = subst (λ (m : ℕ). PathAhead p c t nodes (leaving p j) m) (sym is) both.0
