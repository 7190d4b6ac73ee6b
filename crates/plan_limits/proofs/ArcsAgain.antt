-- The arc from where a job leaves a machine to where it enters it next.
use Rattle.std.proofs.Common.{◌≡◌, ℕ, ◌+◌, ◌<◌, List, [], ◌∷◌, ◌++◌, Contains, ◌⊎◌, inl, inr, refl, sym, ◌∙◌, ap, subst, arith}
use Rattle.std.proofs.lemmas.Bool.{cases_order}
use Rattle.std.proofs.lemmas.List.Elements.{Contains-append_left, Contains-append_right}
use Rattle.shop_base.specs.declared.node.Node.{Node}
use Rattle.alt_graph.specs.Places.{node_at}
use Rattle.arc_choice.specs.declared.question.Arc.{Arc}
use Rattle.plan_bounds.specs.Bounds.{ShopTimes, IsVisit}
use Rattle.plan_limits.specs.Asked.{IsNextVisit, arc_again, HaveArcsAgain}

-- a job enters a machine next by one place
next_once : (t : ShopTimes) (m : ℕ) (v : Node) (k l : ℕ) → IsNextVisit t m v k → IsNextVisit t m v l → k ≡ l
next_once t m v k l one other = go (cases_order k l)
  where
    go : (k ≡ l) ⊎ ((k < l) ⊎ (l < k)) → k ≡ l
    go (inl same) = same
    go (inr (inl less)) = absurd (other.none k one.behind less one.visit)
    go (inr (inr more)) = absurd (one.none l other.behind more other.visit)

-- one number more, with its arc behind the others
pub again_push : (t : ShopTimes) (nodes : List Node) (m n l : ℕ) (arcs more : List Arc) → more ≡ arcs ++ arc_again t nodes m n l ∷ []
    → IsVisit t m (node_at nodes n).job (node_at nodes n).place → IsNextVisit t m (node_at nodes n) l → HaveArcsAgain t nodes n arcs → HaveArcsAgain t nodes (n + 1) more
again_push t nodes m n l arcs more is visit next before = λ k number place within enters behind. go k number place within enters behind (cases_order number n)
  where
    here : Contains more (arc_again t nodes m n l)
    here = subst (λ (all : List Arc). Contains all (arc_again t nodes m n l)) (sym is) (Contains-append_right arcs (arc_again t nodes m n l ∷ []) (arc_again t nodes m n l) (0, omega arith, refl))

    go : (k number place : ℕ) → number < n + 1 → IsVisit t k (node_at nodes number).job (node_at nodes number).place → IsNextVisit t k (node_at nodes number) place
        → (number ≡ n) ⊎ ((number < n) ⊎ (n < number)) → Contains more (arc_again t nodes k number place)
    go k number place within enters behind (inl same) =
        let at : IsVisit t k (node_at nodes n).job (node_at nodes n).place = subst (λ x. IsVisit t k (node_at nodes x).job (node_at nodes x).place) same enters in
        let on : k ≡ m = sym at.here ∙ visit.here in
        let then : IsNextVisit t m (node_at nodes n) place = subst (λ x. IsNextVisit t x (node_at nodes n) place) on (subst (λ x. IsNextVisit t k (node_at nodes x) place) same behind) in
        let to : place ≡ l = next_once t m (node_at nodes n) place l then next in
        rw (same, on, to) here
    go k number place within enters behind (inr (inl less)) =
        subst (λ (all : List Arc). Contains all (arc_again t nodes k number place)) (sym is)
        (Contains-append_left arcs (arc_again t nodes m n l ∷ []) (arc_again t nodes k number place) (before k number place less enters behind))
    go k number place within enters behind (inr (inr past)) = absurd (omega (arith, past, within))
