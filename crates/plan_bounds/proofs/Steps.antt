-- The least head, tail and ends of visits, where one visit more was looked at.
use Rattle.std.proofs.Common.{◌≡◌, ℕ, ◌+◌, ◌⊎◌, inl, inr, Some, arith, refl, sym, subst, ◌∙◌}
use Rattle.plan_bounds.specs.Bounds.{ShopTimes, AreEnds, head, tail}
use Rattle.plan_bounds.specs.Seen.{IsHead, IsTail, AreLeast, lesser_of, plus, with_visit}
use Rattle.plan_bounds.specs.declared.visits.Visit.{Visit}
use Rattle.plan_bounds.specs.declared.visits.Visits.{Visits}
use Rattle.plan_bounds.proofs.Leasts.{least_one, least_plus, least_of_two, least_same}

module _ (t : ShopTimes) where
  module _ (V W : ℕ → ℕ → Type 0) (to : (i l : ℕ) → V i l → W i l) where
    head_in : (x : ℕ) → IsHead t V x → IsHead t W x
    head_in x h = record { job = h.job; place = h.place; visit = to h.job h.place h.visit; is = h.is }

    tail_in : (x : ℕ) → IsTail t V x → IsTail t W x
    tail_in x h = record { job = h.job; place = h.place; visit = to h.job h.place h.visit; is = h.is }

    ends_in : (x : ℕ) → AreEnds t V x → AreEnds t W x
    ends_in x e = record {
      first = e.first;
      enters = e.enters;
      last = e.last;
      leaves = e.leaves;
      apart = e.apart;
      first_visit = to e.first e.enters e.first_visit;
      last_visit = to e.last e.leaves e.last_visit;
      sum = e.sum;
    }

  -- of the same visits
  pub same_visits : (V W : ℕ → ℕ → Type 0) → ((i l : ℕ) → V i l → W i l) → ((i l : ℕ) → W i l → V i l) → (v : Visits) → AreLeast t V v → AreLeast t W v
  same_visits V W to from v are = record {
    head = least_same (IsHead t V) (IsHead t W) (head_in V W to) (head_in W V from) v.head are.head;
    tail = least_same (IsTail t V) (IsTail t W) (tail_in V W to) (tail_in W V from) v.tail are.tail;
    ends = least_same (AreEnds t V) (AreEnds t W) (ends_in V W to) (ends_in W V from) v.ends are.ends;
  }

  -- of one visit more
  module _ (V W : ℕ → ℕ → Type 0) (to : (i l : ℕ) → V i l → W i l) (j k : ℕ) (this : W j k) (new : V j k → ⊥) (only : (i l : ℕ) → W i l → V i l ⊎ ((i ≡ j) × (l ≡ k)))
      (visit : Visit) (is_head : visit.head ≡ head t j k) (is_tail : visit.tail ≡ tail t j k) where
    -- x is what the head of an earlier visit and the tail of this one add up to
    abbrev BehindHead : ℕ → Type 0
    BehindHead x = (y : ℕ) × IsHead t V y × (x ≡ y + visit.tail)

    -- or the head of this one and the tail of an earlier one
    abbrev BeforeTail : ℕ → Type 0
    BeforeTail x = (y : ℕ) × IsTail t V y × (x ≡ y + visit.head)

    same_head : (i l : ℕ) → (i ≡ j) × (l ≡ k) → head t i l ≡ visit.head
    same_head i l same = cc (same.0, same.1, is_head)

    same_tail : (i l : ℕ) → (i ≡ j) × (l ≡ k) → tail t i l ≡ visit.tail
    same_tail i l same = cc (same.0, same.1, is_tail)

    head_only : (x : ℕ) → IsHead t W x → IsHead t V x ⊎ (x ≡ visit.head)
    head_only x h = elim (only h.job h.place h.visit) [
      | inl before ↦ inl (record { job = h.job; place = h.place; visit = before; is = h.is })
      | inr same ↦ inr (h.is ∙ same_head h.job h.place same)
    ]

    tail_only : (x : ℕ) → IsTail t W x → IsTail t V x ⊎ (x ≡ visit.tail)
    tail_only x h = elim (only h.job h.place h.visit) [
      | inl before ↦ inl (record { job = h.job; place = h.place; visit = before; is = h.is })
      | inr same ↦ inr (h.is ∙ same_tail h.job h.place same)
    ]

    apart : (i l : ℕ) → V i l → (i ≡ j) × (l ≡ k) → ⊥
    apart i l before same = new (subst (λ (x : ℕ). V x k) same.0 (subst (V i) same.1 before))

    new_ends : (x : ℕ) → BehindHead x ⊎ BeforeTail x → AreEnds t W x
    new_ends x (inl (y, h, sum)) = record {
      first = h.job;
      enters = h.place;
      last = j;
      leaves = k;
      apart = λ one other. apart h.job h.place h.visit (one, other);
      first_visit = to h.job h.place h.visit;
      last_visit = this;
      sum = omega (arith, sum, h.is, is_tail);
    }
    new_ends x (inr (y, h, sum)) = record {
      first = j;
      enters = k;
      last = h.job;
      leaves = h.place;
      apart = λ one other. apart h.job h.place h.visit (sym one, sym other);
      first_visit = this;
      last_visit = to h.job h.place h.visit;
      sum = omega (arith, sum, h.is, is_head);
    }

    ends_only : (x : ℕ) → AreEnds t W x → AreEnds t V x ⊎ (BehindHead x ⊎ BeforeTail x)
    ends_only x e = go (only e.first e.enters e.first_visit) (only e.last e.leaves e.last_visit)
      where
        go : V e.first e.enters ⊎ ((e.first ≡ j) × (e.enters ≡ k)) → V e.last e.leaves ⊎ ((e.last ≡ j) × (e.leaves ≡ k)) → AreEnds t V x ⊎ (BehindHead x ⊎ BeforeTail x)
        go (inr one) (inr other) = absurd (e.apart (one.0 ∙ sym other.0) (one.1 ∙ sym other.1))
        go (inr one) (inl other) =
            inr (inr (tail t e.last e.leaves, record { job = e.last; place = e.leaves; visit = other; is = refl }, omega (arith, e.sum, same_head e.first e.enters one)))
        go (inl one) (inr other) =
            inr (inl (head t e.first e.enters, record { job = e.first; place = e.enters; visit = one; is = refl }, omega (arith, e.sum, same_tail e.last e.leaves other)))
        go (inl one) (inl other) = inl (record {
          first = e.first;
          enters = e.enters;
          last = e.last;
          leaves = e.leaves;
          apart = e.apart;
          first_visit = one;
          last_visit = other;
          sum = e.sum;
        })

    pub one_visit_more : (v : Visits) → AreLeast t V v → AreLeast t W (with_visit v visit)
    one_visit_more v are = record {
      head = least_of_two (IsHead t V) (λ x. x ≡ visit.head) (IsHead t W) (head_in V W to)
          (λ x same. record { job = j; place = k; visit = this; is = same ∙ is_head }) head_only
          v.head (Some visit.head) are.head (least_one visit.head);
      tail = least_of_two (IsTail t V) (λ x. x ≡ visit.tail) (IsTail t W) (tail_in V W to)
          (λ x same. record { job = j; place = k; visit = this; is = same ∙ is_tail }) tail_only
          v.tail (Some visit.tail) are.tail (least_one visit.tail);
      ends = least_of_two (AreEnds t V) (λ x. BehindHead x ⊎ BeforeTail x) (AreEnds t W) (ends_in V W to) new_ends ends_only
          v.ends (lesser_of (plus v.head visit.tail) (plus v.tail visit.head)) are.ends
          (least_of_two BehindHead BeforeTail (λ x. BehindHead x ⊎ BeforeTail x) (λ x a. inl a) (λ x b. inr b) (λ x c. c)
          (plus v.head visit.tail) (plus v.tail visit.head)
          (least_plus (IsHead t V) visit.tail v.head are.head) (least_plus (IsTail t V) visit.head v.tail are.tail));
    }
