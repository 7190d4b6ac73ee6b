-- How costs compare.
use Rattle.std.proofs.Common.{◌≡◌, inl, inr, arith, refl}
use Rattle.plan_improve.proofs.Common.{Cost, IsAtMost, IsLess}

-- at most what is at most a cost
pub most_of_most : (c d e : Cost) → IsAtMost c d → IsAtMost d e → IsAtMost c e
most_of_most c d e (inl less) (inl most) = inl (omega arith)
most_of_most c d e (inl less) (inr (same, most)) = inl (omega arith)
most_of_most c d e (inr (same, less)) (inl most) = inl (omega arith)
most_of_most c d e (inr (same, less)) (inr (equal, most)) = inr (omega arith, omega arith)

-- costs of the same lateness and makespan are the same
pub cost_same : (c d : Cost) → c.late ≡ d.late → c.makespan ≡ d.makespan → c ≡ d
cost_same c d late makespan = λ i. record { late = late i; makespan = makespan i }

pub not_both : (c d : Cost) → IsLess c d → IsAtMost d c → ⊥
not_both c d (inl less) (inl most) = omega arith
not_both c d (inl less) (inr (same, most)) = omega arith
not_both c d (inr (same, less)) (inl most) = omega arith
not_both c d (inr (same, less)) (inr (equal, most)) = omega arith

pub most_same : (c : Cost) → IsAtMost c c
most_same c = inr (refl, omega arith)

pub most_less : (c d : Cost) → IsLess c d → IsAtMost c d
most_less c d (inl less) = inl less
most_less c d (inr (same, less)) = inr (same, omega arith)

-- nothing is late that is at most what isn't
pub zero_most : (c d : Cost) → IsAtMost c d → d.late ≡ 0 → c.late ≡ 0
zero_most c d (inl less) zero = absurd (omega arith)
zero_most c d (inr (same, most)) zero = omega arith
