-- What is known of the machines' visits once some of them were looked at.
use Rattle.std.specs.Prelude.{◌≡◌, ℕ, ◌+◌, ◌*◌, ◌<◌, ◌≤◌, ◌⊎◌, nat_le, if◌then◌else◌, List, length, slice_index_or, Option, None, Some}
use Rattle.shop_base.specs.declared.limits.TheConstants.{MAX_MACHINES}
use Rattle.plan_bounds.specs.Bounds.{ShopTimes, IsVisit, AreEnds, IsLeast, job_count, head, tail, work_on, visits_on, sum_on, route_in}
use Rattle.plan_bounds.specs.declared.visits.Visit.{Visit}
use Rattle.plan_bounds.specs.declared.visits.Visits.{Visits}

-- the lesser of two numbers, of which either may be none
abbrev pub lesser_of : Option ℕ → Option ℕ → Option ℕ
lesser_of None other = other
lesser_of (Some x) None = Some x
lesser_of (Some x) (Some y) = if nat_le x y then Some x else Some y

-- the number, if there is one, with some more
abbrev pub plus : Option ℕ → ℕ → Option ℕ
plus None y = None
plus (Some x) y = Some (x + y)

-- what is known with one visit more
abbrev pub with_visit : Visits → Visit → Visits
with_visit v visit = record {
  count = v.count + 1;
  work = v.work + visit.nominal;
  head = lesser_of v.head (Some visit.head);
  tail = lesser_of v.tail (Some visit.tail);
  ends = lesser_of v.ends (lesser_of (plus v.head visit.tail) (plus v.tail visit.head));
}

module _ (t : ShopTimes) where
  -- x is the head of one of these visits
  pub record IsHead (V : ℕ → ℕ → Type 0) (x : ℕ) : Type 0 where
    pub job : ℕ
    pub place : ℕ
    pub visit : V job place
    pub is : x ≡ head t job place

  -- x is the tail of one
  pub record IsTail (V : ℕ → ℕ → Type 0) (x : ℕ) : Type 0 where
    pub job : ℕ
    pub place : ℕ
    pub visit : V job place
    pub is : x ≡ tail t job place

  -- the least head, tail and sum of the two are those of these visits
  pub record AreLeast (V : ℕ → ℕ → Type 0) (v : Visits) : Type 0 where
    pub head : IsLeast (IsHead V) v.head
    pub tail : IsLeast (IsTail V) v.tail
    pub ends : IsLeast (AreEnds t V) v.ends

  -- step l of job i is on machine m, and one of those of the first n jobs or of the first k steps of job n
  pub record IsSeen (m n k i l : ℕ) : Type 0 where
    pub visit : IsVisit t m i l
    pub before : (i < n) ⊎ ((i ≡ n) × (l < k))

  -- what is known of machine m once these were looked at
  pub record AreSeen (m n k : ℕ) (v : Visits) : Type 0 where
    pub count : v.count ≡ visits_on t m n + sum_on (λ step. 1) m (route_in t n) k
    pub work : v.work ≡ work_on t m n + sum_on (λ step. step.nominal) m (route_in t n) k
    pub least : AreLeast (IsSeen m n k) v
    pub small : (v.count ≤ n * 100 + k) × (v.work ≤ (n * 100 + k) * 1000000)

  -- and of each machine
  pub record AreAllSeen (n k : ℕ) (all : List Visits) : Type 0 where
    pub each : (m : ℕ) (d : Visits) → m < length all → AreSeen m n k (slice_index_or all m d)
    pub size : length all ≡ MAX_MACHINES

  -- what is known of machine m once all visits were looked at
  pub record AreVisits (m : ℕ) (v : Visits) : Type 0 where
    pub count : v.count ≡ visits_on t m (job_count t)
    pub work : v.work ≡ work_on t m (job_count t)
    pub ends : IsLeast (AreEnds t (IsVisit t m)) v.ends
    pub small : (v.count ≤ 20000) × (v.work ≤ 20000000000)

  -- and of each machine
  pub record AreAllVisits (all : List Visits) : Type 0 where
    pub each : (m : ℕ) (d : Visits) → m < length all → AreVisits m (slice_index_or all m d)
    pub size : length all ≡ MAX_MACHINES
