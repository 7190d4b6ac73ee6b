-- Places in the orders of a planned shop, and orders that grow by a job.
use Rattle.std.proofs.Common.{◌≡◌, ℕ, ◌<◌, List, [], ◌∷◌, ◌++◌, length, slice_index, sym, ap, ◌∙◌, subst, arith, append_assoc, length-append}
use Rattle.std.proofs.Math.Seq.{get_or-append_seam}
use Rattle.shop_base.specs.Plan.{PlannedShop, machines, order, job_at, Stands, IsWellShaped}
use Rattle.shop_base.specs.Move.{IsPrefix}
use Rattle.shop_base.proofs.Visits.{stands_step}

-- each place of a machine's order has its visit
pub stands_at : (p : PlannedShop) (m a : ℕ) → IsWellShaped p → m < machines p → a < length (order p m) → (k : ℕ) × Stands p m a (job_at p m a) k
stands_at p m a shaped inside within = (shaped.orders m inside).on_route a within

-- at one place of an order stands one step of one job
pub same_stand : (p : PlannedShop) (m a b i k j l : ℕ) → IsWellShaped p → a ≡ b → Stands p m a i k → Stands p m b j l → (i ≡ j) × (k ≡ l)
same_stand p m a b i k j l shaped same one other =
    let jobs_same : i ≡ j = sym one.job ∙ ap (job_at p m) same ∙ other.job in
    (jobs_same, stands_step p m b j k l (subst (λ n. Stands p m b n k) jobs_same (subst (λ n. Stands p m n i k) same one)) other)

-- a list that begins another begins it with the entry that stands there next, too
pub prefix_grows : (front whole : List ℕ) (j : ℕ) → IsPrefix front whole → length front < length whole → slice_index whole (length front) ≡ j → IsPrefix (front ++ j ∷ []) whole
prefix_grows front whole j (rest, is) shorter here = go rest is
  where
    go : (rest : List ℕ) → whole ≡ front ++ rest → IsPrefix (front ++ j ∷ []) whole
    go [] is = absurd (omega (arith, ap length is, length-append front []))
    go (x ∷ rest) is = (rest, is ∙ rw same (sym (append_assoc front (j ∷ []) rest)))
      where
        same : x ≡ j
        same = sym (get_or-append_seam front x rest 0) ∙ rw is at here
