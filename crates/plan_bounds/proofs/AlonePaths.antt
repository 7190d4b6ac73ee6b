-- What is as long as a job alone in the cell needs leads to its leaving.
use Rattle.std.proofs.Common.{◌≡◌, ℕ, zero, suc, ◌+◌, ◌-◌, ◌<◌, ◌≤◌, ◌⊎◌, inl, inr, max, arith, sym, refl, subst, add-one}
use Rattle.std.specs.Prelude.{if◌then◌else◌}
use Rattle.std.proofs.lemmas.Bool.{cases_lt}
use Rattle.std.proofs.lemmas.Bool.Decides.{eqb_tells}
use Rattle.shop_base.specs.declared.node.Node.{Node}
use Rattle.shop_base.specs.Plan.{PlannedShop, steps, route, machine_of, nominal, clean, Visits, IsWellShaped}
use Rattle.shop_base.specs.Graph.{node, leaving, Arc, job_arc}
use Rattle.plan_bounds.specs.Bounds.{times_of, Alone, is_left, enters_alone, after_entry, alone_after, out_alone}
use Rattle.plan_bounds.proofs.Paths.{to_again}

module _ (p : PlannedShop) (R : Node → ℕ → Type 0) (less : (v : Node) (n k : ℕ) → R v n → k ≤ n → R v k) (on : (u v : Node) (n d : ℕ) → R u n → Arc p u v d → R v (n + d)) (shaped : IsWellShaped p) (j : ℕ) where
  -- the job has left machine m for step k or before, and n is the cleaning time later
  record IsFreed (k m n : ℕ) : Type 0 where
    visit : ℕ
    before : visit < k
    here : Visits p j visit m
    since : ℕ
    left : R (node j (visit + 1)) since
    is : n ≡ since + clean p m

  -- something as long leads to the job's step k, and to where it has left each machine
  record IsReached (k : ℕ) (a : Alone) : Type 0 where
    ready : R (node j k) a.ready
    free : (m : ℕ) → (a.free m ≡ 0) ⊎ IsFreed k m (a.free m)

  entered : (k : ℕ) (a : Alone) → k < steps p j → IsReached k a → R (node j k) (enters_alone (times_of p) (route p j) k a)
  entered k a within reached = go (reached.free m) (cases_lt a.ready (a.free m))
    where
      m : ℕ
      m = machine_of p j k

      go : (a.free m ≡ 0) ⊎ IsFreed k m (a.free m) → (a.ready < a.free m) ⊎ (a.free m ≤ a.ready) → R (node j k) (max a.ready (a.free m))
      go _ (inr early) = less (node j k) a.ready _ reached.ready (omega (arith, early))
      go (inl none) (inl late) = absurd (omega (arith, none, late))
      go (inr freed) (inl late) =
          let again = to_again p R less on shaped m j freed.visit k freed.since freed.here (record { within = within; here = refl }) freed.before freed.left in
          less (node j k) _ _ again (omega (arith, freed.is, late))

  one_more : (k : ℕ) (a : Alone) → k < steps p j → IsReached k a → IsReached (k + 1) (after_entry (times_of p) (route p j) k a)
  one_more k a within reached = record {
    ready = on (node j k) (node j (k + 1)) _ (nominal p j k) enters (job_arc j k within);
    free = λ m. freed k m (omega arith) enters (reached.free m);
  }
    where
      at : ℕ
      at = enters_alone (times_of p) (route p j) k a

      enters : R (node j k) at
      enters = entered k a within reached

      longer : (m n : ℕ) → (n ≡ 0) ⊎ IsFreed k m n → (n ≡ 0) ⊎ IsFreed (k + 1) m n
      longer m n (inl none) = inl none
      longer m n (inr f) = inr (record { visit = f.visit; before = omega (arith, f.before); here = f.here; since = f.since; left = f.left; is = f.is })

      freed : (l m : ℕ) → l ≡ k → R (node j l) at → (a.free m ≡ 0) ⊎ IsFreed k m (a.free m)
          → let n = if is_left (route p j) l m then at + clean p m else a.free m in (n ≡ 0) ⊎ IsFreed (k + 1) m n
      freed zero m same enters before = longer m (a.free m) before
      freed (suc i) m same enters before = elim (eqb_tells (machine_of p j i) m) [
        | inl here ↦ rw here.0 (inr (record {
          visit = i;
          before = omega (arith, same);
          here = record { within = omega (arith, same, within); here = here.1 };
          since = at;
          left = subst (λ (x : ℕ). R (node j x) at) (sym (add-one i)) enters;
          is = refl;
        }))
        | inr other ↦ rw other.0 (longer m (a.free m) before)
      ]

  after : (made at : ℕ) → R (node j made) at → (n : ℕ) → made + n ≤ steps p j → IsReached (made + n) (alone_after (times_of p) j made at n)
  after made at begun zero within = record { ready = subst (λ (k : ℕ). R (node j k) at) (omega arith) begun; free = λ m. inl refl }
  after made at begun (suc n) within =
      subst (λ (k : ℕ). IsReached k (alone_after (times_of p) j made at (suc n))) (omega arith)
      (one_more (made + n) (alone_after (times_of p) j made at n) (omega (arith, within)) (after made at begun n (omega (arith, within))))

  -- where it is ready for its next move at a moment, something as long as the moment at which it can leave then leads to its leaving
  pub to_out : (made at : ℕ) → made ≤ steps p j → R (node j made) at → R (leaving p j) (out_alone (times_of p) j made at)
  to_out made at within begun =
      subst (λ (k : ℕ). R (node j k) (out_alone (times_of p) j made at)) (omega (arith, within)) (after made at begun (steps p j - made) (omega (arith, within))).ready
