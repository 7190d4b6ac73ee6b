-- Where ranks rise, some moments fit what is ahead of the end of any run: those that leave the longest time there is for each arc.
use Rattle.std.proofs.Common.{◌≡◌, ℕ, zero, suc, ◌+◌, ◌<◌, ◌≤◌, Option, Some, None, refl, arith, inl, inr, ap, le_refl}
use Rattle.std.proofs.lemmas.Bool.{cases_lt}
use Rattle.shop_base.specs.declared.node.Node.{Node}
use Rattle.shop_base.specs.declared.limits.TheConstants.{MAX_MOMENT, MAX_NOMINAL, MAX_CLEAN, MAX_RELEASE}
use Rattle.shop_base.specs.Plan.{PlannedShop, machines, machine_of, nominal, Visits, IsWellShaped}
use Rattle.shop_base.specs.Cell.{Cell, cleaning}
use Rattle.shop_base.specs.Activity.{Activity, Arrival, Operation, Cleaning, GoesOn}
use Rattle.shop_base.specs.Run.{ends_in}
use Rattle.shop_base.specs.Graph.{Arc, job_arc, blocking_arc, leaving}
use Rattle.shop_base.specs.Sound.{IsSound}
use Rattle.shop_base.specs.Ahead.{next_node}
use Rattle.shop_base.specs.AheadLaw.{EveryCellHasASchedule}
use Rattle.shop_base.proofs.Visits.{visits-sound, visits_machine}
use Rattle.shop_base.proofs.InShop.{outside_in_shop, cleaned_in_shop}
use Rattle.shop_base.proofs.Keeping.{run-sound}

-- n times k, and k more
times : ℕ → ℕ → ℕ
times k zero = k
times k (suc n) = times k n + k

times_some : (k n : ℕ) → k ≤ times k n
unfolding times
times_some k zero = le_refl k
times_some k (suc n) = omega (arith, times_some k n)

times_more : (k n l : ℕ) → n < l → times k n + k ≤ times k l
unfolding times
times_more k n zero below = absurd (omega arith)
times_more k n (suc l) below = elim (cases_lt n l) [
  | inl less ↦ omega (arith, times_more k n l less)
  | inr last ↦ (let same : n ≡ l = omega arith in omega (arith, ap (times k) same))
]

-- since when a machine is being cleaned, 0 if it isn't
begun_at : Option ℕ → ℕ
begun_at None = 0
begun_at (Some s) = s

-- all these moments of the first n machines together
all_begun : Cell → ℕ → ℕ
all_begun c zero = 0
all_begun c (suc n) = all_begun c n + begun_at (cleaning c n)

all_begun_within : (c : Cell) (n m s : ℕ) → m < n → cleaning c m ≡ Some s → s ≤ all_begun c n
unfolding all_begun begun_at
all_begun_within c zero m s below cleaned = absurd (omega arith)
all_begun_within c (suc n) m s below cleaned = elim (cases_lt m n) [
  | inl less ↦ omega (arith, all_begun_within c n m s less cleaned)
  | inr last ↦ (let same : m ≡ n = omega arith in let at : begun_at (cleaning c n) ≡ s = ap begun_at (rw same at cleaned) in omega (arith, at))
]

module _ (p : PlannedShop) (shaped : IsWellShaped p) where
  nominal_within : (j k m : ℕ) → Visits p j k m → nominal p j k ≤ MAX_NOMINAL
  nominal_within j k m visits = (visits-sound p j k m shaped visits).nominal

  arc_within : (u v : Node) (d : ℕ) → Arc p u v d → d ≤ MAX_NOMINAL + MAX_CLEAN
  arc_within _ _ _ (job_arc j k within) = let short = nominal_within j k (machine_of p j k) (record { within = within; here = refl }) in omega (arith, short)
  arc_within _ _ _ (blocking_arc m a i k j l one other) = omega (arith, shaped.limits.cleanings m (visits_machine p i k m shaped one.visits))

  due_within : (c : Cell) (a : Activity) (due : ℕ) → IsSound p c → GoesOn p c a due → due ≤ MAX_MOMENT + MAX_NOMINAL + MAX_CLEAN + MAX_RELEASE + all_begun c (machines p)
  due_within c (Arrival j) due sound awaited = omega (arith, awaited.is_due, shaped.limits.releases j (outside_in_shop p c j sound awaited.outside))
  due_within c (Operation j m) due sound (k, worked) = omega (arith, worked.is_due, nominal_within j k m worked.on.visits, sound.begun j, sound.last_in_range)
  due_within c (Cleaning m) due sound (s, cleaned) =
      omega (arith, cleaned.is_due, shaped.limits.cleanings m (cleaned_in_shop p c m s sound cleaned.is_cleaned), all_begun_within c (machines p) m s (cleaned_in_shop p c m s sound cleaned.is_cleaned) cleaned.is_cleaned)

pub every_cell_has_a_schedule-holds : EveryCellHasASchedule
every_cell_has_a_schedule-holds p rank es t shaped rise run = (
  kept,
  record {
    left = λ j inside gone. omega (arith, sound.begun j, sound.last_in_range, times_some k (rank (leaving p j)));
    present = λ j inside here. omega (arith, times_some k (rank (next_node c j)));
    activities = λ a due v going holds. omega (arith, due_within p shaped c a due sound going, times_some k (rank v));
    arcs = λ u v d ahead arc. omega (arith, arc_within p shaped u v d arc, times_more k (rank u) (rank v) (rise u v d arc));
  },
)
  where
    c : Cell
    c = ends_in p es

    sound : IsSound p c
    sound = run-sound p es shaped run

    k : ℕ
    k = MAX_MOMENT + MAX_NOMINAL + MAX_CLEAN + MAX_RELEASE + all_begun c (machines p) + t

    kept : Node → ℕ
    kept v = times k (rank v)
