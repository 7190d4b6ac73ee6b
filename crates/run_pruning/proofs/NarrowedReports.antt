-- With the first machines alone, where the others are neither visited nor cleaned, as many reports are left, and each event is the same job's.
use Rattle.std.proofs.Common.{◌≡◌, ℕ, zero, suc, ◌+◌, ◌-◌, ◌<◌, ◌≤◌, inl, inr, List, [], ◌∷◌, length, get_or, take, Option, None, Some, Bool, not, cond, is_some, nat_lt, if◌then◌else◌, refl, sym, ap, ap₂, ◌∙◌, arith}
use Rattle.std.proofs.lemmas.Bool.{cases_lt}
use Rattle.std.proofs.lemmas.List.{get_or-take, take-replicate}
use Rattle.shop_base.specs.declared.report.Report.{TheVariants.{Arrive, Finish, Clean}}
use Rattle.shop_base.specs.declared.move_order.Spot.{Spot, TheVariants.{Out, At}}
use Rattle.shop_base.specs.Plan.{PlannedShop, jobs, machines, order, clean, IsWellShaped}
use Rattle.shop_base.specs.Cell.{Cell, MachineState, machine_in, entries, cleaning, start}
use Rattle.shop_base.specs.Ends.{sum_below}
use Rattle.shop_base.specs.ReportsLeft.{job_reports_left, is_on_after, is_off, last_entrant, cleanings_left, reports_left}
use Rattle.shop_base.specs.Run.{Event, Reported, Moved, CanHappen, after, AreEvents, IsRun}
use Rattle.shop_base.specs.Sound.{IsSound}
use Rattle.shop_base.proofs.Sums.{sum_below_same}
use Rattle.shop_base.proofs.Keeping.{after-sound, start-sound}
use Rattle.run_pruning.specs.Spare.{narrowed, narrowed_cell}
use Rattle.run_pruning.specs.PrunedEvents.{owner, left_spot, left_after, last_owner}
use Rattle.run_pruning.specs.PruningLaw.{nobody_left, run_owner}
use Rattle.run_pruning.proofs.Narrowed.{AreEnough, take_set, narrowed-alike, narrowed-cells}
use Rattle.run_pruning.proofs.Alike.{AreAlike, AreCellsAlike}

-- a sum is the same without what adds nothing behind it
sum_first : (f : ℕ → ℕ) (n more : ℕ) → ((m : ℕ) → n ≤ m → f m ≡ 0) → sum_below f n ≡ sum_below f (n + more)
sum_first f n zero none = let none_more : n + 0 ≡ n = omega arith in rw none_more refl
sum_first f n (suc more) none = let one_more : n + suc more ≡ suc (n + more) = omega arith in rw one_more (omega (arith, sum_first f n more none, none (n + more) (omega arith)))

module _ (p : PlannedShop) (n : ℕ) (shaped : IsWellShaped p) (enough : AreEnough p n) where
  abbrev q : PlannedShop
  q = narrowed n p

  alike : AreAlike p q
  alike = narrowed-alike p n shaped enough

  module _ (c : Cell) (sound : IsSound p c) where
    abbrev d : Cell
    d = narrowed_cell n c

    cells : AreCellsAlike c d
    cells = narrowed-cells p n shaped enough c sound

    on_same : (m j k : ℕ) → is_on_after q m j k ≡ is_on_after p m j k
    on_same m j zero = refl
    on_same m j (suc k) = refl

    -- the cleanings that are left of a machine with this time, order and state
    abbrev cleanings_of : ℕ → ℕ → List ℕ → MachineState → ℕ
    cleanings_of m time jobs s =
        if nat_lt 0 time then (length jobs - (length s.entries - cond (is_off p c m (get_or s.entries (length s.entries - 1) 0)) 0 1)) + (if is_some s.cleaning then 1 else 0) else 0

    cleanings_same : (m : ℕ) → cleanings_left q d m ≡ cleanings_left p c m
    cleanings_same m =
        ap (λ (b : Bool). if nat_lt 0 (clean q m) then (length (order q m) - (length (entries d m) - cond (not b) 0 1)) + (if is_some (cleaning d m) then 1 else 0) else 0) (on_same m (last_entrant d m) _)
        ∙ ap₂ (λ (time : ℕ) (jobs : List ℕ). cleanings_of m time jobs (machine_in d m)) (alike.cleans m) (alike.orders m)
        ∙ ap (cleanings_of m (clean p m) (order p m)) (cells.machines m)

    no_cleanings : (m : ℕ) → n ≤ m → cleanings_left p c m ≡ 0
    no_cleanings m past = ap (λ (time : ℕ). cleanings_of m time (order p m) (machine_in c m)) (enough.uncleaned m past)

    pub narrowed-reports : reports_left q d ≡ reports_left p c
    narrowed-reports =
        let more : ℕ = machines p - n in
        let whole : n + more ≡ machines p = omega (arith, enough.few) in
        ap (λ (x : ℕ). sum_below (job_reports_left p c) (jobs p) + x)
        (sum_below_same (cleanings_left q d) (cleanings_left p c) n (λ m inside. cleanings_same m) ∙ sum_first (cleanings_left p c) n more no_cleanings ∙ ap (sum_below (cleanings_left p c)) whole)

  -- a machine that is being cleaned is one of the first
  cleaned_first : (c : Cell) (m s : ℕ) → IsSound p c → cleaning c m ≡ Some s → m < n
  cleaned_first c m s sound is = elim (cases_lt m n) [
    | inl inside ↦ inside
    | inr past ↦ absurd (omega (arith, sound.cleaned_timed m s is, enough.uncleaned m past))
  ]

  owner_same : (c : Cell) (e : Event) (left : List ℕ) → IsSound p c → CanHappen p c e → owner (take n left) e ≡ owner left e
  owner_same c (Reported (Arrive j t)) left sound can = refl
  owner_same c (Reported (Finish j m t)) left sound can = refl
  owner_same c (Reported (Clean m t)) left sound can = get_or-take n left m 0 (cleaned_first c m can.going.1.0 sound can.going.1.1.is_cleaned)
  owner_same c (Moved o) left sound can = refl

  spot_same : (left : List ℕ) (j : ℕ) (spot : Spot) → left_spot (take n left) j spot ≡ take n (left_spot left j spot)
  spot_same left j Out = refl
  spot_same left j (At m) = sym (take_set n left m j)

  left_same : (left : List ℕ) (e : Event) → left_after (take n left) e ≡ take n (left_after left e)
  left_same left (Reported r) = refl
  left_same left (Moved o) = spot_same left o.job o.source

  last_same : (c : Cell) (es : List Event) (left : List ℕ) (found : Option ℕ) → IsSound p c → AreEvents p c es → last_owner found (take n left) es ≡ last_owner found left es
  last_same c [] left found sound events = refl
  last_same c (e ∷ es) left found sound (can, events) =
      ap₂ (λ (o : ℕ) (ls : List ℕ). last_owner (Some o) ls es) (owner_same c e left sound can) (left_same left e)
      ∙ last_same (after p c e) es (left_after left e) (Some (owner left e)) (after-sound p c e shaped sound can) events

  pub narrowed-owner : (es : List Event) → IsRun p es → run_owner q es ≡ run_owner p es
  narrowed-owner es run =
      ap (λ (ls : List ℕ). last_owner None ls es) (sym (take-replicate n (machines p) 0 enough.few)) ∙ last_same (start p) es (nobody_left p) None (start-sound p shaped) run
