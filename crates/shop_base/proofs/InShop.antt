-- What is of the shop: only its jobs are outside, ready or on a machine, and only its machines are cleaned; and machines are all unused at the start.
use Rattle.std.proofs.Common.{◌≡◌, ℕ, ◌<◌, Some, true, lt_of_not-le, inl, inr, ap, arith}
use Rattle.std.proofs.lemmas.Bool.{cases_lt}
use Rattle.std.proofs.lemmas.List.{get_or_past, get_or-replicate, length-replicate}
use Rattle.shop_base.specs.Plan.{PlannedShop, jobs, machines}
use Rattle.shop_base.specs.Cell.{Cell, MachineState, absent, unused, ready, machine_in, cleaning, start, IsOutside}
use Rattle.shop_base.specs.declared.job_state.JobState.{JobState}
use Rattle.shop_base.specs.Sound.{IsSound}

pub outside_in_shop : (p : PlannedShop) (c : Cell) (j : ℕ) → IsSound p c → IsOutside c j → j < jobs p
outside_in_shop p c j sound outside = lt_of_not-le λ past.
    absurd (omega (arith, outside, ap (λ (s : JobState). s.made) (get_or_past c.jobs j absent (omega (arith, sound.job_count)))))

pub ready_in_shop : (p : PlannedShop) (c : Cell) (j : ℕ) → IsSound p c → ready c j ≡ true → j < jobs p
ready_in_shop p c j sound is_ready = lt_of_not-le λ past.
    absurd (cc (is_ready, ap (λ (s : JobState). s.ready) (get_or_past c.jobs j absent (omega (arith, sound.job_count)))))

pub cleaned_in_shop : (p : PlannedShop) (c : Cell) (m s : ℕ) → IsSound p c → cleaning c m ≡ Some s → m < machines p
cleaned_in_shop p c m s sound is_cleaned = lt_of_not-le λ past.
    absurd (cc (is_cleaned, ap (λ (x : MachineState). x.cleaning) (get_or_past c.machines m unused (omega (arith, sound.machine_count)))))

pub start_unused : (p : PlannedShop) (m : ℕ) → machine_in (start p) m ≡ unused
start_unused p m = elim (cases_lt m (machines p)) [
  | inl inside ↦ get_or-replicate (machines p) m unused unused inside
  | inr past ↦ get_or_past (start p).machines m unused (rw length-replicate past)
]
