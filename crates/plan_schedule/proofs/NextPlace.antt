-- The visit that is to be made next on a machine.
use Rattle.std.proofs.Common.{◌≡◌, ℕ, ◌<◌, ◌≤◌, ◌⊎◌, inl, inr, length, arith, subst}
use Rattle.std.proofs.lemmas.Bool.{cases_lt, cases_order}
use Rattle.shop_base.specs.{Plan.{PlannedShop, machines, order, job_at, Visits, Stands, IsWellShaped}, Cell.{Cell, made, entries}, Sound.IsSound}
use Rattle.shop_base.proofs.Visits.{visits-stands, stands_step, stands_in_turn}

module _ (p : PlannedShop) (c : Cell) (m j : ℕ) where
  abbrev next_place : ℕ
  next_place = length (entries c m)

  -- the next place of a machine's order is for a visit that its job hasn't made
  pub next_ahead : IsWellShaped p → IsSound p c → m < machines p → next_place < length (order p m) → job_at p m next_place ≡ j → (k : ℕ) × (made c j ≤ k) × Stands p m next_place j k
  next_ahead shaped sound inside within here =
      let (k, found) = (shaped.orders m inside).on_route next_place within in
      let stands : Stands p m next_place j k = subst (λ (i : ℕ). Stands p m next_place i k) here found in (
        k,
        elim (cases_lt k (made c j)) [
          | inl passed ↦ absurd (let entered : next_place < next_place = sound.made_entered m next_place j k stands passed in omega (arith, entered))
          | inr ahead ↦ ahead
        ],
        stands,
      )

  -- that is the job's first visit ahead there
  pub next_stands : (k l : ℕ) → IsWellShaped p → IsSound p c → made c j ≤ k → Stands p m next_place j k → made c j ≤ l → Visits p j l m
      → ((i : ℕ) → made c j ≤ i → i < l → Visits p j i m → ⊥) → Stands p m next_place j l
  next_stands k l shaped sound ahead stands behind visits first = go (cases_order k l)
    where
      go : (k ≡ l) ⊎ ((k < l) ⊎ (l < k)) → Stands p m next_place j l
      go (inl same) = subst (Stands p m next_place j) same stands
      go (inr (inl less)) = absurd (first k ahead less stands.visits)
      go (inr (inr more)) = absurd (
          let (b, other) = visits-stands p j l m shaped visits in
          elim (cases_order b next_place) [
            | inl same ↦ omega (arith, more, stands_step p m next_place j l k (subst (λ (a : ℕ). Stands p m a j l) same other) stands)
            | inr (inl before) ↦ omega (arith, behind, sound.entered_made m b j l other before)
            | inr (inr past) ↦ omega (arith, more, stands_in_turn p m next_place b j k l stands other past)
          ])
