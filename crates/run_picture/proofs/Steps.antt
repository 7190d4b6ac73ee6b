-- The first step with few ticks.
use Rattle.std.proofs.Common.{◌≡◌, ℕ, zero, suc, ◌+◌, ◌-◌, ◌*◌, ◌<◌, ◌≤◌, List, [], ◌∷◌, length, slice_index, Option, ◌⊎◌, inl, inr, refl, sym, ap, subst, ◌∙◌, arith}
use Rattle.std.proofs.lemmas.Bool.{cases_eq, cases_lt}
use Rattle.people_names.specs.declared.clock.Clock.{Clock}
use Rattle.run_picture.specs.Axis.{round, step_in, axis_step_at, short_steps, long_unit, begin_of, ticks_by, AreTicks}
use Rattle.run_picture.specs.Steps.{AreMany, AreAllMany, IsFirstShort, IsFirstLong, AreNextSteps, IsStep}

pub first_steps : (begin last unit : ℕ) → 0 < unit → AreNextSteps begin last unit unit (2 * unit) (5 * unit)
first_steps begin last unit above = record {
  place = 0;
  step_is = omega arith;
  next_is = omega arith;
  after_is = omega arith;
  above = above;
  rises = omega arith;
  rises_more = omega arith;
  within = omega arith;
  least = λ k none. absurd (omega (arith, none));
}

-- the next three
pub next_steps : (begin last unit step next after : ℕ) → AreNextSteps begin last unit step next after → AreMany begin last step → AreNextSteps begin last unit next after (step * 10)
next_steps begin last unit step next after are many = record {
  place = suc are.place;
  step_is = are.next_is;
  next_is = are.after_is;
  after_is = ap (λ (n : ℕ). n * 10) are.step_is ∙ omega arith;
  above = omega (arith, are.above, are.rises);
  rises = are.rises_more;
  rises_more = are.within;
  within = omega (arith, are.rises);
  least = λ k below. go k below (cases_eq k are.place);
}
  where
    go : (k : ℕ) → k < suc are.place → (k ≡ are.place) ⊎ (k ≡ are.place → ⊥) → AreMany begin last (unit * round k)
    go k below (inl same) = subst (λ (n : ℕ). AreMany begin last (unit * round n)) (sym same) (subst (λ (n : ℕ). AreMany begin last n) are.step_is many)
    go k below (inr other) = are.least k (omega (arith, below, other))

-- a step among the short ones
step_in-short : (steps : List ℕ) (unit k : ℕ) → k < length steps → step_in steps unit k ≡ slice_index steps k
step_in-short [] unit k below = absurd (omega arith)
step_in-short (step ∷ steps) unit zero below = refl
step_in-short (step ∷ steps) unit (suc k) below = step_in-short steps unit k (omega arith)

-- a step behind them
step_in-long : (steps : List ℕ) (unit k j : ℕ) → j ≡ length steps + k → step_in steps unit j ≡ unit * round k
step_in-long [] unit k j is = let same : j ≡ k = omega arith in ap (λ (n : ℕ). unit * round n) same
step_in-long (step ∷ steps) unit k zero is = absurd (omega arith)
step_in-long (step ∷ steps) unit k (suc j) is = step_in-long steps unit k j (omega arith)

module _ (clock : Option Clock) (begin last step : ℕ) where
  -- the first short step is the first of all
  pub short_is : (short : List ℕ) → short ≡ short_steps clock → IsFirstShort begin last short step → IsStep clock begin last step
  short_is short are is = record {
    place = is.place;
    is = is.is ∙ sym (at is.place is.within);
    above = is.above;
    few = is.few;
    least = λ k below. subst (λ (n : ℕ). AreMany begin last n) (sym (at k (omega (arith, below, is.within)))) (is.least k below);
  }
    where
      at : (k : ℕ) → k < length short → axis_step_at clock k ≡ slice_index short k
      at k below = subst (λ (l : List ℕ). step_in l (long_unit clock) k ≡ slice_index short k) are (step_in-short short (long_unit clock) k below)

  -- where there are many ticks by each short one, the first long step is
  pub long_is : (short : List ℕ) (unit : ℕ) → short ≡ short_steps clock → unit ≡ long_unit clock → AreAllMany begin last short → IsFirstLong begin last unit step → IsStep clock begin last step
  long_is short unit are unit_is many is = record {
    place = length short + is.place;
    is = is.is ∙ sym (behind is.place (length short + is.place) refl);
    above = is.above;
    few = is.few;
    least = λ k below. go k below (cases_lt k (length short));
  }
    where
      of : (k : ℕ) → axis_step_at clock k ≡ step_in short unit k
      of k = rw (are, unit_is) refl

      behind : (k j : ℕ) → j ≡ length short + k → axis_step_at clock j ≡ unit * round k
      behind k j at = of j ∙ step_in-long short unit k j at

      go : (k : ℕ) → k < length short + is.place → (k < length short) ⊎ (length short ≤ k) → AreMany begin last (axis_step_at clock k)
      go k below (inl low) = subst (λ (n : ℕ). AreMany begin last n) (sym (of k ∙ step_in-short short unit k low)) (many k low)
      go k below (inr high) = subst (λ (n : ℕ). AreMany begin last n) (sym (behind (k - length short) k (omega arith))) (is.least (k - length short) (omega arith))

-- the multiples of the step are the ticks
pub named_by : (clock : Option Clock) (begin last step : ℕ) (ticks : List ℕ) → begin ≡ begin_of clock → IsStep clock begin last step → ticks ≡ ticks_by begin last step → AreTicks clock last ticks
named_by clock begin last step ticks begins is are = of_clock (subst (λ (b : ℕ). IsStep clock b last step) begins is) (subst (λ (b : ℕ). ticks ≡ ticks_by b last step) begins are)
  where
    of_clock : IsStep clock (begin_of clock) last step → ticks ≡ ticks_by (begin_of clock) last step → AreTicks clock last ticks
    of_clock is are = record {
      place = is.place;
      are = are ∙ ap (λ (n : ℕ). ticks_by (begin_of clock) last n) is.is;
      few = subst (λ (l : List ℕ). length l ≤ 10) (sym are) is.few;
      least = is.least;
    }
