use Rattle.std.proofs.Common.{◌≡◌, ◌<◌, ◌+◌, ◌*◌, ℕ, List, ap, subst, length, slice_index, sym, ◌∙◌, arith}
use Rattle.std.proofs.lemmas.List.FromFn.{get_or-map-range_with_len}
use Rattle.run_picture.specs.Steps.{moments_by}
use Rattle.run_picture.proofs.Ticks.{length-moments_by}
use Rattle.run_picture.proofs.axis.Ticks.at.Goals as goal

-- a number below that of the ticks
within : (first step count number : ℕ) (ticks : List ℕ) → moments_by first step count ≡ ticks → number < length ticks → number < count
within first step count number ticks are below = subst (λ (n : ℕ). number < n) (sym (ap length are) ∙ length-moments_by first step count) below

pub overflow_mul-result : goal.overflow_mul-result
overflow_mul-result c = omega (arith, c.self.invariant c.args.number (within _ _ _ _ _ c.self.view_is c.requires))

pub overflow_add-result : goal.overflow_add-result
overflow_add-result c = omega (arith, c.self.invariant c.args.number (within _ _ _ _ _ c.self.view_is c.requires))

pub returns : goal.returns
returns c =
    let below = within _ _ _ _ _ c.self.view_is c.requires in
    sym (get_or-map-range_with_len (λ (i : ℕ). c.self.inside.first + i * c.self.inside.step) 0 c.self.inside.count c.args.number c.args.number 0 below (omega arith))
    ∙ ap (λ (l : List ℕ). slice_index l c.args.number) c.self.view_is
