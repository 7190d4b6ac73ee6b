-- The question for some nodes is sound, and all moments that are looked for answer it.
use Rattle.std.proofs.Common.{◌≡◌, ℕ, ◌<◌, ◌≤◌, List, length, Option, arith, sym, ◌∙◌, subst}
use Rattle.shop_base.specs.declared.node.Node.{Node}
use Rattle.shop_base.specs.Plan.{PlannedShop}
use Rattle.shop_base.specs.Cell.{Cell}
use Rattle.arc_choice.specs.declared.question.Question.{Question}
use Rattle.arc_choice.specs.declared.exploring.Outcome.{Outcome}
use Rattle.arc_choice.specs.declared.exploring.Outcome.TheVariants.{Never, Chosen, Open}
use Rattle.arc_choice.specs.Choices.{IsArc, IsSoundQuestion, IsImpossible, arc_at, pair_at}
use Rattle.arc_choice.specs.Outcomes.{OnNever}
use Rattle.plan_bounds.specs.Bounds.{times_of}
use Rattle.plan_limits.specs.declared.questions.TheConstants.{MAX_NODES}
use Rattle.plan_limits.specs.Stages.{Stage, stage_of, HasSoundMoments}
use Rattle.plan_limits.specs.Limits.{NoPlanKeepsFrom}
use Rattle.plan_limits.specs.Asked.{by_number, AreNumbered, AreFirst, AreLast, AreFixedArcs, AreMachinePairs, Asks}
use Rattle.plan_limits.proofs.KeptArcs.{IsKeptArc, IsKeptPair, fixed_arc, machine_pair}
use Rattle.plan_limits.proofs.Farthest.{every_plan_gives_moments-holds}

module _ (p : PlannedShop) (c : Cell) (t : ℕ) (nodes : List Node) (limits : List (Option ℕ)) (q : Question)
    (numbered : AreNumbered (times_of p) c nodes) (few : length nodes ≤ MAX_NODES) (count : length q.first.items ≡ length nodes) (counts : length q.last.items ≡ length nodes)
    (firsts : AreFirst (stage_of p c t) nodes q.first.items) (lasts : AreLast (stage_of p c t) nodes limits q.last.items)
    (arcs : AreFixedArcs (times_of p) c nodes q.arcs.items) (pairs : AreMachinePairs (times_of p) nodes q.pairs.items) where
  abbrev arc : (a : ℕ) → a < length q.arcs.items → IsKeptArc (stage_of p c t) nodes (arc_at q a)
  arc a within = fixed_arc (stage_of p c t) nodes q.arcs.items a numbered arcs within

  abbrev pair : (a : ℕ) → a < length q.pairs.items → IsKeptPair (stage_of p c t) nodes (pair_at q a)
  pair a within = machine_pair (stage_of p c t) nodes (pair_at q a) numbered (pairs a within)

  pub question_sound : IsSoundQuestion q
  question_sound = record {
    few = omega (arith, count, few);
    lasts = counts ∙ sym count;
    arcs = λ a within. subst (λ (n : ℕ). IsArc n (arc_at q a)) (sym count) (arc a within).sound;
    ones = λ a within. subst (λ (n : ℕ). IsArc n (pair_at q a).one) (sym count) (pair a within).one;
    others = λ a within. subst (λ (n : ℕ). IsArc n (pair_at q a).other) (sym count) (pair a within).other;
  }

  pub question_asks : Asks (stage_of p c t) nodes limits q
  question_asks w fine leave = record {
    first = λ v within. firsts v within w fine;
    last = λ v within. lasts v (omega (arith, within, count, counts)) w fine leave;
    arcs = λ a within. (arc a within).keeps w fine;
    pairs = λ a within. (pair a within).keeps w fine;
  }

-- what holds at `Never`
pub at_never : (P : Type 0) (o : Outcome) → o ≡ Never → OnNever P o → P
at_never P Never is holds = holds
at_never P (Chosen moments) is holds = absurd (cc)
at_never P Open is holds = absurd (cc)

-- where nothing answers the question no plan keeps the limits
pub no_plan_keeps : (s : Stage) (nodes : List Node) (limits : List (Option ℕ)) (q : Question) → HasSoundMoments s → Asks s nodes limits q → IsImpossible q → NoPlanKeepsFrom s limits
no_plan_keeps s nodes limits q timed asks impossible p goes keeps =
    let found = every_plan_gives_moments-holds s p limits timed goes keeps in
    impossible (by_number nodes found.0) (asks found.0 found.1 found.2)
