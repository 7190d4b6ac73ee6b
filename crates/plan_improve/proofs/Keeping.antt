-- What is known of the best plan so far, and how an answer keeps it.
use Rattle.std.proofs.Common.{◌≡◌, ℕ, ◌+◌, ◌<◌, List, [], ◌∷◌, ◌++◌, append_assoc, Option, Result, Ok, Err, IfOk, length, get_or, None, Some, inr, refl, sym, ap, ◌∙◌, subst}
use Rattle.std.proofs.lemmas.Option.{slice_get_read}
use Rattle.plan_improve.proofs.Common.{AfterRound, AfterRounds, AfterSome, Asked, Becomes, Best, Cost, EndsAfter, Fixed, IsAtBound, IsAtMost, IsBetter, IsFixed, IsLast, IsLess, IsNext, IsNextOf, IsReordered, ReportsMore, IsWellShaped, Meets, PartAhead, PlannedShop, Proposal, ReportedRounds, RestOfRun, Setting, IsRestOfDone, Progress, Watched, append-nil, better, bound_if_known, no_answer, no_better, no_round, nobody, one_more, reordered, rest_in, round_more, setting_of, reported_bound}
use Rattle.plan_improve.proofs.{Comparing.{most_of_most, not_both, most_same, most_less}, Once.{OneCost, reordered_on}}

-- nothing was reported, and then more
pub reports_nothing : (before : Option (List Progress)) → ReportsMore before [] before
reports_nothing None = tt
reports_nothing (Some before) = ap (λ reported. Some reported) (sym (append-nil before))

pub reports_on : (before between after : Option (List Progress)) (one more : List Progress) → ReportsMore before one between → ReportsMore between more after → ReportsMore before (one ++ more) after
reports_on None between after one more first next = tt
reports_on (Some before) between after one more first next =
    (rw first at next) ∙ ap (λ reported. Some reported) (append_assoc before one more)

module _ (s : Setting) where
  -- what becomes of a plan has its numbers
  becomes_same : (p : PlannedShop) (answer : Proposal) (q : PlannedShop) → Becomes s p answer q → IsReordered p q
  becomes_same p answer q no_answer = refl
  becomes_same p answer q (no_better order not) = refl
  becomes_same p answer q (better order is) = refl

  -- the rest stays as it was
  next_same : (x y : RestOfRun PlannedShop) (c : Cost) (answer : Proposal) → IsRestOfDone s x → s.costs x.plan c → y.plan ≡ x.plan → y.cell ≡ x.cell → y.present ≡ x.present
      → Becomes s x.plan answer x.plan → IsNext s x.plan c answer (record { rest = y; cost = c })
  next_same x y c answer stands is plan cell present becomes = record {
    becomes = subst (Becomes s x.plan answer) (sym plan) becomes;
    stands = subst (λ p. s.cells p y.cell y.present) (sym plan) (subst (λ d. s.cells x.plan d y.present) (sym cell) (subst (s.cells x.plan x.cell) (sym present) stands));
    is = subst (λ p. s.costs p c) (sym plan) is;
    most = most_same c;
  }

  module _ (once : OneCost s) where
    -- a plan whose cost isn't less than the bound
    pub none_below : (p : PlannedShop) (cost bound : Cost) → s.costs p cost → IsAtMost bound cost → (c : Cost) → s.costs p c → IsLess c bound → ⊥
    none_below p cost bound is most c other less = not_both cost bound (subst (λ d. IsLess d bound) (once p c cost other is) less) most

    -- a plan that isn't below the cost of another isn't better
    not_better : (x p : PlannedShop) (bound : Cost) → s.costs p bound → ((c : Cost) → s.costs x c → IsLess c bound → ⊥) → IsBetter s x p → ⊥
    not_better x p bound is none one = none one.cost one.is (subst (IsLess one.cost) (once p one.other bound one.than is) one.less)

    -- orders that are no better: the cell is the first again
    pub next_worse : (x y z : RestOfRun PlannedShop) (c : Cost) (order : List (List ℕ)) → IsRestOfDone s x → s.costs x.plan c → y.plan ≡ reordered x.plan order
        → ((d : Cost) → s.costs y.plan d → IsLess d c → ⊥) → z.plan ≡ x.plan → z.cell ≡ x.cell → z.present ≡ x.present → IsNext s x.plan c (Some order) (record { rest = z; cost = c })
    next_worse x y z c order stands is new none plan cell present = next_same x z c (Some order) stands is plan cell present
        (no_better order (not_better (reordered x.plan order) x.plan c is (subst (λ p. (d : Cost) → s.costs p d → IsLess d c → ⊥) new none)))

  -- no answer
  pub next_none : (x : RestOfRun PlannedShop) (c : Cost) → IsRestOfDone s x → s.costs x.plan c → IsNext s x.plan c None (record { rest = x; cost = c })
  next_none x c stands is = next_same x x c None stands is refl refl refl no_answer

  -- orders that don't fit
  pub next_unfit : (x y : RestOfRun PlannedShop) (c : Cost) (order : List (List ℕ)) → IsRestOfDone s x → s.costs x.plan c → y.plan ≡ x.plan → y.cell ≡ x.cell → y.present ≡ x.present
      → (IsBetter s (reordered x.plan order) x.plan → ⊥) → IsNext s x.plan c (Some order) (record { rest = y; cost = c })
  next_unfit x y c order stands is plan cell present not = next_same x y c (Some order) stands is plan cell present (no_better order not)

  -- orders that are better
  pub next_better : (x y : RestOfRun PlannedShop) (c d : Cost) (order : List (List ℕ)) → s.costs x.plan c → y.plan ≡ reordered x.plan order → IsWellShaped y.plan → IsRestOfDone s y → s.costs y.plan d
      → IsLess d c → IsNext s x.plan c (Some order) (record { rest = y; cost = d })
  next_better x y c d order is new shaped stands cost less = record {
    becomes = subst (Becomes s x.plan (Some order)) (sym new) (better order (record {
      shaped = subst IsWellShaped new shaped;
      cost = d;
      other = c;
      is = subst (λ p. s.costs p d) new cost;
      than = is;
      less = less;
    }));
    stands = stands;
    is = cost;
    most = most_less d c less;
  }

  -- the answer of one improver, put to the test
  pub asked_answer : {E : Type 0} (may : Proposal → Type 0) (best : Best) (order : List (List ℕ)) (r : Result Best E) → may (Some order)
      → IfOk r (IsNext s best.rest.plan best.cost (Some order)) → IfOk r (IsNextOf s may best)
  asked_answer may best order (Ok kept) given next = (Some order, given, next)
  asked_answer may best order (Err e) given next = tt

module _ (fixed : Fixed) (r : RestOfRun PlannedShop) where
  abbrev here : Setting
  here = setting_of fixed r

  -- the best plan so far meets the bound of the first
  pub at_bound : (made : Asked) (first : Cost) (best : Best) → IsLast here made r.plan first best → IsFixed fixed r → Meets best.cost (bound_if_known fixed) → IsAtBound here best.rest.plan
  at_bound made first best known is meets =
      record { cost = best.cost; at_least = bound_if_known fixed; is = known.is; bound = is.bound best.rest.plan known.same; meets = meets }

  module _ {B : Type 0} (may : B → PlannedShop → Option PartAhead → ℕ → Proposal → Type 0) (improvers : List B) where
    -- one more improver was asked, as the best plan was above its bound
    pub one_more_asked : (round n : ℕ) (first : Cost) (best kept : Best) (who : B) → IsFixed fixed r → (Meets best.cost (bound_if_known fixed) → ⊥)
        → n < length improvers → who ≡ get_or improvers n who
        → IsLast here (λ x. AfterSome here may improvers round x n) r.plan first best → IsNextOf here (may who best.rest.plan (rest_in fixed) round) best kept
        → IsLast here (λ x. AfterSome here may improvers round x (n + 1)) r.plan first kept
    one_more_asked round n first best kept who is above inside stands known (answer, given, next) = record {
      run = one_more n who best.rest.plan kept.rest.plan (rest_in fixed) answer known.run
          (record { cost = best.cost; at_least = bound_if_known fixed; is = known.is; bound = is.bound best.rest.plan known.same; above = above })
          (is.left best.rest.plan best.cost known.same known.is) (slice_get_read improvers (length improvers) n who refl inside stands) given next.becomes;
      same = reordered_on r.plan best.rest.plan kept.rest.plan known.same (becomes_same here best.rest.plan answer kept.rest.plan next.becomes);
      stands = next.stands;
      is = next.is;
      most = most_of_most kept.cost best.cost first next.most known.most;
    }

    -- no improver more is asked
    pub round_ends : (round n : ℕ) (first : Cost) (best : Best) → IsLast here (λ x. AfterSome here may improvers round x n) r.plan first best
        → EndsAfter here (length improvers) n best.rest.plan → IsLast here (AfterRound here may improvers round) r.plan first best
    round_ends round n first best known ends = record { run = record { asked = n; after = known.run; ends = ends }; same = known.same; stands = known.stands; is = known.is; most = known.most }

    -- one more round, before which the best plan doesn't meet its bound
    pub one_more_round : (before between after : Option (List Progress)) (n : ℕ) (first : Cost) (best kept : Best) → IsFixed fixed r → (Meets best.cost (bound_if_known fixed) → ⊥)
        → IsLast here (Watched before between (λ reported x. AfterRounds here may improvers x n reported)) r.plan first best
        → ReportsMore between (record { round = n; cost = best.cost; at_least = reported_bound (bound_if_known fixed) } ∷ []) after
        → IsLast here (AfterRound here may improvers n) best.rest.plan best.cost kept
        → IsLast here (Watched before after (λ reported x. AfterRounds here may improvers x (n + 1) reported)) r.plan first kept
    one_more_round before between after n first best kept is unmet known more next =
        let (reported, so_far, run) = known.run in
        let now : List Progress = record { round = n; cost = best.cost; at_least = reported_bound (bound_if_known fixed) } ∷ [] in
        record {
          run = (
            reported ++ now,
            reports_on before between after reported now so_far more,
            round_more n reported best.rest.plan kept.rest.plan best.cost (bound_if_known fixed) run known.is (is.bound best.rest.plan known.same) unmet next.run,
          );
          same = reordered_on r.plan best.rest.plan kept.rest.plan known.same next.same;
          stands = next.stands;
          is = next.is;
          most = most_of_most kept.cost best.cost first next.most known.most;
        }

    -- no round more
    pub rounds_end : (before after : Option (List Progress)) (n rounds : ℕ) (first : Cost) (best : Best)
        → IsLast here (Watched before after (λ reported x. AfterRounds here may improvers x n reported)) r.plan first best
        → EndsAfter here rounds n best.rest.plan → IsLast here (Watched before after (ReportedRounds here may improvers rounds)) r.plan first best
    rounds_end before after n rounds first best known ends =
        let (reported, so_far, run) = known.run in
        record { run = (reported, so_far, record { asked = n; after = run; ends = ends }); same = known.same; stands = known.stands; is = known.is; most = known.most }

    pub bound_met : (before after : Option (List Progress)) (n rounds : ℕ) (first : Cost) (best : Best)
        → IsLast here (Watched before after (λ reported x. AfterRounds here may improvers x n reported)) r.plan first best
        → n < rounds → IsFixed fixed r → Meets best.cost (bound_if_known fixed) → IsLast here (Watched before after (ReportedRounds here may improvers rounds)) r.plan first best
    bound_met before after n rounds first best known few is meets =
        rounds_end before after n rounds first best known (inr (few, at_bound (Watched before after (λ reported x. AfterRounds here may improvers x n reported)) first best known is meets))

    pub nobody_asked : (round : ℕ) (best : Best) → IsRestOfDone here best.rest → here.costs best.rest.plan best.cost → IsLast here (λ x. AfterSome here may improvers round x 0) best.rest.plan best.cost best
    nobody_asked round best stands is = record { run = nobody; same = refl; stands = stands; is = is; most = most_same best.cost }

    pub no_rounds : (before : Option (List Progress)) (best : Best) → IsRestOfDone here best.rest → here.costs best.rest.plan best.cost
        → IsLast here (Watched before before (λ reported x. AfterRounds here may improvers x 0 reported)) best.rest.plan best.cost best
    no_rounds before best stands is = record { run = ([], reports_nothing before, no_round); same = refl; stands = stands; is = is; most = most_same best.cost }
