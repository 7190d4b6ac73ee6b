-- A plan with other budgets: its graph is the same, and what has happened keeps it just as well.
use Rattle.std.proofs.Common.{◌≡◌, ℕ, ◌+◌, ◌<◌, ◌≤◌, List, [], ◌∷◌, length, slice_index, arith}
use Rattle.shop_base.specs.declared.node.Node.{Node}
use Rattle.shop_base.specs.declared.limits.TheConstants.{MAX_MOMENT}
use Rattle.shop_base.specs.Plan.{PlannedShop, jobs, machine_of, Visits, Stands, IsOrder, IsWellShaped}
use Rattle.shop_base.specs.Cell.{Cell, IsOn}
use Rattle.shop_base.specs.Activity.{Activity, Arrival, Operation, Cleaning, GoesOn}
use Rattle.shop_base.specs.Graph.{leaving, Arc, job_arc, blocking_arc, ArcsLead, Path, begins, follows, IsSimpleCycle}
use Rattle.shop_base.specs.Ahead.{HoldsUp, PathAhead, now, held, onward}
use Rattle.cell_tables.specs.Kept.{KeepsSoFar}
use Rattle.plan_verifier.specs.Accepted.{HasNoCycle, IsGreatest}
use Rattle.plan_verifier.specs.Rest.{IsGreatestAhead}
use Rattle.plan_decide.specs.declared.aim.Objective.TheVariants.{Leaving}
use Rattle.plan_decide.specs.Cases.{Past, nothing, run_to, KeepsPast, IsOutWithin, HasValue}

-- the plan with these budgets
abbrev pub rebudgeted : PlannedShop → List ℕ → PlannedShop
rebudgeted p budget = record { shop = p.shop; plan = record { release = p.plan.release; budget = budget; order = p.plan.order; clean = p.plan.clean } }

module _ (p : PlannedShop) (budgets : List ℕ) where
  visits_again : (j k m : ℕ) → Visits p j k m → Visits (rebudgeted p budgets) j k m
  visits_again j k m is = record { within = is.within; here = is.here }

  visits_as_before : (j k m : ℕ) → Visits (rebudgeted p budgets) j k m → Visits p j k m
  visits_as_before j k m is = record { within = is.within; here = is.here }

  stands_again : (m a j k : ℕ) → Stands p m a j k → Stands (rebudgeted p budgets) m a j k
  stands_again m a j k is = record { within = is.within; job = is.job; visits = visits_again j k m is.visits; turn = is.turn }

  stands_as_before : (m a j k : ℕ) → Stands (rebudgeted p budgets) m a j k → Stands p m a j k
  stands_as_before m a j k is = record { within = is.within; job = is.job; visits = visits_as_before j k m is.visits; turn = is.turn }

  order_again : (m : ℕ) → IsOrder p m → IsOrder (rebudgeted p budgets) m
  order_again m is = record {
    on_route = λ a lt. (let at = is.on_route a lt in (at.0, stands_again m a _ at.0 at.1));
    complete = λ j k visits. (let at = is.complete j k (visits_as_before j k m visits) in (at.0, stands_again m at.0 j k at.1));
  }

  -- it is well shaped
  pub shaped_again : IsWellShaped p → length budgets ≡ jobs p → ((j : ℕ) → j < jobs p → slice_index budgets j ≤ MAX_MOMENT) → IsWellShaped (rebudgeted p budgets)
  shaped_again shaped count few = record {
    shop = shaped.shop;
    counts = record { releases = shaped.counts.releases; budgets = count; orders = shaped.counts.orders; cleanings = shaped.counts.cleanings };
    limits = record { releases = shaped.limits.releases; budgets = few; cleanings = shaped.limits.cleanings };
    orders = λ m inside. order_again m (shaped.orders m inside);
  }

  arc_again : (u v : Node) (d : ℕ) → Arc p u v d → Arc (rebudgeted p budgets) u v d
  arc_again _ _ _ (job_arc j k within) = job_arc j k within
  arc_again _ _ _ (blocking_arc m a i k j l one next) = blocking_arc m a i k j l (stands_again m a i k one) (stands_again m (a + 1) j l next)

  path_again : (nodes : List Node) (v : Node) (n : ℕ) → Path p nodes v n → Path (rebudgeted p budgets) nodes v n
  path_again _ _ _ (begins j inside) = begins j inside
  path_again _ _ _ (follows nodes u v n d path arc) = follows nodes u v n d (path_again nodes u n path) (arc_again u v d arc)

  arc_as_before : (u v : Node) (d : ℕ) → Arc (rebudgeted p budgets) u v d → Arc p u v d
  arc_as_before _ _ _ (job_arc j k within) = job_arc j k within
  arc_as_before _ _ _ (blocking_arc m a i k j l one next) = blocking_arc m a i k j l (stands_as_before m a i k one) (stands_as_before m (a + 1) j l next)

  path_as_before : (nodes : List Node) (v : Node) (n : ℕ) → Path (rebudgeted p budgets) nodes v n → Path p nodes v n
  path_as_before _ _ _ (begins j inside) = begins j inside
  path_as_before _ _ _ (follows nodes u v n d path arc) = follows nodes u v n d (path_as_before nodes u n path) (arc_as_before u v d arc)

  -- the greatest length of a path to a node is the same
  pub greatest_again : (v : Node) (n : ℕ) → IsGreatest p v n → IsGreatest (rebudgeted p budgets) v n
  greatest_again v n is = record {
    reached = (is.reached.0, path_again is.reached.0 v n is.reached.1);
    longest = λ nodes k path. is.longest nodes k (path_as_before nodes v k path);
  }

  leads_as_before : (u : Node) (nodes : List Node) (v : Node) → ArcsLead (rebudgeted p budgets) u nodes v → ArcsLead p u nodes v
  leads_as_before u [] v (d, arc) = (d, arc_as_before u v d arc)
  leads_as_before u (w ∷ ws) v ((d, arc), rest) = ((d, arc_as_before u w d arc), leads_as_before w ws v rest)

  cycle_as_before : (nodes : List Node) → IsSimpleCycle (rebudgeted p budgets) nodes → IsSimpleCycle p nodes
  cycle_as_before [] cycle = cycle
  cycle_as_before (u ∷ us) (distinct, leads) = (distinct, leads_as_before u us u leads)

  -- it has no cycle either
  pub acyclic_again : HasNoCycle p → HasNoCycle (rebudgeted p budgets)
  acyclic_again acyclic nodes cycle = acyclic nodes (cycle_as_before nodes cycle)

  -- ---- what goes on hangs on no budget

  on_again : (c : Cell) (j k m : ℕ) → IsOn p c j k m → IsOn (rebudgeted p budgets) c j k m
  on_again c j k m is = record { entered = is.entered; visits = visits_again j k m is.visits }

  on_as_before : (c : Cell) (j k m : ℕ) → IsOn (rebudgeted p budgets) c j k m → IsOn p c j k m
  on_as_before c j k m is = record { entered = is.entered; visits = visits_as_before j k m is.visits }

  goes_again : (c : Cell) (a : Activity) (due : ℕ) → GoesOn p c a due → GoesOn (rebudgeted p budgets) c a due
  goes_again c (Arrival j) due is = record { outside = is.outside; not_ready = is.not_ready; is_due = is.is_due }
  goes_again c (Operation j m) due (k, is) = (k, record { on = on_again c j k m is.on; not_ready = is.not_ready; is_due = is.is_due })
  goes_again c (Cleaning m) due (from, is) = (from, record { is_cleaned = is.is_cleaned; is_due = is.is_due })

  holds_again : (c : Cell) (a : Activity) (v : Node) → HoldsUp p c a v → HoldsUp (rebudgeted p budgets) c a v
  holds_again c (Arrival j) v is = is
  holds_again c (Operation j m) v is = is
  holds_again c (Cleaning m) v is = stands_again m _ v.job v.place is

  -- so the paths ahead are the same
  pub ahead_again : (c : Cell) (t : ℕ) (nodes : List Node) (v : Node) (n : ℕ) → PathAhead p c t nodes v n → PathAhead (rebudgeted p budgets) c t nodes v n
  ahead_again c t _ _ _ (now v is ahead) = now v (record { job = is.job; place = is.place }) ahead
  ahead_again c t _ _ _ (held a due v going holds) = held a due v (goes_again c a due going) (holds_again c a v holds)
  ahead_again c t _ _ _ (onward nodes u v n d path arc) = onward nodes u v n d (ahead_again c t nodes u n path) (arc_again u v d arc)

-- and what has happened keeps it too
pub kept_again : (base : PlannedShop) (c : Cell) (p : PlannedShop) (budgets : List ℕ) → KeepsSoFar base c p → KeepsSoFar base c (rebudgeted p budgets)
kept_again base c p budgets keeps = record {
  jobs_keep = λ j inside. (
      let job = keeps.jobs_keep j inside in
      record { lacking = job.lacking; entered = λ k done here. visits_again p budgets j k (machine_of base j k) (job.entered k done here); gone = job.gone });
  machines_keep = λ m inside. (
      let machine = keeps.machines_keep m inside in
      record { in_order = machine.in_order; cleanings = record { cleaned = machine.cleanings.cleaned; uncleaned = machine.cleanings.uncleaned } });
}

-- ---- what is said of a plan, and of one with other budgets

pub keeps_again : (past : Past) (p : PlannedShop) (budgets : List ℕ) → KeepsPast past p → KeepsPast past (rebudgeted p budgets)
keeps_again nothing p budgets keeps = tt
keeps_again (run_to base c present) p budgets keeps = kept_again base c p budgets keeps

pub out_again : (past : Past) (p : PlannedShop) (budgets : List ℕ) (j n : ℕ) → IsOutWithin past p j n → IsOutWithin past (rebudgeted p budgets) j n
out_again nothing p budgets j n is = λ nodes k path. is nodes k (path_as_before p budgets nodes (leaving p j) k path)
out_again (run_to base c present) p budgets j n is = λ nodes k path. is nodes k (ahead_again (rebudgeted p budgets) p.plan.budget c present nodes (leaving p j) k path)

greatest_ahead_again : (p : PlannedShop) (budgets : List ℕ) (c : Cell) (t : ℕ) (v : Node) (n : ℕ) → IsGreatestAhead p c t v n → IsGreatestAhead (rebudgeted p budgets) c t v n
greatest_ahead_again p budgets c t v n is = record {
  reached = (is.reached.0, ahead_again p budgets c t is.reached.0 v n is.reached.1);
  longest = λ nodes k path. is.longest nodes k (ahead_again (rebudgeted p budgets) p.plan.budget c t nodes v k path);
}

pub leaving_value_again : (past : Past) (p : PlannedShop) (budgets : List ℕ) (j n : ℕ) → HasValue past (Leaving j) p n → HasValue past (Leaving j) (rebudgeted p budgets) n
leaving_value_again nothing p budgets j n is = greatest_again p budgets (leaving p j) n is
leaving_value_again (run_to base c present) p budgets j n is = record { left = is.left; ahead = λ here. greatest_ahead_again p budgets c present (leaving p j) n (is.ahead here) }

-- what is out by a moment is out by a later one
pub out_later : (past : Past) (p : PlannedShop) (j m n : ℕ) → m ≤ n → IsOutWithin past p j m → IsOutWithin past p j n
out_later nothing p j m n le is = λ nodes k path. omega (arith, le, is nodes k path)
out_later (run_to base c present) p j m n le is = λ nodes k path. omega (arith, le, is nodes k path)
