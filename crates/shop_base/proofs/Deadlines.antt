-- Deadlines: arcs that press lead from each node ahead to a leaving kept to its budget; so these moments are the latest, and tight.
use Rattle.std.proofs.Common.{◌≡◌, ℕ, zero, suc, ◌+◌, ◌<◌, ◌≤◌, inl, inr, List, ◌∷◌, ◌++◌, sym, subst, arith, le_refl, max, []}
use Rattle.shop_base.specs.declared.node.Node.{Node}
use Rattle.shop_base.specs.declared.report.Report.{Report}
use Rattle.shop_base.specs.Plan.{PlannedShop, jobs, steps, budget, IsWellShaped}
use Rattle.shop_base.specs.Cell.{Cell, made, since, start, IsGone}
use Rattle.shop_base.specs.Report.{ended, at, report_of, after_report}
use Rattle.shop_base.specs.Move.{after_move}
use Rattle.shop_base.specs.Run.{Event, Reported, Moved, AreEvents, IsRun, after_all, ends_in}
use Rattle.shop_base.specs.Punctual.{AreNotEarly}
use Rattle.shop_base.specs.Ends.{sum_below, IsOutByBudget}
use Rattle.shop_base.specs.Graph.{Arc, node, leaving, RanksRise}
use Rattle.shop_base.specs.Sound.{IsSound}
use Rattle.shop_base.specs.Ahead.{IsAhead, RespectArcs, MeetBudgetsAhead, MoveFrom, MomentsFitAhead, IsScheduleAhead}
use Rattle.shop_base.specs.Within.{AreWithin, RiseAhead}
use Rattle.shop_base.specs.Deadlines.{AreDeadlines}
use Rattle.shop_base.specs.DeadlinesLaw.{DeadlinesAreTheLatest, DeadlinesAreTheSame, NoDeadlineIsTooEarly, InTimeByDeadlines, EachMoveIsByItsDeadline, AllOutByDeadlines, DeadlinesStay, DeadlinesAreTight, ALateEndIsTooLate, TheRestStaysAccepted}
use Rattle.shop_base.proofs.Sums.{sum_below-le}
use Rattle.shop_base.proofs.Reports.{at-report_of, after_report-of}
use Rattle.shop_base.proofs.Keeping.{after_report-like, after_report-sound, run-sound}
use Rattle.shop_base.proofs.ControlledRuns.{after_all_join}
use Rattle.shop_base.proofs.Ahead.{IsLeftIn, arc_ahead, arc_left, held_left}
use Rattle.shop_base.proofs.InTime.{present_left, report_last, moments_still_fit-holds}
use Rattle.shop_base.proofs.LowerBounds.{made_more, HasPathOf, further, from_now, events_split, moves_from_last, made-no_earlier}
use Rattle.shop_base.proofs.Within.{in_time_within-holds, goes_on-made_by}
use Rattle.shop_base.proofs.GoingOn.{goes_on_to_run}
use Rattle.shop_base.proofs.OwnReports.{own-within}

-- the ranks of all nodes of the shop together
pub all_ranks : PlannedShop → (Node → ℕ) → ℕ
all_ranks p rank = sum_below (λ j. sum_below (λ k. rank (node j k)) (steps p j + 1)) (jobs p)

pub rank_within : (p : PlannedShop) (rank : Node → ℕ) (v : Node) → v.job < jobs p → v.place ≤ steps p v.job → rank v ≤ all_ranks p rank
unfolding all_ranks
rank_within p rank v inside place =
    let mine : rank v ≤ sum_below (λ k. rank (node v.job k)) (steps p v.job + 1) = sum_below-le (λ k. rank (node v.job k)) (steps p v.job + 1) v.place (omega arith) in
    let whole : sum_below (λ k. rank (node v.job k)) (steps p v.job + 1) ≤ sum_below (λ j. sum_below (λ k. rank (node j k)) (steps p j + 1)) (jobs p) =
    sum_below-le (λ j. sum_below (λ k. rank (node j k)) (steps p j + 1)) (jobs p) v.job inside in
    omega arith

-- arcs lead from one node to another, with their length
pub data LeadsOn (p : PlannedShop) : Node → Node → ℕ → Type 0 where
  here : (v : Node) → LeadsOn p v v 0
  first : (u v w : Node) (d n : ℕ) → Arc p u v d → LeadsOn p v w n → LeadsOn p u w (d + n)

-- from a node ahead, arcs lead to the leaving of a job that isn't gone, and its budget is that much later than the deadline of the node
record IsBound (p : PlannedShop) (c : Cell) (kept : Node → ℕ) (v : Node) : Type 0 where
  job : ℕ
  size : ℕ
  inside : job < jobs p
  left : made c job ≤ steps p job
  leads : LeadsOn p v (leaving p job) size
  exact : kept v + size ≡ budget p job

further_bound : (p : PlannedShop) (kept : Node → ℕ) (c : Cell) (v w : Node) (d : ℕ) → Arc p v w d → kept v + d ≡ kept w → IsBound p c kept w → IsBound p c kept v
further_bound p kept c v w d arc at next = record {
  job = next.job;
  size = d + next.size;
  inside = next.inside;
  left = next.left;
  leads = first v w (leaving p next.job) d next.size arc next.leads;
  exact = omega (arith, next.exact, at);
}

-- by induction on how far the rank of the node is from all ranks together
bound_below : (p : PlannedShop) (rank kept : Node → ℕ) (c : Cell) (n : ℕ) (v : Node) → RanksRise p rank → IsSound p c → AreDeadlines p c kept → IsLeftIn p c v → all_ranks p rank < rank v + n → IsBound p c kept v
bound_below p rank kept c zero v ranks sound deadlines left near = absurd (omega (arith, rank_within p rank v left.job left.place))
bound_below p rank kept c (suc n) v ranks sound deadlines left near = elim (deadlines.pressed v (record { job = left.job; place = left.place }) left.ahead) [
  | inl (last, at) ↦ record {
    job = v.job;
    size = 0;
    inside = left.job;
    left = omega (arith, left.ahead);
    leads = subst (λ k. LeadsOn p v (node v.job k) 0) last (here v);
    exact = omega (arith, at);
  }
  | inr (w, d, arc, at) ↦ further_bound p kept c v w d arc at
      (bound_below p rank kept c n w ranks sound deadlines (arc_left p c v w d sound arc left.ahead) (let up : rank v < rank w = ranks v w d arc in omega arith))
]

bound : (p : PlannedShop) (rank kept : Node → ℕ) (c : Cell) (v : Node) → RanksRise p rank → IsSound p c → AreDeadlines p c kept → IsLeftIn p c v → IsBound p c kept v
bound p rank kept c v ranks sound deadlines left = bound_below p rank kept c (suc (all_ranks p rank)) v ranks sound deadlines left (omega arith)

-- moments that respect the arcs ahead are as far apart as arcs lead
pub apart : (p : PlannedShop) (c : Cell) (other : Node → ℕ) (u w : Node) (n : ℕ) → IsSound p c → RespectArcs p c other → IsAhead c u → LeadsOn p u w n → other u + n ≤ other w
apart p c other _ _ _ sound arcs ahead (here v) = omega arith
apart p c other _ _ _ sound arcs ahead (first u v w d n arc leads) =
    omega (arith, arcs u v d ahead arc, apart p c other v w n sound arcs (arc_ahead p c u v d sound arc ahead) leads)

-- ways from a node ahead lead to nodes ahead
pub leads_left : (p : PlannedShop) (c : Cell) (u w : Node) (n : ℕ) → IsSound p c → IsLeftIn p c u → LeadsOn p u w n → IsLeftIn p c w
leads_left p c _ _ _ sound left (here v) = left
leads_left p c _ _ _ sound left (first u v w d n arc leads) = leads_left p c v w n sound (arc_left p c u v d sound arc left.ahead) leads

-- where a node is ahead of two cells, moments that respect the arcs ahead of the second and meet the budgets there are at most the deadlines of the first
latest : (p : PlannedShop) (rank kept other : Node → ℕ) (c e : Cell) (v : Node) → RanksRise p rank → IsSound p c → IsSound p e → AreDeadlines p c kept → RespectArcs p e other → MeetBudgetsAhead p e other
    → IsLeftIn p c v → IsLeftIn p e v → other v ≤ kept v
latest p rank kept other c e v ranks sound sound_too deadlines arcs budgets left left_too =
    let found : IsBound p c kept v = bound p rank kept c v ranks sound deadlines left in
    let last : IsLeftIn p e (leaving p found.job) = leads_left p e v (leaving p found.job) found.size sound_too left_too found.leads in
    let here : made e found.job ≤ steps p found.job = last.ahead in
    let far : other v + found.size ≤ other (leaving p found.job) = apart p e other v (leaving p found.job) found.size sound_too arcs left_too.ahead found.leads in
    let within : other (leaving p found.job) ≤ budget p found.job = budgets found.job found.inside (λ gone. omega arith) in
    omega (arith, found.exact)

pub deadlines_are_the_latest-holds : DeadlinesAreTheLatest
deadlines_are_the_latest-holds p rank kept other es shaped ranks run deadlines arcs budgets v inside ahead =
    let sound : IsSound p (ends_in p es) = run-sound p es shaped run in
    let left : IsLeftIn p (ends_in p es) v = record { ahead = ahead; job = inside.job; place = inside.place } in
    latest p rank kept other (ends_in p es) (ends_in p es) v ranks sound sound deadlines arcs budgets left left

pub deadlines_are_the_same-holds : DeadlinesAreTheSame
deadlines_are_the_same-holds p rank kept other es fs shaped ranks run run_too deadlines others v inside ahead ahead_too =
    let sound : IsSound p (ends_in p es) = run-sound p es shaped run in
    let sound_too : IsSound p (ends_in p fs) = run-sound p fs shaped run_too in
    let left : IsLeftIn p (ends_in p es) v = record { ahead = ahead; job = inside.job; place = inside.place } in
    let left_too : IsLeftIn p (ends_in p fs) v = record { ahead = ahead_too; job = inside.job; place = inside.place } in
    omega (
      arith,
      latest p rank kept other (ends_in p es) (ends_in p fs) v ranks sound sound_too deadlines others.arcs others.budgets left left_too,
      latest p rank other kept (ends_in p fs) (ends_in p es) v ranks sound_too sound others deadlines.arcs deadlines.budgets left_too left,
    )

pub no_deadline_is_too_early-holds : NoDeadlineIsTooEarly
no_deadline_is_too_early-holds p rank early kept es t run schedule budgets deadlines v inside ahead =
    deadlines_are_the_latest-holds p rank kept early es schedule.shaped schedule.ranks run deadlines schedule.moments.arcs budgets v inside ahead

-- moments that respect the arcs ahead rise
respect-rise : (p : PlannedShop) (c : Cell) (kept : Node → ℕ) → RespectArcs p c kept → RiseAhead p c kept
respect-rise p c kept arcs u v d ahead arc = omega (arith, arcs u v d ahead arc)

-- the present moment isn't past the deadline of a node ahead
not_past : (p : PlannedShop) (rank early kept : Node → ℕ) (es : List Event) (t : ℕ) → IsRun p es → IsScheduleAhead p (ends_in p es) t rank early → MeetBudgetsAhead p (ends_in p es) early → AreDeadlines p (ends_in p es) kept
    → (v : Node) → IsLeftIn p (ends_in p es) v → t ≤ kept v
not_past p rank early kept es t run schedule budgets deadlines v left =
    omega (
      arith,
      present_left p (ends_in p es) t early v schedule.moments left,
      no_deadline_is_too_early-holds p rank early kept es t run schedule budgets deadlines v (record { job = left.job; place = left.place }) left.ahead,
    )

pub in_time_by_deadlines-holds : InTimeByDeadlines
in_time_by_deadlines-holds p rank early kept es t rs fs end run moment schedule budgets deadlines goes within j inside there =
    (in_time_within-holds p rank kept es t rs fs end schedule.shaped schedule.ranks run moment
    (record {
      present = λ i inside_i left. not_past p rank early kept es t run schedule budgets deadlines (leaving p i) (record { ahead = left; job = inside_i; place = le_refl (steps p i) });
      rise = respect-rise p (ends_in p es) kept deadlines.arcs;
    }) goes within j inside there).1 deadlines.budgets

pub each_move_is_by_its_deadline-holds : EachMoveIsByItsDeadline
each_move_is_by_its_deadline-holds p rank early kept es t rs fs end run moment schedule budgets deadlines goes within =
    goes_on-made_by p rank kept (ends_in p es) t rs fs end schedule.shaped schedule.ranks (run-sound p es schedule.shaped run) goes
    (not_past p rank early kept es t run schedule budgets deadlines) (respect-rise p (ends_in p es) kept deadlines.arcs) within

-- reports within moments are within later ones
within_later : (p : PlannedShop) (kept later : Node → ℕ) (c : Cell) (es : List Event) → ((v : Node) → kept v ≤ later v) → AreWithin p kept c es → AreWithin p later c es
within_later p kept later c [] more within = tt
within_later p kept later c (Reported r ∷ es) more within =
    ((λ a due v going holds. omega (arith, within.0 a due v going holds, more v)), within_later p kept later (after_report c r) es more within.1)
within_later p kept later c (Moved o ∷ es) more within = within_later p kept later (after_move p c o.job o.at) es more within

pub the_rest_stays_accepted-holds : TheRestStaysAccepted
the_rest_stays_accepted-holds p rank early kept es t rs fs end run moment schedule budgets deadlines goes within =
    let c : Cell = ends_in p es in
    let sound : IsSound p c = run-sound p es schedule.shaped run in
    let (events, ends, sound_end, rest) = goes_on_to_run p c t rs fs end schedule.shaped sound goes in
    let fit : MomentsFitAhead p c t early = schedule.moments in
    let moments : Node → ℕ = λ v. max (early v) (kept v) in
    let fits : MomentsFitAhead p c t moments = record {
      left = λ j inside gone. omega (arith, fit.left j inside gone);
      present = λ j inside here. omega (arith, fit.present j inside here);
      activities = λ a due v going holds. omega (arith, fit.activities a due v going holds);
      arcs = λ u v d ahead arc. omega (arith, fit.arcs u v d ahead arc, deadlines.arcs u v d ahead arc);
    } in (
      moments,
      moments_still_fit-holds p rank moments es t rs fs end run moment (record { shaped = schedule.shaped; ranks = schedule.ranks; moments = fits }) goes (within_later p kept moments c fs (λ v. omega arith) within),
      λ j inside there.
          let more : made c j ≤ made end j = rw ends (made_more p c fs j schedule.shaped sound events) in
          let before : IsGone p c j → ⊥ = λ gone. there (omega arith) in
          omega (arith, budgets j inside before, deadlines.budgets j inside before),
    )

pub all_out_by_deadlines-holds : AllOutByDeadlines
all_out_by_deadlines-holds p rank early kept es t rs fs end run moment schedule budgets deadlines goes own ended j inside there =
    let sound : IsSound p (ends_in p es) = run-sound p es schedule.shaped run in
    let (events, ends, sound_end, rest) = goes_on_to_run p (ends_in p es) t rs fs end schedule.shaped sound goes in
    let within : AreWithin p kept (ends_in p es) fs = own-within p kept (ends_in p es) fs schedule.shaped sound events (rw ends at ended.idle) own in
    (in_time_by_deadlines-holds p rank early kept es t rs fs end run moment schedule budgets deadlines goes within j inside there).1 (ended.gone j inside)

-- nodes ahead were ahead, and jobs that aren't gone weren't
deadlines_later : (p : PlannedShop) (c new : Cell) (kept : Node → ℕ) → ((j : ℕ) → made c j ≤ made new j) → AreDeadlines p c kept → AreDeadlines p new kept
deadlines_later p c new kept more deadlines = record {
  budgets = λ j inside there. deadlines.budgets j inside (λ gone. there (omega (arith, more j)));
  arcs = λ u w d ahead arc. deadlines.arcs u w d (omega (arith, more u.job)) arc;
  pressed = λ w inside ahead. deadlines.pressed w inside (omega (arith, more w.job));
}

pub deadlines_stay-holds : DeadlinesStay
deadlines_stay-holds p kept es fs shaped run whole deadlines =
    let (front, back) = events_split p (start p) es fs whole in
    rw (after_all_join p (start p) es fs)
    (deadlines_later p (ends_in p es) (after_all p (ends_in p es) fs) kept (λ j. made_more p (ends_in p es) fs j shaped (run-sound p es shaped run) back) deadlines)

-- a path ahead, and then arcs
onwards : (p : PlannedShop) (c : Cell) (t : ℕ) (u w : Node) (m n : ℕ) → HasPathOf p c t u m → LeadsOn p u w n → HasPathOf p c t w (m + n)
onwards p c t _ _ m _ path (here v) = subst (HasPathOf p c t v) (omega arith) path
onwards p c t _ _ m _ path (first u v w d n arc leads) = subst (HasPathOf p c t w) (omega arith) (onwards p c t v w (m + d) n (further p c t u v m d path arc) leads)

-- where a node ahead of a sound cell is later than its deadline, the job by whose budget it is bound isn't out by that
late_from : (p : PlannedShop) (c : Cell) (kept : Node → ℕ) (t : ℕ) (v : Node) (fs : List Event) → IsWellShaped p → IsSound p c → IsLeftIn p c v → (found : IsBound p c kept v) → kept v < t
    → AreEvents p c fs → MoveFrom t fs → AreNotEarly p c fs → IsSound p (after_all p c fs) → IsOutByBudget p (after_all p c fs) found.job → ⊥
late_from p c kept t v fs shaped sound left found late events from not_early sound_end out =
    let path : HasPathOf p c t (leaving p found.job) (t + found.size) = onwards p c t v (leaving p found.job) t found.size (from_now p c t v left) found.leads in
    let few : made (after_all p c fs) found.job ≤ steps p found.job + 1 = sound_end.few_moves found.job found.inside in
    let last : made (after_all p c fs) found.job ≡ steps p found.job + 1 = omega (arith, out.gone) in
    let slow : path.size ≤ since (after_all p c fs) found.job =
    made-no_earlier p c t fs path.nodes (leaving p found.job) path.size shaped sound path.path events from not_early last in
    omega (arith, path.enough, found.exact, out.by)

pub deadlines_are_tight-holds : DeadlinesAreTight
deadlines_are_tight-holds p rank kept es v shaped ranks run deadlines inside ahead =
    let sound : IsSound p (ends_in p es) = run-sound p es shaped run in
    let left : IsLeftIn p (ends_in p es) v = record { ahead = ahead; job = inside.job; place = inside.place } in
    let found : IsBound p (ends_in p es) kept v = bound p rank kept (ends_in p es) v ranks sound deadlines left in
    let here : made (ends_in p es) found.job ≤ steps p found.job = found.left in (
      found.job,
      found.inside,
      (λ gone. omega arith),
      λ t late fs whole from not_early out.
          let join : ends_in p (es ++ fs) ≡ after_all p (ends_in p es) fs = after_all_join p (start p) es fs in
          late_from p (ends_in p es) kept t v fs shaped sound left found late (events_split p (start p) es fs whole).1 from not_early
          (rw join at (run-sound p (es ++ fs) shaped whole)) (rw join at out),
    )

pub a_late_end_is_too_late-holds : ALateEndIsTooLate
a_late_end_is_too_late-holds p rank kept es a due v shaped ranks run deadlines going holds =
    let sound : IsSound p (ends_in p es) = run-sound p es shaped run in
    let left : IsLeftIn p (ends_in p es) v = held_left p (ends_in p es) a due v sound going holds in
    let found : IsBound p (ends_in p es) kept v = bound p rank kept (ends_in p es) v ranks sound deadlines left in
    let here : made (ends_in p es) found.job ≤ steps p found.job = found.left in (
      found.job,
      found.inside,
      (λ gone. omega arith),
      λ t fs late whole not_early out.
          let r : Report = report_of a t in
          let back : AreEvents p (ends_in p es) (Reported r ∷ fs) = (events_split p (start p) es (Reported r ∷ fs) whole).1 in
          let join : ends_in p (es ++ Reported r ∷ fs) ≡ after_all p (ends_in p es) (Reported r ∷ fs) = after_all_join p (start p) es (Reported r ∷ fs) in
          let same : (j : ℕ) → made (after_report (ends_in p es) r) j ≡ made (ends_in p es) j = (after_report-like p (ends_in p es) r sound back.0).made_same in
          late_from p (after_report (ends_in p es) r) kept t v fs shaped (after_report-sound p (ends_in p es) r shaped sound back.0)
          (record { ahead = omega (arith, same v.job, left.ahead); job = left.job; place = left.place })
          (record { job = found.job; size = found.size; inside = found.inside; left = omega (arith, same found.job); leads = found.leads; exact = found.exact }) late back.1
          (moves_from_last p (after_report (ends_in p es) r) t fs (omega (arith, report_last (ends_in p es) (ended r) (at r), at-report_of a t)) back.1)
          (subst (λ (c : Cell). AreNotEarly p c fs) (sym (after_report-of (ends_in p es) a t)) not_early)
          (rw join at (run-sound p (es ++ Reported r ∷ fs) shaped whole)) (rw join at out),
    )
