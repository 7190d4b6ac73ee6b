use Rattle.std.proofs.Common.{◌≡◌, ◌<◌, length, arith, ap, subst, ◌∙◌}
use Rattle.shop_base.specs.{Shop.JobShop, Plan.jobs, Graph.leaving}
use Rattle.plan_verifier.specs.Accepted.{VerifiedPlan, IsVerified, kept_at}
use Rattle.plan_verifier.proofs.Reasons.{verified_greatest, verified_never_before, verified_no_later, verified_just_in_time}
use Rattle.plan_verifier.proofs.verified.Verified.earliest_leave.Goals as goal

pub returns-then-job-jobs : goal.returns-then-job-jobs
returns-then-job-jobs c =
    let v = c.args.self.now in
    let sound : IsVerified v = subst IsVerified c.self.view_is c.self.invariant in
    let kept : c.leave_time.result ≡ kept_at v (leaving v.planned c.args.job) = c.leave_time.ensures ∙ ap (λ (w : VerifiedPlan). kept_at w (leaving w.planned c.args.job)) c.self.view_is in
    let inside : c.args.job < jobs v.planned = omega (
      arith,
      c.if-job-jobs.true,
      c.jobs.ensures.count,
      ap (λ (s : JobShop). length s.routes) c.shop.ensures.same,
      ap (λ (w : VerifiedPlan). jobs w.planned) c.self.view_is,
    ) in
    record {
      greatest = (inside, rw kept (verified_greatest v sound c.args.job inside));
      kept = kept;
      no_faster = rw kept (verified_never_before v sound c.args.job inside);
      no_later = rw kept (verified_no_later v sound c.args.job inside);
      just_in_time = rw kept (verified_just_in_time v sound c.args.job inside);
    }
