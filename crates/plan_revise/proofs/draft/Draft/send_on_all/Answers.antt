use Rattle.std.proofs.Common.{◌≡◌, List, length, take, refl, subst, ap, ◌∙◌, arith}
use Rattle.std.proofs.Math.Seq.{take-length}
use Rattle.shop_base.specs.declared.shop.Step.{Step}
use Rattle.plan_revise.specs.AnotherWay.{AreFurthestBehind}
use Rattle.std.proofs.lemmas.Result.{err_from_is_err_and}
use Rattle.plan_revise.proofs.RerouteRefused.{lock_among}
use Rattle.plan_revise.proofs.SentOn.{upto_can, upto_next}
use Rattle.plan_revise.proofs.draft.Draft.send_on_all.Goals as goal

pub loop-place-init : goal.loop-place-init
loop-place-init g c = record { revision = c.requires.revision; inside = c.requires.job; here = c.requires.here; sent = refl; sound = c.requires.sound }

pub send_on-requires : goal.send_on-requires
send_on-requires g c = upto_can c.args.run.now c.args.job c.args.self.now c.args.way.now c.loop-place.place c.loop-place.self c.step_of.result c.loop-place.invariant c.step_of.ensures

pub loop-place-preserved : goal.loop-place-preserved
loop-place-preserved g c = upto_next c.args.run.now c.args.job c.args.self.now c.args.way.now c.loop-place.place c.loop-place.self c.step_of.result c.loop-place.invariant c.step_of.ensures c.send_on.new.self c.in_ok-send_on.ensures.sent

pub returns-in_err-send_on-clause-refused : goal.returns-in_err-send_on-clause-refused
returns-in_err-send_on-clause-refused g c =
    let exit = err_from_is_err_and c.from_residual.result c.from_residual.ensures.1 in
    rw (exit.1, exit.2) (lock_among c.args.run.now c.args.job c.args.self.now c.args.way.now c.loop-place.place c.loop-place.self c.step_of.result c.loop-place.invariant c.step_of.ensures c.in_err-send_on.field-0.0 c.in_err-send_on.ensures.refused)

pub returns-clause-sent : goal.returns-clause-sent
returns-clause-sent g c =
    let all : c.loop-place.place ≡ length c.args.way.now = omega (arith, c.loop-place-test.false, c.loop-place.auto.place-end) in
    subst (λ (way : List Step). AreFurthestBehind c.args.run.now c.args.self.now c.args.job way c.loop-place.self) (ap (λ n. take n c.args.way.now) all ∙ take-length c.args.way.now) c.loop-place.invariant.sent
