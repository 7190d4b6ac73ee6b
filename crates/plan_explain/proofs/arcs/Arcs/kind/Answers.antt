use Rattle.std.proofs.Common.{◌≡◌, ◌<◌, rules, sym, ap, ◌∙◌, arith}
use Rattle.shop_base.specs.Plan.{nominal}
use Rattle.plan_explain.specs.ArcLookups.{IsNext}
use Rattle.plan_explain.specs.Arcs.{job_arc_kind, blocking_arc_kind, time_of}
use Rattle.plan_explain.proofs.ArcFacts.{own_kind, blocking_kind}
use Rattle.plan_explain.proofs.arcs.Arcs.kind.Goals as goal

pub returns-in_default-2 : goal.returns-in_default-2
returns-in_default-2 c =
    let next : IsNext c.args.from c.args.to = search rules in
    let own : c.job_arc-own.result ≡ job_arc_kind c.args.self.now c.args.from = cc (c.job_arc-own.ensures, c.self.view_is) in
    let none = rw c.in_default.is at c.blocking_length.ensures.length in
    own ∙ sym (own_kind c.args.self.now c.args.from c.args.to next (λ length blocked. absurd (none length blocked)))

pub returns-in-Some : goal.returns-in-Some
returns-in-Some c =
    let p = c.args.self.now in
    let own : c.job_arc-own.result ≡ job_arc_kind p c.args.from = cc (c.job_arc-own.ensures, c.self.view_is) in
    let longer : nominal p c.args.from.job c.args.from.place < c.in-Some.length = omega (arith, c.if-time-length.true, c.time.ensures, ap time_of own) in
    let order : c.blocking_arc-in-Some.result ≡ blocking_arc_kind p c.args.from c.args.to = cc (c.blocking_arc-in-Some.ensures, c.self.view_is) in
    order ∙ sym (blocking_kind p c.args.from c.args.to c.in-Some.length c.in-Some.ensures.length (λ next. longer))
