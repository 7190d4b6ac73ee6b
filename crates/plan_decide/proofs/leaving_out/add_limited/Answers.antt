use Rattle.std.proofs.Common.{rules}
use Rattle.plan_decide.proofs.Leaving.{limited_more, limited_passed}
use Rattle.plan_decide.proofs.leaving_out.add_limited.Goals as goal

pub returns-then-is_none : goal.returns-then-is_none
returns-then-is_none c = limited_passed c.args.limits.now c.args.job c.args.found.now.items (search rules) c.requires.known

pub returns : goal.returns
returns c = limited_more c.args.limits.now c.args.job c.args.found.now.items c.push.new.self.items c.in_ok-push.ensures.items (search rules) c.requires.known
