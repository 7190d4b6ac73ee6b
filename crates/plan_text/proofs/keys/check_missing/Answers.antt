use Rattle.std.proofs.Common.{rules}
use Rattle.plan_text.proofs.keys.check_missing.Goals as goal

pub returns-in_err-check_key : goal.returns-in_err-check_key
returns-in_err-check_key c = search rules depth 2

pub returns-in_err-check_key-2 : goal.returns-in_err-check_key-2
returns-in_err-check_key-2 c = search rules depth 2
