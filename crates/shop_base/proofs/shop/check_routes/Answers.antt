use Rattle.std.proofs.Common.{rules}
use Rattle.shop_base.proofs.shop.check_routes.Goals as goal

pub loop-job-init : goal.loop-job-init
loop-job-init c = search rules depth 2
