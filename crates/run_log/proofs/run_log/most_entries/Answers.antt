use Rattle.std.proofs.Common.{arith}
use Rattle.run_log.proofs.Entries.{stated_number-le}
use Rattle.run_log.proofs.run_log.most_entries.Goals as goal

pub overflow_mul-result : goal.overflow_mul-result
overflow_mul-result c = omega (arith, c.report_count.ensures, stated_number-le c.args.shaped.now c.shop-shop.ensures.well_shaped)
