use Rattle.std.proofs.Common.{arith}
use Rattle.shop_base.specs.Vectors.{lists_of}
use Rattle.plan_seek.proofs.Rows.{length_lists, row_none, row_more, row_whole}
use Rattle.plan_seek.proofs.orders.add_jobs.Goals as goal

pub loop-job-init : goal.loop-job-init
loop-job-init c = row_none c.args.shop.now (lists_of c.args.orders.now.items) c.args.from

pub add_job-requires-clause-count : goal.add_job-requires-clause-count
add_job-requires-clause-count c = omega (arith, c.requires.count, c.loop-job.invariant.count, length_lists c.args.orders.now.items, length_lists c.loop-job.orders.items)

pub loop-job-preserved : goal.loop-job-preserved
loop-job-preserved c = row_more c.args.shop.now (lists_of c.args.orders.now.items) (lists_of c.loop-job.orders.items) (lists_of c.add_job.new.orders.items) c.args.from c.loop-job.job
    c.loop-job.auto.job c.in_ok-add_job.ensures c.loop-job.invariant

pub returns : goal.returns
returns c = row_whole c.args.shop.now (lists_of c.args.orders.now.items) (lists_of c.loop-job.orders.items) c.args.from c.args.to c.loop-job.job (omega arith) c.loop-job.invariant
