use Rattle.std.proofs.Common.{inl, refl}
use Rattle.plan_bounds.specs.Bounds.{times_of}
use Rattle.plan_limits.proofs.Numbered.{numbered_on, numbered_none}
use Rattle.plan_limits.proofs.numbering.asked_nodes.Goals as goal
use Rattle.plan_limits.proofs.numbering.asked_nodes.Goals.{then-is_asked+in_ok-add_job, else-is_asked}

pub loop-job-init : goal.loop-job-init
loop-job-init g c = numbered_none (times_of c.args.cell.now.plan) c.args.cell.now.cell c.new-nodes.result.items c.new-nodes.ensures.items

pub loop-job-preserved : goal.loop-job-preserved
loop-job-preserved g c =
    let cell = c.args.cell.now in
    elim c.if-is_asked.branch [
      | then-is_asked+in_ok-add_job w ↦ rw w.nodes-is w.in_ok-add_job.ensures
      | else-is_asked w ↦ rw w.nodes-is (numbered_on (times_of cell.plan) cell.cell c.loop-job.job 0 c.loop-job.nodes.items c.loop-job.invariant (inl refl))
    ]
