use Rattle.std.proofs.Common.{◌≡◌, ◌++◌, ◌∷◌, [], rules}
use Rattle.std.proofs.lemmas.List.{map_push}
use Rattle.std.proofs.lemmas.Result.{err_from_is_err_and}
use Rattle.shop_base.specs.Vectors.{lists_of}
use Rattle.orlib_read.specs.Reading.{jobs_at}
use Rattle.orlib_read.specs.Cursor.{numbered_line, lines_left}
use Rattle.orlib_read.proofs.Loops.{jobs_missing, jobs_fail, jobs_on, jobs_end}
use Rattle.orlib_read.proofs.reading.read_jobs.Goals as goal

pub returns-in_default : goal.returns-in_default
returns-in_default c = λ _.
    jobs_missing (lists_of c.loop-job.routes.items) c.args.jobs c.loop-job.job (lines_left c.loop-job.left) (jobs_at 0 c.args.jobs (lines_left c.args.lines))
    c.loop-job-test.true c.in_default.ensures.line c.loop-job.invariant

pub returns-in_err-route : goal.returns-in_err-route
returns-in_err-route c =
    let p = err_from_is_err_and c.from_residual.result c.from_residual.ensures.1 in
    rw (p.1, p.2) (jobs_fail c.in_err-route.field-0.0 (lists_of c.loop-job.routes.items) c.args.jobs c.loop-job.job (lines_left c.loop-job.left)
    (numbered_line c.in-Some.line) (lines_left c.in-Some.rest) (jobs_at 0 c.args.jobs (lines_left c.args.lines))
    c.loop-job-test.true c.in-Some.ensures.line c.in_err-route.ensures c.loop-job.invariant)

pub loop-job-preserved : goal.loop-job-preserved
loop-job-preserved c =
    let pushed : c.push.new.self.items ≡ c.loop-job.routes.items ++ c.in_ok-route.route ∷ [] = search rules in
    let lists : lists_of c.push.new.self.items ≡ lists_of c.loop-job.routes.items ++ c.in_ok-route.route.items ∷ [] = rw pushed (map_push _ c.loop-job.routes.items c.in_ok-route.route) in
    rw lists (jobs_on (lists_of c.loop-job.routes.items) c.args.jobs c.loop-job.job (lines_left c.loop-job.left)
    (numbered_line c.in-Some.line) (lines_left c.in-Some.rest) c.in_ok-route.route.items (jobs_at 0 c.args.jobs (lines_left c.args.lines))
    c.loop-job-test.true c.in-Some.ensures.line c.in_ok-route.ensures c.loop-job.invariant)

pub returns : goal.returns
returns c = jobs_end (lists_of c.loop-job.routes.items) c.args.jobs c.loop-job.job (lines_left c.loop-job.left) (jobs_at 0 c.args.jobs (lines_left c.args.lines))
    c.loop-job-test.false c.loop-job.invariant

pub loop-job-init : goal.loop-job-init
loop-job-init c = search rules depth 2
