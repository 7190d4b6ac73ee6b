-- Rows that lie node after node, seen by job and place.
use Rattle.std.proofs.Common.{◌≡◌, ℕ, zero, suc, ◌+◌, ◌-◌, ◌<◌, ◌≤◌, List, [], ◌∷◌, length, get_or, take, drop, refl, ap, ◌∙◌, arith, add-one}
use Rattle.std.proofs.lemmas.List.{get_or-take, get_or-drop, length-take, length-drop}
use Rattle.shop_base.specs.declared.node.Node.{Node}
use Rattle.alt_graph.specs.declared.times.NodeTime.{NodeTime}
use Rattle.alt_graph.specs.Times.{no_time, job_times, time_at, IsTimed}
use Rattle.alt_graph.specs.Layout.{number_of, IsCounted, by_job}

-- there is one job less than there are firsts
job_count : (first : ℕ) (firsts : List ℕ) (rows : List NodeTime) → length (by_job (first ∷ firsts) rows) ≡ length firsts
unfolding by_job
job_count first [] rows = refl
job_count first (next ∷ firsts) rows = ap suc (job_count next firsts rows)

jobs_within : (firsts : List ℕ) (rows : List NodeTime) (j : ℕ) → j < length (by_job firsts rows) → j + 1 < length firsts
unfolding by_job
jobs_within [] rows j lt = absurd (omega arith)
jobs_within (first ∷ firsts) rows j lt = omega (arith, job_count first firsts rows)

jobs_all : (firsts : List ℕ) (rows : List NodeTime) (j : ℕ) → j + 1 < length firsts → j < length (by_job firsts rows)
jobs_all [] rows j lt = absurd (omega arith)
jobs_all (first ∷ firsts) rows j lt = omega (arith, job_count first firsts rows)

-- the rows of a job
rows_next : (firsts : List ℕ) (rows : List NodeTime) (j : ℕ) → suc j < length firsts → job_times (by_job firsts rows) j ≡ take (get_or firsts (suc j) 0 - get_or firsts j 0) (drop (get_or firsts j 0) rows)
unfolding by_job
rows_next [] rows j lt = absurd (omega arith)
rows_next (first ∷ []) rows j lt = absurd (omega arith)
rows_next (first ∷ next ∷ firsts) rows zero lt = refl
rows_next (first ∷ next ∷ firsts) rows (suc j) lt = rows_next (next ∷ firsts) rows j (omega arith)

module _ (firsts : List ℕ) (rows : List NodeTime) where
  rows_at : (j : ℕ) → j + 1 < length firsts → job_times (by_job firsts rows) j ≡ take (get_or firsts (j + 1) 0 - get_or firsts j 0) (drop (get_or firsts j 0) rows)
  rows_at j lt = rw add-one (rows_next firsts rows j (omega arith))

  module _ (v : Node) (job : v.job + 1 < length firsts) where
    job_size : length (job_times (by_job firsts rows) v.job) ≡ length (take (get_or firsts (v.job + 1) 0 - get_or firsts v.job 0) (drop (get_or firsts v.job 0) rows))
    job_size = ap length (rows_at v.job job)

    -- a node's row is that of its number
    pub time_by_job : number_of firsts v < get_or firsts (v.job + 1) 0 → time_at (by_job firsts rows) v ≡ get_or rows (number_of firsts v) no_time
    time_by_job within =
        let gap : ℕ = get_or firsts (v.job + 1) 0 - get_or firsts v.job 0 in
        let inside : v.place < gap = omega arith in
        ap (λ (times : List NodeTime). get_or times v.place no_time) (rows_at v.job job)
        ∙ get_or-take gap (drop (get_or firsts v.job 0) rows) v.place no_time inside
        ∙ get_or-drop (get_or firsts v.job 0) rows v.place no_time

    pub timed_by_job : number_of firsts v < get_or firsts (v.job + 1) 0 → get_or firsts (v.job + 1) 0 ≤ length rows → IsTimed (by_job firsts rows) v
    timed_by_job within few = record {
      job = jobs_all firsts rows v.job job;
      place = omega (
        arith,
        job_size,
        length-take (get_or firsts (v.job + 1) 0 - get_or firsts v.job 0) (drop (get_or firsts v.job 0) rows),
        length-drop (get_or firsts v.job 0) rows,
      );
    }

  -- a known node is one of those that are counted
  pub timed_counted : (v : Node) → IsTimed (by_job firsts rows) v → IsCounted firsts v
  timed_counted v timed =
      let job : v.job + 1 < length firsts = jobs_within firsts rows v.job timed.job in
      record {
        job = job;
        place = omega (
          arith,
          timed.place,
          job_size v job,
          length-take (get_or firsts (v.job + 1) 0 - get_or firsts v.job 0) (drop (get_or firsts v.job 0) rows),
        );
      }
