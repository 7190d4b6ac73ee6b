-- Job lines that were read are job lines, and job lines are read.
use Rattle.std.proofs.Common.{◌≡◌, ℕ, zero, suc, ◌+◌, ◌-◌, ◌<◌, List, [], ◌∷◌, ◌++◌, length, Result, Ok, Err, refl, sym, ap, subst, ◌∙◌, arith}
use Rattle.std.proofs.lemmas.List.{append-nil}
use Rattle.shop_base.specs.declared.shop.Step.{Step}
use Rattle.orlib_read.specs.declared.or_fault.OrFault.{OrFault}
use Rattle.orlib_read.specs.declared.or_fault.OrFault.TheVariants.{MissingJob}
use Rattle.text_lines.specs.Lines.{NumberedLine}
use Rattle.orlib_read.specs.Instance.{AreJobLines}
use Rattle.orlib_read.specs.Faults.{IsJobFault}
use Rattle.orlib_read.specs.Reading.{◌>>=◌, route_at, jobs_at}
use Rattle.orlib_read.proofs.Numbers.{bind_ok, bind_err, done, failed, ok_is, err_is, route_is, route_again, line_fault, line_fault_again}
use Rattle.orlib_read.proofs.Loops.{with_routes}

-- the first lines are the job lines of these routes
pub record JobsRead (lines : List NumberedLine) (routes : List (List Step)) (rest : List NumberedLine) : Type 0 where
  pub job_lines : List NumberedLine
  pub whole : lines ≡ job_lines ++ rest
  pub each : AreJobLines job_lines routes

abbrev pub Read : Type 0
Read = List (List Step) × List NumberedLine

pub jobs_are : (job n : ℕ) (lines : List NumberedLine) (x : Read) → jobs_at job n lines ≡ Ok x → JobsRead lines x.0 x.1 × (length x.0 ≡ n)
unfolding jobs_at
jobs_are job zero lines x h =
    let made : Read = ([], lines) in
    subst (λ (y : Read). JobsRead lines y.0 y.1 × (length y.0 ≡ 0)) (ok_is made x h) (record { job_lines = []; whole = refl; each = tt }, refl)
jobs_are job (suc n) [] x h = absurd cc
jobs_are job (suc n) (line ∷ lines) x h =
    let a = bind_ok (route_at line) (λ route. jobs_at (job + 1) n lines >>= λ others. Ok (route ∷ others.0, others.1)) x h in
    let b = bind_ok (jobs_at (job + 1) n lines) (λ others. Ok (a.0 ∷ others.0, others.1)) x a.2 in
    let rest = jobs_are (job + 1) n lines b.0 b.1 in
    let made : Read = (a.0 ∷ b.0.0, b.0.1) in
    subst (λ (y : Read). JobsRead (line ∷ lines) y.0 y.1 × (length y.0 ≡ suc n)) (ok_is made x b.2) (
      record { job_lines = line ∷ rest.0.job_lines; whole = ap (λ (all : List NumberedLine). line ∷ all) rest.0.whole; each = (route_is line a.0 a.1, rest.0.each) },
      ap (λ (k : ℕ). suc k) rest.1,
    )

-- some job lines, and then a fault
pub record JobsFault (job n : ℕ) (lines : List NumberedLine) (fault : OrFault) : Type 0 where
  pub routes : List (List Step)
  pub rest : List NumberedLine
  pub reads : JobsRead lines routes rest
  pub more : length routes < n
  pub wrong : IsJobFault (job + length routes) rest fault

pub jobs_fault : (job n : ℕ) (lines : List NumberedLine) (fault : OrFault) → jobs_at job n lines ≡ Err fault → JobsFault job n lines fault
unfolding jobs_at
jobs_fault job zero lines fault h = absurd cc
jobs_fault job (suc n) [] fault h =
    let e : fault ≡ MissingJob job = sym (err_is {A = Read} (MissingJob job) fault h) in
    record { routes = []; rest = []; reads = record { job_lines = []; whole = refl; each = tt }; more = omega arith; wrong = e ∙ ap (λ (k : ℕ). MissingJob k) (omega arith) }
jobs_fault job (suc n) (line ∷ lines) fault h =
    bind_err (route_at line) (λ route. jobs_at (job + 1) n lines >>= λ others. Ok (route ∷ others.0, others.1)) fault h
    (λ e. record { routes = []; rest = line ∷ lines; reads = record { job_lines = []; whole = refl; each = tt }; more = omega arith; wrong = line_fault line fault e })
    (λ route e e2. bind_err (jobs_at (job + 1) n lines) (λ others. Ok (route ∷ others.0, others.1)) fault e2
    (λ e3.
    let f = jobs_fault (job + 1) n lines fault e3 in
    record {
      routes = route ∷ f.routes;
      rest = f.rest;
      reads = record { job_lines = line ∷ f.reads.job_lines; whole = ap (λ (all : List NumberedLine). line ∷ all) f.reads.whole; each = (route_is line route e, f.reads.each) };
      more = let lt = f.more in omega arith;
      wrong = let same : job + 1 + length f.routes ≡ job + suc (length f.routes) = omega arith in subst (λ (k : ℕ). IsJobFault k f.rest fault) same f.wrong;
    })
    (λ others e3 e4. absurd cc))

nothing_before : (read : Result Read OrFault) → read ≡ with_routes [] read
nothing_before (Ok x) = refl
nothing_before (Err fault) = refl

one_before : (route : List Step) (routes : List (List Step)) (read : Result Read OrFault) → (with_routes routes read >>= λ others. Ok (route ∷ others.0, others.1)) ≡ with_routes (route ∷ routes) read
one_before route routes (Ok x) = refl
one_before route routes (Err fault) = refl

-- job lines are read, whatever follows
pub jobs_again : (job more : ℕ) (job_lines : List NumberedLine) (routes : List (List Step)) (rest : List NumberedLine) → AreJobLines job_lines routes
    → jobs_at job (length routes + more) (job_lines ++ rest) ≡ with_routes routes (jobs_at (job + length routes) more rest)
unfolding jobs_at
jobs_again job more [] [] rest h =
    let n : 0 + more ≡ more = omega arith in
    let at : job + 0 ≡ job = omega arith in
    rw (n, at) (nothing_before (jobs_at job more rest))
jobs_again job more [] (route ∷ routes) rest h = absurd h
jobs_again job more (line ∷ lines) [] rest h = absurd h
jobs_again job more (line ∷ lines) (route ∷ routes) rest h =
    let n : suc (length routes) + more ≡ suc (length routes + more) = omega arith in
    let at : job + suc (length routes) ≡ job + 1 + length routes = omega arith in
    rw (n, at, route_again line route h.0, jobs_again (job + 1) more lines routes rest h.1)
    (one_before route routes (jobs_at (job + 1 + length routes) more rest))

pub jobs_all : (n : ℕ) (job_lines : List NumberedLine) (routes : List (List Step)) (rest : List NumberedLine) → AreJobLines job_lines routes → n ≡ length routes
    → jobs_at 0 n (job_lines ++ rest) ≡ Ok (routes, rest)
unfolding jobs_at
jobs_all n job_lines routes rest h e =
    let n' : n ≡ length routes + 0 = omega arith in
    rw (n', jobs_again 0 0 job_lines routes rest h) (ap (λ (all : List (List Step)). done {A = Read} (all, rest)) (append-nil routes))

fault_here : (job more : ℕ) (rest : List NumberedLine) (fault : OrFault) → IsJobFault job rest fault → jobs_at job (suc more) rest ≡ Err fault
unfolding jobs_at
fault_here job more [] fault h = ap (λ (f : OrFault). failed {A = Read} f) (sym h)
fault_here job more (line ∷ rest) fault h = rw (line_fault_again line fault h) refl

pub jobs_fault_again : (n : ℕ) (job_lines : List NumberedLine) (routes : List (List Step)) (rest : List NumberedLine) (fault : OrFault) → AreJobLines job_lines routes → length routes < n
    → IsJobFault (length routes) rest fault → jobs_at 0 n (job_lines ++ rest) ≡ Err fault
jobs_fault_again n job_lines routes rest fault h lt wrong =
    let more = n - length routes - 1 in
    let n' : n ≡ length routes + suc more = omega arith in
    let at : 0 + length routes ≡ length routes = omega arith in
    rw (n', jobs_again 0 (suc more) job_lines routes rest h, at, fault_here (length routes) more rest fault wrong) refl
