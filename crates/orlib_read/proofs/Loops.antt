-- Reading steps and job lines one after the other, as loops do.
use Rattle.std.proofs.Common.{◌≡◌, ℕ, suc, ◌-◌, ◌+◌, ◌≤◌, ◌<◌, List, [], ◌∷◌, ◌++◌, Result, Ok, Err, refl, sym, ap, ◌∙◌, append_assoc, arith}
use Rattle.std.proofs.lemmas.List.{append-nil}
use Rattle.shop_base.specs.declared.shop.Step.{Step}
use Rattle.orlib_read.specs.declared.or_fault.OrFault.{OrFault}
use Rattle.orlib_read.specs.declared.or_fault.OrFault.TheVariants.{MissingJob, OddWords}
use Rattle.text_lines.specs.Lines.{NumberedLine}
use Rattle.orlib_read.specs.Reading.{◌>>=◌, Fails, step_at, steps_at, route_at, jobs_at}

-- ---- steps

abbrev pub with_front : List Step → Result (List Step) OrFault → Result (List Step) OrFault
with_front front read = read >>= λ rest. Ok (front ++ rest)

front_on : (front : List Step) (step : Step) (read : Result (List Step) OrFault) → with_front front (read >>= λ steps. Ok (step ∷ steps)) ≡ with_front (front ++ step ∷ []) read
front_on front step (Ok steps) = ap (λ (all : List Step). Ok all) (simp append_assoc)
front_on front step (Err fault) = refl

pub steps_end : (front : List Step) (line before : ℕ) (words : List (List ℕ)) (total : Result (List Step) OrFault)
    → words ≡ [] → with_front front (steps_at line before words) ≡ total → total ≡ Ok front
unfolding steps_at
steps_end front line before words total e so_far =
    let one : with_front front (steps_at line before words) ≡ Ok front = rw e (ap (λ (steps : List Step). Ok steps) (append-nil front)) in
    sym so_far ∙ one

pub steps_on : (front : List Step) (line before : ℕ) (words : List (List ℕ)) (machine nominal : List ℕ) (rest : List (List ℕ)) (step : Step) (total : Result (List Step) OrFault)
    → words ≡ machine ∷ nominal ∷ rest → step_at line before machine nominal ≡ Ok step → with_front front (steps_at line before words) ≡ total
    → with_front (front ++ step ∷ []) (steps_at line (before + 2) rest) ≡ total
unfolding steps_at
steps_on front line before words machine nominal rest step total e h so_far =
    let one : with_front front (steps_at line before words) ≡ with_front (front ++ step ∷ []) (steps_at line (before + 2) rest) = rw (e, h) (front_on front step (steps_at line (before + 2) rest)) in
    sym one ∙ so_far

pub steps_fail : (fault : OrFault) (front : List Step) (line before : ℕ) (words : List (List ℕ)) (machine nominal : List ℕ) (rest : List (List ℕ)) (total : Result (List Step) OrFault)
    → words ≡ machine ∷ nominal ∷ rest → step_at line before machine nominal ≡ Err fault → with_front front (steps_at line before words) ≡ total → total ≡ Err fault
unfolding steps_at
steps_fail fault front line before words machine nominal rest total e h so_far =
    let one : with_front front (steps_at line before words) ≡ Err fault = rw (e, h) refl in
    sym so_far ∙ one

pub steps_odd : (front : List Step) (line before : ℕ) (words : List (List ℕ)) (word : List ℕ) (total : Result (List Step) OrFault)
    → words ≡ word ∷ [] → with_front front (steps_at line before words) ≡ total → total ≡ Err (OddWords line)
unfolding steps_at
steps_odd front line before words word total e so_far =
    let one : with_front front (steps_at line before words) ≡ Err (OddWords line) = rw e refl in
    sym so_far ∙ one

-- ---- job lines

abbrev Routes : Type 0
Routes = List (List Step) × List NumberedLine

abbrev pub with_routes : List (List Step) → Result (List (List Step) × List NumberedLine) OrFault → Result (List (List Step) × List NumberedLine) OrFault
with_routes front read = read >>= λ x. Ok (front ++ x.0, x.1)

routes_on : (front : List (List Step)) (route : List Step) (read : Result Routes OrFault) → with_routes front (read >>= λ x. Ok (route ∷ x.0, x.1)) ≡ with_routes (front ++ route ∷ []) read
routes_on front route (Ok x) = ap (λ (routes : List (List Step)). Ok (routes, x.1)) (simp append_assoc)
routes_on front route (Err fault) = refl

pub jobs_on : (front : List (List Step)) (jobs job : ℕ) (lines : List NumberedLine) (line : NumberedLine) (rest : List NumberedLine) (route : List Step) (total : Result Routes OrFault)
    → job < jobs → lines ≡ line ∷ rest → route_at line ≡ Ok route → with_routes front (jobs_at job (jobs - job) lines) ≡ total
    → with_routes (front ++ route ∷ []) (jobs_at (job + 1) (jobs - (job + 1)) rest) ≡ total
unfolding jobs_at
jobs_on front jobs job lines line rest route total lt e h so_far =
    let k : jobs - job ≡ suc (jobs - (job + 1)) = omega arith in
    let one : with_routes front (jobs_at job (jobs - job) lines) ≡ with_routes (front ++ route ∷ []) (jobs_at (job + 1) (jobs - (job + 1)) rest) = rw (k, e, h) (routes_on front route (jobs_at (job + 1) (jobs - (job + 1)) rest)) in
    sym one ∙ so_far

pub jobs_fail : (fault : OrFault) (front : List (List Step)) (jobs job : ℕ) (lines : List NumberedLine) (line : NumberedLine) (rest : List NumberedLine) (total : Result Routes OrFault)
    → job < jobs → lines ≡ line ∷ rest → Fails fault (route_at line) → with_routes front (jobs_at job (jobs - job) lines) ≡ total → Fails fault total
unfolding jobs_at
jobs_fail fault front jobs job lines line rest total lt e h so_far = λ other.
    let there = h other in
    let k : jobs - job ≡ suc (jobs - (job + 1)) = omega arith in
    let one : with_routes front (jobs_at job (jobs - job) lines) ≡ Err fault = rw (k, e, there) refl in
    sym so_far ∙ one

pub jobs_missing : (front : List (List Step)) (jobs job : ℕ) (lines : List NumberedLine) (total : Result Routes OrFault)
    → job < jobs → lines ≡ [] → with_routes front (jobs_at job (jobs - job) lines) ≡ total → total ≡ Err (MissingJob job)
unfolding jobs_at
jobs_missing front jobs job lines total lt e so_far =
    let k : jobs - job ≡ suc (jobs - (job + 1)) = omega arith in
    let one : with_routes front (jobs_at job (jobs - job) lines) ≡ Err (MissingJob job) = rw (k, e) refl in
    sym so_far ∙ one

pub jobs_end : (front : List (List Step)) (jobs job : ℕ) (lines : List NumberedLine) (total : Result Routes OrFault)
    → jobs ≤ job → with_routes front (jobs_at job (jobs - job) lines) ≡ total → total ≡ Ok (front, lines)
unfolding jobs_at
jobs_end front jobs job lines total le so_far =
    let k : jobs - job ≡ 0 = omega arith in
    let one : with_routes front (jobs_at job (jobs - job) lines) ≡ Ok (front, lines) = rw k (ap (λ (routes : List (List Step)). Ok (routes, lines)) (append-nil front)) in
    sym so_far ∙ one
