-- What is read is an instance, and each instance is read.
use Rattle.std.proofs.Common.{◌≡◌, ℕ, List, [], ◌∷◌, ◌++◌, length, Ok, Err, refl, sym, ap, subst, ◌∙◌, inl, inr, arith, ◌+◌}
use Rattle.std.specs.Prelude.{◌⊎◌}
use Rattle.shop_base.specs.Shop.{JobShop}
use Rattle.orlib_read.specs.declared.named.Sizes.{Sizes}
use Rattle.orlib_read.specs.declared.or_fault.OrFault.{OrFault}
use Rattle.orlib_read.specs.declared.or_fault.OrFault.TheVariants.{Extra}
use Rattle.text_lines.specs.Lines.{NumberedLine}
use Rattle.orlib_read.specs.Instance.{Reads}
use Rattle.orlib_read.specs.Faults.{IsCutShort, HasExtraLine, IsJobFault}
use Rattle.orlib_read.specs.Reading.{◌>>=◌, Content, content_by, without_titles, head_at, jobs_at, draft_at, ended, instance_at}
use Rattle.orlib_read.proofs.Numbers.{bind_ok, bind_err, failed, ok_is, err_is}
use Rattle.orlib_read.proofs.Jobs.{jobs_are, jobs_fault, jobs_all, jobs_fault_again}
use Rattle.orlib_read.proofs.Heads.{passes, head_is, head_fault, without_again, opens_bare, head_again, sizes_fault_bare, sizes_fault_again}

abbrev pub Drafted : Type 0
Drafted = Content × List NumberedLine

abbrev ReadsContent : List NumberedLine → Content → List NumberedLine → Type 0
ReadsContent lines content rest = Reads lines content.description (length content.shop.routes) content.shop rest

regrouped : (lines titles left opening tail job_lines rest : List NumberedLine) → lines ≡ titles ++ left → left ≡ opening ++ tail → tail ≡ job_lines ++ rest
    → lines ≡ titles ++ (opening ++ (job_lines ++ rest))
regrouped lines titles left opening tail job_lines rest a b c =
    a ∙ ap (λ (all : List NumberedLine). titles ++ all) (b ∙ ap (λ (all : List NumberedLine). opening ++ all) c)

pub draft_is : (lines : List NumberedLine) (x : Drafted) → draft_at lines ≡ Ok x → Reads lines x.0.description (length x.0.shop.routes) x.0.shop x.1
unfolding draft_at
draft_is lines x h =
    let a = bind_ok (head_at (without_titles lines)) (λ head. jobs_at 0 head.0.sizes.jobs head.1 >>= λ jobs. Ok (content_by head.0 jobs.0, jobs.1)) x h in
    let b = bind_ok (jobs_at 0 a.0.0.sizes.jobs a.0.1) (λ jobs. Ok (content_by a.0.0 jobs.0, jobs.1)) x a.2 in
    let made : Drafted = (content_by a.0.0 b.0.0, b.0.1) in
    let front = passes lines in
    let head = head_is (without_titles lines) a.0 front.bare a.1 in
    let jobs = jobs_are 0 a.0.0.sizes.jobs a.0.1 b.0 b.1 in
    subst (λ (y : Drafted). Reads lines y.0.description (length y.0.shop.routes) y.0.shop y.1) (ok_is made x b.2)
    (subst (λ (n : ℕ). Reads lines a.0.0.description n (content_by a.0.0 b.0.0).shop b.0.1) (sym jobs.1)
    (record {
      titles = front.titles;
      opening = head.opening;
      job_lines = jobs.0.job_lines;
      whole = regrouped lines front.titles (without_titles lines) head.opening a.0.1 jobs.0.job_lines b.0.1 front.whole head.whole jobs.0.whole;
      passed = front.passed;
      opens = head.opens;
      each = jobs.0.each;
    }))

pub draft_fault : (lines : List NumberedLine) (fault : OrFault) → draft_at lines ≡ Err fault → IsCutShort lines fault
unfolding draft_at
draft_fault lines fault h =
    let front = passes lines in
    bind_err (head_at (without_titles lines)) (λ head. jobs_at 0 head.0.sizes.jobs head.1 >>= λ jobs. Ok (content_by head.0 jobs.0, jobs.1)) fault h
    (λ e. inl (record { titles = front.titles; rest = without_titles lines; whole = front.whole; passed = front.passed; wrong = head_fault (without_titles lines) fault front.bare e }))
    (λ x e e2. bind_err (jobs_at 0 x.0.sizes.jobs x.1) (λ jobs. Ok (content_by x.0 jobs.0, jobs.1)) fault e2
    (λ e3.
    let head = head_is (without_titles lines) x front.bare e in
    let f = jobs_fault 0 x.0.sizes.jobs x.1 fault e3 in
    let at : 0 + length f.routes ≡ length f.routes = omega arith in
    inr (record {
      description = x.0.description;
      jobs = x.0.sizes.jobs;
      shop = (content_by x.0 f.routes).shop;
      rest = f.rest;
      reads = record {
        titles = front.titles;
        opening = head.opening;
        job_lines = f.reads.job_lines;
        whole = regrouped lines front.titles (without_titles lines) head.opening x.1 f.reads.job_lines f.rest front.whole head.whole f.reads.whole;
        passed = front.passed;
        opens = head.opens;
        each = f.reads.each;
      };
      more = f.more;
      wrong = subst (λ (k : ℕ). IsJobFault k f.rest fault) at f.wrong;
    }))
    (λ jobs e3 e4. absurd cc))

head_of_reads : (lines : List NumberedLine) (description : List ℕ) (jobs : ℕ) (shop : JobShop) (rest : List NumberedLine) → (r : Reads lines description jobs shop rest)
    → head_at (without_titles lines) ≡ Ok (record { description = description; sizes = record { jobs = jobs; machines = shop.machines; recirculates = shop.recirculates } }, r.job_lines ++ rest)
head_of_reads lines description jobs shop rest r =
    let sizes : Sizes = record { jobs = jobs; machines = shop.machines; recirculates = shop.recirculates } in
    ap (λ (all : List NumberedLine). head_at (without_titles all)) r.whole
    ∙ ap head_at (without_again r.titles (r.opening ++ (r.job_lines ++ rest)) r.passed (opens_bare r.opening (r.job_lines ++ rest) description sizes r.opens))
    ∙ head_again r.opening (r.job_lines ++ rest) description sizes r.opens

pub draft_again : (lines : List NumberedLine) (description : List ℕ) (shop : JobShop) (rest : List NumberedLine)
    → Reads lines description (length shop.routes) shop rest → draft_at lines ≡ Ok (record { description = description; shop = shop }, rest)
unfolding draft_at
draft_again lines description shop rest r =
    rw (head_of_reads lines description (length shop.routes) shop rest r, jobs_all (length shop.routes) r.job_lines shop.routes rest r.each refl) refl

pub cut_again : (lines : List NumberedLine) (fault : OrFault) → IsCutShort lines fault → draft_at lines ≡ Err fault
unfolding draft_at
cut_again lines fault (inl h) =
    let head : head_at (without_titles lines) ≡ Err fault =
    ap (λ (all : List NumberedLine). head_at (without_titles all)) h.whole
    ∙ ap head_at (without_again h.titles h.rest h.passed (sizes_fault_bare h.rest fault h.wrong))
    ∙ sizes_fault_again h.rest fault h.wrong
    in
    rw head refl
cut_again lines fault (inr h) =
    rw (head_of_reads lines h.description h.jobs h.shop h.rest h.reads, jobs_fault_again h.jobs h.reads.job_lines h.shop.routes h.rest fault h.reads.each h.more h.wrong) refl

-- ---- one instance, all of the lines

ended_is : (draft content : Content) (rest : List NumberedLine) → ended draft rest ≡ Ok content → (draft ≡ content) × (rest ≡ [])
ended_is draft content [] h = (ok_is draft content h, refl)
ended_is draft content (line ∷ rest) h = absurd cc

pub instance_is : (lines : List NumberedLine) (content : Content) → instance_at lines ≡ Ok content → Reads lines content.description (length content.shop.routes) content.shop []
unfolding instance_at
instance_is lines content h =
    let a = bind_ok (draft_at lines) (λ draft. ended draft.0 draft.1) content h in
    let e = ended_is a.0.0 content a.0.1 a.2 in
    subst (λ (c : Content). ReadsContent lines c []) e.0 (subst (λ (rest : List NumberedLine). ReadsContent lines a.0.0 rest) e.1 (draft_is lines a.0 a.1))

pub instance_again : (lines : List NumberedLine) (description : List ℕ) (shop : JobShop)
    → Reads lines description (length shop.routes) shop [] → instance_at lines ≡ Ok (record { description = description; shop = shop })
unfolding instance_at
instance_again lines description shop r = rw (draft_again lines description shop [] r) refl

extra_is : (lines : List NumberedLine) (draft : Content) (rest : List NumberedLine) (fault : OrFault) → ReadsContent lines draft rest → ended draft rest ≡ Err fault → HasExtraLine lines fault
extra_is lines draft [] fault r h = absurd cc
extra_is lines draft (line ∷ rest) fault r h =
    record { description = draft.description; shop = draft.shop; extra = line; rest = rest; reads = r; is = sym (err_is {A = Content} (Extra line.number) fault h) }

pub instance_fault : (lines : List NumberedLine) (fault : OrFault) → instance_at lines ≡ Err fault → IsCutShort lines fault ⊎ HasExtraLine lines fault
unfolding instance_at
instance_fault lines fault h = bind_err (draft_at lines) (λ draft. ended draft.0 draft.1) fault h
    (λ e. inl (draft_fault lines fault e))
    (λ x e e2. inr (extra_is lines x.0 x.1 fault (draft_is lines x e) e2))

pub instance_cut : (lines : List NumberedLine) (fault : OrFault) → IsCutShort lines fault → instance_at lines ≡ Err fault
unfolding instance_at
instance_cut lines fault h = rw (cut_again lines fault h) refl

pub instance_extra : (lines : List NumberedLine) (fault : OrFault) → HasExtraLine lines fault → instance_at lines ≡ Err fault
unfolding instance_at
instance_extra lines fault h = rw (draft_again lines h.description h.shop (h.extra ∷ h.rest) h.reads) (ap (λ (f : OrFault). failed {A = Content} f) (sym h.is))
