-- What good files of a hub are answered by, where they don't change.
use Rattle.std.proofs.Common.{◌≡◌, ℕ, ◌++◌, List, [], ◌∷◌, ◌⊎◌, Option, Result, Ok, Err, map, inl, inr, ap, sym, ◌∙◌, subst, append_assoc, append-nil, length, ◌+◌, arith}
use Rattle.std.proofs.lemmas.List.{map-append, length_push}
use Rattle.shop_base.specs.Shop.{JobShop}
use Rattle.shop_base.specs.Plan.{ShopPlan, PlannedShop, IsWellShaped}
use Rattle.shop_base.proofs.Refusals.{shape_fault_refutes}
use Rattle.orlib_read.specs.declared.named.Named.{Named}
use Rattle.plan_verifier.specs.Accepted.{VerifiedPlan, IsAcceptable}
use Rattle.plan_verifier.specs.declared.verdict.Verdict.TheVariants.{Accepted, Refused}
use Rattle.command_answers.specs.declared.answer.Answer.{Answer}
use Rattle.command_answers.specs.declared.cells.Cells.{Cells}
use Rattle.command_answers.specs.declared.cells.Cells.TheVariants.{Accepted as AllAccepted, Line}
use Rattle.command_answers.specs.declared.command_fault.CommandFault.{CommandFault}
use Rattle.command_answers.specs.declared.command_fault.CommandFault.TheVariants.{Memory}
use Rattle.command_answers.specs.declared.loading.Loaded.{Loaded}
use Rattle.command_answers.specs.declared.loading.Loaded.TheVariants.{NotShaped, Judged}
use Rattle.command_answers.specs.Steps.{Then, AndThen, Concludes, IsOrMemory}
use Rattle.command_answers.specs.Texts.{Asks}
use Rattle.command_answers.specs.Parsed.{IsInstanceRead, IsPlanRead}
use Rattle.command_answers.specs.Checks.{IsLoaded, accepted_in}
use Rattle.command_answers.specs.Commands.{ReadsPlan}
use Rattle.command_answers.specs.Cells.{AfterPlan, IsCellLine, LoadsEach}
use Rattle.command_answers.proofs.CheckLines.{line_of_loaded}
use Rattle.cell_drive.specs.declared.protocol.Protocol.{Protocol}
use Rattle.command_run.specs.Streams.{Streams}
use Rattle.command_run.specs.Hubs.{DrivesAll}
use Rattle.command_run.specs.Program.{RunsHub}
use Rattle.command_run.specs.Laws.{Shelf, IsAnswerOfFiles, ParsesAsPlanOf, ParsesAsAcceptedPlan, ParseAsAcceptedPlans, DrivesPlans, IsNumberedLine}
use Rattle.plan_verifier.proofs.Reasons.{reason_refutes}
use Rattle.program_laws.proofs.GoodFiles.{answered, no_memory, asked_and_read}

-- the plans of cells
abbrev pub plans_of : List VerifiedPlan → List PlannedShop
plans_of cells = map (λ (v : VerifiedPlan). v.planned) cells

-- all plans were accepted, and they are these
abbrev AreCellsOf : List PlannedShop → Cells → Type 0
AreCellsOf plans (AllAccepted all) = plans_of all.items ≡ plans
AreCellsOf plans (Line answer) = ⊥

-- accepted plans drive their cells
cells_drive : (protocol : Protocol) (files : List (List ℕ)) (plans : List PlannedShop) (loaded : Result Cells CommandFault) (before after : Streams) (outcome : Result Answer CommandFault) (asked : List (List ℕ))
    → IsAnswerOfFiles (AreCellsOf plans) files loaded asked → DrivesAll protocol loaded before after outcome → ((asked ≡ files) × DrivesPlans protocol plans before after outcome) ⊎ ((outcome ≡ Err Memory) × (after ≡ before))
cells_drive protocol files plans (Err fault) before after outcome asked is drives = inr (drives.0 ∙ ap Err is, drives.1)
cells_drive protocol files plans (Ok (Line answer)) before after outcome asked is drives = absurd is.0
cells_drive protocol files plans (Ok (AllAccepted cells)) before after outcome asked is drives = inl (is.1, (cells.items, is.0, drives))

module _ (content : List ℕ → Result (List ℕ) CommandFault) (instance : List ℕ) (name : Option (List ℕ)) where
  -- a plan's text gives its plan
  plan_came : (path : List ℕ) (p : PlannedShop) (good : ParsesAsPlanOf content instance name path p) (shop : JobShop) (came : Result ShopPlan CommandFault) (before mid : List (List ℕ))
      (loaded : Result Loaded CommandFault) (asked : List (List ℕ)) → shop ≡ p.shop → IsPlanRead good.plan came → mid ≡ before ++ path ∷ []
      → AndThen (λ plan. Concludes (IsOrMemory (IsLoaded (record { shop = shop; plan = plan })))) came mid loaded asked → IsAnswerOfFiles (IsLoaded p) (before ++ path ∷ []) loaded asked
  plan_came path p good shop (Ok plan) before mid loaded asked same_shop is files on =
      let of_shop : JobShop → PlannedShop = λ s. record { shop = s; plan = plan } in
      let of_plan : ShopPlan → PlannedShop = λ q. record { shop = p.shop; plan = q } in
      let same : of_shop shop ≡ p = ap of_shop same_shop ∙ ap of_plan (is.only p.plan good.parsed.plan) in
      answered (IsLoaded p) _ loaded asked (subst (λ q. IsOrMemory (IsLoaded q) loaded) same on.0) (on.1 ∙ files)
  plan_came path p good shop (Err f) before mid loaded asked same_shop is files on = no_memory _ _ loaded asked (on.0 ∙ ap Err (is.only p.plan good.parsed.plan))

  -- the plan of a file is accepted
  one_came : (path : List ℕ) (p : PlannedShop) → ParsesAsPlanOf content instance name path p → (came : Result Named CommandFault) (before mid : List (List ℕ))
      (loaded : Result Loaded CommandFault) (asked : List (List ℕ)) → IsInstanceRead instance name came → mid ≡ before
      → AndThen (λ named. Then (ReadsPlan (Shelf content) path) (λ plan. Concludes (IsOrMemory (IsLoaded (record { shop = named.shop; plan = plan }))))) came mid loaded asked
      → IsAnswerOfFiles (IsLoaded p) (before ++ path ∷ []) loaded asked
  one_came path p good (Ok named) before mid loaded asked is same on =
      let same_shop = (is.only good.parsed.description p.shop good.parsed.shop).1 in
      let read = asked_and_read content (λ t. IsPlanRead t) path good.plan good.plan_is mid on.is.came on.is.mid on.came on.mid on.is.is on.is.goes_on in
      plan_came path p good named.shop on.came before on.mid loaded asked same_shop read.0 (read.1 ∙ ap (λ (files : List (List ℕ)). files ++ path ∷ []) same) on.goes_on
  one_came path p good (Err f) before mid loaded asked is same on = no_memory _ _ loaded asked (on.0 ∙ ap Err (is.only good.parsed.description p.shop good.parsed.shop))

  -- behind it come the others
  others_come : (path : List ℕ) (p : PlannedShop) → ParsesAsAcceptedPlan content instance name path p → (paths : List (List ℕ)) (plans : List PlannedShop) (cells : List VerifiedPlan) (before mid : List (List ℕ))
      → ((more : List VerifiedPlan) (here : List (List ℕ)) (loaded : Result Cells CommandFault) (asked : List (List ℕ)) → LoadsEach (Shelf content) instance name more paths here loaded asked
      → IsAnswerOfFiles (AreCellsOf (plans_of more ++ plans)) (here ++ paths) loaded asked)
      → (one : Result Loaded CommandFault) (loaded : Result Cells CommandFault) (asked : List (List ℕ)) → IsAnswerOfFiles (IsLoaded p) (before ++ path ∷ []) one mid
      → AndThen (λ l. AfterPlan cells (λ more. LoadsEach (Shelf content) instance name more paths) (accepted_in l)) one mid loaded asked
      → IsAnswerOfFiles (AreCellsOf (plans_of cells ++ p ∷ plans)) (before ++ path ∷ paths) loaded asked
  others_come path p good paths plans cells before mid rest (Err f) loaded asked is on = no_memory _ _ loaded asked (on.0 ∙ ap Err is)
  others_come path p good paths plans cells before mid rest (Ok (NotShaped fault)) loaded asked is on = absurd (shape_fault_refutes p fault is.0 good.well_shaped)
  others_come path p good paths plans cells before mid rest (Ok (Judged (Refused back why))) loaded asked is on = absurd (reason_refutes p why is.0.refused.1 good.acceptable)
  others_come path p good paths plans cells before mid rest (Ok (Judged (Accepted v))) loaded asked is (inr none) = no_memory _ _ loaded asked none.0
  others_come path p good paths plans cells before mid rest (Ok (Judged (Accepted v))) loaded asked is (inl on) =
      let one : plans_of (cells ++ v ∷ []) ≡ plans_of cells ++ p ∷ [] =
      map-append (λ (v : VerifiedPlan). v.planned) cells (v ∷ []) ∙ ap (λ (q : PlannedShop). plans_of cells ++ q ∷ []) is.0.accepted.0 in
      let all : plans_of (cells ++ v ∷ []) ++ plans ≡ plans_of cells ++ p ∷ plans = ap (λ (ps : List PlannedShop). ps ++ plans) one ∙ append_assoc (plans_of cells) (p ∷ []) plans in
      let files : mid ++ paths ≡ before ++ path ∷ paths = ap (λ (fs : List (List ℕ)). fs ++ paths) is.1 ∙ append_assoc before (path ∷ []) paths in
      subst (λ (ps : List PlannedShop). IsAnswerOfFiles (AreCellsOf ps) (before ++ path ∷ paths) loaded asked) all
      (subst (λ (fs : List (List ℕ)). IsAnswerOfFiles (AreCellsOf (plans_of (cells ++ v ∷ []) ++ plans)) fs loaded asked) files (rest (cells ++ v ∷ []) mid loaded asked on))

  -- the plans that are left are accepted, behind those that are so far
  each_come : (paths : List (List ℕ)) (plans : List PlannedShop) → ParseAsAcceptedPlans content instance name paths plans → (cells : List VerifiedPlan) (here : List (List ℕ)) (loaded : Result Cells CommandFault)
      (asked : List (List ℕ)) → LoadsEach (Shelf content) instance name cells paths here loaded asked → IsAnswerOfFiles (AreCellsOf (plans_of cells ++ plans)) (here ++ paths) loaded asked
  each_come [] [] good cells here (Ok (AllAccepted all)) asked loads = (ap plans_of loads.0 ∙ sym (append-nil (plans_of cells)), loads.1 ∙ sym (append-nil here))
  each_come [] [] good cells here (Ok (Line answer)) asked loads = absurd loads.0
  each_come [] [] good cells here (Err fault) asked loads = absurd loads.0
  each_come [] (p ∷ plans) good cells here loaded asked loads = absurd good
  each_come (path ∷ paths) [] good cells here loaded asked loads = absurd good
  each_come (path ∷ paths) (p ∷ plans) good cells here loaded asked loads =
      let one = one_came path p good.0.parses loads.is.came here loads.is.mid loads.came loads.mid loads.is.is.0 loads.is.is.1 loads.is.goes_on in
      others_come path p good.0 paths plans cells here loads.mid (λ more now those files each. each_come paths plans good.1 more now those files each) loads.came loaded asked one loads.goes_on

  cells_come : (path : List ℕ) (files : List (List ℕ)) (plans : List PlannedShop) → content path ≡ Ok instance → ParseAsAcceptedPlans content instance name files plans → (came : Result (List ℕ) CommandFault)
      (mid : List (List ℕ)) (loaded : Result Cells CommandFault) (asked : List (List ℕ)) → Asks (Shelf content) path [] came mid → AndThen (λ t. LoadsEach (Shelf content) t name [] files) came mid loaded asked
      → IsAnswerOfFiles (AreCellsOf plans) (path ∷ files) loaded asked
  cells_come path files plans is good (Ok t) mid loaded asked given on =
      let same : t ≡ instance = (let both : Ok t ≡ Ok instance = given.0 ∙ is in cc both) in
      let each = each_come files plans good [] mid loaded asked (subst (λ x. LoadsEach (Shelf content) x name [] files mid loaded asked) same on) in
      subst (λ (here : List (List ℕ)). IsAnswerOfFiles (AreCellsOf plans) (here ++ files) loaded asked) given.1 each
  cells_come path files plans is good (Err f) mid loaded asked given on = absurd (let both : Err f ≡ Ok instance = given.1.0 ∙ is in cc both)

  pub good_hub : (protocol : Protocol) (path : List ℕ) (files : List (List ℕ)) (plans : List PlannedShop) (before after : Streams) (outcome : Result Answer CommandFault) (asked : List (List ℕ)) → content path ≡ Ok instance
      → ParseAsAcceptedPlans content instance name files plans → RunsHub (Shelf content) protocol path name files [] before outcome asked after → ((asked ≡ path ∷ files) × DrivesPlans protocol plans before after outcome) ⊎ ((outcome ≡ Err Memory) × (after ≡ before))
  good_hub protocol path files plans before after outcome asked is good run =
      cells_drive protocol (path ∷ files) plans run.loaded before after outcome asked (cells_come path files plans is good run.loads.came run.loads.mid run.loaded asked run.loads.is run.loads.goes_on) run.drives

-- the line of a plan that isn't accepted, behind its number
abbrev IsCellsLine : ℕ → PlannedShop → Cells → Type 0
IsCellsLine number p (AllAccepted all) = ⊥
IsCellsLine number p (Line answer) = IsNumberedLine number p answer

-- it is the answer, with no byte read or written
line_answered : (protocol : Protocol) (number : ℕ) (p : PlannedShop) (files : List (List ℕ)) (loaded : Result Cells CommandFault) (before after : Streams) (outcome : Result Answer CommandFault) (asked : List (List ℕ))
    → IsAnswerOfFiles (IsCellsLine number p) files loaded asked → DrivesAll protocol loaded before after outcome → IsAnswerOfFiles (IsNumberedLine number p) files outcome asked × (after ≡ before)
line_answered protocol number p files (Err fault) before after outcome asked is drives = (no_memory _ _ outcome asked (drives.0 ∙ ap Err is), drives.1)
line_answered protocol number p files (Ok (Line answer)) before after outcome asked is drives = (subst (λ r. IsAnswerOfFiles (IsNumberedLine number p) files r asked) (sym drives.0) is, drives.1)
line_answered protocol number p files (Ok (AllAccepted cells)) before after outcome asked is drives = absurd is.0

cell_answered : (number : ℕ) (p : PlannedShop) (files : List (List ℕ)) (l : Loaded) (loaded : Result Cells CommandFault) (asked : List (List ℕ)) → IsLoaded p l → IsCellLine number l loaded → asked ≡ files
    → IsAnswerOfFiles (IsCellsLine number p) files loaded asked
cell_answered number p files l (Ok (Line answer)) asked is answered same =
    (record { line = answered.0; is = line_of_loaded p l answered.0 is answered.1; text = answered.2; status = answered.3 }, same)
cell_answered number p files l (Ok (AllAccepted all)) asked is answered same = absurd answered
cell_answered number p files l (Err fault) asked is answered same = answered

module _ (content : List ℕ → Result (List ℕ) CommandFault) (instance : List ℕ) (name : Option (List ℕ)) (file : List ℕ) (p : PlannedShop) (others : List (List ℕ))
    (parses : ParsesAsPlanOf content instance name file p) (never : IsWellShaped p → IsAcceptable p → ⊥) where
  -- the plan that isn't accepted ends it
  ends_there : (cells : List VerifiedPlan) (rest : List VerifiedPlan → List (List ℕ) → Result Cells CommandFault → List (List ℕ) → Type 0) (one : Result Loaded CommandFault) (mid files : List (List ℕ))
      (loaded : Result Cells CommandFault) (asked : List (List ℕ)) → IsAnswerOfFiles (IsLoaded p) files one mid → AndThen (λ l. AfterPlan cells rest (accepted_in l)) one mid loaded asked
      → IsAnswerOfFiles (IsCellsLine (length cells) p) files loaded asked
  ends_there cells rest (Err f) mid files loaded asked is on = no_memory _ _ loaded asked (on.0 ∙ ap Err is)
  ends_there cells rest (Ok (NotShaped fault)) mid files loaded asked is on = cell_answered (length cells) p files (NotShaped fault) loaded asked is.0 on.0 (on.1 ∙ is.1)
  ends_there cells rest (Ok (Judged (Refused back why))) mid files loaded asked is on = cell_answered (length cells) p files (Judged (Refused back why)) loaded asked is.0 on.0 (on.1 ∙ is.1)
  ends_there cells rest (Ok (Judged (Accepted v))) mid files loaded asked is on = absurd (never is.0.well_shaped is.0.accepted.1)

  -- an accepted plan is passed
  passes : (path : List ℕ) (q : PlannedShop) → ParsesAsAcceptedPlan content instance name path q → (paths : List (List ℕ)) (cells : List VerifiedPlan) (before mid : List (List ℕ))
      → ((more : List VerifiedPlan) (here : List (List ℕ)) (loaded : Result Cells CommandFault) (asked : List (List ℕ)) → LoadsEach (Shelf content) instance name more (paths ++ file ∷ others) here loaded asked
      → IsAnswerOfFiles (IsCellsLine (length more + length paths) p) (here ++ (paths ++ file ∷ [])) loaded asked)
      → (one : Result Loaded CommandFault) (loaded : Result Cells CommandFault) (asked : List (List ℕ)) → IsAnswerOfFiles (IsLoaded q) (before ++ path ∷ []) one mid
      → AndThen (λ l. AfterPlan cells (λ more. LoadsEach (Shelf content) instance name more (paths ++ file ∷ others)) (accepted_in l)) one mid loaded asked
      → IsAnswerOfFiles (IsCellsLine (length cells + length (path ∷ paths)) p) (before ++ path ∷ (paths ++ file ∷ [])) loaded asked
  passes path q good paths cells before mid rest (Err f) loaded asked is on = no_memory _ _ loaded asked (on.0 ∙ ap Err is)
  passes path q good paths cells before mid rest (Ok (NotShaped fault)) loaded asked is on = absurd (shape_fault_refutes q fault is.0 good.well_shaped)
  passes path q good paths cells before mid rest (Ok (Judged (Refused back why))) loaded asked is on = absurd (reason_refutes q why is.0.refused.1 good.acceptable)
  passes path q good paths cells before mid rest (Ok (Judged (Accepted v))) loaded asked is (inr none) = no_memory _ _ loaded asked none.0
  passes path q good paths cells before mid rest (Ok (Judged (Accepted v))) loaded asked is (inl on) =
      let number : length (cells ++ v ∷ []) + length paths ≡ length cells + length (path ∷ paths) = omega (arith, length_push cells v) in
      let files : mid ++ (paths ++ file ∷ []) ≡ before ++ path ∷ (paths ++ file ∷ []) =
      ap (λ (fs : List (List ℕ)). fs ++ (paths ++ file ∷ [])) is.1 ∙ append_assoc before (path ∷ []) (paths ++ file ∷ []) in
      subst (λ (n : ℕ). IsAnswerOfFiles (IsCellsLine n p) (before ++ path ∷ (paths ++ file ∷ [])) loaded asked) number
      (subst (λ (fs : List (List ℕ)). IsAnswerOfFiles (IsCellsLine (length (cells ++ v ∷ []) + length paths) p) fs loaded asked) files (rest (cells ++ v ∷ []) mid loaded asked on))

  line_comes : (paths : List (List ℕ)) (plans : List PlannedShop) → ParseAsAcceptedPlans content instance name paths plans → (cells : List VerifiedPlan) (here : List (List ℕ)) (loaded : Result Cells CommandFault)
      (asked : List (List ℕ)) → LoadsEach (Shelf content) instance name cells (paths ++ file ∷ others) here loaded asked
      → IsAnswerOfFiles (IsCellsLine (length cells + length paths) p) (here ++ (paths ++ file ∷ [])) loaded asked
  line_comes [] [] good cells here loaded asked loads =
      let one = one_came content instance name file p parses loads.is.came here loads.is.mid loads.came loads.mid loads.is.is.0 loads.is.is.1 loads.is.goes_on in
      let number : length cells ≡ length cells + 0 = omega arith in
      subst (λ (n : ℕ). IsAnswerOfFiles (IsCellsLine n p) (here ++ file ∷ []) loaded asked) number (ends_there cells (λ more. LoadsEach (Shelf content) instance name more others) loads.came loads.mid (here ++ file ∷ []) loaded asked one loads.goes_on)
  line_comes [] (q ∷ plans) good cells here loaded asked loads = absurd good
  line_comes (path ∷ paths) [] good cells here loaded asked loads = absurd good
  line_comes (path ∷ paths) (q ∷ plans) good cells here loaded asked loads =
      let one = one_came content instance name path q good.0.parses loads.is.came here loads.is.mid loads.came loads.mid loads.is.is.0 loads.is.is.1 loads.is.goes_on in
      passes path q good.0 paths cells here loads.mid (λ more now those files each. line_comes paths plans good.1 more now those files each) loads.came loaded asked one loads.goes_on

  line_of_cells : (path : List ℕ) (files : List (List ℕ)) (plans : List PlannedShop) → content path ≡ Ok instance → ParseAsAcceptedPlans content instance name files plans → (came : Result (List ℕ) CommandFault)
      (mid : List (List ℕ)) (loaded : Result Cells CommandFault) (asked : List (List ℕ)) → Asks (Shelf content) path [] came mid → AndThen (λ t. LoadsEach (Shelf content) t name [] (files ++ file ∷ others)) came mid loaded asked
      → IsAnswerOfFiles (IsCellsLine (length files) p) (path ∷ (files ++ file ∷ [])) loaded asked
  line_of_cells path files plans is good (Ok t) mid loaded asked given on =
      let same : t ≡ instance = (let both : Ok t ≡ Ok instance = given.0 ∙ is in cc both) in
      let line = line_comes files plans good [] mid loaded asked (subst (λ x. LoadsEach (Shelf content) x name [] (files ++ file ∷ others) mid loaded asked) same on) in
      let number : 0 + length files ≡ length files = omega arith in
      subst (λ (n : ℕ). IsAnswerOfFiles (IsCellsLine n p) (path ∷ (files ++ file ∷ [])) loaded asked) number
      (subst (λ (here : List (List ℕ)). IsAnswerOfFiles (IsCellsLine (0 + length files) p) (here ++ (files ++ file ∷ [])) loaded asked) given.1 line)
  line_of_cells path files plans is good (Err f) mid loaded asked given on = absurd (let both : Err f ≡ Ok instance = given.1.0 ∙ is in cc both)

  pub no_hub : (protocol : Protocol) (path : List ℕ) (files : List (List ℕ)) (plans : List PlannedShop) (before after : Streams) (outcome : Result Answer CommandFault) (asked : List (List ℕ)) → content path ≡ Ok instance
      → ParseAsAcceptedPlans content instance name files plans → RunsHub (Shelf content) protocol path name (files ++ file ∷ others) [] before outcome asked after
      → IsAnswerOfFiles (IsNumberedLine (length files) p) (path ∷ (files ++ file ∷ [])) outcome asked × (after ≡ before)
  no_hub protocol path files plans before after outcome asked is good run =
      line_answered protocol (length files) p (path ∷ (files ++ file ∷ [])) run.loaded before after outcome asked
      (line_of_cells path files plans is good run.loads.came run.loads.mid run.loaded asked run.loads.is run.loads.goes_on) run.drives
