-- What is printed first where the files don't change.
use Rattle.std.proofs.Common.{◌≡◌, ℕ, List, [], ◌∷◌, ◌⊎◌, Option, Result, Ok, Err, inl, inr, ap, sym, ◌∙◌, subst, refl}
use Rattle.shop_base.specs.declared.shape_fault.ShapeFault.{ShapeFault}
use Rattle.shop_base.specs.Plan.{PlannedShop}
use Rattle.orlib_read.specs.declared.named.Named.{Named}
use Rattle.orlib_read.specs.declared.or_fault.OrFault.{OrFault}
use Rattle.cell_drive.specs.declared.protocol.Protocol.{Protocol}
use Rattle.command_answers.specs.declared.answer.Answer.{Answer}
use Rattle.command_answers.specs.declared.cells.Cells.{Cells}
use Rattle.command_answers.specs.declared.loading.Loaded.{Loaded}
use Rattle.command_answers.specs.declared.pictures.Drawn.{Drawn}
use Rattle.command_answers.specs.declared.command_fault.CommandFault.{CommandFault}
use Rattle.command_answers.specs.declared.command_fault.CommandFault.TheVariants.{Instance, Plan, Names, Read, Write, InputTooLong, Log, LogInUse, Memory}
use Rattle.command_answers.specs.Instances.{IsFirstInstanceFault, IsInstanceRefusal}
use Rattle.command_answers.specs.Steps.{AndThen, Concludes}
use Rattle.command_answers.specs.Texts.{Asks}
use Rattle.command_answers.specs.Parsed.{IsInstanceRead, AreFactsAnswered}
use Rattle.command_answers.specs.Commands.{InputPaths, RunPaths, ReadsInstance, ReadsBoth, WithBoth, RunsFacts}
use Rattle.command_answers.specs.Cells.{LoadsEach}
use Rattle.command_run.specs.Streams.{Streams}
use Rattle.command_run.specs.Drives.{Drives}
use Rattle.command_run.specs.Pictures.{Draws, RunsPicture}
use Rattle.command_run.specs.Hubs.{DrivesAll}
use Rattle.command_run.specs.Resumes.{Resumes}
use Rattle.command_run.specs.Planners.{SeeksPlan}
use Rattle.command_run.specs.Improvers.{Improves}
use Rattle.command_run.specs.Program.{RunsDrive, RunsResume, RunsHub}
use Rattle.command_run.specs.Laws.{Shelf, IsInstanceRefused, with_inputs}

-- the fault of an instance, or that memory ran out
abbrev IsRefusalOf : {A : Type 0} → OrFault → Result A CommandFault → Type 0
IsRefusalOf fault outcome = (outcome ≡ Err (Instance fault)) ⊎ (outcome ≡ Err Memory)

recovered_by : {A : Type 0} (fault : OrFault) (outcome : Result A CommandFault) → IsInstanceRefusal outcome fault → IsRefusalOf fault outcome
recovered_by fault (Ok a) refusal = absurd refusal
recovered_by fault (Err (Instance other)) refusal = inl (ap (λ f. Err (Instance f)) refusal)
recovered_by fault (Err (Plan other)) refusal = absurd refusal
recovered_by fault (Err (Names names)) refusal = absurd refusal
recovered_by fault (Err Read) refusal = absurd refusal
recovered_by fault (Err Write) refusal = absurd refusal
recovered_by fault (Err InputTooLong) refusal = absurd refusal
recovered_by fault (Err Log) refusal = absurd refusal
recovered_by fault (Err LogInUse) refusal = absurd refusal
recovered_by fault (Err Memory) refusal = inr refl

-- such a fault ends the steps
stopped : {W A B : Type 0} (fault : OrFault) (came : Result A CommandFault) (next : A → W → Result B CommandFault → W → Type 0) (mid after : W) (outcome : Result B CommandFault)
    → IsRefusalOf fault came → AndThen next came mid outcome after → (after ≡ mid) × IsRefusalOf fault outcome
stopped fault (Ok a) next mid after outcome (inl came) on = absurd (cc came)
stopped fault (Ok a) next mid after outcome (inr came) on = absurd (cc came)
stopped fault (Err f) next mid after outcome (inl came) on = (on.1, inl ((let one : f ≡ (Instance fault) = cc came in on.0 ∙ ap (λ x. Err x) one)))
stopped fault (Err f) next mid after outcome (inr came) on = (on.1, inr ((let one : f ≡ Memory = cc came in on.0 ∙ ap (λ x. Err x) one)))

drives_stopped : (protocol : Protocol) (fault : OrFault) (loaded : Result Loaded CommandFault) (before after : Streams) (outcome : Result Answer CommandFault)
    → IsRefusalOf fault loaded → Drives protocol loaded before after outcome → IsRefusalOf fault outcome × (after ≡ before)
drives_stopped protocol fault (Ok loaded) before after outcome (inl came) is = absurd (cc came)
drives_stopped protocol fault (Ok loaded) before after outcome (inr came) is = absurd (cc came)
drives_stopped protocol fault (Err f) before after outcome (inl came) is = (inl ((let one : f ≡ (Instance fault) = cc came in is.0 ∙ ap (λ x. Err x) one)), is.1)
drives_stopped protocol fault (Err f) before after outcome (inr came) is = (inr ((let one : f ≡ Memory = cc came in is.0 ∙ ap (λ x. Err x) one)), is.1)

draws_stopped : (fault : OrFault) (drawn : Result Drawn CommandFault) (before after : Streams) (outcome : Result Answer CommandFault)
    → IsRefusalOf fault drawn → Draws drawn before after outcome → IsRefusalOf fault outcome × (after ≡ before)
draws_stopped fault (Ok drawn) before after outcome (inl came) is = absurd (cc came)
draws_stopped fault (Ok drawn) before after outcome (inr came) is = absurd (cc came)
draws_stopped fault (Err f) before after outcome (inl came) is = (inl ((let one : f ≡ (Instance fault) = cc came in is.0 ∙ ap (λ x. Err x) one)), is.1)
draws_stopped fault (Err f) before after outcome (inr came) is = (inr ((let one : f ≡ Memory = cc came in is.0 ∙ ap (λ x. Err x) one)), is.1)

resumes_stopped : {W : Type 0} (gives : W → List ℕ → Result (List ℕ) CommandFault → W → Type 0) (protocol : Protocol) (at : Option ℕ) (log : List ℕ) (fault : OrFault) (loaded : Result (Result PlannedShop ShapeFault) CommandFault) (mid last : W) (before after : Streams) (outcome : Result Answer CommandFault)
    → IsRefusalOf fault loaded → Resumes gives protocol at log loaded mid before outcome last after → IsRefusalOf fault outcome × (after ≡ before) × (last ≡ mid)
resumes_stopped gives protocol at log fault (Ok loaded) mid last before after outcome (inl came) is = absurd (cc came)
resumes_stopped gives protocol at log fault (Ok loaded) mid last before after outcome (inr came) is = absurd (cc came)
resumes_stopped gives protocol at log fault (Err f) mid last before after outcome (inl came) is =
    (inl ((let one : f ≡ (Instance fault) = cc came in is.0 ∙ ap (λ x. Err x) one)), is.1, is.2)
resumes_stopped gives protocol at log fault (Err f) mid last before after outcome (inr came) is =
    (inr ((let one : f ≡ Memory = cc came in is.0 ∙ ap (λ x. Err x) one)), is.1, is.2)

hub_stopped : (protocol : Protocol) (fault : OrFault) (loaded : Result Cells CommandFault) (before after : Streams) (outcome : Result Answer CommandFault)
    → IsRefusalOf fault loaded → DrivesAll protocol loaded before after outcome → IsRefusalOf fault outcome × (after ≡ before)
hub_stopped protocol fault (Ok loaded) before after outcome (inl came) is = absurd (cc came)
hub_stopped protocol fault (Ok loaded) before after outcome (inr came) is = absurd (cc came)
hub_stopped protocol fault (Err f) before after outcome (inl came) is = (inl ((let one : f ≡ (Instance fault) = cc came in is.0 ∙ ap (λ x. Err x) one)), is.1)
hub_stopped protocol fault (Err f) before after outcome (inr came) is = (inr ((let one : f ≡ Memory = cc came in is.0 ∙ ap (λ x. Err x) one)), is.1)

module _ (content : List ℕ → Result (List ℕ) CommandFault) (path text : List ℕ) (name : Option (List ℕ)) (fault : OrFault)
    (is : content path ≡ Ok text) (first : IsFirstInstanceFault text name fault) where
  -- what was asked for is the text
  same_text : (t : List ℕ) → Ok t ≡ content path → IsFirstInstanceFault t name fault
  same_text t given =
      let same : t ≡ text = (let both : Ok t ≡ Ok text = given ∙ is in cc both) in
      subst (λ x. IsFirstInstanceFault x name fault) (sym same) first

  -- the instance's file was asked for alone, and is refused
  came_refused : {A : Type 0} (Is : List ℕ → Result A CommandFault → Type 0) (came : Result (List ℕ) CommandFault) (read : Result A CommandFault) (mid asked : List (List ℕ))
      → ((t : List ℕ) → Is t read → IsFirstInstanceFault t name fault → IsInstanceRefusal read fault)
      → Asks (Shelf content) path [] came mid → AndThen (λ t. Concludes (Is t)) came mid read asked → IsInstanceRefused path fault read asked
  came_refused Is (Ok t) read mid asked refuses given on = (on.1 ∙ given.1, recovered_by fault read (refuses t on.0 (same_text t given.0)))
  came_refused Is (Err f) read mid asked refuses given on = absurd (let both : Err f ≡ Ok text = given.1.0 ∙ is in cc both)

  pub facts_first : (outcome : Result Answer CommandFault) (asked : List (List ℕ)) → RunsFacts (Shelf content) path name [] outcome asked → IsInstanceRefused path fault outcome asked
  facts_first outcome asked run = came_refused (λ t. AreFactsAnswered t name) run.came outcome run.mid asked (λ t answered. answered.first fault) run.is run.goes_on

  read_refused : (read : Result Named CommandFault) (asked : List (List ℕ)) → ReadsInstance (Shelf content) path name [] read asked → IsInstanceRefused path fault read asked
  read_refused read asked run = came_refused (λ t. IsInstanceRead t name) run.came read run.mid asked (λ t came. came.first fault) run.is run.goes_on

  both_refused : (plan : List ℕ) (read : Result PlannedShop CommandFault) (asked : List (List ℕ)) → ReadsBoth (Shelf content) (record { path = path; name = name; plan = plan }) [] read asked
      → IsInstanceRefused path fault read asked
  both_refused plan read asked run =
      let named = read_refused run.came run.mid run.is in
      let end = stopped fault run.came _ run.mid asked read named.1 run.goes_on in
      (end.0 ∙ named.0, end.1)

  -- the first plan isn't asked for
  cells_refused : (plan : List ℕ) (plans : List (List ℕ)) (came : Result (List ℕ) CommandFault) (mid : List (List ℕ)) (outcome : Result Cells CommandFault) (asked : List (List ℕ))
      → Asks (Shelf content) path [] came mid → AndThen (λ t. LoadsEach (Shelf content) t name [] (plan ∷ plans)) came mid outcome asked → IsInstanceRefused path fault outcome asked
  cells_refused plan plans (Ok t) mid outcome asked given on =
      let refusal = recovered_by fault on.is.came (on.is.is.0.first fault (same_text t given.0)) in
      let one = stopped fault on.is.came _ on.is.mid on.mid on.came refusal on.is.goes_on in
      let end = stopped fault on.came _ on.mid asked outcome one.1 on.goes_on in
      (end.0 ∙ one.0 ∙ on.is.is.1 ∙ given.1, end.1)
  cells_refused plan plans (Err f) mid outcome asked given on = absurd (let both : Err f ≡ Ok text = given.1.0 ∙ is in cc both)

  pub hub_first : (protocol : Protocol) (plan : List ℕ) (plans : List (List ℕ)) (before after : Streams) (outcome : Result Answer CommandFault) (asked : List (List ℕ))
      → RunsHub (Shelf content) protocol path name (plan ∷ plans) [] before outcome asked after → IsInstanceRefused path fault outcome asked × (after ≡ before)
  hub_first protocol plan plans before after outcome asked run =
      let loaded = cells_refused plan plans run.loads.came run.loads.mid run.loaded asked run.loads.is run.loads.goes_on in
      let end = hub_stopped protocol fault run.loaded before after outcome loaded.1 run.drives in
      ((loaded.0, end.0), end.1)

module _ (content : List ℕ → Result (List ℕ) CommandFault) (inputs : InputPaths) (text : List ℕ) (fault : OrFault)
    (is : content inputs.path ≡ Ok text) (first : IsFirstInstanceFault text inputs.name fault) where
  pub instance_first_of : {A : Type 0} (next : PlannedShop → List (List ℕ) → Result A CommandFault → List (List ℕ) → Type 0) (outcome : Result A CommandFault) (asked : List (List ℕ))
      → WithBoth (Shelf content) inputs next [] outcome asked → IsInstanceRefused inputs.path fault outcome asked
  instance_first_of next outcome asked run =
      let read = both_refused content inputs.path text inputs.name fault is first inputs.plan run.came run.mid run.is in
      let end = stopped fault run.came next run.mid asked outcome read.1 run.goes_on in
      (end.0 ∙ read.0, end.1)

  pub plan_first : (rounds : ℕ) (outcome : Result Answer CommandFault) (asked : List (List ℕ)) → SeeksPlan (Shelf content) rounds inputs [] outcome asked
      → IsInstanceRefused inputs.path fault outcome asked ⊎ ((outcome ≡ Err Memory) × (asked ≡ []))
  plan_first rounds outcome asked (inl run) = inl (instance_first_of _ outcome asked run)
  plan_first rounds outcome asked (inr no_memory) = inr no_memory

  pub improve_first : (rounds : ℕ) (run : RunPaths) (outcome : Result Answer CommandFault) (asked : List (List ℕ)) → Improves (Shelf content) rounds (with_inputs run inputs) [] outcome asked
      → IsInstanceRefused inputs.path fault outcome asked ⊎ ((outcome ≡ Err Memory) × (asked ≡ []))
  improve_first rounds run outcome asked (inl runs) = inl (instance_first_of _ outcome asked runs)
  improve_first rounds run outcome asked (inr no_memory) = inr no_memory

  pub drive_first : (protocol : Protocol) (before after : Streams) (outcome : Result Answer CommandFault) (asked : List (List ℕ)) → RunsDrive (Shelf content) protocol inputs [] before outcome asked after
      → IsInstanceRefused inputs.path fault outcome asked × (after ≡ before)
  drive_first protocol before after outcome asked run =
      let loaded = instance_first_of _ run.loaded asked run.loads in
      let end = drives_stopped protocol fault run.loaded before after outcome loaded.1 run.drives in
      ((loaded.0, end.0), end.1)

  pub picture_first : (next : PlannedShop → List (List ℕ) → Result Drawn CommandFault → List (List ℕ) → Type 0) (before after : Streams) (outcome : Result Answer CommandFault) (asked : List (List ℕ))
      → RunsPicture (WithBoth (Shelf content) inputs next) [] before outcome asked after → IsInstanceRefused inputs.path fault outcome asked × (after ≡ before)
  picture_first next before after outcome asked run =
      let came = instance_first_of next run.drawn asked run.came in
      let end = draws_stopped fault run.drawn before after outcome came.1 run.draws in
      ((came.0, end.0), end.1)

  pub resume_first : (protocol : Protocol) (at : Option ℕ) (log : List ℕ) (before after : Streams) (outcome : Result Answer CommandFault) (asked : List (List ℕ))
      → RunsResume (Shelf content) protocol at inputs log [] before outcome asked after → IsInstanceRefused inputs.path fault outcome asked × (after ≡ before)
  resume_first protocol at log before after outcome asked run =
      let loaded = instance_first_of _ run.shaped run.texts_mid run.shapes in
      let end = resumes_stopped (Shelf content) protocol at log fault run.shaped run.texts_mid asked before after outcome loaded.1 run.resumes in
      ((end.2 ∙ loaded.0, end.0), end.1)
