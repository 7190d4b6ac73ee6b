-- What is answered of a run whose files are good, where they don't change.
use Rattle.std.proofs.Common.{◌≡◌, ℕ, List, [], ◌∷◌, ◌⊎◌, Option, None, Some, Result, Err, inl, inr, sym, subst}
use Rattle.shop_base.specs.Plan.{PlannedShop}
use Rattle.people_names.specs.NameBooks.{NameBook, no_names}
use Rattle.command_answers.specs.declared.answer.Answer.{Answer}
use Rattle.command_answers.specs.declared.command_fault.CommandFault.{CommandFault}
use Rattle.command_answers.specs.declared.command_fault.CommandFault.TheVariants.{Memory}
use Rattle.command_answers.specs.declared.pictures.Drawn.{Drawn}
use Rattle.command_answers.specs.Commands.{AsksOfRun, BettersPlan, IfShapedBy, IfThereBy, RunPaths, WithNamesAndRun, WithRun}
use Rattle.command_answers.specs.Improving.{ordered}
use Rattle.command_answers.specs.ImprovingRests.{IsBetterAnswer}
use Rattle.command_answers.specs.Pictures.{IsLineAlone}
use Rattle.command_answers.specs.Shapes.{IsNotShapedLine}
use Rattle.command_answers.specs.Steps.{IsOrMemory}
use Rattle.command_answers.proofs.Unnamed.{unnamed}
use Rattle.command_run.specs.Streams.{Streams}
use Rattle.command_run.specs.Improvers.{AsksOne, Improves}
use Rattle.command_run.specs.Pictures.{Draws}
use Rattle.command_run.specs.Laws.{ByShape, GivesRun, HasText, IsAnswerOfFiles, IsRunDrawn, ParseAsPlan, Shelf, log_paths}
use Rattle.program_laws.proofs.GoodFiles.{answered, asked_and_read, came_drawn, no_memory, with_both}

module _ (content : List ℕ → Result (List ℕ) CommandFault) (run : RunPaths) (p : PlannedShop) (text : Option (List ℕ)) where
  -- the log is asked for, if there is one
  log_read : {A : Type 0} (Is : Option (List ℕ) → Result A CommandFault → Type 0) (log came : Option (List ℕ)) (outcome : Result A CommandFault) (asked : List (List ℕ)) → HasText content log came
      → WithRun (Shelf content) log Is (run.inputs.path ∷ run.inputs.plan ∷ []) outcome asked → Is came outcome × (asked ≡ run.inputs.path ∷ run.inputs.plan ∷ log_paths log)
  log_read Is None came outcome asked has on = (subst (λ (t : Option (List ℕ)). Is t outcome) (sym has) on.0, on.1)
  log_read Is (Some log) came outcome asked (bytes, is, same) on =
      let end = asked_and_read content (λ t. Is (Some t)) log bytes is (run.inputs.path ∷ run.inputs.plan ∷ []) on.came on.mid outcome asked on.is on.goes_on in
      (subst (λ (t : Option (List ℕ)). Is t outcome) (sym same) end.0, end.1)

  module _ (rounds : ℕ) (has : HasText content run.log text) where
    -- what the search comes to
    better_came : (outcome : Result Answer CommandFault) (asked : List (List ℕ)) → BettersPlan (Shelf content) (AsksOne rounds) rounds run (ordered p) (run.inputs.path ∷ run.inputs.plan ∷ []) outcome asked ⊎ (outcome ≡ Err Memory)
        → ByShape (ordered p) run (λ files. IsBetterAnswer (AsksOne rounds) rounds run.at (ordered p) text outcome × (asked ≡ files)) (λ files. IsOrMemory (IsNotShapedLine (ordered p)) outcome × (asked ≡ files)) ⊎ (outcome ≡ Err Memory)
    better_came outcome asked (inl (inl (shaped, on))) = inl (inl (shaped, log_read (IsBetterAnswer (AsksOne rounds) rounds run.at (ordered p)) run.log text outcome asked has on))
    better_came outcome asked (inl (inr said)) = inl (inr said)
    better_came outcome asked (inr none) = inr none

    pub good_improvement : (outcome : Result Answer CommandFault) (asked : List (List ℕ)) → ParseAsPlan content run.inputs p → Improves (Shelf content) rounds run [] outcome asked
        → ByShape (ordered p) run (λ files. IsBetterAnswer (AsksOne rounds) rounds run.at (ordered p) text outcome × (asked ≡ files)) (λ files. IsOrMemory (IsNotShapedLine (ordered p)) outcome × (asked ≡ files)) ⊎ (outcome ≡ Err Memory)
    good_improvement outcome asked parses (inl runs) = better_came outcome asked (with_both content run.inputs p parses (λ q. BettersPlan (Shelf content) (AsksOne rounds) rounds run (ordered q)) outcome asked runs)
    good_improvement outcome asked parses (inr none) = inr none.0

  module _ {B : Type 0} (Line : (Answer → Type 0) → B → Type 0) (Comes : PlannedShop → NameBook → Option (List ℕ) → B → Type 0) (good : GivesRun content run p text) where
    -- no names are asked for
    read : (outcome : Result B CommandFault) (asked : List (List ℕ)) → WithNamesAndRun (Shelf content) run.names run.log p (λ book log. IsOrMemory (Comes p book log)) (run.inputs.path ∷ run.inputs.plan ∷ []) outcome asked
        → IsAnswerOfFiles (Comes p no_names text) (run.inputs.path ∷ run.inputs.plan ∷ log_paths run.log) outcome asked
    read outcome asked on =
        let start = run.inputs.path ∷ run.inputs.plan ∷ [] in
        let none = subst (λ (names : Option (List ℕ)). WithNamesAndRun (Shelf content) names run.log p (λ book log. IsOrMemory (Comes p book log)) start outcome asked) good.unnamed on in
        let end = log_read (λ t. IsOrMemory (Comes p no_names t)) run.log text outcome asked good.log (unnamed (λ book. WithRun (Shelf content) run.log (λ t. IsOrMemory (Comes p book t))) start asked outcome (Shelf content) p none) in
        answered (Comes p no_names text) _ outcome asked end.0 end.1

    there : (job : Option ℕ) (outcome : Result B CommandFault) (asked : List (List ℕ)) → job ≡ None
        → IfThereBy Line job p (WithNamesAndRun (Shelf content) run.names run.log p (λ book log. IsOrMemory (Comes p book log))) (run.inputs.path ∷ run.inputs.plan ∷ []) outcome asked
        → IsAnswerOfFiles (Comes p no_names text) (run.inputs.path ∷ run.inputs.plan ∷ log_paths run.log) outcome asked
    there None outcome asked none on = read outcome asked on
    there (Some j) outcome asked none on = absurd (cc none)

    -- where the plan is well shaped this comes, or else its line
    abbrev Came : Result B CommandFault → List (List ℕ) → Type 0
    Came outcome asked = ByShape p run (λ files. IsAnswerOfFiles (Comes p no_names text) files outcome asked) (λ files. IsAnswerOfFiles (Line (IsNotShapedLine p)) files outcome asked)

    run_came : (job : Option ℕ) (outcome : Result B CommandFault) (asked : List (List ℕ)) → job ≡ None
        → IfShapedBy Line p (IfThereBy Line job p (WithNamesAndRun (Shelf content) run.names run.log p (λ book log. IsOrMemory (Comes p book log)))) (run.inputs.path ∷ run.inputs.plan ∷ []) outcome asked ⊎ (outcome ≡ Err Memory)
        → Came outcome asked
    run_came job outcome asked none (inl (inl (shaped, on))) = inl (shaped, there job outcome asked none on)
    run_came job outcome asked none (inl (inr said)) = inr (answered (Line (IsNotShapedLine p)) _ outcome asked said.0 said.1)
    run_came job outcome asked none (inr gone) = inr (no_memory (Line (IsNotShapedLine p)) _ outcome asked gone)

    -- with no job asked for
    pub good_run : (job : Option ℕ) (outcome : Result B CommandFault) (asked : List (List ℕ)) → job ≡ None → AsksOfRun (Shelf content) Line job Comes run [] outcome asked → Came outcome asked
    good_run job outcome asked none asks =
        run_came job outcome asked none
        (with_both content run.inputs p good.plan (λ q. IfShapedBy Line q (IfThereBy Line job q (WithNamesAndRun (Shelf content) run.names run.log q (λ book log. IsOrMemory (Comes q book log))))) outcome asked asks)

-- what comes of a run is drawn
pub run_drawn : (p : PlannedShop) (run : RunPaths) (Is : Drawn → Type 0) (drawn : Result Drawn CommandFault) (before after : Streams) (outcome : Result Answer CommandFault) (asked : List (List ℕ))
    → ByShape p run (λ files. IsAnswerOfFiles Is files drawn asked) (λ files. IsAnswerOfFiles (IsLineAlone (IsNotShapedLine p)) files drawn asked) → Draws drawn before after outcome → IsRunDrawn Is p run before outcome asked after
run_drawn p run Is drawn before after outcome asked (inl (shaped, is)) draws = inl (shaped, came_drawn Is _ drawn before after outcome asked is draws)
run_drawn p run Is drawn before after outcome asked (inr is) draws = inr (came_drawn (IsLineAlone (IsNotShapedLine p)) _ drawn before after outcome asked is draws)
