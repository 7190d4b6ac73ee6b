-- A search by planners that may propose more.
use Rattle.std.proofs.Common.{◌≡◌, ◌↔◌, ℕ, zero, suc, ◌<◌, List, [], ◌∷◌, Some, Result, Ok, Err, inl, inr, slice_get, IfSome, subst, sym, arith}
use Rattle.std.proofs.lemmas.Option.{slice_get_within}
use Rattle.shop_base.specs.Shop.{JobShop}
use Rattle.shop_base.specs.Plan.{ShopPlan}
use Rattle.plan_seek.specs.declared.seek_fault.SeekFault.{SeekFault}
use Rattle.plan_seek.specs.declared.seek_fault.SeekFault.TheVariants.{BadNumbers, Exhausted, TooManyRounds, Memory as OutOfMemory}
use Rattle.plan_seek.specs.Orders.{Proposal, shifted_order}
use Rattle.plan_seek.specs.Tasks.{PlanTask, task_in}
use Rattle.plan_seek.specs.Turns.{Turn, Proposals, MayPropose, MayFail, EachMayFail, PlanSearch, search_by}
use Rattle.plan_seek.specs.Search.{IsSought, IsSeekFault}
use Rattle.command_answers.specs.declared.answer.Answer.{Answer}
use Rattle.command_answers.specs.declared.command_fault.CommandFault.{CommandFault}
use Rattle.command_answers.specs.declared.command_fault.CommandFault.TheVariants.{Instance, Plan, Names, Read, Write, InputTooLong, Log, LogInUse, Memory}
use Rattle.command_answers.specs.Search.{IsFoundPlan, IsSearchLine, IsSearchAnswer}
use Rattle.command_answers.specs.Steps.{Then, AndThen, Concludes}
use Rattle.command_answers.specs.Commands.{InputPaths, ReadsBoth, RunsPlan}
use Rattle.command_run.specs.Planners.{MayPlanAt, search_by_two}

module _ (t : PlanTask) (proposers : ℕ) (may wide : Proposals) (within : (turn : Turn) (proposal : Proposal) → may turn proposal → wide turn proposal) (rounds : ℕ) where
  -- the search for which the proposers may propose no more than that
  abbrev search : Proposals → PlanSearch
  search proposals = record { task = t; proposers = proposers; may = proposals }

  fail_more : (turn : Turn) → MayFail t (may turn) → MayFail t (wide turn)
  fail_more turn f = record { proposal = f.proposal; given = within turn f.proposal f.given; in_vain = f.in_vain }

  each_more : EachMayFail (search may) rounds → EachMayFail (search wide) rounds
  each_more each = λ turn inside. fail_more turn (each turn inside)

  sought_more : (order : List (List ℕ)) → IsSought (search may) rounds order → IsSought (search wide) rounds order
  sought_more order (inl first) = inl (record {
    turn = first.turn;
    inside = first.inside;
    given = within first.turn _ first.given;
    before = λ earlier is sooner. fail_more earlier (first.before earlier is sooner);
  })
  sought_more order (inr serial) = inr (each_more serial.0, serial.1)

  found_more : (plan : ShopPlan) → IsFoundPlan (search may) rounds plan → IsFoundPlan (search wide) rounds plan
  found_more plan found = record { same = found.same; accepted = found.accepted; sought = sought_more plan.order found.sought }

  fault_more : (fault : SeekFault) → IsSeekFault (search may) rounds fault → IsSeekFault (search wide) rounds fault
  fault_more (BadNumbers fault) is = is
  fault_more TooManyRounds is = is
  fault_more Exhausted is = (is.0, each_more is.1, is.2)
  fault_more OutOfMemory is = is

  line_more : (answer : Answer) → IsSearchLine (search may) rounds answer → IsSearchLine (search wide) rounds answer
  line_more answer (inl text) = inl (record { plan = text.plan; found = found_more text.plan text.found; text = text.text })
  line_more answer (inr none) = inr (record { fault = none.fault; is = fault_more none.fault none.is; line = none.line })

  answer_more : (outcome : Result Answer CommandFault) → IsSearchAnswer (search may) rounds outcome → IsSearchAnswer (search wide) rounds outcome
  answer_more (Ok answer) is = line_more answer is
  answer_more (Err Memory) is = is
  answer_more (Err (Plan fault)) is = (is.0, record { plan = is.1.plan; found = found_more is.1.plan is.1.found; unreadable = is.1.unreadable })
  answer_more (Err (Instance fault)) is = is
  answer_more (Err (Names names)) is = is
  answer_more (Err Read) is = is
  answer_more (Err Write) is = is
  answer_more (Err InputTooLong) is = is
  answer_more (Err Log) is = is
  answer_more (Err LogInUse) is = is

-- a step behind another one, where what follows says less
step_more : {W A B : Type 0} (next more : A → W → Result B CommandFault → W → Type 0) (came : Result A CommandFault) (mid : W) (outcome : Result B CommandFault) (after : W)
    → ((a : A) → next a mid outcome after → more a mid outcome after) → AndThen next came mid outcome after → AndThen more came mid outcome after
step_more next more (Ok a) mid outcome after less on = less a on
step_more next more (Err fault) mid outcome after less on = on

pub then_more : {W A B : Type 0} (first : W → Result A CommandFault → W → Type 0) (next more : A → W → Result B CommandFault → W → Type 0) (before : W) (outcome : Result B CommandFault) (after : W)
    → ((a : A) (mid : W) → next a mid outcome after → more a mid outcome after) → Then first next before outcome after → Then first more before outcome after
then_more first next more before outcome after less run =
    record { came = run.came; mid = run.mid; is = run.is; goes_on = step_more next more run.came run.mid outcome after (λ a. less a run.mid) run.goes_on }

-- the search for which that many proposers may propose no more than this for the shop
abbrev search_with : (JobShop → Proposals) → ℕ → PlanTask → PlanSearch
search_with may proposers t = record { task = t; proposers = proposers; may = may t.shop }

-- what planners do is done by ones that may propose more
pub runs_more : {W : Type 0} (gives : W → List ℕ → Result (List ℕ) CommandFault → W → Type 0) (may wide : JobShop → Proposals)
    → ((shop : JobShop) (turn : Turn) (proposal : Proposal) → may shop turn proposal → wide shop turn proposal)
    → (proposers rounds : ℕ) (inputs : InputPaths) (before : W) (outcome : Result Answer CommandFault) (after : W)
    → RunsPlan gives (search_with may proposers) rounds inputs before outcome after → RunsPlan gives (search_with wide proposers) rounds inputs before outcome after
runs_more gives may wide within proposers rounds inputs before outcome after =
    then_more (ReadsBoth gives inputs) (λ p. Concludes (IsSearchAnswer (search_with may proposers (task_in p)) rounds)) (λ p. Concludes (IsSearchAnswer (search_with wide proposers (task_in p)) rounds)) before outcome after
    (λ p last is. (answer_more (task_in p) proposers (may p.shop) (wide p.shop) (within p.shop) rounds outcome is.0, is.1))

module _ {B : Type 0} (may : B → JobShop → ℕ → Proposal → Type 0) (one two : B)
    (shifts : (shop : JobShop) (round : ℕ) (proposal : Proposal) → may two shop round proposal → proposal ≡ Some (shifted_order shop round)) where
  at_place : (shop : JobShop) (round : ℕ) (proposal : Proposal) (place : ℕ) (who : B) → slice_get (one ∷ two ∷ []) place ≡ Some who → may who shop round proposal
      → MayPlanAt place shop round proposal
  at_place shop round proposal zero who stands given = tt
  at_place shop round proposal (suc zero) who stands given = shifts shop round proposal (subst (λ found. IfSome found (λ b. may b shop round proposal)) (sym stands) given)
  at_place shop round proposal (suc (suc place)) who stands given = absurd (let inside : suc (suc place) < 2 = slice_get_within (one ∷ two ∷ []) (suc (suc place)) who stands in omega arith)

  -- what the two planners may propose is what is said of them
  both_may : (shop : JobShop) (turn : Turn) (proposal : Proposal) → MayPropose (λ b. may b shop) (one ∷ two ∷ []) turn proposal → MayPlanAt turn.proposer shop turn.round proposal
  both_may shop turn proposal m = at_place shop turn.round proposal turn.proposer m.who m.stands m.given

-- these two planners: the first one may propose anything, as the greedy one does, and the second one the shifted rows alone
abbrev pub AreTheTwo : {B : Type 0} → (B → JobShop → ℕ → Proposal → Type 0) → List B → Type 0
AreTheTwo may (one ∷ two ∷ []) =
    ((shop : JobShop) (round : ℕ) (proposal : Proposal) → may one shop round proposal)
    × ((shop : JobShop) (round : ℕ) (proposal : Proposal) → may two shop round proposal ↔ (proposal ≡ Some (shifted_order shop round)))
AreTheTwo may other = ⊥

-- a search by the two planners
pub seeks : {W B : Type 0} (gives : W → List ℕ → Result (List ℕ) CommandFault → W → Type 0) (may : B → JobShop → ℕ → Proposal → Type 0) (planners : List B)
    (rounds : ℕ) (inputs : InputPaths) (before : W) (outcome : Result Answer CommandFault) (after : W)
    → AreTheTwo may planners → RunsPlan gives (search_by may planners) rounds inputs before outcome after
    → RunsPlan gives search_by_two rounds inputs before outcome after
seeks gives may [] rounds inputs before outcome after are run = absurd are
seeks gives may (one ∷ []) rounds inputs before outcome after are run = absurd are
seeks gives may (one ∷ two ∷ []) rounds inputs before outcome after are run =
    runs_more gives (λ shop. MayPropose (λ b. may b shop) (one ∷ two ∷ [])) (λ shop turn. MayPlanAt turn.proposer shop turn.round)
    (both_may may one two (λ shop round proposal. (are.1 shop round proposal).0)) 2 rounds inputs before outcome after run
seeks gives may (one ∷ two ∷ three ∷ planners) rounds inputs before outcome after are run = absurd are
