-- The answers of the command `revise`.
use Rattle.std.proofs.Common.{◌≡◌, ℕ, List, [], None, Result, Ok, Err, take, refl, arith, inl, inr}
use Rattle.std.proofs.lemmas.List.{length-take}
use Rattle.shop_base.specs.Shop.{JobShop}
use Rattle.shop_base.specs.Plan.{PlannedShop}
use Rattle.shop_base.specs.Cell.{Cell}
use Rattle.shop_base.specs.Run.{Event}
use Rattle.people_names.specs.NameBooks.{NameBook}
use Rattle.orlib_read.specs.declared.document.NotWritten.{NotWritten}
use Rattle.orlib_read.specs.declared.document.NotWritten.TheVariants.{NotReadBack as NotRead, Memory as OutOfMemory}
use Rattle.plan_revise.specs.declared.change.Change.{Change}
use Rattle.plan_revise.specs.declared.change.ChangeFault.{ChangeFault}
use Rattle.run_revising.specs.declared.next.NextRun.{NextRun}
use Rattle.command_answers.specs.declared.answer.Answer.{Answer}
use Rattle.command_answers.specs.declared.command_fault.CommandFault.{CommandFault}
use Rattle.command_answers.specs.declared.command_fault.CommandFault.TheVariants.{Instance, Plan, Names, Read, Write, InputTooLong, Log, LogInUse, Memory}
use Rattle.command_answers.specs.declared.command_fault.ChangeRefusal.TheVariants.{OfShop, OfName}
use Rattle.command_answers.specs.declared.command_fault.Unrevised.{Unrevised}
use Rattle.command_answers.specs.declared.command_fault.Unrevised.TheVariants.{Refused as RefusedAt, Ends}
use Rattle.command_answers.specs.Asked.{AskedRevision}
use Rattle.command_answers.specs.MadeJobs.{first_unnamed}
use Rattle.command_answers.specs.InstanceTexts.{IsInstanceAnswer, IsUnread, unwritten_fault}
use Rattle.command_answers.specs.Revising.{IsChangeRefused, IsFirstNotTaken, IsPlaced, IsReasonUnnamed, IsRefusedBehind, IsRunAfter, IsUnnamedAnswer, IsUnrevised}
use Rattle.command_answers.specs.Steps.{IsOrMemory}

-- ---- a change that can't be

-- one of the first changes is one of all
pub placed_before : (changes : List Change) (n : ℕ) (why : Unrevised) → IsPlaced (take n changes) why → IsPlaced changes why
placed_before changes n (RefusedAt place why) inside = let few = length-take n changes in omega (arith, inside, few)
placed_before changes n (Ends fault) tt = tt

module _ (asked : AskedRevision) (book : NameBook) (left : NextRun) where
  -- of these changes one makes a job that doesn't get its name
  pub unnamed_answered : (made : List Change) (why : Unrevised) (outcome : Result Answer CommandFault) → IsReasonUnnamed (first_unnamed asked.called book left made) why → IsUnrevised asked why outcome
      → IsOrMemory (IsUnnamedAnswer asked book left made) outcome
  unnamed_answered made (RefusedAt place (OfName fault)) (Ok answer) first line = record { place = place; fault = fault; first = first; line = line }
  unnamed_answered made (RefusedAt place (OfName fault)) (Err no_memory) first line = line
  unnamed_answered made (RefusedAt place (OfShop fault)) outcome first line = absurd first
  unnamed_answered made (Ends fault) outcome first same = rw (same, first) refl

  -- so of the changes before one that isn't taken
  pub unnamed_before : (place : ℕ) (fault : ChangeFault) (why : Unrevised) (outcome : Result Answer CommandFault) → IsReasonUnnamed (first_unnamed asked.called book left (take place asked.changes)) why
      → IsUnrevised asked why outcome → IsOrMemory (IsRefusedBehind asked book left place fault) outcome
  unnamed_before place fault why outcome first line = go outcome (unnamed_answered (take place asked.changes) why outcome first line)
    where
      go : (o : Result Answer CommandFault) → IsOrMemory (IsUnnamedAnswer asked book left (take place asked.changes)) o → IsOrMemory (IsRefusedBehind asked book left place fault) o
      go (Ok answer) is = inr is
      go (Err no_memory) is = is

  -- else its own line
  pub refused_itself : (place : ℕ) (fault : ChangeFault) (outcome : Result Answer CommandFault) → first_unnamed asked.called book left (take place asked.changes) ≡ None
      → IsUnrevised asked (RefusedAt place (OfShop fault)) outcome → IsOrMemory (IsRefusedBehind asked book left place fault) outcome
  refused_itself place fault (Ok answer) named line = inl (record { named = named; line = line })
  refused_itself place fault (Err no_memory) named line = line

module _ (asked : AskedRevision) (description : List ℕ) (book : NameBook) (p : PlannedShop) (c : Cell) (t : ℕ) (es : List Event) where
  pub behind_those_left : (left : NextRun) (place : ℕ) (fault : ChangeFault) (outcome : Result Answer CommandFault) → IsRunAfter asked p c t es [] left
      → IsOrMemory (IsRefusedBehind asked book left place fault) outcome
      → IsOrMemory (λ answer. (l : NextRun) × IsRunAfter asked p c t es [] l × IsRefusedBehind asked book l place fault answer) outcome
  behind_those_left left place fault (Ok answer) stay is = (left, stay, is)
  behind_those_left left place fault (Err no_memory) stay is = is

  -- what is answered where a change isn't taken
  pub refused_answered : (place : ℕ) (fault : ChangeFault) (outcome : Result Answer CommandFault) → IsFirstNotTaken asked p c t es place fault
      → IsOrMemory (λ answer. (l : NextRun) × IsRunAfter asked p c t es [] l × IsRefusedBehind asked book l place fault answer) outcome
      → IsOrMemory (IsChangeRefused asked description book p c t es) outcome
  refused_answered place fault (Ok answer) first is = record { place = place; fault = fault; first = first; left = is.0; stay = is.1; behind = is.2 }
  refused_answered place fault (Err no_memory) first is = is

-- ---- the text of an instance

module _ (shop : JobShop) where
  -- without its description
  pub undescribed : (description : List ℕ) (outcome : Result Answer CommandFault) → IsUnread description shop → IsInstanceAnswer [] shop outcome → IsInstanceAnswer description shop outcome
  undescribed description (Ok answer) unread (inl text) = inr (unread, text)
  undescribed description (Ok answer) unread (inr text) = inr (unread, text.1)
  undescribed description (Err Memory) unread is = tt
  undescribed description (Err (Plan fault)) unread is = (is.0, unread, is.2)
  undescribed description (Err (Instance fault)) unread is = is
  undescribed description (Err (Names names)) unread is = is
  undescribed description (Err Read) unread is = is
  undescribed description (Err Write) unread is = is
  undescribed description (Err InputTooLong) unread is = is
  undescribed description (Err Log) unread is = is
  undescribed description (Err LogInUse) unread is = is

  -- where none is written
  pub unwritten : (reason : NotWritten) (description : List ℕ) (fault : CommandFault) → fault ≡ unwritten_fault reason → (reason ≡ NotRead → IsUnread description shop × IsUnread [] shop)
      → IsInstanceAnswer description shop (Err fault)
  unwritten OutOfMemory description fault same unread = rw same tt
  unwritten NotRead description fault same unread = (let both = unread refl in rw same (refl, both.0, both.1))
