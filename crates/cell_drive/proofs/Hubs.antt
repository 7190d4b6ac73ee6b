-- What several cells answer to a line.
use Rattle.std.proofs.Common.{◌≡◌, ℕ, zero, suc, ◌<◌, List, [], ◌∷◌, ◌++◌, codes, set, length, Option, Some, None, refl, sym, ap, ◌∙◌, subst, arith}
use Rattle.std.specs.Prelude.{slice_get}
use Rattle.shop_base.specs.declared.report.Report.{Report}
use Rattle.plan_verifier.specs.Accepted.{VerifiedPlan}
use Rattle.cell_control.specs.Control.{Control}
use Rattle.event_lines.specs.{AnswerLines.refused_line, SentLines.cell_prefix, declared.requests.Request.Request}
use Rattle.cell_drive.specs.{declared.protocol.Protocol.Protocol, ManyCells.{HubCell, cell_start, hub_start}}
use Rattle.cell_drive.specs.ProtocolCells.{AsksCell, AsksOf, IsReplyIn, CellsReply, ProtocolCellsAnswer, HubAnswer, hub_of}
use Rattle.cell_drive.specs.Replies.{RepliesBy, HasAccepted, accepted_events}
use Rattle.cell_drive.specs.Numbers.{AnsweredByCells, AreInRun, planned_cell, planned_cells}
use Rattle.cell_drive.proofs.{LineAnswers.asked_line, OneText.replies_keep, Replied.plan_after}

-- ---- the cell of a number

pub none_there : (controls : List Control) (k : ℕ) → (k < length controls → ⊥) → slice_get (planned_cells controls) k ≡ None
none_there [] k past = refl
none_there (v ∷ controls) zero past = absurd (past (omega arith))
none_there (v ∷ controls) (suc k) past = none_there controls k (λ below. past (omega (arith, below)))

set_there : (controls : List Control) (k : ℕ) (v : Control) → planned_cells (set controls k v) ≡ set (planned_cells controls) k (planned_cell v)
set_there [] k v = refl
set_there (w ∷ controls) zero v = refl
set_there (w ∷ controls) (suc k) v = ap (λ (cells : List HubCell). planned_cell w ∷ cells) (set_there controls k v)

-- one more cell begins
pub one_more_begun : (plans : List VerifiedPlan) (w : VerifiedPlan) → hub_start plans ++ cell_start w ∷ [] ≡ hub_start (plans ++ w ∷ [])
one_more_begun [] w = refl
one_more_begun (u ∷ plans) w = ap (λ (cells : List HubCell). cell_start u ∷ cells) (one_more_begun plans w)

-- ---- what is asked of it

module _ (protocol : Protocol) (controls : List Control) (number k : ℕ) where
  -- there is none
  pub answers_none : (request : Request) → slice_get (planned_cells controls) k ≡ None
      → CellsReply protocol (planned_cells controls) number (record { cell = k; request = request }) (refused_line number (codes "NoSuchCell")) (planned_cells controls)
  answers_none request none =
      subst (λ (o : Option HubCell). IsReplyIn protocol o (planned_cells controls) number (record { cell = k; request = request }) (refused_line number (codes "NoSuchCell")) (planned_cells controls)) (sym none)
      (record { text_is = refl; end_is = refl })

  -- its controller replies
  pub reply_answers : (v new : Control) (request : Request) (accepted : Option Report) (text : List ℕ) → slice_get (planned_cells controls) k ≡ Some (planned_cell v) → HasAccepted v accepted new
      → RepliesBy protocol (cell_prefix k) v number request accepted new text → CellsReply protocol (planned_cells controls) number (record { cell = k; request = request }) text (planned_cells (set controls k new))
  reply_answers v new request accepted text found is answer =
      let end = planned_cells (set controls k new) in
      subst (λ (o : Option HubCell). IsReplyIn protocol o (planned_cells controls) number (record { cell = k; request = request }) text end) (sym found) (record {
        events = accepted_events new accepted;
        next = new.cell;
        answer = answer;
        end_is = set_there controls k new ∙ ap (λ (plan : VerifiedPlan). set (planned_cells controls) k (record { plan = plan; cell = new.cell })) (plan_after v accepted new is);
      })

-- ---- lines

-- what is asked of a cell by a line
pub asked_of : (protocol : Protocol) (controls ends : List Control) (number : ℕ) (line text : List ℕ) (cell : ℕ) (request : Request) → (line ≡ [] → ⊥) → AsksCell protocol.version_2 line cell request
    → CellsReply protocol (planned_cells controls) number (record { cell = cell; request = request }) text (planned_cells ends) → AnsweredByCells protocol controls number line ends text
asked_of protocol controls ends number line text cell request some asked replied = record {
  answer = asked_line (AsksOf protocol.version_2) (CellsReply protocol) (planned_cells controls) number line text (record { cell = cell; request = request }) (planned_cells ends) some asked replied;
  protocol = refl;
}

-- a line by which nothing changes
pub unchanged : (protocol : Protocol) (cells : List HubCell) (number : ℕ) (line : Option (List ℕ)) (text : List ℕ) → ProtocolCellsAnswer protocol cells number line text cells
    → HubAnswer (hub_of protocol cells) number line text (hub_of protocol cells)
unchanged protocol cells number line text answer = record { answer = answer; protocol = refl }

-- each is as it can be in a run
pub still_in_run : (protocol : Protocol) (controls ends : List Control) (number cell : ℕ) (request : Request) (text : List ℕ) → AreInRun (planned_cells controls)
    → CellsReply protocol (planned_cells controls) number (record { cell = cell; request = request }) text (planned_cells ends) → AreInRun (planned_cells ends)
still_in_run protocol controls ends number cell request text in_run replied = replies_keep protocol (planned_cells controls) number (record { cell = cell; request = request }) text (planned_cells ends) in_run replied
