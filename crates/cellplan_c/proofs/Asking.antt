-- What is answered of the rest, put into the caller's room.
use Rattle.std.proofs.Common.{ℕ, ◌≤◌, inl, inr, List, refl, arith}
use Rattle.shop_base.specs.declared.limits.TheConstants.{MAX_MOMENT}
use Rattle.command_answers.specs.declared.answer.Answer.{Answer}
use Rattle.command_answers.specs.declared.rests.PlanAnswer.{PlanAnswer}
use Rattle.people_names.specs.NameBooks.{no_names}
use Rattle.command_answers.specs.Rests.{AnswersRest}
use Rattle.cell_tables.specs.declared.present_fault.PresentFault.TheVariants.{Past, TooLarge}
use Rattle.cell_control.specs.declared.hand_over_fault.HandOverFault.{HandOverFault}
use Rattle.cell_control.specs.declared.hand_over_fault.HandOverFault.TheVariants.{Present, IncompatiblePlan, Cycle, Memory}
use Rattle.cell_control.specs.{Control.Control, HandedOver.IsRestAtFault}
use Rattle.cellplan_c.specs.{Calls.IsPut, HandOvers.hand_over_status}
use Rattle.cellplan_c.specs.RestsAsked.{IsRestAsked}
use Rattle.cellplan_c.proofs.Judging.{known_bound}

pub rest_put : (wanted : PlanAnswer) (t result : ℕ) (before after : List ℕ) (needed : ℕ) (held : Control) (answer : Answer) → t ≤ MAX_MOMENT → held.cell.last ≤ t
    → AnswersRest no_names wanted held.planned held.cell t answer → IsPut answer.text.items answer.status result before after needed → IsRestAsked wanted t result before after needed held
rest_put wanted t result before after needed held answer in_range later is put =
    let low : answer.status ≤ 1 = known_bound wanted held.planned held.cell t answer is in
    let small : result ≤ 6 = elim put [ inl laid ↦ omega (arith, laid.0, low) | inr beyond ↦ omega (arith, beyond.0) ] in
    record {
      too_large = ((λ large. absurd (omega (arith, large, small))), λ over. absurd (omega (arith, over, in_range)));
      backwards = ((λ back. absurd (omega (arith, back, small))), λ past. absurd (omega (arith, past.1, later)));
      answered = λ moment. inr (answer, is, put);
    }

-- there is no rest from that moment on, or memory ran out
pub no_rest : (wanted : PlanAnswer) (t : ℕ) (room : List ℕ) (held : Control) (fault : HandOverFault) → held.cell.last ≤ MAX_MOMENT → IsRestAtFault held.cell t fault
    → IsRestAsked wanted t (hand_over_status fault) room room 0 held
no_rest wanted t room held (Present TooLarge) low is = record {
  too_large = ((λ _. is.1), λ _. refl);
  backwards = ((λ back. absurd (omega (arith, back))), λ past. absurd (omega (arith, past.0, is.1)));
  answered = λ moment. absurd (omega (arith, moment.in_range, is.1));
}
no_rest wanted t room held (Present (Past last)) low is = record {
  too_large = ((λ large. absurd (omega (arith, large))), λ over. absurd (omega (arith, over, is.0, low)));
  backwards = ((λ _. (omega (arith, is.0, low), is.0)), λ _. refl);
  answered = λ moment. absurd (omega (arith, moment.in_order, is.0));
}
no_rest wanted t room held IncompatiblePlan low is = absurd is
no_rest wanted t room held (Cycle nodes) low is = absurd is
no_rest wanted t room held Memory low is = record {
  too_large = ((λ large. absurd (omega (arith, large))), λ over. absurd (omega (arith, over, is.in_range)));
  backwards = ((λ back. absurd (omega (arith, back))), λ past. absurd (omega (arith, past.1, is.in_order)));
  answered = λ moment. inl (refl, refl, refl);
}
