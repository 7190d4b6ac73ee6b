use Rattle.std.proofs.Common.{◌≡◌, ℕ, List, refl}
use Rattle.plan_explain.proofs.Texts.{both_added, on_ok_adds}
use Rattle.plan_schedule.specs.{Calendars.{at_of, due_at}, Lines.visit_line, Schedules.IsCleaningText}
use Rattle.plan_schedule.proofs.scheduling.push_visit.Goals as goal

pub returns : goal.returns
returns g c =
    let k = c.args.calendar.now in
    let line : List ℕ = visit_line c.args.names.now c.args.begins.now c.args.visit in
    let Behind : List ℕ → Type 0 = IsCleaningText c.args.names.now k.plan (at_of k) (due_at k) c.args.visit.label.job c.args.place in
    both_added (λ (l : List ℕ). l ≡ line) Behind c.push_cleaning_line.result _ _ _ (line, refl, c.in_ok-push_visit_line.ensures)
    (on_ok_adds Behind c.push_cleaning_line.result _ _ _ (c.cleaning-behind.result, c.cleaning-behind.ensures, refl) c.push_cleaning_line.ensures)
