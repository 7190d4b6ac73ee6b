-- The pictures of logs, of plans and of the rests of runs.
use Rattle.std.proofs.Common.{◌≡◌, ℕ, List, Option, Bool, refl, subst, ap, ◌∙◌}
use Rattle.shop_base.specs.Plan.{PlannedShop, jobs}
use Rattle.shop_base.specs.Cell.{Cell}
use Rattle.cell_tables.specs.declared.entry.Entry.{Entry}
use Rattle.run_log.specs.declared.audit_result.Audit.{Audit}
use Rattle.people_names.specs.NameBooks.{NameBook}
use Rattle.run_picture.specs.declared.head.Sheet.{Sheet}
use Rattle.run_picture.specs.declared.visit.DrawnVisit.{DrawnVisit}
use Rattle.run_picture.specs.declared.late_leaving.LateLeaving.{LateLeaving}
use Rattle.run_picture.specs.Late.{late_leavings}
use Rattle.run_picture.specs.PictureText.{IsPicture}
use Rattle.run_gantt.specs.DrawnVisits.{drawn_visits}
use Rattle.run_gantt.specs.LeavingsSoFar.{leavings_so_far}
use Rattle.plan_schedule.specs.declared.picture_visits.DrawnRun.{DrawnRun}
use Rattle.plan_schedule.specs.DrawnVisits.{IsDrawnRun}
use Rattle.command_answers.specs.Pictures.{log_sheet, run_sheet, IsRunPicture}

-- a picture of the same
same_picture : (names : NameBook) (sheet other : Sheet) (visits others : List DrawnVisit) (late lates : List (Option LateLeaving)) (picture : List ℕ) → sheet ≡ other → visits ≡ others → late ≡ lates
    → IsPicture names sheet visits late picture → IsPicture names other others lates picture
same_picture names sheet other visits others late lates picture is are marks drawn =
    subst (λ (s : Sheet). IsPicture names s others lates picture) is
    (subst (λ (v : List DrawnVisit). IsPicture names sheet v lates picture) are (subst (λ (l : List (Option LateLeaving)). IsPicture names sheet visits l picture) marks drawn))

-- that of a log's entries
pub audit_drawn : (names : NameBook) (p : PlannedShop) (run : Audit) (sheet : Sheet) (entries : List Entry) (visits : List DrawnVisit) (leavings lent : List (Option ℕ)) (late : List (Option LateLeaving)) (picture : List ℕ)
    → sheet ≡ log_sheet p run → entries ≡ run.entries.items → visits ≡ drawn_visits p entries → leavings ≡ leavings_so_far (jobs p) entries → lent ≡ leavings → late ≡ late_leavings p lent
    → IsPicture names sheet visits late picture
    → IsPicture names (log_sheet p run) (drawn_visits p run.entries.items) (late_leavings p (leavings_so_far (jobs p) run.entries.items)) picture
audit_drawn names p run sheet entries visits leavings lent late picture is same are left lends marks drawn =
    same_picture names sheet (log_sheet p run) visits (drawn_visits p run.entries.items) late (late_leavings p (leavings_so_far (jobs p) run.entries.items)) picture is
    (are ∙ ap (drawn_visits p) same) (marks ∙ ap (late_leavings p) (lends ∙ left ∙ ap (leavings_so_far (jobs p)) same)) drawn

module _ (names : NameBook) (p : PlannedShop) (c : Cell) (t : ℕ) (line : Option ℕ) (visits : List DrawnVisit) where
  -- that of a run, by what is drawn of it
  pub run_drawn : (q : PlannedShop) (run : DrawnRun) (sheet : Sheet) (lent : List (Option ℕ)) (late : List (Option LateLeaving)) (in_time : Bool) (picture : List ℕ) → q ≡ p → IsDrawnRun p c t visits run
      → sheet ≡ run_sheet q t line in_time run → lent ≡ run.leavings.items → late ≡ late_leavings q lent → IsPicture names sheet run.visits.items late picture → IsRunPicture names p c t line visits in_time picture
  run_drawn q run sheet lent late in_time picture plan is sheet_is lends marks drawn = record {
    run = run;
    is = is;
    drawn = same_picture names sheet (run_sheet p t line in_time run) run.visits.items run.visits.items late (late_leavings p run.leavings.items) picture
        (sheet_is ∙ ap (λ (x : PlannedShop). run_sheet x t line in_time run) plan) refl
        (marks ∙ ap (late_leavings q) lends ∙ ap (λ (x : PlannedShop). late_leavings x run.leavings.items) plan) drawn;
  }
