use Rattle.std.proofs.Common.{◌≡◌, sym, ◌∙◌, subst}
use Rattle.shop_base.specs.{Run.ends_in, Cell.{Cell, start}, Ahead.GoesOnTo}
use Rattle.shop_base.proofs.{Keeping.run-sound, ControlledRuns.{events_join, after_all_join}, GoingOn.goes_on_to_run}
use Rattle.cell_tables.proofs.{KeptRuns.a_kept_run_is_one_of_the_other_plan, OneCarried.carried_alone}
use Rattle.cell_control.proofs.Promises.{calls_go_on}
use Rattle.cell_control.proofs.laws.a_handed_over_run_is_one_run.Goals as goal

pub returns : goal.returns
returns c p q es later t rs old new end shaped_p shaped run planned cell handed calls =
    let kept = rw (planned, cell) at handed.kept in
    let carried = rw (planned, cell) at handed.is_carried in
    let (before, there) = a_kept_run_is_one_of_the_other_plan p q es shaped_p shaped run kept in
    let same : handed.carried ≡ ends_in q es = carried_alone p (ends_in p es) q handed.carried (ends_in q es) carried there in
    let on = subst (λ (c : Cell). GoesOnTo q c t rs _ end.cell) same (calls_go_on q handed.carried t new rs later end handed.begun calls).goes_on in
    let (events, ends, sound, rest) = goes_on_to_run q (ends_in q es) t rs _ end.cell shaped (run-sound q es shaped before) on in
    record {
      before_is_run = before;
      goes_on = on;
      run = events_join q (start q) es _ before events;
      ends = ends ∙ sym (after_all_join q (start q) es _);
    }
