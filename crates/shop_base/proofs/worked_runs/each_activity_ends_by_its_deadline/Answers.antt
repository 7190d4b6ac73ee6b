use Rattle.std.proofs.Common.{◌≡◌, inl, inr, [], ◌∷◌, Some, true, false, not, ◌&&◌, eqb, refl, arith}
use Rattle.std.proofs.lemmas.Bool.Decides.{not_from_Decides}
use Rattle.shop_base.specs.Cell.{start}
use Rattle.shop_base.specs.Graph.{node, Arc}
use Rattle.shop_base.specs.Deadlines.{IsPressed}
use Rattle.shop_base.specs.Examples.{with_room, series_ranks, cleaned_moments, room_moments, slow_reports, slow_log, slow_end, hasty_reports}
use Rattle.shop_base.proofs.AheadTests.{own_holds, deadlines_hold}
use Rattle.shop_base.proofs.GraphTests.{arc_decides, each_arc_at, moments_fit, ranks_rise, budgets_decide}
use Rattle.shop_base.proofs.RunTests.{turns_lead, all_punctual_decides, ended_decides}
use Rattle.shop_base.proofs.ShapeTests.{shaped_decides}
use Rattle.shop_base.proofs.worked_runs.each_activity_ends_by_its_deadline.Goals as goal

-- no arc leads on from the leaving of job 1, so only its budget presses it
not_pressed : IsPressed with_room cleaned_moments (node 1 2) → ⊥
not_pressed (inl (place, same)) = omega (arith, same)
not_pressed (inr (w, d, arc, same)) = differ (each_arc_at with_room (λ u v d. not (eqb u.job 1 && eqb u.place 2)) (node 1 2) w d refl arc)
  where
    differ : false ≡ true → ⊥
    differ bad = cc

pub returns-clause-shaped : goal.returns-clause-shaped
returns-clause-shaped c = (shaped_decides with_room).0 refl

pub returns-clause-schedule : goal.returns-clause-schedule
returns-clause-schedule c = record {
  shaped = (shaped_decides with_room).0 refl;
  ranks = ranks_rise with_room series_ranks refl;
  moments = moments_fit with_room cleaned_moments refl refl;
}

pub returns-clause-budgets : goal.returns-clause-budgets
returns-clause-budgets c = (budgets_decide with_room cleaned_moments).0 refl

pub returns-clause-deadlines : goal.returns-clause-deadlines
returns-clause-deadlines c = deadlines_hold with_room (start with_room) room_moments refl refl refl

pub returns-clause-not_the_earliest : goal.returns-clause-not_the_earliest
returns-clause-not_the_earliest c = λ are. not_pressed (are.pressed (node 1 2) (record { job = omega arith; place = omega arith }) (omega arith))

pub returns-clause-none_later : goal.returns-clause-none_later
returns-clause-none_later c = λ kept are.
    let arc : Arc with_room (node 0 1) (node 0 2) 2 = (arc_decides with_room (node 0 1) (node 0 2) 2).0 refl in
    omega (arith, are.arcs (node 0 1) (node 0 2) 2 (omega arith) arc, are.budgets 0 (omega arith) (λ gone. absurd (omega (arith, gone))))

pub returns-clause-controlled : goal.returns-clause-controlled
returns-clause-controlled c = turns_lead with_room (start with_room) slow_reports (Some (0 ∷ []) ∷ Some [] ∷ Some (0 ∷ []) ∷ Some (0 ∷ []) ∷ Some (1 ∷ []) ∷ Some (1 ∷ []) ∷ Some (1 ∷ []) ∷ Some [] ∷ []) refl

pub returns-clause-late : goal.returns-clause-late
returns-clause-late c = not_from_Decides _ (all_punctual_decides with_room (start with_room) slow_log) refl

pub returns-clause-own : goal.returns-clause-own
returns-clause-own c = own_holds with_room room_moments (start with_room) slow_log refl

pub returns-clause-ended : goal.returns-clause-ended
returns-clause-ended c = (ended_decides with_room slow_end).0 refl

pub returns-clause-hasty : goal.returns-clause-hasty
returns-clause-hasty c = turns_lead with_room (start with_room) hasty_reports (Some (0 ∷ []) ∷ Some [] ∷ Some (0 ∷ []) ∷ Some (0 ∷ []) ∷ []) refl

pub returns-clause-past : goal.returns-clause-past
returns-clause-past c = λ own. absurd (omega (arith, own.1.1.0 (node 0 1) refl))
