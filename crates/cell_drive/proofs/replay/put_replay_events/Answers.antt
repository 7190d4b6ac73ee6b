use Rattle.std.proofs.{Common.{◌≡◌, ap, ◌∙◌, arith}, lemmas.Result.err_from_is_err_and}
use Rattle.byte_streams.proofs.Written.{AllBut-more, AllBut-all, TookPart-rest}
use Rattle.cell_drive.proofs.{FollowedEvents.{more_events, next_event}, ReplayLines.{more_replayed, next_replayed, no_more_replayed}}
use Rattle.cell_drive.proofs.replay.put_replay_events.Goals as goal

pub put_replay-requires : goal.put_replay-requires
put_replay-requires g c = (next_event _ _ c.args.entries.now c.loop-place.place _ (omega (arith, c.loop-place-test.true)) c.loop-place.invariant.run).0

pub follow_entry-requires : goal.follow_entry-requires
follow_entry-requires g c = (next_event _ _ c.args.entries.now c.loop-place.place _ (omega (arith, c.loop-place-test.true)) c.loop-place.invariant.run).0

pub returns-in_err-put_replay-clause-wrote : goal.returns-in_err-put_replay-clause-wrote
returns-in_err-put_replay-clause-wrote g c =
    let v = c.loop-place.cell in
    let entries = c.args.entries.now in
    let late = c.args.late.now in
    let i = c.loop-place.place in
    let p = err_from_is_err_and c.from_residual.result c.from_residual.ensures.1 in
    rw p.1 (
      c.in_err-put_replay.ensures.wrote.0,
      TookPart-rest _ _ _ _ _ _ _ c.loop-place.invariant.so_far c.in_err-put_replay.ensures.wrote.1 (next_replayed v.plan c.args.protocol v.cell entries late i _ _ (omega (arith, c.loop-place-test.true)) c.requires.same),
    )

pub loop-place-preserved : goal.loop-place-preserved
loop-place-preserved g c =
    let v = c.loop-place.cell in
    let new = c.follow_entry.new.cell in
    let i = c.loop-place.place in
    let plan_is : new.plan ≡ v.plan = ap (λ x. x.plan) c.follow_entry.ensures in
    record {
      so_far = AllBut-more _ _ _ _ _ _ _ c.loop-place.invariant.so_far c.in_ok-put_replay.ensures.wrote
          (more_replayed v.plan new.plan c.args.protocol v.cell new.cell c.args.entries.now c.args.late.now i _ _ (omega (arith, c.loop-place-test.true)) c.requires.same plan_is (ap (λ x. x.cell) c.follow_entry.ensures));
      run = more_events v.plan new.plan v.cell new.cell c.args.entries.now i _ (omega (arith, c.loop-place-test.true)) plan_is (ap (λ x. x.cell) c.follow_entry.ensures) c.loop-place.invariant.run;
      unfailed = c.in_ok-put_replay.ensures.unfailed ∙ c.loop-place.invariant.unfailed;
    }

pub returns-clause-wrote : goal.returns-clause-wrote
returns-clause-wrote g c =
    let v = c.loop-place.cell in
    AllBut-all _ _ _ _ c.loop-place.invariant.so_far (no_more_replayed v.plan c.args.protocol v.cell c.args.entries.now c.args.late.now c.loop-place.place (omega (arith, c.loop-place-test.false)))
