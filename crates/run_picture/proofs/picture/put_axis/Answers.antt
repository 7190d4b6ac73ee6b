use Rattle.std.proofs.Common.{◌≡◌, ℕ, ◌+◌, List, ap, drop, ◌∙◌, refl, arith}
use Rattle.std.specs.List.{flat_map}
use Rattle.std.proofs.lemmas.Result.{err_from_is_err_and}
use Rattle.byte_streams.proofs.Written.{AllBut-none, AllBut-more, AllBut-all, TookPart-rest}
use Rattle.run_picture.specs.PictureText.{moment_text}
use Rattle.run_picture.proofs.Parts.{took_as, appends_as, next_item, no_item}
use Rattle.run_picture.proofs.picture.put_axis.Goals as goal

-- what is written for a tick
at_tick : (text : ℕ → List ℕ) (bytes line : List ℕ) (moment tick : ℕ) → bytes ≡ line → line ≡ text moment → moment ≡ tick → bytes ≡ text tick
at_tick text bytes line moment tick lent is at = lent ∙ is ∙ ap text at

pub returns-in_err-put_all-clause-wrote : goal.returns-in_err-put_all-clause-wrote
returns-in_err-put_all-clause-wrote g c =
    let i = c.loop-number.number in
    let text = moment_text c.args.names.now c.args.machines c.args.last in
    let p = err_from_is_err_and c.from_residual.result c.from_residual.ensures.1 in
    rw p.1 (
      c.in_err-put_all.ensures.wrote.0,
      TookPart-rest _ _ _ _ _ _ (flat_map text (drop (i + 1) c.args.ticks.now)) c.loop-number.invariant.so_far
          (took_as _ _ _ _ (at_tick text _ _ _ _ c.bytes.ensures c.moment_line.ensures c.at.ensures) c.in_err-put_all.ensures.wrote.1) (next_item text c.args.ticks.now i 0 (omega arith)),
    )

pub loop-number-init : goal.loop-number-init
loop-number-init g c = record { so_far = AllBut-none _ _; unfailed = refl }

pub loop-number-preserved : goal.loop-number-preserved
loop-number-preserved g c =
    let text = moment_text c.args.names.now c.args.machines c.args.last in
    record {
      so_far = AllBut-more _ _ _ _ _ _ _ c.loop-number.invariant.so_far
          (appends_as _ _ _ _ (at_tick text _ _ _ _ c.bytes.ensures c.moment_line.ensures c.at.ensures) c.in_ok-put_all.ensures.wrote) (next_item text c.args.ticks.now c.loop-number.number 0 (omega arith));
      unfailed = c.in_ok-put_all.ensures.unfailed ∙ c.loop-number.invariant.unfailed;
    }

pub returns-clause-wrote : goal.returns-clause-wrote
returns-clause-wrote g c =
    AllBut-all _ _ _ _ c.loop-number.invariant.so_far (no_item (moment_text c.args.names.now c.args.machines c.args.last) c.args.ticks.now c.loop-number.number (omega arith))
