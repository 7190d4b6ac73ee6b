use Rattle.std.proofs.Common.{◌+◌, ◌-◌, ℕ, List, ◌∙◌, refl, arith}
use Rattle.std.specs.List.{flat_map, range_with_len}
use Rattle.std.proofs.lemmas.Result.{err_from_is_err_and}
use Rattle.byte_streams.proofs.Written.{AllBut-more, AllBut-all, TookPart-rest}
use Rattle.run_picture.specs.PictureText.{row_text}
use Rattle.run_picture.proofs.Parts.{took_as, appends_as, all_numbers, next_number, no_number}
use Rattle.run_picture.proofs.picture.put_rows.Goals as goal

pub returns-in_err-put_all-clause-wrote : goal.returns-in_err-put_all-clause-wrote
returns-in_err-put_all-clause-wrote g c =
    let i = c.loop-machine.machine in
    let n = c.args.machines in
    let text : ℕ → List ℕ = row_text c.args.names.now in
    let p = err_from_is_err_and c.from_residual.result c.from_residual.ensures.1 in
    rw p.1 (
      c.in_err-put_all.ensures.wrote.0,
      TookPart-rest _ _ _ _ _ (text i) (flat_map text (range_with_len (i + 1) (n - (i + 1)))) c.loop-machine.invariant.so_far
          (took_as _ _ _ _ (c.bytes.ensures ∙ c.row_line.ensures) c.in_err-put_all.ensures.wrote.1) (next_number text i n (omega arith)),
    )

pub loop-machine-init : goal.loop-machine-init
loop-machine-init g c = record { so_far = all_numbers _ (row_text c.args.names.now) c.args.machines; unfailed = refl }

pub loop-machine-preserved : goal.loop-machine-preserved
loop-machine-preserved g c =
    let i = c.loop-machine.machine in
    let n = c.args.machines in
    let text : ℕ → List ℕ = row_text c.args.names.now in
    record {
      so_far = AllBut-more _ _ _ _ _ (text i) (flat_map text (range_with_len (i + 1) (n - (i + 1)))) c.loop-machine.invariant.so_far
          (appends_as _ _ _ _ (c.bytes.ensures ∙ c.row_line.ensures) c.in_ok-put_all.ensures.wrote) (next_number text i n (omega arith));
      unfailed = c.in_ok-put_all.ensures.unfailed ∙ c.loop-machine.invariant.unfailed;
    }

pub returns-clause-wrote : goal.returns-clause-wrote
returns-clause-wrote g c =
    let n = c.args.machines in
    let text : ℕ → List ℕ = row_text c.args.names.now in
    AllBut-all _ _ _ _ c.loop-machine.invariant.so_far (no_number text c.loop-machine.machine n (omega arith))
