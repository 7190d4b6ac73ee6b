use Rattle.std.proofs.Common.{◌++◌, take, take-append-drop, ap, ◌∙◌}
use Rattle.std.proofs.lemmas.List.{take_rest}
use Rattle.byte_streams.proofs.Written.{AllBut-more}
use Rattle.byte_streams.proofs.writing.put_all.Goals as goal

pub loop-rest-preserved : goal.loop-rest-preserved
loop-rest-preserved g c =
    let rest = c.loop-rest.rest.now in
    let count = c.in_ok-count.count in
    record {
      so_far = AllBut-more _ _ _ _ _ _ _ c.loop-rest.invariant.so_far c.in_ok-count.ensures.written (ap (λ l. take count rest ++ l) (take_rest rest count) ∙ take-append-drop count rest);
      unfailed = c.in_ok-count.ensures.unfailed ∙ c.loop-rest.invariant.unfailed;
    }
