-- No exact run keeps promises that exclude each other, and none that goes on from a cell.
use Rattle.std.proofs.Common.{◌++◌, arith, sym, subst}
use Rattle.shop_base.specs.Cell.{Cell}
use Rattle.shop_base.specs.Graph.{leaving}
use Rattle.shop_base.specs.Punctual.{AreNotEarly}
use Rattle.shop_base.specs.Ahead.{PathAhead}
use Rattle.shop_base.proofs.StartAhead.{no_exact_run_is_faster-holds}
use Rattle.shop_base.proofs.LowerBounds.{no_continuation_is_faster-holds}
use Rattle.shop_base.proofs.CycleLaw.{cycle_never_done}
use Rattle.plan_decide.specs.Laws.{NoExactRunKeepsThem, NoContinuationKeepsThem, NoRunEndsWhereAllAreCyclic}

pub no_exact_run_keeps_them-holds : NoExactRunKeepsThem
no_exact_run_keeps_them-holds t js p es excluded plan run exact keeps = excluded p plan (record {
  acyclic = λ nodes cycle. (let stuck = cycle_never_done p nodes plan.shaped cycle es run in stuck.2 (keeps.gone stuck.0 stuck.1));
  out = λ j named nodes k path. omega (arith, no_exact_run_is_faster-holds p j nodes k plan.shaped path es run exact (keeps.out j named).gone, (keeps.out j named).by);
})

pub no_continuation_keeps_them-holds : NoContinuationKeepsThem
no_continuation_keeps_them-holds t base c present js p es fs excluded plan run end more from late keeps = excluded p plan (record {
  acyclic = λ nodes cycle. (let stuck = cycle_never_done p nodes plan.shaped cycle (es ++ fs) more in stuck.2 (keeps.gone stuck.0 stuck.1));
  out = λ j named nodes k path. (
      let there = subst (λ (d : Cell). PathAhead p d present nodes (leaving p j) k) (sym end) path in
      let early = subst (λ (d : Cell). AreNotEarly p d fs) (sym end) late in
      omega (arith, no_continuation_is_faster-holds p es present j nodes k fs plan.shaped run there more from early (keeps.out j named).gone, (keeps.out j named).by));
})

pub no_run_ends_where_all_are_cyclic-holds : NoRunEndsWhereAllAreCyclic
no_run_ends_where_all_are_cyclic-holds t p es none plan run gone = none p plan (λ nodes cycle. (let stuck = cycle_never_done p nodes plan.shaped cycle es run in stuck.2 (gone stuck.0 stuck.1)))
