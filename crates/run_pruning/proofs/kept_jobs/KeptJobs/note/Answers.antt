use Rattle.std.proofs.Common.{ℕ, ◌<◌, List, length, Option, is_some, sym, ap, subst, arith}
use Rattle.std.proofs.lemmas.List.{length-map}
use Rattle.shop_base.specs.declared.limits.TheConstants.{MAX_JOBS}
use Rattle.shop_base.proofs.Counting.{count_within}
use Rattle.run_pruning.specs.Staying.{stays}
use Rattle.run_pruning.specs.Numbers.{marks_of, AreNumbers}
use Rattle.run_pruning.proofs.Marking.{numbers_more}
use Rattle.run_pruning.proofs.kept_jobs.KeptJobs.note.Goals as goal

pub next_count-count-requires : goal.next_count-count-requires
next_count-count-requires c =
    omega (
      arith,
      c.requires,
      ap length c.self.view_is,
      length-map c.self.inside.numbers.items (λ n. is_some n),
      c.self.invariant.all,
      count_within (stays (marks_of c.self.inside.numbers.items)) (length c.self.inside.numbers.items),
    )

pub invariant_of-self-2 : goal.invariant_of-self-2
invariant_of-self-2 c =
    let few : length c.self.inside.numbers.items < MAX_JOBS = omega (arith, c.requires, ap length c.self.view_is, length-map c.self.inside.numbers.items (λ n. is_some n)) in
    subst (λ xs. AreNumbers xs c.next_count-count.result) (sym {A = List (Option ℕ)} c.in_ok-push.ensures.items)
    (numbers_more c.self.inside.numbers.items c.self.inside.count c.next_count-count.result c.args.stays c.next_number.result c.self.invariant few c.next_number.ensures c.next_count-count.ensures)
