use Rattle.std.proofs.Common.{◌≡◌, ◌%◌, false, List, Result, length, ap, sym, subst, ◌∙◌}
use Rattle.std.proofs.lemmas.Bool.{ne_eqb}
use Rattle.shop_base.specs.declared.shop.Step.{Step}
use Rattle.orlib_read.specs.declared.or_fault.OrFault.{OrFault}
use Rattle.orlib_read.specs.Words.{words_of, is_odd}
use Rattle.orlib_read.specs.Cursor.{numbered_line}
use Rattle.orlib_read.specs.Reading.{Gives}
use Rattle.orlib_read.proofs.Numbers.{route_even, route_read}
use Rattle.orlib_read.proofs.reading.route_of.Goals as goal
use Rattle.orlib_read.proofs.reading.route_of.Goals.{else-is_err-via-then-is_err+else-word_count-eq1, else-is_err-via-else-is_err}

pub returns : goal.returns
returns c = elim c.else-is_err.branch [
  | else-is_err-via-then-is_err+else-word_count-eq1 w ↦
      let even : is_odd (length (words_of c.args.line.bytes.now)) ≡ false = ap is_odd (sym w.word_count.ensures) ∙ ne_eqb (w.word_count.result % 2) 1 w.if-word_count-eq1.false in
      subst (λ (reading : Result (List Step) OrFault). Gives (λ route. route.items) c.steps_of-route.result reading) (route_even (numbered_line c.args.line) even) c.steps_of-route.ensures
  | else-is_err-via-else-is_err w ↦
      route_read (λ route. route.items) c.steps_of-route.result (numbered_line c.args.line) (sym c.is_err.ensures.value ∙ w.if-is_err.false) c.steps_of-route.ensures
]
