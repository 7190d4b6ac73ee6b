-- A reader of one job's line answers what the line says.
use Rattle.std.proofs.Common.{◌≡◌, ◌≢◌, List, Vec, Global, Result, Ok, Err, sym, ◌∙◌}
use Rattle.std.specs.Prelude.{◌⊎◌, IfOk, IfErr}
use Rattle.shop_base.specs.declared.shop.Step.{Step}
use Rattle.text_lines.specs.Lines.{NumberedLine}
use Rattle.orlib_read.specs.declared.or_fault.OrFault.{OrFault}
use Rattle.orlib_read.specs.declared.or_fault.OrFault.TheVariants.{Memory}
use Rattle.orlib_read.specs.Kinds.{IsJobLine}
use Rattle.orlib_read.specs.Faults.{IsOddLine, IsWordLine}
use Rattle.orlib_read.specs.Reading.{Gives, route_at}
use Rattle.orlib_read.specs.Answers.{ReadsRoute}
use Rattle.orlib_read.proofs.Numbers.{ok_is, route_is, route_again, line_fault}
use Rattle.orlib_read.proofs.Agreement.{only_memory}

pub found : (line : NumberedLine) (read : Result (Vec Step Global) OrFault) → Gives (λ route. route.items) read (route_at line) → IfOk read (λ route. IsJobLine line route.items)
found line (Ok route) gives = route_is line route.items gives
found line (Err fault) gives = tt

pub only : (line : NumberedLine) (read : Result (Vec Step Global) OrFault) → Gives (λ route. route.items) read (route_at line) → ReadsRoute read (IsJobLine line)
only line (Ok route) gives = λ other is. ok_is route.items other (sym gives ∙ route_again line other is)
only line (Err fault) gives = λ other is. only_memory fault λ no_memory. differ (route_at line) other fault (route_again line other is) (gives no_memory)
  where
    differ : (read : Result (List Step) OrFault) (other : List Step) (fault : OrFault) → read ≡ Ok other → read ≡ Err fault → ⊥
    differ read other fault one two = cc

pub first : (line : NumberedLine) (read : Result (Vec Step Global) OrFault) → Gives (λ route. route.items) read (route_at line) → IfErr read (λ fault. fault ≢ Memory → IsOddLine line fault ⊎ IsWordLine line fault)
first line (Ok route) gives = tt
first line (Err fault) gives = λ no_memory. line_fault line fault (gives no_memory)
