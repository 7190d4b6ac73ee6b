-- What holds of an answer, unless memory is out.
use Rattle.std.proofs.Common.{Result, Ok, Err, IfOk}

-- what holds of an answer of which two facts are known
pub ok_both : {A E : Type 0} {P Q R : A → Type 0} → (r : Result A E) → ((x : A) → P x → Q x → R x) → IfOk r P → IfOk r Q → IfOk r R
ok_both (Ok x) step one other = step x one other
ok_both (Err e) step one other = tt

-- what follows from what holds of an answer
pub ok_each : {A E : Type 0} {P Q : A → Type 0} → (r : Result A E) → ((x : A) → P x → Q x) → IfOk r P → IfOk r Q
ok_each (Ok x) step holds = step x holds
ok_each (Err e) step holds = tt
