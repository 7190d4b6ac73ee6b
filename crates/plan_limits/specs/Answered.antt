-- What an answer says.
use Rattle.plan_limits.specs.declared.asking.LimitsAnswer.{LimitsAnswer}
use Rattle.plan_limits.specs.declared.asking.LimitsAnswer.TheVariants.{Never, Orders, Open}

-- a fact that holds at `Never`
abbrev pub OnAnsweredNever : Type 0 → LimitsAnswer → Type 0
OnAnsweredNever P Never = P
OnAnsweredNever P (Orders orders) = Unit {0}
OnAnsweredNever P Open = Unit {0}
