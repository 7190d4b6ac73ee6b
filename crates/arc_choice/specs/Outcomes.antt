-- What a search comes to.
use Rattle.arc_choice.specs.declared.exploring.Outcome.{Outcome}
use Rattle.arc_choice.specs.declared.exploring.Outcome.TheVariants.{Never, Chosen, Open}

-- a fact that holds at `Never`
abbrev pub OnNever : Type 0 → Outcome → Type 0
OnNever P Never = P
OnNever P (Chosen moments) = Unit {0}
OnNever P Open = Unit {0}
