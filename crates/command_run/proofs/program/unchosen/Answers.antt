use Rattle.std.proofs.Common.{refl, subst}
use Rattle.command_run.specs.Unchosen.{IsOutcomeOf, Comes}
use Rattle.command_run.specs.declared.unchosen.Unchosen.TheVariants.{Usage as Wrong}
use Rattle.command_run.proofs.Refusing.{refused_ends, refused_words}
use Rattle.command_run.proofs.program.unchosen.Goals.{in-Ends, in-Usage}
use Rattle.command_run.proofs.program.unchosen.Goals as goal

pub returns : goal.returns
returns g c = elim c.match-from.branch [
  | in-Ends w ↦
      let comes : IsOutcomeOf c.args.fault w.in-Ends.outcome = subst (Comes c.args.fault) w.in-Ends.is c.from.ensures in
      rw (w.result-is, w.devices-inside-is, ← c.devices.view_is)
      (refused_ends g.T.Texts.gives c.args.fault w.in-Ends.outcome _ _ _ comes w.end.ensures.ends refl w.end.ensures.input refl)
  | in-Usage w ↦
      let comes : Comes c.args.fault (Wrong w.in-Usage.text) = subst (Comes c.args.fault) w.in-Usage.is c.from.ensures in
      rw (w.result-is, w.devices-inside-is, ← c.devices.view_is)
      (refused_words g.T.Texts.gives c.args.fault w.in-Usage.text _ _ _ comes (rw (← w.as_bytes.ensures.value) w.print_line.ensures.printed) w.print_line.ensures.status refl refl refl)
]
