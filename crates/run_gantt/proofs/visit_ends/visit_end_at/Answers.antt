use Rattle.run_gantt.proofs.visit_ends.visit_end_at.Goals as goal

pub returns-in-Some : goal.returns-in-Some
returns-in-Some c = c.requires.exact c.args.job c.args.machine c.in-Some.place c.in-Some.ensures
