use Rattle.people_names.proofs.SeenNames.{seen_copied}
use Rattle.people_names.proofs.lists.remember.Goals as goal

pub returns-in-Ok : goal.returns-in-Ok
returns-in-Ok c = seen_copied c.args.name.now c.in_ok-copy.copy c.args.seen.now c.insert.new.self c.in_ok-copy.ensures.ok c.in-Ok.ensures.updates
