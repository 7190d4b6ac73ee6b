use Rattle.std.proofs.Common.{◌≡◌, [], ◌∷◌, ◌++◌, map, string_bytes, arith}
use Rattle.std.proofs.lemmas.Grind.{common_steps}
use Rattle.people_names.proofs.lists.push_name.Goals as goal

pub returns-clause-seen : goal.returns-clause-seen
returns-clause-seen c =
    let pushed : map string_bytes c.push.new.self.items ≡ map string_bytes c.args.names.now.items ++ c.as_str.result.now ∷ [] = grind (arith, common_steps) in
    rw pushed (c.in_ok-remember.ensures (map string_bytes c.args.names.now.items) c.requires.seen)
