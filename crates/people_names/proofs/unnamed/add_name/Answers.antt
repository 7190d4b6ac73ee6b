use Rattle.std.proofs.Common.{◌≡◌, [], ◌∷◌, ◌++◌, None, map, string_bytes, sym, subst, arith}
use Rattle.std.proofs.lemmas.Grind.{common_steps}
use Rattle.people_names.specs.AddedNames.{AreJobNames, why_unnamed}
use Rattle.people_names.proofs.AddedNames.{job_names_added}
use Rattle.people_names.proofs.unnamed.add_name.Goals as goal

pub returns-clause-readable : goal.returns-clause-readable
returns-clause-readable c = λ are.
    let before = map string_bytes c.args.names.now.items in
    let pushed : map string_bytes c.push.new.self.items ≡ map string_bytes c.args.names.now.items ++ c.args.name.now ∷ [] = grind (arith, common_steps) in
    let fine : why_unnamed (map string_bytes c.args.names.now.items) c.args.all_named c.args.name.now ≡ None = grind (arith, common_steps) in
    subst AreJobNames (sym pushed) (job_names_added before c.args.all_named c.args.name.now fine are)
