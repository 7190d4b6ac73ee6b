use Rattle.std.proofs.Common.{◌∙◌, subst}
use Rattle.plan_revise.specs.Fits.{IsRevision}
use Rattle.plan_revise.proofs.Written.{revised_answer, refused_answer, draft_given}
use Rattle.plan_revise.proofs.Revisions.{given_revision}
use Rattle.plan_revise.proofs.revising.revise_within.Goals as goal

pub revised_by-requires : goal.revised_by-requires
revised_by-requires g c =
    subst (IsRevision c.of-run.result) (draft_given c.of-run.result c.args.rest.now.plan c.args.rest.now.cell c.args.rest.now.present c.args.plant c.args.changes.now c.in-Ok.draft c.of-run.ensures.is (c.in-Ok.ensures ∙ c.shaped.ensures.plan))
    (given_revision c.of-run.result c.of-run.ensures.sound)

pub returns-in-Ok-clause-revised : goal.returns-in-Ok-clause-revised
returns-in-Ok-clause-revised g c =
    revised_answer c.of-run.result c.args.rest.now.plan c.args.rest.now.cell c.args.rest.now.present c.args.plant c.args.changes.now c.in-Ok.draft c.of-run.ensures.is (c.in-Ok.ensures ∙ c.shaped.ensures.plan) c.revised_by.result c.revised_by.ensures.revised

pub returns-in-Ok-clause-refused : goal.returns-in-Ok-clause-refused
returns-in-Ok-clause-refused g c =
    refused_answer c.of-run.result c.args.rest.now.plan c.args.rest.now.cell c.args.rest.now.present c.args.plant c.args.changes.now c.in-Ok.draft c.of-run.ensures.is (c.in-Ok.ensures ∙ c.shaped.ensures.plan) c.revised_by.result c.revised_by.ensures.refused
