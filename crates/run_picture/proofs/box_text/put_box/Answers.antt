use Rattle.std.proofs.Common.{ℕ, List, subst, ap, ◌∙◌}
use Rattle.byte_streams.specs.Lent.{WroteTo}
use Rattle.run_picture.specs.declared.box_parts.Edges.{Edges}
use Rattle.run_picture.specs.BoxText.{box_text_at}
use Rattle.run_picture.proofs.box_text.put_box.Goals as goal

pub returns-clause-wrote : goal.returns-clause-wrote
returns-clause-wrote g c =
    subst (λ (text : List ℕ). WroteTo g.W.Sink c.put_all.result c.args.output.now c.put_all.new.writer text)
    (c.bytes.ensures ∙ c.box_line-line.ensures ∙ ap (λ (edges : Edges). box_text_at c.args.names.now edges c.args.drawn) c.edges_of.ensures.are)
    c.put_all.ensures.wrote
