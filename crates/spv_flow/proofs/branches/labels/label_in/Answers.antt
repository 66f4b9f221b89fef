use Rattle.std.proofs.Common.{◌∙◌, sym}
use Rattle.spv_flow.proofs.lemmas.branches.Places.{label_told, no_label_told}
use Rattle.spv_flow.proofs.branches.labels.label_in.Goals as goal

pub returns-then-is_label_at : goal.returns-then-is_label_at
returns-then-is_label_at c = λ G i m f.
    label_told G i c.args.n c.id_in.result (rw m.of c.requires)
    (rw m.of (sym c.is_label_at.ensures ∙ c.if-is_label_at.true)) (rw m.has c.id_in.ensures) f

pub returns-else-is_label_at : goal.returns-else-is_label_at
returns-else-is_label_at c =
    λ G i m f x. no_label_told G i c.args.n x (rw m.of c.requires)
    (rw m.of (sym c.is_label_at.ensures ∙ c.if-is_label_at.false)) f
