use Rattle.std.proofs.Common.{◌≡◌, ◌∙◌, ℕ, true, sym, subst}
use Rattle.spv_flow.specs.branches.inner.Labels.{is_label_at}
use Rattle.spv_flow.proofs.lemmas.branches.Places.{same_case}
use Rattle.spv_flow.proofs.branches.labels.next_label.Goals as goal

pub next_case-requires-clause-label : goal.next_case-requires-clause-label
next_case-requires-clause-label c =
    subst (λ (o : ℕ). is_label_at o c.args.n ≡ true) c.if-opcode-ne-SWITCH.false
    (sym c.is_label_at.ensures ∙ c.if-not-is_label_at.false)

pub returns-clause-same : goal.returns-clause-same
returns-clause-same c = λ G i k x m f low high u.
    same_case G i c.args.n c.next_case.result c.args.id k x (m.of ∙ c.if-opcode-ne-SWITCH.false)
    (c.requires.label G i m f) (rw m.has c.next_case.ensures.same) f low high u
