use Rattle.std.proofs.Common.{◌++◌, ◌∙◌, ◌∷◌, [], ap, sym, subst}
use Rattle.std.specs.Prelude.{List, ℕ}
use Rattle.spv_annotate.specs.inner.Draft.{IsAdded}
use Rattle.spv_annotate.specs.inner.Look.{scene}
use Rattle.spv_annotate.proofs.Lines.{class_walked}
use Rattle.spv_annotate.proofs.look.Look.add_class.Goals as goal

pub returns-then-is_walked-clause-added : goal.returns-then-is_walked-clause-added
returns-then-is_walked-clause-added c =
    let S = scene c.args.self.now in
    let e = class_walked S c.args.inst (sym c.is_fault.ensures ∙ c.if-is_fault.false)
    (sym c.is_walked.ensures ∙ c.if-is_walked.true) in
    subst (λ (z : List ℕ). IsAdded z c.args.at c.add_text-then-is_walked.result c.args.buffer.now
    c.add_text-then-is_walked.new.buffer) (sym (ap (λ z. z ++ (62 ∷ [])) e)) c.add_text-then-is_walked.ensures.added
