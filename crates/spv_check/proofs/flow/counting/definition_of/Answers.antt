use Rattle.std.proofs.Common.{◌∙◌, sym}
use Rattle.spv_flow.proofs.lemmas.calls.Placed.{told_definition, told_no_definition}
use Rattle.spv_check.proofs.flow.counting.definition_of.Goals as goal

pub returns-then-place-eq-DEFINITIONS : goal.returns-then-place-eq-DEFINITIONS
returns-then-place-eq-DEFINITIONS c =
    λ is p. told_definition is c.args.plan.now c.args.inst c.in-Some.place p
    (sym c.at.ensures ∙ c.in-Some.is) c.if-place-eq-DEFINITIONS.true

pub returns-else-place-eq-DEFINITIONS : goal.returns-else-place-eq-DEFINITIONS
returns-else-place-eq-DEFINITIONS c =
    λ is p f l. told_no_definition is c.args.plan.now c.args.inst f c.in-Some.place p
    (sym c.at.ensures ∙ c.in-Some.is) c.if-place-eq-DEFINITIONS.false l
