use Rattle.std.proofs.Common.{◌∙◌, sym}
use Rattle.spv_module.specs.Module.{plain_inst}
use Rattle.spv_flow.proofs.lemmas.calls.Gathering.{no_definition, no_caller, no_called}
use Rattle.spv_flow.proofs.calls.gather.call_at.Goals as goal

pub returns-in_default-definition : goal.returns-in_default-definition
returns-in_default-definition c = λ is p a h f g.
    no_definition is c.args.ids.now c.args.at c.in-Some.id f g (plain_inst c.args.inst.now) a
    (sym c.definition.ensures ∙ c.in_default-definition.is) h (sym c.in-Some.is ∙ c.callee_of.ensures)

pub returns-in_default-definition_of : goal.returns-in_default-definition_of
returns-in_default-definition_of c =
    λ is p a h f g. no_caller is c.args.at f g (c.in_default-definition_of.ensures is p)

pub returns-else-is_definition : goal.returns-else-is_definition
returns-else-is_definition c = λ is p a h f g.
    no_called is c.args.ids.now c.args.at c.in-Some.id c.in-Some-definition.callee f g (plain_inst c.args.inst.now) a
    (sym c.definition.ensures ∙ c.in-Some-definition.is) h (sym c.in-Some.is ∙ c.callee_of.ensures)
    (λ d. let t = (c.is_definition.ensures is p).1 d in let n = c.if-is_definition.false in cc)
