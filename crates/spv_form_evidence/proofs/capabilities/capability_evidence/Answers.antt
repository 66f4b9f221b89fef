use Rattle.std.proofs.Common.{◌≡◌, ◌<◌, ◌∙◌, List, map, length, ap, sym, subst}
use Rattle.std.proofs.lemmas.Option.{slice_get_within}
use Rattle.spv_module.specs.Operand.{PlainInst}
use Rattle.spv_module.specs.declared.module.Inst.{Inst}
use Rattle.spv_module.specs.Module.{plain_inst, plain_insts}
use Rattle.spv_ids.specs.Outcome.{IsDefinitionOf, definition_in}
use Rattle.spv_capabilities.specs.inner.Subject.{Subject}
use Rattle.spv_form_evidence.proofs.capabilities.capability_evidence.Goals as goal

pub new-requires-clause-ids : goal.new-requires-clause-ids
new-requires-clause-ids c = λ x.
    let same = sym c.as_slice-insts.ensures.value in
    let P : List Inst → Type 0 = λ l. IsDefinitionOf (map plain_inst l) x (definition_in c.args.ids.now x) in
    subst P same (c.requires.ids x)

pub inst-requires : goal.inst-requires
inst-requires c =
    let is = plain_insts c.args.module.now in
    let made = ap (λ (u : Subject). u.insts) c.in_ok-survey.ensures in
    let s : c.in_ok-survey.survey.insts ≡ is = made ∙ ap (map plain_inst) c.as_slice-insts.ensures.value in
    let w : c.args.inst < length is = slice_get_within is c.args.inst c.requires.broken.0 c.requires.broken.1 in
    subst (λ (l : List PlainInst). c.args.inst < length l) (sym s) w
