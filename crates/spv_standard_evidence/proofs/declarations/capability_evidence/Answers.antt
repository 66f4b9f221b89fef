use Rattle.spv_module.specs.Module.{plain_inst}
use Rattle.spv_standard_evidence.proofs.Declared.{shown_bytes, shown_model}
use Rattle.spv_standard_evidence.proofs.declarations.capability_evidence.Goals as goal

pub returns-then-inst-eq-MEMORY_MODEL : goal.returns-then-inst-eq-MEMORY_MODEL
returns-then-inst-eq-MEMORY_MODEL c = λ G h.
    shown_model G c.args.definitions.now c.args.number (plain_inst c.inst.result.now) c.inst.ensures
    c.if-inst-eq-MEMORY_MODEL.true h

pub returns-else-inst-eq-MEMORY_MODEL : goal.returns-else-inst-eq-MEMORY_MODEL
returns-else-inst-eq-MEMORY_MODEL c = λ G h.
    shown_bytes G c.args.definitions.now c.args.number (plain_inst c.inst.result.now) c.inst.ensures
    c.if-inst-eq-MEMORY_MODEL.false h
