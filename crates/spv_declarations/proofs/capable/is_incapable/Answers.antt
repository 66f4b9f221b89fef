use Rattle.spv_module.specs.Module.{plain_inst}
use Rattle.spv_declarations.proofs.Needing.{needs_tells}
use Rattle.spv_declarations.proofs.capable.is_incapable.Goals as goal

pub returns-then-declares_bytes : goal.returns-then-declares_bytes
returns-then-declares_bytes c = needs_tells c.args.capabilities.now.table c.args.capabilities.now.insts
    (plain_inst c.args.inst.now)
    c.has_bytes.result c.declares_bytes.result c.if-inst-eq-MEMORY_MODEL.false c.declares_bytes.ensures
    c.if-declares_bytes.true c.has_bytes.ensures
