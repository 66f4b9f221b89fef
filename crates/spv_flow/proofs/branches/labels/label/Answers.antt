use Rattle.std.proofs.Common.{List, refl, sym, ap}
use Rattle.spv_module.specs.declared.operand.Operand.{Operand}
use Rattle.spv_module.specs.Module.{plain_inst, plain_operands}
use Rattle.spv_flow.proofs.branches.labels.label.Goals as goal

pub returns : goal.returns
returns c = λ G f.
    c.label_in.ensures G (plain_inst c.args.inst.now)
    (record { of = refl; has = ap (λ (os : List Operand). plain_operands os) (sym c.as_slice.ensures.value) }) f
