use Rattle.std.proofs.Common.{sym, refl}
use Rattle.spv_module.specs.Module.{plain_operands}
use Rattle.spv_inst.proofs.Kept.{same_kept, more_kept, summary_is, on_ok}
use Rattle.spv_inst.proofs.definitions.Definitions.add.Goals as goal

pub returns-in_default-clause-knows : goal.returns-in_default-clause-knows
returns-in_default-clause-knows c = λ before k.
    same_kept c.args.self.now before (record { opcode = c.args.opcode; operands = plain_operands c.args.operands.now })
    c.in_default.ensures k

pub returns-clause-knows : goal.returns-clause-knows
returns-clause-knows c =
    let e = c.in-Some.ensures in
    on_ok c.put.result _ _
    (λ p before k. more_kept c.args.self.now c.put.new.self before
    (record { opcode = c.args.opcode; operands = plain_operands c.args.operands.now }) c.in-Some.id _ e.0
    (summary_is (record { opcode = c.args.opcode; operands = plain_operands c.args.operands.now }) c.args.opcode
    c.in-Some.type_id c.declared_width.result refl e.1 (sym c.declared_width.ensures)) p k)
    c.put.ensures.latest
