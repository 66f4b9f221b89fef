use Rattle.std.proofs.lemmas.Bool.{iff_false}
use Rattle.spv_module.specs.Module.{plain_inst}
use Rattle.spv_kernel_operands.proofs.Firsts.{first_atomic, first_empty, first_scopes, first_written}
use Rattle.spv_kernel_operands.proofs.check.broken_in_memory.Goals as goal

pub returns-then-is_misscoped : goal.returns-then-is_misscoped
returns-then-is_misscoped c = first_scopes c.args.capabilities.now.table c.args.definitions.now (plain_inst c.args.inst.now)
    (c.is_misscoped.ensures.0 c.if-is_misscoped.true)

pub returns-then-is_misatomic : goal.returns-then-is_misatomic
returns-then-is_misatomic c = first_atomic c.args.capabilities.now.table c.args.definitions.now (plain_inst c.args.inst.now)
    (iff_false c.is_misscoped.ensures c.if-is_misscoped.false)
    (c.is_misatomic.ensures.0 c.if-is_misatomic.true)

pub returns-then-is_miswritten : goal.returns-then-is_miswritten
returns-then-is_miswritten c = first_written c.args.capabilities.now.table c.args.definitions.now (plain_inst c.args.inst.now)
    (iff_false c.is_misscoped.ensures c.if-is_misscoped.false)
    (iff_false c.is_misatomic.ensures c.if-is_misatomic.false)
    (c.is_miswritten.ensures.0 c.if-is_miswritten.true)

pub returns-then-is_empty_copy : goal.returns-then-is_empty_copy
returns-then-is_empty_copy c = first_empty c.args.capabilities.now.table c.args.definitions.now (plain_inst c.args.inst.now)
    (iff_false c.is_misscoped.ensures c.if-is_misscoped.false)
    (iff_false c.is_misatomic.ensures c.if-is_misatomic.false)
    (iff_false c.is_miswritten.ensures c.if-is_miswritten.false)
    (c.is_empty_copy.ensures.0 c.if-is_empty_copy.true)

pub returns : goal.returns
returns c = record {
  scopes = iff_false c.is_misscoped.ensures c.if-is_misscoped.false;
  atomic = iff_false c.is_misatomic.ensures c.if-is_misatomic.false;
  written = iff_false c.is_miswritten.ensures c.if-is_miswritten.false;
  copied = iff_false c.is_empty_copy.ensures c.if-is_empty_copy.false;
}
