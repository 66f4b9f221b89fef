use Rattle.spv_module.specs.Module.{plain_inst, plain_operands}
use Rattle.spv_interfaces.specs.inner.Entries.{Names}
use Rattle.spv_interfaces.proofs.Counting.{counts_entry, counts_none}
use Rattle.spv_interfaces.proofs.counted.count_entry.Goals as goal

pub returns-in_default : goal.returns-in_default
returns-in_default c =
    counts_none c.args.k (Names c.args.definitions.now c.args.number) c.args.counts.now.items

pub returns : goal.returns
returns c = counts_entry c.args.k c.args.definitions.now c.args.number c.in-Some.field-0-0
    (plain_operands c.in-Some.interface.now) (plain_inst c.inst.result.now) c.args.counts.now.items
    c.count_all.new.counts.items c.inst.ensures c.in-Some.ensures c.count_all.ensures
