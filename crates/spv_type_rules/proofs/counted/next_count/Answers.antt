use Rattle.spv_module.specs.Module.{plain_inst}
use Rattle.spv_type_rules.proofs.Counting.{counted_next}
use Rattle.spv_type_rules.proofs.counted.next_count.Goals as goal

pub returns : goal.returns
returns c = λ is n at a. rw c.count_after.ensures (counted_next is n c.args.count (plain_inst c.args.inst.now) at a)
