use Rattle.spv_interfaces.proofs.Bits.{shift_tells}
use Rattle.spv_interfaces.proofs.named.has_bit.Goals as goal

pub returns : goal.returns
returns c = shift_tells c.args.word c.args.k
