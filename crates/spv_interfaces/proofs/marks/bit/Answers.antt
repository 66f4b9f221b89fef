use Rattle.std.proofs.lemmas.Nat.{one_shl}
use Rattle.spv_interfaces.proofs.marks.bit.Goals as goal

pub returns : goal.returns
returns c = one_shl c.args.k 64 c.requires
