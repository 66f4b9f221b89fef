use Rattle.std.proofs.Common.{refl, map}
use Rattle.spv_inst.specs.Flat.{due}
use Rattle.spv_inst.specs.inner.Pending.{items_of}
use Rattle.spv_parser.proofs.Quick.{start_none}
use Rattle.spv_parser.proofs.fast.begin.Goals as goal

pub returns-in_default-clause-read : goal.returns-in_default-clause-read
returns-in_default-clause-read c =
    λ before. rw c.of.ensures (start_none c.args.setting.now.table.now _ before c.args.opcode
    (map due (items_of c.args.pattern.now)) c.args.operands.now _ refl refl refl refl c.requires.none c.requires.broken)
