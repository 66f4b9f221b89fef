use Rattle.std.proofs.Common.{refl, map, arith}
use Rattle.spv_inst.specs.Flat.{due}
use Rattle.spv_inst.specs.inner.Pending.{items_of}
use Rattle.spv_parser.proofs.Quick.{start_result}
use Rattle.spv_parser.proofs.fast.begin_result.Goals as goal

pub returns-clause-read : goal.returns-clause-read
returns-clause-read c = λ before.
    start_result c.args.table.now _ before c.args.opcode
    (map due (items_of c.args.pattern.now)) _ c.args.operands.now _ _ c.args.id refl c.requires.none
    c.requires.broken c.requires.first (omega arith) c.in_ok-push.ensures.items
