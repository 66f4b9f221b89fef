use Rattle.std.proofs.Common.{◌≡◌, ◌-◌, length, arith}
use Rattle.spv_inst.proofs.Batches.{closed, closed_within}
use Rattle.spv_inst.proofs.batch.Batch.close.Goals as goal

pub returns-clause-added : goal.returns-clause-added
returns-clause-added c =
    let n : c.len.result - c.args.first ≡ length c.args.self.now.operands.items - c.args.first = omega arith in
    closed c.args.self.now.operands.items c.args.self.now.heads.items _ c.args.opcode c.args.first _ c.requires.within
    c.requires.tidy n c.in_ok-push.ensures.items

pub returns-clause-tidy : goal.returns-clause-tidy
returns-clause-tidy c =
    let n : c.len.result - c.args.first ≡ length c.args.self.now.operands.items - c.args.first = omega arith in
    closed_within (length c.args.self.now.operands.items) c.args.self.now.heads.items _ c.args.opcode c.args.first _
    c.requires.within c.requires.tidy n c.in_ok-push.ensures.items
