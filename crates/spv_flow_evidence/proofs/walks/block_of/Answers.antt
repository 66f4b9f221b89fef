use Rattle.std.proofs.Common.{◌≡◌, ◌-◌, length, ap, arith}
use Rattle.std.specs.Prelude.{slice_index}
use Rattle.std.proofs.lemmas.List.{length-map}
use Rattle.spv_module.specs.Module.{plain_inst}
use Rattle.spv_flow.specs.walks.inner.Code.{insts_of}
use Rattle.spv_flow.proofs.lemmas.walks.Starting.{few_blocks}
use Rattle.spv_flow_evidence.proofs.walks.block_of.Goals as goal

pub loop-next-init : goal.loop-next-init
loop-next-init c =
    let laid = c.requires.blocks.laid in
    let first = laid.divided.first in
    let x = laid.extent.all c.args.inst c.requires.of in
    omega (arith, first, x.0)

pub overflow_cast-result : goal.overflow_cast-result
overflow_cast-result c =
    let code = c.args.code.now in
    let b = c.args.blocks.now in
    let laid = c.requires.blocks.laid in
    let few = few_blocks (insts_of code) b.function b.end b.starts.now b.numbers.now laid in
    let within = laid.extent.within in
    let l = length-map code.insts.now plain_inst in
    let most = c.requires.most in
    let lt = c.loop-next-test.true in
    omega (arith, few, within, l, most, lt)

pub unreachable-requires : goal.unreachable-requires
unreachable-requires c =
    let starts = c.args.blocks.now.starts.now in
    let laid = c.requires.blocks.laid in
    let last = laid.last in
    let some = laid.divided.some in
    let to = c.loop-next.auto.next-end in
    let end = c.loop-next-test.false in
    let e : c.loop-next.next ≡ length starts = omega (arith, to, end, some) in
    let f = ap (λ n. slice_index starts (n - 1)) e in
    let from = c.loop-next.invariant in
    let x = laid.extent.all c.args.inst c.requires.of in
    omega (arith, last, f, from, x.1)
