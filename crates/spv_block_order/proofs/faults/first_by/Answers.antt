use Rattle.std.proofs.Common.{arith}
use Rattle.std.proofs.lemmas.List.{length-map}
use Rattle.spv_module.specs.Module.{plain_inst}
use Rattle.spv_flow.specs.walks.inner.Code.{insts_of}
use Rattle.spv_block_order.proofs.Joining.{label_before, found_use_below, found_use_alone, found_block, found_none}
use Rattle.spv_block_order.proofs.faults.first_by.Goals as goal

pub first_early_use-requires : goal.first_early_use-requires
first_early_use-requires c =
    let code = c.args.code.now in
    let k = c.requires.code in
    let first = rw c.in-Some.is at c.requires.label in
    let lt = label_before k.0 (insts_of code) c.args.function c.args.end c.in-Some.inst c.requires.extent
    (first k.0 k.1) in
    let within = c.requires.extent.within in
    let l = length-map code.insts.now plain_inst in
    omega (arith, lt, within, l)

pub returns-in-Some-first_early_use : goal.returns-in-Some-first_early_use
returns-in-Some-first_early_use c = λ G is.
    let first = rw c.in-Some.is at c.requires.label in
    found_use_below G (insts_of c.args.code.now) c.args.function c.args.end c.in-Some.inst
    c.in-Some-first_early_use.early c.requires.extent (first G is) (c.in-Some-first_early_use.ensures G is)

pub returns-in-None-first_early_use : goal.returns-in-None-first_early_use
returns-in-None-first_early_use c = λ G is.
    let first = rw c.in-Some.is at c.requires.label in
    found_block G (insts_of c.args.code.now) c.args.function c.args.end c.in-Some.inst c.requires.extent (first G is)
    (c.in-None-first_early_use.ensures G is)

pub returns-in-Some-first_early_use-2 : goal.returns-in-Some-first_early_use-2
returns-in-Some-first_early_use-2 c = λ G is.
    let first = rw c.in-None.is at c.requires.label in
    found_use_alone G (insts_of c.args.code.now) c.args.function c.args.end c.in-Some-first_early_use-2.early
    c.requires.extent (first G is) (c.in-Some-first_early_use-2.ensures G is)

pub returns-in-None-first_early_use-2 : goal.returns-in-None-first_early_use-2
returns-in-None-first_early_use-2 c = λ G is.
    let first = rw c.in-None.is at c.requires.label in
    found_none G (insts_of c.args.code.now) c.args.function c.args.end c.requires.extent (first G is)
    (c.in-None-first_early_use-2.ensures G is)
