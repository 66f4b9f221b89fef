use Rattle.std.proofs.Common.{ℕ, arith}
use Rattle.std.proofs.lemmas.List.{length-map}
use Rattle.spv_table.specs.Table.{Table}
use Rattle.spv_module.specs.Module.{plain_inst}
use Rattle.spv_graphs.specs.declared.queries.Query.{Query}
use Rattle.spv_flow.specs.walks.inner.Code.{insts_of}
use Rattle.spv_flow.specs.walks.inner.Due.{IsQueryIn}
use Rattle.spv_flow.proofs.lemmas.walks.Adding.{adds_step, adds_end}
use Rattle.spv_flow.proofs.lemmas.walks.Starting.{few_blocks}
use Rattle.spv_flow.proofs.walks.queries.add_all.Goals as goal

pub overflow_cast-block : goal.overflow_cast-block
overflow_cast-block c =
    let b = c.args.blocks.now in
    let l = c.requires.blocks.laid in
    let h = few_blocks (insts_of c.args.code.now) b.function b.end b.starts.now b.numbers.now l in
    let w = l.extent.within in
    let m = c.requires.most in
    let n = length-map c.args.code.now.insts.now plain_inst in
    let t = c.loop-block-test.true in
    omega (arith, h, w, m, n, t)

pub loop-block-preserved : goal.loop-block-preserved
loop-block-preserved c =
    let code = c.args.code.now in
    let starts = c.args.blocks.now.starts.now in
    let P : Table → ℕ → Query → Type 0 = λ G b a. IsQueryIn G (insts_of code) starts b a in
    adds_step code P c.loop-block.block c.args.queries.now.items c.loop-block.queries.items
    c.add_block.new.queries.items c.loop-block.invariant c.in_ok-add_block.ensures

pub returns : goal.returns
returns c =
    let code = c.args.code.now in
    let starts = c.args.blocks.now.starts.now in
    let end = c.loop-block-test.false in
    let P : Table → ℕ → Query → Type 0 = λ G b a. IsQueryIn G (insts_of code) starts b a in
    adds_end code P c.loop-block.block c.args.queries.now.items c.loop-block.queries.items c.loop-block.invariant
    (λ G is b a k. let w = k.1.block in omega (arith, w, end))
