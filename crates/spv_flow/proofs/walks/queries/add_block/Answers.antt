use Rattle.std.proofs.Common.{◌+◌, ℕ, arith}
use Rattle.spv_table.specs.Table.{Table}
use Rattle.spv_graphs.specs.declared.queries.Query.{Query}
use Rattle.spv_flow.specs.walks.inner.Code.{insts_of}
use Rattle.spv_flow.specs.walks.inner.Divided.{IsIn}
use Rattle.spv_flow.specs.walks.inner.Due.{IsQueryAt, IsQueryIn}
use Rattle.spv_flow.proofs.lemmas.walks.Adding.{adds_as, adds_step, adds_end}
use Rattle.spv_flow.proofs.lemmas.walks.Starting.{end_within}
use Rattle.spv_flow.proofs.walks.queries.add_block.Goals as goal

pub loop-at-preserved : goal.loop-at-preserved
loop-at-preserved c =
    let code = c.args.code.now in
    let starts = c.args.blocks.now.starts.now in
    let at = c.loop-at.at in
    let old = c.args.queries.now.items in
    let now = c.loop-at.queries.items in
    let new = c.add_queries.new.queries.items in
    let from = c.loop-at.auto.at in
    let P : Table → ℕ → Query
    → Type 0 = λ G j a. IsIn starts c.args.block j × IsQueryAt G (insts_of code) starts c.args.block j a in
    let here : IsIn starts c.args.block at = record
    { block = c.requires.block; from = from; to = c.loop-at-test.true } in
    let one = adds_as code (λ (G : Table) (a : Query). IsQueryAt G (insts_of code) starts c.args.block at a)
    (λ (G : Table) (a : Query). P G at a) now new c.in_ok-add_queries.ensures (λ G is a k. (here, k))
    (λ G is a k. k.1) in
    adds_step code P at old now new c.loop-at.invariant one

pub returns : goal.returns
returns c =
    let code = c.args.code.now in
    let starts = c.args.blocks.now.starts.now in
    let end = c.loop-at-test.false in
    let P : Table → ℕ → Query
    → Type 0 = λ G j a. IsIn starts c.args.block j × IsQueryAt G (insts_of code) starts c.args.block j a in
    let all = adds_end code P c.loop-at.at c.args.queries.now.items c.loop-at.queries.items c.loop-at.invariant
    (λ G is j a k. let to = k.0.to in omega (arith, to, end)) in
    adds_as code (λ (G : Table) (a : Query). (j : ℕ) × P G j a)
    (λ (G : Table) (a : Query). IsQueryIn G (insts_of code) starts c.args.block a) c.args.queries.now.items
    c.loop-at.queries.items all
    (λ G is a k. (k.0, k.1.0, k.1.1)) (λ G is a k. (k.0, (k.1, k.2)))

pub add_queries-requires-clause-at : goal.add_queries-requires-clause-at
add_queries-requires-clause-at c =
    let w = end_within c.args.code.now c.args.blocks.now c.requires.blocks (c.args.block + 1) c.requires.block in
    let to = c.loop-at-test.true in
    omega (arith, w, to)
