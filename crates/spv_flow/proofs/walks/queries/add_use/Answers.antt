use Rattle.spv_table.specs.Table.{Table}
use Rattle.spv_graphs.specs.declared.queries.Query.{Query}
use Rattle.spv_flow.specs.walks.inner.Code.{insts_of}
use Rattle.spv_flow.specs.walks.inner.Due.{IsUseQuery}
use Rattle.spv_flow.proofs.lemmas.walks.Adding.{adds_none, adds_one}
use Rattle.spv_flow.proofs.lemmas.walks.Asking.{one_use}
use Rattle.spv_flow.proofs.walks.queries.add_use.Goals as goal

pub returns-in_ok-push : goal.returns-in_ok-push
returns-in_ok-push c =
    let code = c.args.code.now in
    let starts = c.args.blocks.now.starts.now in
    let P : Table → Query → Type 0 = λ G a. IsUseQuery G (insts_of code) starts c.args.block c.args.at c.args.n a in
    let query = c.in-Some.query in
    rw c.in_ok-push.ensures.items (adds_one code P c.args.queries.now.items query (λ G is. c.in-Some.ensures G is)
    (λ G is a p. one_use G code starts c.args.block c.args.at c.args.n query a is (c.in-Some.ensures G is) p))

pub returns-in_default : goal.returns-in_default
returns-in_default c =
    let code = c.args.code.now in
    let starts = c.args.blocks.now.starts.now in
    let P : Table → Query → Type 0 = λ G a. IsUseQuery G (insts_of code) starts c.args.block c.args.at c.args.n a in
    adds_none code P c.args.queries.now.items (λ G is. c.in_default.ensures G is)
