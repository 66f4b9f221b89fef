use Rattle.std.proofs.Common.{◌≡◌, ◌≤◌, ◌+◌, ◌++◌, ℕ, List, [], ◌∷◌, Vec, Global, Some, length, get_or, sym, ap, subst}
use Rattle.std.proofs.Common.{arith}
use Rattle.std.specs.Prelude.{slice_get}
use Rattle.std.proofs.lemmas.List.{length-map}
use Rattle.spv_table.specs.Table.{Table}
use Rattle.spv_module.specs.Operand.{PlainInst}
use Rattle.spv_module.specs.declared.module.Inst.{Inst}
use Rattle.spv_module.specs.Module.{plain_inst, plain_operand}
use Rattle.spv_layout.specs.declared.form.Role.TheVariants.{Value}
use Rattle.spv_graphs.specs.declared.queries.Query.{Query}
use Rattle.spv_flow.proofs.lemmas.branches.Labelled.{inst_get, use_in, use_within}
use Rattle.spv_flow.specs.walks.inner.Code.{insts_of}
use Rattle.spv_flow.specs.walks.inner.Due.{IsPairQuery}
use Rattle.spv_flow.specs.walks.inner.Adds.{AddsBy}
use Rattle.spv_flow.proofs.lemmas.walks.Adding.{UpTo, adds_none, adds_one, adds_step, adds_end}
use Rattle.spv_flow.proofs.lemmas.walks.Asking.{one_pair}
use Rattle.spv_flow.proofs.walks.queries.add_pairs.Goals as goal
use Rattle.spv_flow.proofs.walks.queries.add_pairs.Goals.{in-Some+in_ok-push, in_default}

pub loop-n-preserved : goal.loop-n-preserved
loop-n-preserved c =
    let code = c.args.code.now in
    let starts = c.args.blocks.now.starts.now in
    let n = c.loop-n.n in
    let old = c.args.queries.now.items in
    let now = c.loop-n.queries.items in
    let P : Table → ℕ → Query → Type 0 = λ G j a. IsPairQuery G (insts_of code) starts c.args.at j a in
    elim c.match-pair_query.branch [
      | in-Some+in_ok-push w ↦ (
          let one = adds_one code (λ G a. P G n a) now w.in-Some.query (λ G is. w.in-Some.ensures G is)
          (λ G is a p. one_pair G code c.args.blocks.now c.args.at c.loop-n.n w.in-Some.query a is c.requires.blocks
          (w.in-Some.ensures G is) p) in
          let all = adds_step code P n old now (now ++ w.in-Some.query ∷ []) c.loop-n.invariant one in
          let pushed = subst (λ (xs : List Query). AddsBy code (UpTo (n + 1) P) old xs)
          (sym w.in_ok-push.ensures.items) all in
          subst (λ (v : Vec Query Global). AddsBy code (UpTo (n + 1) P) old v.items) (sym w.queries-is) pushed)
      | in_default w ↦ (
          let none = adds_none code (λ G a. P G n a) now (λ G is. w.in_default.ensures G is) in
          let all = adds_step code P n old now now c.loop-n.invariant none in
          subst (λ (v : Vec Query Global). AddsBy code (UpTo (n + 1) P) old v.items) (sym w.queries-is) all)
    ]

pub returns : goal.returns
returns c =
    let code = c.args.code.now in
    let starts = c.args.blocks.now.starts.now in
    let inst : Inst = get_or code.insts.now c.args.at c.index-code-at.result in
    let i : PlainInst = plain_inst inst in
    let there : slice_get (insts_of code) c.args.at ≡ Some i = inst_get code.insts.now c.args.at c.index-code-at.result
    c.requires.at in
    let all : length i.operands ≤ c.loop-n.n = omega
    (arith, length-map inst.operands plain_operand, ap length c.as_slice-n-end.ensures.value) in
    adds_end code (λ (G : Table) (j : ℕ) (a : Query). IsPairQuery G (insts_of code) starts c.args.at j a) c.loop-n.n
    c.args.queries.now.items c.loop-n.queries.items c.loop-n.invariant
    (λ G is j a u. let lt = use_within G i j u.value Value
    (use_in G (insts_of code) c.args.at j u.value Value i there u.paired) in omega (arith, lt, all))
