use Rattle.std.proofs.Common.{◌≡◌, ◌≤◌, ◌+◌, ◌∙◌, ℕ, Vec, Global, Some, length, get_or, sym, ap, subst, arith}
use Rattle.std.specs.Prelude.{slice_get}
use Rattle.std.proofs.lemmas.List.{length-map}
use Rattle.spv_table.specs.Table.{Table}
use Rattle.spv_module.specs.Operand.{PlainInst}
use Rattle.spv_module.specs.declared.module.Inst.{Inst}
use Rattle.spv_module.specs.Module.{plain_inst, plain_operand}
use Rattle.spv_graphs.specs.declared.queries.Query.{Query}
use Rattle.spv_flow.proofs.lemmas.branches.Labelled.{inst_get, use_in, use_within}
use Rattle.spv_flow.specs.walks.inner.Code.{insts_of}
use Rattle.spv_flow.specs.walks.inner.Due.{IsUseQuery}
use Rattle.spv_flow.specs.walks.inner.Adds.{AddsBy}
use Rattle.spv_flow.proofs.lemmas.walks.Adding.{UpTo, adds_none, adds_step, adds_end}
use Rattle.spv_flow.proofs.lemmas.walks.Asking.{no_use, no_asked}
use Rattle.spv_flow.proofs.lemmas.walks.Used.{none_found, id_in}
use Rattle.spv_flow.proofs.walks.queries.add_uses.Goals as goal
use Rattle.spv_flow.proofs.walks.queries.add_uses.Goals.{in-Some+then-not-is_settled+in_ok-add_use}
use Rattle.spv_flow.proofs.walks.queries.add_uses.Goals.{in-Some+else-not-is_settled, in_default}

pub add_use-requires-clause-id : goal.add_use-requires-clause-id
add_use-requires-clause-id c =
    let code = c.args.code.now in
    let inst : Inst = get_or code.insts.now c.args.at c.index-code-at.result in
    let there = inst_get code.insts.now c.args.at c.index-code-at.result c.requires.at in
    let e = id_in inst.operands c.as_slice-operands.result.now c.loop-n.n c.as_slice-operands.ensures.value in
    (plain_inst inst, there, sym c.in-Some.is ∙ c.use_id_in.ensures ∙ e)

pub loop-n-preserved : goal.loop-n-preserved
loop-n-preserved c =
    let code = c.args.code.now in
    let starts = c.args.blocks.now.starts.now in
    let n = c.loop-n.n in
    let old = c.args.queries.now.items in
    let now = c.loop-n.queries.items in
    let inst : Inst = get_or code.insts.now c.args.at c.index-code-at.result in
    let there = inst_get code.insts.now c.args.at c.index-code-at.result c.requires.at in
    let e = id_in inst.operands c.as_slice-operands.result.now n c.as_slice-operands.ensures.value in
    let P : Table → ℕ → Query → Type 0 = λ G j a. IsUseQuery G (insts_of code) starts c.args.block c.args.at j a in
    elim c.match-use_id_in.branch [
      | in-Some+then-not-is_settled+in_ok-add_use w ↦ (
          let all = adds_step code P n old now w.add_use.new.queries.items c.loop-n.invariant w.in_ok-add_use.ensures in
          subst (λ (v : Vec Query Global). AddsBy code (UpTo (n + 1) P) old v.items) (sym w.queries-is) all)
      | in-Some+else-not-is_settled w ↦ (
          let used = sym w.in-Some.is ∙ c.use_id_in.ensures ∙ e in
          let none = adds_none code (λ G a. P G n a) now
          (λ G is. no_asked G code starts c.args.block c.args.at n w.in-Some.id (plain_inst inst) is there used
          (rw (← c.requires.start) (w.is_settled.ensures G is w.if-not-is_settled.false))) in
          let all = adds_step code P n old now now c.loop-n.invariant none in
          subst (λ (v : Vec Query Global). AddsBy code (UpTo (n + 1) P) old v.items) (sym w.queries-is) all)
      | in_default w ↦ (
          let unused = sym w.in_default.is ∙ c.use_id_in.ensures ∙ e in
          let none = adds_none code (λ G a. P G n a) now
          (λ G is. no_use G code starts c.args.block c.args.at n
          (none_found G (insts_of code) c.args.at n (plain_inst inst) there unused)) in
          let all = adds_step code P n old now now c.loop-n.invariant none in
          subst (λ (v : Vec Query Global). AddsBy code (UpTo (n + 1) P) old v.items) (sym w.queries-is) all)
    ]

pub returns : goal.returns
returns c =
    let code = c.args.code.now in
    let starts = c.args.blocks.now.starts.now in
    let inst : Inst = get_or code.insts.now c.args.at c.index-code-at.result in
    let i : PlainInst = plain_inst inst in
    let there : slice_get (insts_of code) c.args.at ≡ Some i = inst_get code.insts.now c.args.at c.index-code-at.result
    c.requires.at in
    let end = c.loop-n-test.false in
    let all : length i.operands ≤ c.loop-n.n = omega
    (arith, end, length-map inst.operands plain_operand, ap length c.as_slice-operands.ensures.value) in
    adds_end code (λ (G : Table) (j : ℕ) (a : Query). IsUseQuery G (insts_of code) starts c.args.block c.args.at j a)
    c.loop-n.n c.args.queries.now.items c.loop-n.queries.items c.loop-n.invariant
    (λ G is j a u. let lt = use_within G i j u.id u.role
    (use_in G (insts_of code) c.args.at j u.id u.role i there u.used) in omega (arith, lt, all))
