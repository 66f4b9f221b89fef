use Rattle.std.proofs.Common.{◌≡◌, ◌≤◌, ◌+◌, List, Some, length, get_or, refl, sym, ap, arith}
use Rattle.std.specs.Prelude.{slice_get}
use Rattle.std.proofs.lemmas.List.{length-map}
use Rattle.spv_module.specs.Operand.{PlainInst}
use Rattle.spv_module.specs.declared.module.Inst.{Inst}
use Rattle.spv_module.specs.declared.operand.Operand.{Operand}
use Rattle.spv_module.specs.Module.{plain_inst, plain_operand, plain_operands}
use Rattle.spv_flow.specs.declared.branches.edges.Edges.{Edges}
use Rattle.spv_flow.specs.branches.inner.Code.{insts_of}
use Rattle.spv_flow.specs.branches.Target.{is_branch}
use Rattle.spv_flow.specs.branches.inner.Labels.{IsMadeOf}
use Rattle.spv_flow.proofs.lemmas.branches.Places.{branch_labelled}
use Rattle.spv_flow.proofs.lemmas.branches.Labelled.{inst_get, op_tells}
use Rattle.spv_flow.proofs.lemmas.branches.Gathering.{IsAdding, adding_other, adding_past, adding_none, adding_more}
use Rattle.spv_flow.proofs.lemmas.branches.Gathering.{adding_end}
use Rattle.spv_flow.proofs.branches.gather.add_targets.Goals as goal
use Rattle.spv_flow.proofs.branches.gather.add_targets.Goals.{in-Some-label_of+in_ok-add-in-Some, in_default}

pub label_in-requires : goal.label_in-requires
label_in-requires c =
    let code = c.args.code.now in
    let i : PlainInst = plain_inst (get_or code.insts.now c.args.at c.index-code-at.result) in
    let there : slice_get (insts_of code) c.args.at ≡ Some i = inst_get code.insts.now c.args.at c.index-code-at.result
    c.requires.at in
    branch_labelled i.opcode (op_tells (insts_of code) c.args.at i is_branch there c.requires.op)

pub next_label-n-requires-clause-labelled : goal.next_label-n-requires-clause-labelled
next_label-n-requires-clause-labelled c =
    let code = c.args.code.now in
    let i : PlainInst = plain_inst (get_or code.insts.now c.args.at c.index-code-at.result) in
    let there : slice_get (insts_of code) c.args.at ≡ Some i = inst_get code.insts.now c.args.at c.index-code-at.result
    c.requires.at in
    branch_labelled i.opcode (op_tells (insts_of code) c.args.at i is_branch there c.requires.op)

pub loop-n-preserved : goal.loop-n-preserved
loop-n-preserved c =
    let code = c.args.code.now in
    let old = c.args.edges.now in
    let n = c.loop-n.n in
    let i : PlainInst = plain_inst (get_or code.insts.now c.args.at c.index-code-at.result) in
    let there : slice_get (insts_of code) c.args.at ≡ Some i = inst_get code.insts.now c.args.at c.index-code-at.result
    c.requires.at in
    let made : IsMadeOf i i.opcode (plain_operands c.as_slice-operands.result.now) = record
    { of = refl; has = ap (λ (os : List Operand). plain_operands os) (sym c.as_slice-operands.ensures.value) } in
    adding_other code old c.loop-n.edges c.args.at c.args.block n i there
    (λ G f. c.in-None.ensures G i made f) c.loop-n.invariant

pub loop-n-preserved-in-Some : goal.loop-n-preserved-in-Some
loop-n-preserved-in-Some c =
    let code = c.args.code.now in
    let old = c.args.edges.now in
    let n = c.loop-n.n in
    let i : PlainInst = plain_inst (get_or code.insts.now c.args.at c.index-code-at.result) in
    let there : slice_get (insts_of code) c.args.at ≡ Some i = inst_get code.insts.now c.args.at c.index-code-at.result
    c.requires.at in
    let made : IsMadeOf i i.opcode (plain_operands c.as_slice-operands.result.now) = record
    { of = refl; has = ap (λ (os : List Operand). plain_operands os) (sym c.as_slice-operands.ensures.value) } in
    let next = c.next_label-n.result in
    let past : (e : Edges) → IsAdding code old e c.args.at c.args.block (n + 1)
    → IsAdding code old e c.args.at c.args.block next =
    λ e h. adding_past code old e c.args.at c.args.block n next i there
    (λ G k x f low high u. c.next_label-n.ensures.same G i k x made f low high u) h in
    elim c.match-label_of.branch [
      | in-Some-label_of+in_ok-add-in-Some w ↦
          (rw w.edges-is (past w.add.new.self
          (adding_more code old c.loop-n.edges w.add.new.self c.args.at c.args.block n c.in-Some.id
          w.in-Some-label_of.target i there (λ G f. c.in-Some.ensures G i made f)
          (λ G is. w.in-Some-label_of.ensures.label G is) w.in_ok-add-in-Some.ensures c.loop-n.invariant)))
      | in_default w ↦ (rw w.edges-is (past c.loop-n.edges
          (adding_none code old c.loop-n.edges c.args.at c.args.block n c.in-Some.id i there
          (λ G f. c.in-Some.ensures G i made f)
          (λ G is. w.in_default.ensures.label G is) c.loop-n.invariant)))
    ]

pub returns-clause-adds : goal.returns-clause-adds
returns-clause-adds c =
    let code = c.args.code.now in
    let inst : Inst = get_or code.insts.now c.args.at c.index-code-at.result in
    let i : PlainInst = plain_inst inst in
    let there : slice_get (insts_of code) c.args.at ≡ Some i = inst_get code.insts.now c.args.at c.index-code-at.result
    c.requires.at in
    let end = c.loop-n-test.false in
    let all : length i.operands ≤ c.loop-n.n = omega
    (arith, end, length-map inst.operands plain_operand, ap length c.as_slice-operands.ensures.value) in
    λ G is of. adding_end code c.args.edges.now c.loop-n.edges c.args.at c.args.block c.loop-n.n i there all
    c.loop-n.invariant G is c.requires.op of
