use Rattle.std.proofs.Common.{◌≡◌, ◌≤◌, ◌+◌, ◌++◌, ℕ, List, [], ◌∷◌, Vec, Global, Some, length, get_or, refl, sym, ap}
use Rattle.std.proofs.Common.{subst, arith}
use Rattle.std.specs.Prelude.{slice_get}
use Rattle.std.proofs.lemmas.List.{length-map}
use Rattle.spv_table.specs.Table.{Table}
use Rattle.spv_module.specs.Operand.{PlainInst}
use Rattle.spv_module.specs.declared.module.Inst.{Inst}
use Rattle.spv_module.specs.declared.operand.Operand.{Operand}
use Rattle.spv_module.specs.Module.{plain_inst, plain_operand, plain_operands}
use Rattle.spv_layout.specs.declared.form.Role.TheVariants.{Label}
use Rattle.spv_flow.specs.branches.Target.{is_branch}
use Rattle.spv_flow.specs.branches.inner.Labels.{IsMadeOf}
use Rattle.spv_flow.proofs.lemmas.branches.Labelled.{inst_get, op_tells, use_at, use_in, use_within}
use Rattle.spv_flow.proofs.lemmas.branches.Places.{branch_labelled}
use Rattle.spv_flow.specs.walks.inner.Code.{insts_of, IsCode}
use Rattle.spv_flow.specs.walks.inner.Leading.{IsLabelAt}
use Rattle.spv_flow.specs.walks.inner.Adds.{AddsBy}
use Rattle.spv_flow.proofs.lemmas.walks.Adding.{UpTo, adds_none, adds_one, adds_past, adds_step, adds_end}
use Rattle.spv_flow.proofs.lemmas.walks.Asking.{no_label, one_target}
use Rattle.spv_flow.proofs.walks.edges.add_labels.Goals as goal
use Rattle.spv_flow.proofs.walks.edges.add_labels.Goals.{in-Some-block_at+in_ok-push-in-Some, in_default}

pub label_in-requires : goal.label_in-requires
label_in-requires c =
    let code = c.args.code.now in
    let i : PlainInst = plain_inst (get_or code.insts.now c.args.at c.index-code-at.result) in
    let there : slice_get (insts_of code) c.args.at ≡ Some i = inst_get code.insts.now c.args.at c.index-code-at.result
    c.requires.at in
    branch_labelled i.opcode (op_tells (insts_of code) c.args.at i is_branch there c.requires.op)

pub next_label-n-requires-clause-labelled : goal.next_label-n-requires-clause-labelled
next_label-n-requires-clause-labelled c =
    let code = c.args.code.now in
    let i : PlainInst = plain_inst (get_or code.insts.now c.args.at c.index-code-at.result) in
    let there : slice_get (insts_of code) c.args.at ≡ Some i = inst_get code.insts.now c.args.at c.index-code-at.result
    c.requires.at in
    branch_labelled i.opcode (op_tells (insts_of code) c.args.at i is_branch there c.requires.op)

pub loop-n-preserved : goal.loop-n-preserved
loop-n-preserved c =
    let code = c.args.code.now in
    let starts = c.args.blocks.now.starts.now in
    let n = c.loop-n.n in
    let old = c.args.targets.now.items in
    let now = c.loop-n.targets.items in
    let inst : Inst = get_or code.insts.now c.args.at c.index-code-at.result in
    let i : PlainInst = plain_inst inst in
    let there : slice_get (insts_of code) c.args.at ≡ Some i = inst_get code.insts.now c.args.at c.index-code-at.result
    c.requires.at in
    let made : IsMadeOf i i.opcode (plain_operands c.as_slice-operands.result.now) = record
    { of = refl; has = ap (λ (os : List Operand). plain_operands os) (sym c.as_slice-operands.ensures.value) } in
    let P : Table → ℕ → ℕ → Type 0 = λ G j a. IsLabelAt G (insts_of code) starts c.args.at j a in
    let none = adds_none code (λ G a. P G n a) now
    (λ G is. no_label G code starts c.args.at n i is there
    (c.in-None.ensures G i made (is.plan.fits c.args.at i there))) in
    adds_step code P n old now now c.loop-n.invariant none

pub loop-n-preserved-in-Some : goal.loop-n-preserved-in-Some
loop-n-preserved-in-Some c =
    let code = c.args.code.now in
    let starts = c.args.blocks.now.starts.now in
    let n = c.loop-n.n in
    let old = c.args.targets.now.items in
    let now = c.loop-n.targets.items in
    let inst : Inst = get_or code.insts.now c.args.at c.index-code-at.result in
    let i : PlainInst = plain_inst inst in
    let there : slice_get (insts_of code) c.args.at ≡ Some i = inst_get code.insts.now c.args.at c.index-code-at.result
    c.requires.at in
    let made : IsMadeOf i i.opcode (plain_operands c.as_slice-operands.result.now) = record
    { of = refl; has = ap (λ (os : List Operand). plain_operands os) (sym c.as_slice-operands.ensures.value) } in
    let P : Table → ℕ → ℕ → Type 0 = λ G j a. IsLabelAt G (insts_of code) starts c.args.at j a in
    let next = c.next_label-n.result in
    let further = c.next_label-n.ensures.further in
    let past : (xs : List ℕ) → AddsBy code (UpTo (n + 1) P) old xs
    → AddsBy code (UpTo next P) old xs =
    λ xs h. adds_past code P (n + 1) next old xs (omega (arith, further)) h (λ G is j a low high l. (
    let u = c.next_label-n.ensures.same G i j l.id made (is.plan.fits c.args.at i there) (omega (arith, low)) high
    (use_in G (insts_of code) c.args.at j l.id Label i there l.used) in (
      n,
      omega arith,
      record {
        id = l.id;
        used = use_at G (insts_of code) c.args.at n l.id Label i there u;
        inside = l.inside;
        label = l.label;
      },
    ))) in
    elim c.match-block_at.branch [
      | in-Some-block_at+in_ok-push-in-Some w ↦ (
          let block = w.in-Some-block_at.block in
          let found : (G : Table) (is : IsCode G code)
          → P G n block = λ G is. w.in-Some-block_at.ensures G c.args.at n i is there
          (c.in-Some.ensures G i made (is.plan.fits c.args.at i there)) in
          let one = adds_one code (λ G a. P G n a) now block found
          (λ G is a p. one_target G code c.args.blocks.now c.args.at c.loop-n.n block a is c.requires.blocks
          (found G is) p) in
          let all = past (now ++ block ∷ []) (adds_step code P n old now (now ++ block ∷ []) c.loop-n.invariant one) in
          let pushed = subst (λ (xs : List ℕ). AddsBy code (UpTo next P) old xs)
          (sym w.in_ok-push-in-Some.ensures.items) all in
          subst (λ (v : Vec ℕ Global). AddsBy code (UpTo next P) old v.items) (sym w.targets-is) pushed)
      | in_default w ↦ (
          let none = adds_none code (λ G a. P G n a) now
          (λ G is. w.in_default.ensures G c.args.at n i is there
          (c.in-Some.ensures G i made (is.plan.fits c.args.at i there))) in
          let all = past now (adds_step code P n old now now c.loop-n.invariant none) in
          subst (λ (v : Vec ℕ Global). AddsBy code (UpTo next P) old v.items) (sym w.targets-is) all)
    ]

pub returns : goal.returns
returns c =
    let code = c.args.code.now in
    let starts = c.args.blocks.now.starts.now in
    let inst : Inst = get_or code.insts.now c.args.at c.index-code-at.result in
    let i : PlainInst = plain_inst inst in
    let there : slice_get (insts_of code) c.args.at ≡ Some i = inst_get code.insts.now c.args.at c.index-code-at.result
    c.requires.at in
    let end = c.loop-n-test.false in
    let all : length i.operands ≤ c.loop-n.n = omega
    (arith, end, length-map inst.operands plain_operand, ap length c.as_slice-operands.ensures.value) in
    adds_end code (λ (G : Table) (j : ℕ) (a : ℕ). IsLabelAt G (insts_of code) starts c.args.at j a) c.loop-n.n
    c.args.targets.now.items c.loop-n.targets.items c.loop-n.invariant
    (λ G is j a u. let lt = use_within G i j u.id Label
    (use_in G (insts_of code) c.args.at j u.id Label i there u.used) in omega (arith, lt, all))
