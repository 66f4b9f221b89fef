use Rattle.std.proofs.Common.{◌≡◌, ◌≤◌, ◌+◌, List, Bool, true, Some, length, get_or, refl, sym, ap, arith}
use Rattle.std.specs.Prelude.{slice_get}
use Rattle.spv_module.specs.Operand.{PlainInst}
use Rattle.spv_module.specs.declared.module.Inst.{Inst}
use Rattle.spv_module.specs.declared.operand.Operand.{Operand}
use Rattle.spv_module.specs.Module.{plain_inst, plain_operand, plain_operands}
use Rattle.spv_layout.specs.declared.form.Role.TheVariants.{Label}
use Rattle.spv_flow.specs.branches.inner.Code.{insts_of}
use Rattle.spv_flow.specs.branches.inner.Labels.{is_labelled, IsMadeOf}
use Rattle.std.proofs.lemmas.Bool.{both_ways}
use Rattle.std.proofs.lemmas.List.{length-map}
use Rattle.spv_flow.specs.branches.inner.Edges.{marked}
use Rattle.spv_flow.specs.branches.Target.{IsEntryLabel}
use Rattle.spv_flow.proofs.lemmas.branches.Labelled.{inst_get, op_tells, use_at, use_in}
use Rattle.spv_flow.proofs.lemmas.branches.Looking.{IsLooking, looking_start, looking_other, looking_past}
use Rattle.spv_flow.proofs.lemmas.branches.Looking.{looking_enters, looking_passes, looking_labels, looking_free}
use Rattle.spv_flow.proofs.branches.faults.targets_by_operand.Goals as goal
use Rattle.spv_flow.proofs.branches.faults.targets_by_operand.Goals.{then-entries-target, else-entries-target}

pub label_in-requires : goal.label_in-requires
label_in-requires c =
    let code = c.args.code.now in
    let i : PlainInst = plain_inst (get_or code.insts.now c.args.at c.index-code-at.result) in
    let there : slice_get (insts_of code) c.args.at ≡ Some i = inst_get code.insts.now c.args.at c.index-code-at.result
    c.requires.at in
    op_tells (insts_of code) c.args.at i is_labelled there c.requires.op

pub next_label-n-requires-clause-labelled : goal.next_label-n-requires-clause-labelled
next_label-n-requires-clause-labelled c =
    let code = c.args.code.now in
    let i : PlainInst = plain_inst (get_or code.insts.now c.args.at c.index-code-at.result) in
    let there : slice_get (insts_of code) c.args.at ≡ Some i = inst_get code.insts.now c.args.at c.index-code-at.result
    c.requires.at in
    op_tells (insts_of code) c.args.at i is_labelled there c.requires.op

pub loop-n-init : goal.loop-n-init
loop-n-init c = λ G is. looking_start G c.args.code.now c.args.at

pub returns-in_default : goal.returns-in_default
returns-in_default c = λ G is.
    let code = c.args.code.now in
    let i : PlainInst = plain_inst (get_or code.insts.now c.args.at c.index-code-at.result) in
    let there : slice_get (insts_of code) c.args.at ≡ Some i = inst_get code.insts.now c.args.at c.index-code-at.result
    c.requires.at in
    let made : IsMadeOf i i.opcode (plain_operands c.as_slice-operands.result.now) = record
    { of = refl; has = ap (λ (os : List Operand). plain_operands os) (sym c.as_slice-operands.ensures.value) } in
    record {
      operand = c.loop-n.n;
      id = c.in-Some.id;
      used = use_at G (insts_of code) c.args.at c.loop-n.n c.in-Some.id Label i there
          (c.in-Some.ensures G i made (is.plan.fits c.args.at i there));
      none = c.in_default.ensures.label G is;
    }

pub loop-n-preserved : goal.loop-n-preserved
loop-n-preserved c = λ G is.
    let code = c.args.code.now in
    let L = insts_of code in
    let n = c.loop-n.n in
    let i : PlainInst = plain_inst (get_or code.insts.now c.args.at c.index-code-at.result) in
    let there : slice_get (insts_of code) c.args.at ≡ Some i = inst_get code.insts.now c.args.at c.index-code-at.result
    c.requires.at in
    let fits = is.plan.fits c.args.at i there in
    let made : IsMadeOf i i.opcode (plain_operands c.as_slice-operands.result.now) = record
    { of = refl; has = ap (λ (os : List Operand). plain_operands os) (sym c.as_slice-operands.ensures.value) } in
    looking_other G code c.args.at c.loop-n.enters n
    (λ x u. c.in-None.ensures G i made fits x (use_in G L c.args.at n x Label i there u)) (c.loop-n.invariant G is)

pub loop-n-preserved-in-Some : goal.loop-n-preserved-in-Some
loop-n-preserved-in-Some c = λ G is.
    let code = c.args.code.now in
    let L = insts_of code in
    let n = c.loop-n.n in
    let i : PlainInst = plain_inst (get_or code.insts.now c.args.at c.index-code-at.result) in
    let there : slice_get (insts_of code) c.args.at ≡ Some i = inst_get code.insts.now c.args.at c.index-code-at.result
    c.requires.at in
    let fits = is.plan.fits c.args.at i there in
    let made : IsMadeOf i i.opcode (plain_operands c.as_slice-operands.result.now) = record
    { of = refl; has = ap (λ (os : List Operand). plain_operands os) (sym c.as_slice-operands.ensures.value) } in
    let next = c.next_label-n.result in
    let past : (b : Bool) → IsLooking G code c.args.at b (n + 1)
    → IsLooking G code c.args.at b next = λ b h. looking_past G code c.args.at b n next (λ k x low high u.
    use_at G L c.args.at n x Label i there
    (c.next_label-n.ensures.same G i k x made fits low high (use_in G L c.args.at k x Label i there u))) h in
    let t = c.in-Some-label_of.target in
    let used = use_at G L c.args.at n c.in-Some.id Label i there (c.in-Some.ensures G i made fits) in
    let label = c.in-Some-label_of.ensures.label G is in
    elim c.if-entries-target.branch [
      | then-entries-target w ↦ (rw w.enters-is
          (past true (looking_enters G code c.args.at c.loop-n.enters n c.in-Some.id t used label
          (c.requires.entries.sound t w.if-entries-target.true) (c.loop-n.invariant G is))))
      | else-entries-target w ↦ (
          let no_entry : ¬ (IsEntryLabel L t) = λ e. both_ways (marked c.args.entries.now t) w.if-entries-target.false
          (c.requires.entries.complete t c.in-Some-label_of.ensures.within e) in
          rw w.enters-is (past c.loop-n.enters
          (looking_passes G code c.args.at c.loop-n.enters n c.in-Some.id t is used label no_entry
          (c.loop-n.invariant G is))))
    ]

pub returns-then-enters : goal.returns-then-enters
returns-then-enters c = λ G is.
    let code = c.args.code.now in
    let inst : Inst = get_or code.insts.now c.args.at c.index-code-at.result in
    let i : PlainInst = plain_inst inst in
    let there : slice_get (insts_of code) c.args.at ≡ Some i = inst_get code.insts.now c.args.at c.index-code-at.result
    c.requires.at in
    let end = c.loop-n-test.false in
    let all : length i.operands ≤ c.loop-n.n = omega
    (arith, end, length-map inst.operands plain_operand, ap length c.as_slice-operands.ensures.value) in
    let looking = c.loop-n.invariant G is in
    (looking_labels G code c.args.at c.loop-n.enters c.loop-n.n i there all looking, looking.entry c.if-enters.true)

pub returns-else-enters : goal.returns-else-enters
returns-else-enters c = λ G is.
    let code = c.args.code.now in
    let inst : Inst = get_or code.insts.now c.args.at c.index-code-at.result in
    let i : PlainInst = plain_inst inst in
    let there : slice_get (insts_of code) c.args.at ≡ Some i = inst_get code.insts.now c.args.at c.index-code-at.result
    c.requires.at in
    let end = c.loop-n-test.false in
    let all : length i.operands ≤ c.loop-n.n = omega
    (arith, end, length-map inst.operands plain_operand, ap length c.as_slice-operands.ensures.value) in
    let looking = c.loop-n.invariant G is in (
      looking_labels G code c.args.at c.loop-n.enters c.loop-n.n i there all looking,
      looking_free G code c.args.at c.loop-n.enters c.loop-n.n i there all c.if-enters.false looking,
    )
