use Rattle.std.proofs.Common.{◌≡◌, ◌≤◌, inl, inr, ℕ, Some, length, get_or, ap, subst, arith}
use Rattle.std.specs.Prelude.{slice_get}
use Rattle.spv_module.specs.Operand.{PlainInst}
use Rattle.spv_module.specs.declared.module.Inst.{Inst}
use Rattle.spv_module.specs.Module.{plain_inst, plain_operand}
use Rattle.spv_layout.specs.declared.form.Role.TheVariants.{Label}
use Rattle.spv_flow.specs.branches.inner.Code.{insts_of}
use Rattle.spv_flow.specs.branches.inner.Labels.{is_labelled}
use Rattle.std.proofs.lemmas.Bool.{cases_lt}
use Rattle.std.proofs.lemmas.List.{length-map}
use Rattle.spv_ids.specs.Definition.{IsUsedAt}
use Rattle.spv_flow.specs.branches.Target.{IsLabelOf}
use Rattle.spv_flow.proofs.lemmas.branches.Labelled.{inst_get, op_tells, use_at, use_in, use_within, one_id}
use Rattle.spv_flow.proofs.branches.faults.has_labels.Goals as goal
use Rattle.spv_flow.proofs.branches.faults.has_labels.Goals.{in-Some+else-not-has_label, in_default}

pub label-requires : goal.label-requires
label-requires c =
    let code = c.args.code.now in
    let i : PlainInst = plain_inst (get_or code.insts.now c.args.at c.index-code-at.result) in
    let there : slice_get (insts_of code) c.args.at ≡ Some i = inst_get code.insts.now c.args.at c.index-code-at.result
    c.requires.at in
    op_tells (insts_of code) c.args.at i is_labelled there c.requires.op

pub returns-then-not-has_label : goal.returns-then-not-has_label
returns-then-not-has_label c = λ G is.
    let code = c.args.code.now in
    let i : PlainInst = plain_inst (get_or code.insts.now c.args.at c.index-code-at.result) in
    let there : slice_get (insts_of code) c.args.at ≡ Some i = inst_get code.insts.now c.args.at c.index-code-at.result
    c.requires.at in
    record {
      operand = c.loop-n.n;
      id = c.in-Some.id;
      used = use_at G (insts_of code) c.args.at c.loop-n.n c.in-Some.id Label i there
          (c.in-Some.ensures G (is.plan.fits c.args.at i there));
      none = c.if-not-has_label.ensures G is;
    }

pub loop-n-preserved : goal.loop-n-preserved
loop-n-preserved c = λ G is k x lt u.
    let code = c.args.code.now in
    let L = insts_of code in
    let i : PlainInst = plain_inst (get_or code.insts.now c.args.at c.index-code-at.result) in
    let there : slice_get (insts_of code) c.args.at ≡ Some i = inst_get code.insts.now c.args.at c.index-code-at.result
    c.requires.at in
    let fits = is.plan.fits c.args.at i there in
    elim (cases_lt k c.loop-n.n) [
      | inl less ↦ c.loop-n.invariant G is k x less u
      | inr more ↦ (
          let e : k ≡ c.loop-n.n = omega (arith, lt, more) in
          let here : IsUsedAt G L c.args.at c.loop-n.n x Label = subst
          (λ (j : ℕ). IsUsedAt G L c.args.at j x Label) e u in
          elim c.match-label.branch [
            | in-Some+else-not-has_label w ↦ (
                let f : w.in-Some.id ≡ x = one_id G L c.args.at c.loop-n.n w.in-Some.id x Label Label
                (use_at G L c.args.at c.loop-n.n w.in-Some.id Label i there (w.in-Some.ensures G fits)) here in
                let h = w.if-not-has_label.ensures G is in
                (h.0, subst (λ (y : ℕ). IsLabelOf L y h.0) f h.1))
            | in_default w ↦ absurd (w.in_default.ensures G fits x
                (use_in G L c.args.at c.loop-n.n x Label i there here))
          ])
    ]

pub returns : goal.returns
returns c = λ G is k x u.
    let code = c.args.code.now in
    let inst : Inst = get_or code.insts.now c.args.at c.index-code-at.result in
    let i : PlainInst = plain_inst inst in
    let there : slice_get (insts_of code) c.args.at ≡ Some i = inst_get code.insts.now c.args.at c.index-code-at.result
    c.requires.at in
    let all : length i.operands ≤ c.loop-n.n = omega
    (arith, length-map inst.operands plain_operand, ap length c.as_slice-n-end.ensures.value) in
    let w = use_within G i k x Label (use_in G (insts_of code) c.args.at k x Label i there u) in
    c.loop-n.invariant G is k x (omega arith) u
