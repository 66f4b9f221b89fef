use Rattle.std.proofs.Common.{◌≡◌, ◌≤◌, ℕ, Some, length, get_or, ap, arith}
use Rattle.std.specs.Prelude.{slice_get}
use Rattle.std.proofs.lemmas.List.{length-map}
use Rattle.spv_module.specs.Operand.{PlainInst}
use Rattle.spv_module.specs.declared.module.Inst.{Inst}
use Rattle.spv_module.specs.Module.{plain_inst, plain_operand}
use Rattle.spv_layout.specs.declared.form.Role.TheVariants.{Label}
use Rattle.spv_flow.specs.branches.inner.Code.{insts_of}
use Rattle.spv_flow.proofs.lemmas.branches.Labelled.{inst_get, use_at, use_in}
use Rattle.spv_flow_evidence.specs.branches.Evidence.{IsEvidence}
use Rattle.spv_flow_evidence.specs.branches.inner.Known.{IsEntryId}
use Rattle.spv_flow_evidence.proofs.lemmas.branches.Looking.{each_other, each_more, each_all}
use Rattle.spv_flow_evidence.proofs.branches.labels.entry_evidence.Goals as goal
use Rattle.spv_flow_evidence.proofs.branches.labels.entry_evidence.Goals.{in-Some+else-is_entry, in_default}

pub returns-then-is_entry : goal.returns-then-is_entry
returns-then-is_entry c = λ G is.
    let code = c.args.code.now in
    let x = c.in-Some.id in
    let i : PlainInst = plain_inst (get_or code.insts.now c.args.at c.index-code-at.result) in
    let there : slice_get (insts_of code) c.args.at ≡ Some i = inst_get code.insts.now c.args.at c.index-code-at.result
    c.requires.at in
    let used = use_at G (insts_of code) c.args.at c.loop-k.k x Label i there
    (c.in-Some.ensures G (is.plan.fits c.args.at i there)) in
    let e = c.if-is_entry.ensures G is in
    IsEvidence.to_entry c.args.at c.loop-k.k x e.place c.requires.op used e.defined e.entry

pub loop-k-preserved : goal.loop-k-preserved
loop-k-preserved c = λ G is.
    let code = c.args.code.now in
    let L = insts_of code in
    let P : ℕ → Type 0 = λ x. ¬ (IsEntryId L x) in
    let k = c.loop-k.k in
    let i : PlainInst = plain_inst (get_or code.insts.now c.args.at c.index-code-at.result) in
    let there : slice_get L c.args.at ≡ Some i = inst_get code.insts.now c.args.at c.index-code-at.result c.requires.at
    in
    let fits = is.plan.fits c.args.at i there in
    elim c.match-label.branch [
      | in-Some+else-is_entry w ↦ each_more G L c.args.at k w.in-Some.id P
          (use_at G L c.args.at k w.in-Some.id Label i there (w.in-Some.ensures G fits)) (w.if-is_entry.ensures G is)
          (c.loop-k.invariant G is)
      | in_default w ↦ each_other G L c.args.at k P
          (λ x u. w.in_default.ensures G fits x (use_in G L c.args.at k x Label i there u)) (c.loop-k.invariant G is)
    ]

pub unreachable-requires : goal.unreachable-requires
unreachable-requires c =
    let code = c.args.code.now in
    let L = insts_of code in
    let P : ℕ → Type 0 = λ x. ¬ (IsEntryId L x) in
    let inst : Inst = get_or code.insts.now c.args.at c.index-code-at.result in
    let i : PlainInst = plain_inst inst in
    let there : slice_get L c.args.at ≡ Some i = inst_get code.insts.now c.args.at c.index-code-at.result c.requires.at
    in
    let all : length i.operands ≤ c.loop-k.k = omega
    (arith, length-map inst.operands plain_operand, ap length c.as_slice-k-end.ensures.value) in
    let p = c.requires.broken in
    let G = p.0 in
    let is = p.1 in
    let leads = p.2 in
    each_all G L c.args.at c.loop-k.k i P there all (c.loop-k.invariant G is) leads.operand leads.id leads.used
    (record { place = leads.place; defined = leads.defined; entry = leads.entry })
