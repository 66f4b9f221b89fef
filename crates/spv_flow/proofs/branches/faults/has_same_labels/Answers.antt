use Rattle.std.proofs.Common.{◌≡◌, ◌∙◌, ℕ, Bool, true, false, Some, nat_eq, List, get_or, refl, sym, subst}
use Rattle.std.specs.Prelude.{slice_get, MatchBool}
use Rattle.std.proofs.lemmas.Bool.{eqb-true, eqb-false}
use Rattle.spv_table.specs.Table.{Table}
use Rattle.spv_module.specs.Operand.{PlainInst}
use Rattle.spv_module.specs.Module.{plain_inst}
use Rattle.spv_layout.specs.declared.form.Role.TheVariants.{Label}
use Rattle.spv_ids.specs.Definition.{IsUsedAt}
use Rattle.spv_flow.specs.branches.inner.Code.{insts_of}
use Rattle.spv_flow.specs.branches.inner.Graph.{HasSameLabels}
use Rattle.spv_flow.specs.branches.inner.Labels.{is_labelled}
use Rattle.spv_flow.proofs.lemmas.branches.Labelled.{inst_get, op_tells, one_id, use_in, use_at}
use Rattle.spv_flow.proofs.branches.faults.has_same_labels.Goals as goal

same_by : (G : Table) (is : List PlainInst) (at j k one two : ℕ) (b : Bool) → nat_eq one two ≡ b
    → IsUsedAt G is at j one Label → IsUsedAt G is at k two Label
    → MatchBool b (HasSameLabels G is at j k) (¬ (HasSameLabels G is at j k))
same_by G is at j k one two true e u w =
    record { id = one; one = u; two = subst (λ (x : ℕ). IsUsedAt G is at k x Label) (sym (eqb-true one two e)) w }
same_by G is at j k one two false e u w =
    λ h. eqb-false one two e (one_id G is at j one h.id Label Label u h.one
    ∙ one_id G is at k h.id two Label Label h.two w)

pub label-requires : goal.label-requires
label-requires c =
    let code = c.args.code.now in
    let i : PlainInst = plain_inst (get_or code.insts.now c.args.at c.index-code-at.result) in
    let there : slice_get (insts_of code) c.args.at ≡ Some i = inst_get code.insts.now c.args.at c.index-code-at.result
    c.requires.at in
    op_tells (insts_of code) c.args.at i is_labelled there c.requires.op

pub label-requires-2 : goal.label-requires-2
label-requires-2 c =
    let code = c.args.code.now in
    let i : PlainInst = plain_inst (get_or code.insts.now c.args.at c.index-code-at.result) in
    let there : slice_get (insts_of code) c.args.at ≡ Some i = inst_get code.insts.now c.args.at c.index-code-at.result
    c.requires.at in
    op_tells (insts_of code) c.args.at i is_labelled there c.requires.op

pub returns-in_default : goal.returns-in_default
returns-in_default c = λ G is h.
    let code = c.args.code.now in
    let i : PlainInst = plain_inst (get_or code.insts.now c.args.at c.index-code-at.result) in
    let there : slice_get (insts_of code) c.args.at ≡ Some i = inst_get code.insts.now c.args.at c.index-code-at.result
    c.requires.at in
    c.in_default.ensures G (is.plan.fits c.args.at i there) h.id
    (use_in G (insts_of code) c.args.at c.args.one h.id Label i there h.one)

pub returns-in_default-label : goal.returns-in_default-label
returns-in_default-label c = λ G is h.
    let code = c.args.code.now in
    let i : PlainInst = plain_inst (get_or code.insts.now c.args.at c.index-code-at.result) in
    let there : slice_get (insts_of code) c.args.at ≡ Some i = inst_get code.insts.now c.args.at c.index-code-at.result
    c.requires.at in
    c.in_default-label.ensures G (is.plan.fits c.args.at i there) h.id
    (use_in G (insts_of code) c.args.at c.args.two h.id Label i there h.two)

pub returns : goal.returns
returns c = λ G is.
    let code = c.args.code.now in
    let L = insts_of code in
    let at = c.args.at in
    let i : PlainInst = plain_inst (get_or code.insts.now at c.index-code-at.result) in
    let there : slice_get L at ≡ Some i = inst_get code.insts.now at c.index-code-at.result c.requires.at in
    let fits = is.plan.fits at i there in
    same_by G L at c.args.one c.args.two c.in-Some.first c.in-Some-label.second
    (nat_eq c.in-Some.first c.in-Some-label.second) refl
    (use_at G L at c.args.one c.in-Some.first Label i there (c.in-Some.ensures G fits))
    (use_at G L at c.args.two c.in-Some-label.second Label i there (c.in-Some-label.ensures G fits))
