use Rattle.std.proofs.Common.{◌≡◌, ◌<◌, ◌∙◌, Some, get_or, sym, ap}
use Rattle.std.specs.Prelude.{slice_get}
use Rattle.std.proofs.lemmas.Bool.{eqb-true, both_ways}
use Rattle.spv_module.specs.declared.opcode.TheConstants as opcode
use Rattle.spv_module.specs.Operand.{PlainInst}
use Rattle.spv_module.specs.Module.{plain_inst}
use Rattle.spv_flow.specs.branches.inner.Code.{insts_of}
use Rattle.spv_flow.specs.branches.inner.Labels.{is_labelled}
use Rattle.spv_flow.specs.branches.Target.{is_phi, is_merge, is_branch}
use Rattle.spv_flow.proofs.lemmas.branches.Labelled.{inst_get, op_holds, op_tells}
use Rattle.spv_flow.proofs.lemmas.branches.Firsts.{phi_broken, phi_fine, at_other, low_phi, low_merge, low_branch}
use Rattle.spv_flow.proofs.branches.rules.broken_at.Goals as goal

pub has_parents-requires-clause-op : goal.has_parents-requires-clause-op
has_parents-requires-clause-op c =
    let code = c.args.code.now in
    let i : PlainInst = plain_inst (get_or code.insts.now c.args.at c.index-code-at.result) in
    let there : slice_get (insts_of code) c.args.at ≡ Some i = inst_get code.insts.now c.args.at c.index-code-at.result
    c.requires.at in
    op_holds (insts_of code) c.args.at i is_labelled there (ap is_labelled c.if-opcode-eq-PHI.true)

pub has_parents-requires-clause-gathered : goal.has_parents-requires-clause-gathered
has_parents-requires-clause-gathered c = λ G is.
    let code = c.args.code.now in
    let i : PlainInst = plain_inst (get_or code.insts.now c.args.at c.index-code-at.result) in
    let there : slice_get (insts_of code) c.args.at ≡ Some i = inst_get code.insts.now c.args.at c.index-code-at.result
    c.requires.at in
    c.requires.gathered G is (op_holds (insts_of code) c.args.at i is_phi there (ap is_phi c.if-opcode-eq-PHI.true))

pub has_parents-requires-clause-count : goal.has_parents-requires-clause-count
has_parents-requires-clause-count c =
    let code = c.args.code.now in
    let i : PlainInst = plain_inst (get_or code.insts.now c.args.at c.index-code-at.result) in
    let there : slice_get (insts_of code) c.args.at ≡ Some i = inst_get code.insts.now c.args.at c.index-code-at.result
    c.requires.at in
    c.requires.count (op_holds (insts_of code) c.args.at i is_phi there (ap is_phi c.if-opcode-eq-PHI.true))

pub has_parents-requires-clause-marks : goal.has_parents-requires-clause-marks
has_parents-requires-clause-marks c =
    let code = c.args.code.now in
    let i : PlainInst = plain_inst (get_or code.insts.now c.args.at c.index-code-at.result) in
    let there : slice_get (insts_of code) c.args.at ≡ Some i = inst_get code.insts.now c.args.at c.index-code-at.result
    c.requires.at in
    c.requires.marks (op_holds (insts_of code) c.args.at i is_phi there (ap is_phi c.if-opcode-eq-PHI.true))

pub merge_rule-requires-clause-op : goal.merge_rule-requires-clause-op
merge_rule-requires-clause-op c =
    let code = c.args.code.now in
    let i : PlainInst = plain_inst (get_or code.insts.now c.args.at c.index-code-at.result) in
    let there : slice_get (insts_of code) c.args.at ≡ Some i = inst_get code.insts.now c.args.at c.index-code-at.result
    c.requires.at in
    op_holds (insts_of code) c.args.at i is_merge there (sym c.is_merge.ensures ∙ c.if-is_merge.true)

pub branch_rule-requires-clause-op : goal.branch_rule-requires-clause-op
branch_rule-requires-clause-op c =
    let code = c.args.code.now in
    let i : PlainInst = plain_inst (get_or code.insts.now c.args.at c.index-code-at.result) in
    let there : slice_get (insts_of code) c.args.at ≡ Some i = inst_get code.insts.now c.args.at c.index-code-at.result
    c.requires.at in
    op_holds (insts_of code) c.args.at i is_branch there (sym c.is_branch.ensures ∙ c.if-is_branch.true)

pub returns-then-opcode-lt-PHI-clause-rule : goal.returns-then-opcode-lt-PHI-clause-rule
returns-then-opcode-lt-PHI-clause-rule c = λ G is q s b.
    let code = c.args.code.now in
    let i : PlainInst = plain_inst (get_or code.insts.now c.args.at c.index-code-at.result) in
    let there : slice_get (insts_of code) c.args.at ≡ Some i = inst_get code.insts.now c.args.at c.index-code-at.result
    c.requires.at in
    let low : i.opcode < opcode.PHI = c.if-opcode-lt-PHI.true in
    at_other c.args.fork G (insts_of code) q c.args.at
    (λ o. low_phi i.opcode low (op_tells (insts_of code) c.args.at i is_phi there o))
    (λ o. low_merge i.opcode low (op_tells (insts_of code) c.args.at i is_merge there o))
    (λ o. low_branch i.opcode low (op_tells (insts_of code) c.args.at i is_branch there o)) s b

pub returns-then-has_parents-clause-rule : goal.returns-then-has_parents-clause-rule
returns-then-has_parents-clause-rule c = λ G is.
    let code = c.args.code.now in
    let i : PlainInst = plain_inst (get_or code.insts.now c.args.at c.index-code-at.result) in
    let there : slice_get (insts_of code) c.args.at ≡ Some i = inst_get code.insts.now c.args.at c.index-code-at.result
    c.requires.at in
    phi_fine c.args.fork G (insts_of code) c.args.at (op_holds (insts_of code) c.args.at i is_phi there
    (ap is_phi c.if-opcode-eq-PHI.true)) (c.if-has_parents.ensures.parents G is)

pub returns-then-opcode-eq-PHI-clause-rule : goal.returns-then-opcode-eq-PHI-clause-rule
returns-then-opcode-eq-PHI-clause-rule c = λ G is.
    let code = c.args.code.now in
    let i : PlainInst = plain_inst (get_or code.insts.now c.args.at c.index-code-at.result) in
    let there : slice_get (insts_of code) c.args.at ≡ Some i = inst_get code.insts.now c.args.at c.index-code-at.result
    c.requires.at in
    phi_broken c.args.fork G (insts_of code) c.args.at
    (op_holds (insts_of code) c.args.at i is_phi there (ap is_phi c.if-opcode-eq-PHI.true))
    (c.if-has_parents.ensures.parents G is)

pub returns-clause-rule : goal.returns-clause-rule
returns-clause-rule c = λ G is q s b.
    let code = c.args.code.now in
    let i : PlainInst = plain_inst (get_or code.insts.now c.args.at c.index-code-at.result) in
    let there : slice_get (insts_of code) c.args.at ≡ Some i = inst_get code.insts.now c.args.at c.index-code-at.result
    c.requires.at in
    at_other c.args.fork G (insts_of code) q c.args.at
    (λ o. c.if-opcode-eq-PHI.false (eqb-true i.opcode opcode.PHI
    (op_tells (insts_of code) c.args.at i is_phi there o)))
    (λ o. both_ways c.is_merge.result c.if-is_merge.false
    (c.is_merge.ensures ∙ op_tells (insts_of code) c.args.at i is_merge there o))
    (λ o. both_ways c.is_branch.result c.if-is_branch.false
    (c.is_branch.ensures ∙ op_tells (insts_of code) c.args.at i is_branch there o)) s b
