use Rattle.std.proofs.Common.{◌≡◌, ◌∙◌, true, Some, get_or, refl, sym}
use Rattle.std.specs.Prelude.{slice_get}
use Rattle.std.proofs.lemmas.Bool.{eqb-true}
use Rattle.spv_module.specs.declared.opcode.TheConstants as opcode
use Rattle.spv_module.specs.Operand.{PlainInst}
use Rattle.spv_module.specs.Module.{plain_inst}
use Rattle.spv_flow.specs.branches.inner.Code.{insts_of}
use Rattle.spv_flow.specs.branches.inner.Labels.{is_labelled, is_label_at}
use Rattle.spv_flow.specs.branches.Target.{is_conditional}
use Rattle.spv_flow.proofs.lemmas.branches.Labelled.{inst_get, op_tells}
use Rattle.spv_flow.proofs.lemmas.branches.Firsts.{op_moved}
use Rattle.spv_flow.proofs.lemmas.branches.Direct.{used_by, conditional_only, HasTwo, both_targets}
use Rattle.spv_flow.proofs.lemmas.branches.Direct.{conditional_labelled}
use Rattle.spv_flow.proofs.branches.faults.conditional_targets.Goals as goal

pub targets_by_operand-requires-clause-op : goal.targets_by_operand-requires-clause-op
targets_by_operand-requires-clause-op c =
    op_moved (insts_of c.args.code.now) c.args.at is_conditional is_labelled conditional_labelled c.requires.op

pub targets_by_operand-requires-in_default-id_at-clause-op : goal.targets_by_operand-requires-in_default-id_at-clause-op
targets_by_operand-requires-in_default-id_at-clause-op c =
    op_moved (insts_of c.args.code.now) c.args.at is_conditional is_labelled conditional_labelled c.requires.op

pub returns : goal.returns
returns c = λ G is.
    let code = c.args.code.now in
    let L = insts_of code in
    let at = c.args.at in
    let i : PlainInst = plain_inst (get_or code.insts.now at c.index-code-at.result) in
    let there : slice_get L at ≡ Some i = inst_get code.insts.now at c.index-code-at.result c.requires.at in
    let e : i.opcode ≡ opcode.BRANCH_CONDITIONAL = eqb-true i.opcode opcode.BRANCH_CONDITIONAL
    (op_tells L at i is_conditional there c.requires.op) in
    let fits = is.plan.fits at i there in
    let labelled : is_labelled opcode.BRANCH_CONDITIONAL ≡ true = refl in
    let first : is_label_at opcode.BRANCH_CONDITIONAL 1 ≡ true = refl in
    let second : is_label_at opcode.BRANCH_CONDITIONAL 2 ≡ true = refl in
    let one = used_by G L at 1 c.in-Some.one opcode.BRANCH_CONDITIONAL i there e labelled first fits
    (sym c.in-Some.is ∙ c.id_at.ensures) in
    let two = used_by G L at 2 c.in-Some-id_at.two opcode.BRANCH_CONDITIONAL i there e labelled second fits
    (sym c.in-Some-id_at.is ∙ c.id_at-2.ensures) in
    let has : HasTwo G L at 1 2 c.in-Some.one c.in-Some-id_at.two = record {
      one = one;
      two = two;
      only = conditional_only G L at c.in-Some.one c.in-Some-id_at.two i there e fits one
          two;
    } in
    rw c.joined.ensures (both_targets G code at 1 2 c.in-Some.one c.in-Some-id_at.two c.target_of-first.result
    c.target_of-second.result is has (c.target_of-first.ensures G is) (c.target_of-second.ensures G is))
