use Rattle.std.proofs.Common.{◌≡◌, ◌∙◌, true, Some, get_or, refl, sym}
use Rattle.std.specs.Prelude.{slice_get}
use Rattle.std.proofs.lemmas.Bool.{eqb-true}
use Rattle.spv_module.specs.declared.opcode.TheConstants as opcode
use Rattle.spv_module.specs.Operand.{PlainInst}
use Rattle.spv_module.specs.Module.{plain_inst}
use Rattle.spv_flow.specs.branches.inner.Code.{insts_of}
use Rattle.spv_flow.specs.branches.inner.Labels.{is_labelled, is_label_at, is_jump}
use Rattle.spv_flow.proofs.lemmas.branches.Labelled.{inst_get, op_tells}
use Rattle.spv_flow.proofs.lemmas.branches.Firsts.{op_moved}
use Rattle.spv_flow.proofs.lemmas.branches.Direct.{used_by, jump_only, HasTwo, one_target, jump_labelled}
use Rattle.spv_flow.proofs.branches.faults.jump_targets.Goals as goal

pub targets_by_operand-requires-clause-op : goal.targets_by_operand-requires-clause-op
targets_by_operand-requires-clause-op c =
    op_moved (insts_of c.args.code.now) c.args.at is_jump is_labelled jump_labelled c.requires.op

pub returns : goal.returns
returns c = λ G is.
    let code = c.args.code.now in
    let L = insts_of code in
    let at = c.args.at in
    let i : PlainInst = plain_inst (get_or code.insts.now at c.index-code-at.result) in
    let there : slice_get L at ≡ Some i = inst_get code.insts.now at c.index-code-at.result c.requires.at in
    let e : i.opcode ≡ opcode.BRANCH = eqb-true i.opcode opcode.BRANCH (op_tells L at i is_jump there c.requires.op) in
    let fits = is.plan.fits at i there in
    let labelled : is_labelled opcode.BRANCH ≡ true = refl in
    let first : is_label_at opcode.BRANCH 0 ≡ true = refl in
    let used = used_by G L at 0 c.in-Some.id opcode.BRANCH i there e labelled first fits
    (sym c.in-Some.is ∙ c.id_at.ensures) in
    let has : HasTwo G L at 0 0 c.in-Some.id c.in-Some.id = record
    { one = used; two = used; only = jump_only G L at c.in-Some.id i there e fits used } in
    one_target G code at 0 c.in-Some.id c.target_of.result is has (c.target_of.ensures G is)
