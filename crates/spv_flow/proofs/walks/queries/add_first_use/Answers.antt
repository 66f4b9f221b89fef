use Rattle.std.proofs.Common.{◌≡◌, ◌∙◌, Some, nat_le, ◌&&◌, get_or, sym}
use Rattle.std.specs.Prelude.{slice_get}
use Rattle.spv_module.specs.declared.opcode.TheConstants as opcode
use Rattle.spv_table.specs.Table.{Table}
use Rattle.spv_module.specs.Operand.{PlainInst}
use Rattle.spv_module.specs.Module.{plain_inst}
use Rattle.spv_graphs.specs.declared.queries.Query.{Query}
use Rattle.spv_flow.proofs.lemmas.branches.Labelled.{inst_get, op_tells}
use Rattle.spv_flow.specs.walks.inner.Code.{insts_of}
use Rattle.spv_flow.specs.walks.inner.Due.{IsUseQuery, HasUseQuery}
use Rattle.spv_flow.proofs.lemmas.walks.Adding.{adds_none, adds_as}
use Rattle.spv_flow.proofs.lemmas.walks.Asking.{no_use, no_asked}
use Rattle.spv_flow.proofs.lemmas.walks.Used.{none_found}
use Rattle.spv_flow.proofs.lemmas.walks.Branching.{within_by, none_asked_here, at_first}
use Rattle.spv_flow.proofs.walks.queries.add_first_use.Goals as goal

pub add_use-requires-clause-id : goal.add_use-requires-clause-id
add_use-requires-clause-id c =
    let code = c.args.code.now in
    let i : PlainInst = plain_inst (get_or code.insts.now c.args.at c.index-code-at.result) in
    let there : slice_get (insts_of code) c.args.at ≡ Some i = inst_get code.insts.now c.args.at c.index-code-at.result
    c.requires.at in
    (i, there, sym c.in-Some.is ∙ c.use_id.ensures)

pub returns-then-inst-le-BRANCH : goal.returns-then-inst-le-BRANCH
returns-then-inst-le-BRANCH c =
    let code = c.args.code.now in
    let starts = c.args.blocks.now.starts.now in
    let i : PlainInst = plain_inst (get_or code.insts.now c.args.at c.index-code-at.result) in
    let there : slice_get (insts_of code) c.args.at ≡ Some i = inst_get code.insts.now c.args.at c.index-code-at.result
    c.requires.at in
    let h = within_by i.opcode (op_tells (insts_of code) c.args.at i
    (λ n. nat_le opcode.LABEL n && nat_le n opcode.SWITCH) there c.requires.op) in
    adds_none code (λ (G : Table) (a : Query). HasUseQuery G (insts_of code) starts c.args.block c.args.at a)
    c.args.queries.now.items
    (λ G is a. none_asked_here G code starts c.args.block c.args.at i a is there h c.if-inst-le-BRANCH.true)

pub returns-in_ok-add_use : goal.returns-in_ok-add_use
returns-in_ok-add_use c =
    let code = c.args.code.now in
    let starts = c.args.blocks.now.starts.now in
    let i : PlainInst = plain_inst (get_or code.insts.now c.args.at c.index-code-at.result) in
    let there : slice_get (insts_of code) c.args.at ≡ Some i = inst_get code.insts.now c.args.at c.index-code-at.result
    c.requires.at in
    let h = within_by i.opcode (op_tells (insts_of code) c.args.at i
    (λ n. nat_le opcode.LABEL n && nat_le n opcode.SWITCH) there c.requires.op) in
    let P : Table → Query → Type 0 = λ G a. IsUseQuery G (insts_of code) starts c.args.block c.args.at 0 a in
    let Q : Table → Query → Type 0 = λ G a. HasUseQuery G (insts_of code) starts c.args.block c.args.at a in
    adds_as code P Q c.args.queries.now.items c.add_use.new.queries.items c.in_ok-add_use.ensures (λ G is a u. (0, u))
    (λ G is a k. at_first G code starts c.args.block c.args.at i a is there h k)

pub returns-else-not-is_settled : goal.returns-else-not-is_settled
returns-else-not-is_settled c =
    let code = c.args.code.now in
    let starts = c.args.blocks.now.starts.now in
    let old = c.args.queries.now.items in
    let i : PlainInst = plain_inst (get_or code.insts.now c.args.at c.index-code-at.result) in
    let there : slice_get (insts_of code) c.args.at ≡ Some i = inst_get code.insts.now c.args.at c.index-code-at.result
    c.requires.at in
    let h = within_by i.opcode (op_tells (insts_of code) c.args.at i
    (λ n. nat_le opcode.LABEL n && nat_le n opcode.SWITCH) there c.requires.op) in
    let P : Table → Query → Type 0 = λ G a. IsUseQuery G (insts_of code) starts c.args.block c.args.at 0 a in
    let Q : Table → Query → Type 0 = λ G a. HasUseQuery G (insts_of code) starts c.args.block c.args.at a in
    let used = sym c.in-Some.is ∙ c.use_id.ensures in
    let none = adds_none code P old (λ G is. no_asked G code starts c.args.block c.args.at 0 c.in-Some.id i is there
    used (rw (← c.requires.start) (c.is_settled.ensures G is c.if-not-is_settled.false))) in
    adds_as code P Q old old none (λ G is a u. (0, u))
    (λ G is a k. at_first G code starts c.args.block c.args.at i a is there h k)

pub returns-in_default : goal.returns-in_default
returns-in_default c =
    let code = c.args.code.now in
    let starts = c.args.blocks.now.starts.now in
    let old = c.args.queries.now.items in
    let i : PlainInst = plain_inst (get_or code.insts.now c.args.at c.index-code-at.result) in
    let there : slice_get (insts_of code) c.args.at ≡ Some i = inst_get code.insts.now c.args.at c.index-code-at.result
    c.requires.at in
    let h = within_by i.opcode (op_tells (insts_of code) c.args.at i
    (λ n. nat_le opcode.LABEL n && nat_le n opcode.SWITCH) there c.requires.op) in
    let P : Table → Query → Type 0 = λ G a. IsUseQuery G (insts_of code) starts c.args.block c.args.at 0 a in
    let Q : Table → Query → Type 0 = λ G a. HasUseQuery G (insts_of code) starts c.args.block c.args.at a in
    let unused = sym c.in_default.is ∙ c.use_id.ensures in
    let none = adds_none code P old (λ G is. no_use G code starts c.args.block c.args.at 0
    (none_found G (insts_of code) c.args.at 0 i there unused)) in
    adds_as code P Q old old none (λ G is a u. (0, u))
    (λ G is a k. at_first G code starts c.args.block c.args.at i a is there h k)
