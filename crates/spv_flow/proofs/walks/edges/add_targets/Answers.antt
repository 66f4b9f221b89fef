use Rattle.std.proofs.Common.{◌+◌, ◌-◌, ◌∙◌, ℕ, List, get_or, sym, subst, arith}
use Rattle.std.specs.Prelude.{slice_index}
use Rattle.std.proofs.lemmas.List.{length-map}
use Rattle.std.proofs.lemmas.Result.{on_ok_weaker}
use Rattle.spv_table.specs.Table.{Table}
use Rattle.spv_module.specs.Module.{plain_inst}
use Rattle.spv_flow.specs.branches.Target.{is_branch, IsOp}
use Rattle.spv_flow.specs.branches.inner.Target.{is_terminator}
use Rattle.spv_flow.proofs.lemmas.branches.Labelled.{inst_get, op_tells, op_holds}
use Rattle.spv_flow.specs.walks.inner.Adds.{AddsBy}
use Rattle.spv_flow.specs.walks.inner.Code.{insts_of}
use Rattle.spv_flow.specs.walks.inner.Leading.{LeadsTo}
use Rattle.spv_flow.proofs.lemmas.walks.Starting.{few_blocks, block_last}
use Rattle.spv_flow.proofs.lemmas.walks.Targets.{labels_lead, next_leads, none_next, none_after}
use Rattle.spv_flow.proofs.walks.edges.add_targets.Goals as goal
use Rattle.spv_flow.proofs.walks.edges.add_targets.Goals.{else-not-is_terminator-via-then-not-is_terminator+else-block-blocks}
use Rattle.spv_flow.proofs.walks.edges.add_targets.Goals.{else-not-is_terminator-via-else-not-is_terminator}

pub add_labels-requires-clause-op : goal.add_labels-requires-clause-op
add_labels-requires-clause-op c =
    let code = c.args.code.now in
    let b = c.args.blocks.now in
    let last : ℕ = slice_index b.starts.now (c.args.block + 1) - 1 in
    let h = block_last code b c.requires.blocks c.args.block c.requires.block in
    let i = plain_inst (get_or code.insts.now last c.index-code-last.result) in
    let there = inst_get code.insts.now last c.index-code-last.result h.2 in
    op_holds (insts_of code) last i is_branch there (sym c.is_branch.ensures ∙ c.if-is_branch.true)

pub returns-then-is_branch : goal.returns-then-is_branch
returns-then-is_branch c =
    let code = c.args.code.now in
    let b = c.args.blocks.now in
    let last : ℕ = slice_index b.starts.now (c.args.block + 1) - 1 in
    let h = block_last code b c.requires.blocks c.args.block c.requires.block in
    let i = plain_inst (get_or code.insts.now last c.index-code-last.result) in
    let there = inst_get code.insts.now last c.index-code-last.result h.2 in
    let branch = op_holds (insts_of code) last i is_branch there (sym c.is_branch.ensures ∙ c.if-is_branch.true) in
    on_ok_weaker c.add_labels.result (λ g. labels_lead code b.starts.now c.args.block last c.args.targets.now.items
    c.add_labels.new.targets.items branch h.1 g) c.add_labels.ensures

pub overflow_cast-block : goal.overflow_cast-block
overflow_cast-block c =
    let b = c.args.blocks.now in
    let l = c.requires.blocks.laid in
    let h = few_blocks (insts_of c.args.code.now) b.function b.end b.starts.now b.numbers.now l in
    let w = l.extent.within in
    let m = c.requires.most in
    let n = length-map c.args.code.now.insts.now plain_inst in
    let t = c.if-block-blocks.true in
    omega (arith, h, w, m, n, t)

pub overflow_add-block-then-block-blocks : goal.overflow_add-block-then-block-blocks
overflow_add-block-then-block-blocks c =
    let b = c.args.blocks.now in
    let l = c.requires.blocks.laid in
    let h = few_blocks (insts_of c.args.code.now) b.function b.end b.starts.now b.numbers.now l in
    let w = l.extent.within in
    let m = c.requires.most in
    let n = length-map c.args.code.now.insts.now plain_inst in
    let t = c.if-block-blocks.true in
    omega (arith, h, w, m, n, t)

pub returns-in_ok-push : goal.returns-in_ok-push
returns-in_ok-push c =
    let code = c.args.code.now in
    let b = c.args.blocks.now in
    let last : ℕ = slice_index b.starts.now (c.args.block + 1) - 1 in
    let h = block_last code b c.requires.blocks c.args.block c.requires.block in
    let i = plain_inst (get_or code.insts.now last c.index-code-last.result) in
    let there = inst_get code.insts.now last c.index-code-last.result h.2 in
    let plain : ¬ (IsOp (insts_of code) last is_branch) = λ o. (
    let t = op_tells (insts_of code) last i is_branch there o in
    let f = sym c.is_branch.ensures ∙ c.if-is_branch.false in
    cc) in
    let open_end : ¬ (IsOp (insts_of code) last is_terminator) = λ o. (
    let t = op_tells (insts_of code) last i is_terminator there o in
    let f = sym c.is_terminator.ensures ∙ c.if-not-is_terminator.true in
    cc) in
    subst (λ (xs : List ℕ). AddsBy code (λ (G : Table) (t : ℕ). LeadsTo G (insts_of code) b.starts.now c.args.block t)
    c.args.targets.now.items xs) (sym c.in_ok-push.ensures.items)
    (next_leads code b.function b.starts.now c.args.block last c.args.targets.now.items c.requires.blocks.laid.divided
    plain open_end h.1 c.if-block-blocks.true)

pub returns-else-not-is_terminator : goal.returns-else-not-is_terminator
returns-else-not-is_terminator c =
    let code = c.args.code.now in
    let b = c.args.blocks.now in
    let last : ℕ = slice_index b.starts.now (c.args.block + 1) - 1 in
    let h = block_last code b c.requires.blocks c.args.block c.requires.block in
    let i = plain_inst (get_or code.insts.now last c.index-code-last.result) in
    let there = inst_get code.insts.now last c.index-code-last.result h.2 in
    let plain : ¬ (IsOp (insts_of code) last is_branch) = λ o. (
    let t = op_tells (insts_of code) last i is_branch there o in
    let f = sym c.is_branch.ensures ∙ c.if-is_branch.false in
    cc) in
    elim c.else-not-is_terminator.branch [
      | else-not-is_terminator-via-then-not-is_terminator+else-block-blocks w ↦ (
          let f = w.if-block-blocks.false in
          none_next code b.function b.starts.now c.args.block last c.args.targets.now.items
          c.requires.blocks.laid.divided plain h.1 c.requires.block (omega (arith, f)))
      | else-not-is_terminator-via-else-not-is_terminator w ↦ (
          let ended = op_holds (insts_of code) last i is_terminator there
          (sym c.is_terminator.ensures ∙ w.if-not-is_terminator.false) in
          none_after code b.starts.now c.args.block last c.args.targets.now.items plain ended h.1)
    ]

pub overflow_sub-last : goal.overflow_sub-last
overflow_sub-last c = (block_last c.args.code.now c.args.blocks.now c.requires.blocks c.args.block c.requires.block).0

pub bounds-code-last : goal.bounds-code-last
bounds-code-last c = (block_last c.args.code.now c.args.blocks.now c.requires.blocks c.args.block c.requires.block).2

pub add_labels-requires-clause-at : goal.add_labels-requires-clause-at
add_labels-requires-clause-at c =
    (block_last c.args.code.now c.args.blocks.now c.requires.blocks c.args.block c.requires.block).2
