use Rattle.std.proofs.Common.{ℕ, arith}
use Rattle.spv_module.specs.Operand.{PlainInst}
use Rattle.spv_declarations.specs.inner.Said.{HasAt, ImportsBy}
use Rattle.spv_declarations.proofs.Gathered.{gathers_more}
use Rattle.spv_declarations.proofs.Spanned.{gathers_before, gathers_span, import_says}
use Rattle.spv_declarations.proofs.Stated.{has_import_early}
use Rattle.spv_declarations.proofs.Without.{not_imported}
use Rattle.spv_declarations.proofs.initialized.imported.Goals as goal

pub loop-number-init : goal.loop-number-init
loop-number-init c =
    let is = c.args.definitions.now in
    gathers_before is (λ (i : PlainInst) (x : ℕ). HasAt is (ImportsBy c.args.linkage) x i) c.args.front.now.count
    c.args.front.now.spans
    c.new-imported.result c.requires.spans (λ i x. import_says is c.args.linkage x i) c.new-imported.ensures.empty

pub inst-requires : goal.inst-requires
inst-requires c = let w = c.requires.spans.within.1 in omega (arith, w)

pub add_imported-requires-clause-inst : goal.add_imported-requires-clause-inst
add_imported-requires-clause-inst c = (c.loop-number.number, c.inst.ensures)

pub loop-number-preserved : goal.loop-number-preserved
loop-number-preserved c =
    let is = c.args.definitions.now in
    gathers_more is (λ (i : PlainInst) (x : ℕ). HasAt is (ImportsBy c.args.linkage) x i) c.loop-number.number _
    c.loop-number.imported c.add_imported.new.imported c.inst.ensures c.in_ok-add_imported.ensures
    c.loop-number.invariant

pub returns : goal.returns
returns c =
    let is = c.args.definitions.now in
    gathers_span is (λ (i : PlainInst) (x : ℕ). HasAt is (ImportsBy c.args.linkage) x i) c.args.front.now.count
    c.loop-number.number c.args.front.now.spans c.loop-number.imported c.requires.early c.requires.spans
    (λ i x. has_import_early is c.args.linkage x i) (λ i x. import_says is c.args.linkage x i) (omega arith)
    c.loop-number.invariant

pub returns-then-not-front : goal.returns-then-not-front
returns-then-not-front c = not_imported c.args.definitions.now c.args.linkage c.args.front.now.count
    c.args.front.now.kinds c.new-imported.result c.requires.early c.requires.kinds c.if-not-front.true
    c.new-imported.ensures.empty
