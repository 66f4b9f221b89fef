use Rattle.std.proofs.Common.{◌<◌, ◌∙◌, map, take, length, arith, ap, List, get_or}
use Rattle.spv_module.specs.declared.module.Inst.{Inst}
use Rattle.spv_module.specs.Module.{plain_inst}
use Rattle.spv_printer.proofs.Encoded.{put_first, put_step, put_refused}
use Rattle.spv_printer.proofs.encoder.put_instructions.Goals as goal

pub loop-number-init : goal.loop-number-init
loop-number-init c = put_first c.args.table.now c.args.module.now.insts.items _ c.args.module.now.header _
    c.requires.header c.new-definitions.ensures

pub returns-in-Err-clause-refused : goal.returns-in-Err-clause-refused
returns-in-Err-clause-refused c =
    let items = c.args.module.now.insts.items in
    let i = c.loop-number.number in
    let p = c.loop-number.invariant in
    let e = c.inst-item.is ∙ ap (λ (xs : List Inst). get_or xs i c.inst-item.result) c.deref-inst-items.ensures.value in
    let h : i < length items = omega arith in
    rw c.error_at.ensures
    (put_refused c.args.table.now c.args.module.now _ _ i c.inst-item.result c.inst-item.result c.in-Err.code p
    c.requires.fits h e (c.in-Err.ensures.prevented (map plain_inst (take i items)) p.knows))

pub loop-number-preserved : goal.loop-number-preserved
loop-number-preserved c =
    let items = c.args.module.now.insts.items in
    let i = c.loop-number.number in
    let p = c.loop-number.invariant in
    let e = c.inst-item.is ∙ ap (λ (xs : List Inst). get_or xs i c.inst-item.result) c.deref-inst-items.ensures.value in
    let h : i < length items = omega arith in
    put_step c.args.table.now items _ _ c.args.module.now.header _ _ i c.inst-item.result c.inst-item.result p h e
    (c.in-Ok.ensures.added (map plain_inst (take i items)) p.knows)
    (rw c.as_slice.ensures.value at (c.in_ok-add.ensures.knows (map plain_inst (take i items)) p.knows))
    c.in-Ok.ensures.short
