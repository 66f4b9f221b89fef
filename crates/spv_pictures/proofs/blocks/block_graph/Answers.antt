use Rattle.std.proofs.Common.{◌∙◌, [], map, ap, sym}
use Rattle.std.specs.List.{position}
use Rattle.spv_module.specs.declared.module.Inst.{Inst}
use Rattle.spv_module.specs.Module.{plain_inst}
use Rattle.spv_pictures.specs.Blocks.{picture_of}
use Rattle.spv_pictures.specs.Function.{is_function}
use Rattle.spv_pictures.specs.inner.Rows.{rows_at}
use Rattle.spv_pictures.proofs.Added.{if_ok}
use Rattle.spv_pictures.proofs.Drawn.{found_drawn, none_drawn}
use Rattle.spv_pictures.proofs.blocks.block_graph.Goals as goal

pub returns-in-Some : goal.returns-in-Some
returns-in-Some c = λ lines s.
    let insts = c.args.module.now.insts.items in
    let x = c.args.function in
    let n = c.in-Some.place in
    let e = c.in-Some.ensures ∙ ap (position (λ (i : Inst). is_function x (plain_inst i)))
    c.as_slice-insts.ensures.value in
    let d = found_drawn c.args.table.now insts lines x n s e in
    if_ok c.draw_at.result _ _ (c.draw_at.ensures lines s)
    (λ t p. p ∙ (ap (λ z. picture_of z (rows_at n (map plain_inst insts) lines)) c.in_ok-marks.ensures.finding
    ∙ ap (picture_of c.args.finding) (sym d)))

pub returns : goal.returns
returns c = λ lines s.
    let insts = c.args.module.now.insts.items in
    let x = c.args.function in
    let e = c.in-None.ensures ∙ ap (position (λ (i : Inst). is_function x (plain_inst i)))
    c.as_slice-insts.ensures.value in
    let d = none_drawn c.args.table.now insts lines x s e in
    if_ok c.draw.result _ _ c.draw.ensures
    (λ t p. p ∙ (ap (λ z. picture_of z []) c.in_ok-marks.ensures.finding ∙ ap (picture_of c.args.finding) (sym d)))
