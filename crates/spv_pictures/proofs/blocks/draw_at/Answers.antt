use Rattle.std.proofs.Common.{◌≡◌, ◌+◌, ◌≤◌, ◌∙◌, length, map, ap, sym, arith}
use Rattle.std.proofs.lemmas.List.{length-map}
use Rattle.spv_module.specs.Module.{plain_inst}
use Rattle.spv_lines.specs.Text.{ended, inst_line}
use Rattle.spv_pictures.specs.Blocks.{picture_of}
use Rattle.spv_pictures.specs.inner.Rows.{function_at, plain_rows}
use Rattle.spv_pictures.proofs.Added.{if_ok}
use Rattle.spv_pictures.proofs.Drawn.{rows_drawn}
use Rattle.spv_pictures.proofs.blocks.draw_at.Goals as goal

pub returns : goal.returns
returns c = λ lines s.
    let insts = c.args.module.now.insts.items in
    let is = map plain_inst insts in
    let part = c.function_from-function.result.now in
    let n = c.args.place in
    let v = c.as_slice.ensures.value in
    let f : map plain_inst part ≡ function_at n is = c.function_from-function.ensures.insts
    ∙ ap (λ z. function_at n (map plain_inst z)) v in
    let e : length part ≡ length (map plain_inst part) = sym (length-map part plain_inst) in
    let h : n + length part ≤ length is =
    (let w = c.function_from-function.ensures.within in
    let l = ap length v in
    let m = length-map insts plain_inst in
    omega (arith, w, l, m)) in
    let t = c.as_str.ensures.value ∙ (c.in_ok-shown.ensures lines s
    ∙ ap (λ z. ended (map (inst_line lines) z)) (c.as_slice-2.ensures.value ∙ c.in_ok-numbers.ensures)) in
    let r = rows_drawn c.args.table.now is (map plain_inst part) lines n (length part) c.as_str.result.now
    (plain_rows c.in_ok-rows.rows.items) s f e h t c.in_ok-rows.ensures in
    if_ok c.draw.result _ _ c.draw.ensures
    (λ t p. p ∙ ap (picture_of c.args.marks.now.finding) (ap plain_rows c.as_slice-3.ensures.value ∙ r))
