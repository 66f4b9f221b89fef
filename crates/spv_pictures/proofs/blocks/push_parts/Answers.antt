use Rattle.std.proofs.Common.{◌++◌, ◌∙◌, ap, sym, flat_map, string_bytes}
use Rattle.std.proofs.lemmas.List.{take_rest}
use Rattle.spv_pictures.specs.Blocks.{begins_block, begins_part, part_text}
use Rattle.spv_pictures.specs.Function.{groups}
use Rattle.spv_pictures.specs.inner.Rows.{plain_row}
use Rattle.spv_pictures.proofs.Grouped.{left_one}
use Rattle.spv_pictures.proofs.blocks.push_parts.Goals as goal

pub loop-at-preserved : goal.loop-at-preserved
loop-at-preserved c =
    let r = rw take_rest at c.in_ok-push_first.ensures in
    ap (λ z. string_bytes c.push_first.new.out
    ++ flat_map (part_text c.args.marks.now.finding) (groups begins_part begins_block z))
    (sym (left_one plain_row c.args.rows.now c.loop-at.at)) ∙ (r ∙ c.loop-at.invariant)
