use Rattle.std.proofs.Common.{◌≡◌, ◌<◌, ◌+◌, ◌∙◌, ℕ, suc, List, [], ◌∷◌, map, length, take, drop, sym, ap, arith}
use Rattle.std.specs.List.{position_or_len}
use Rattle.std.proofs.lemmas.List.{take-map, take_rest}
use Rattle.spv_pictures.specs.Blocks.{begins_block}
use Rattle.spv_pictures.specs.declared.rows.Row.{Row}
use Rattle.spv_pictures.specs.inner.Rows.{first_part, plain_row, plain_rows}
use Rattle.spv_pictures.proofs.blocks.part_of.Goals as goal

taken : (rows : List Row) (n : ℕ) → 0 < length rows → n ≡ position_or_len begins_block (plain_rows (drop 1 rows))
    → plain_rows (take (1 + n) rows) ≡ first_part (plain_rows rows)
taken [] n h e = absurd (omega arith)
taken (r ∷ rows) n h e =
    let q : 1 + n ≡ suc n = omega arith in
    rw q (ap (λ z. plain_row r ∷ z) (sym (take-map plain_row n rows) ∙ ap (λ k. take k (map plain_row rows)) e))

pub returns : goal.returns
returns c =
    taken c.args.rows.now c.count_to_block.result c.requires
    (c.count_to_block.ensures.count ∙ ap (λ z. position_or_len begins_block (plain_rows z))
    (take_rest c.args.rows.now 1))
