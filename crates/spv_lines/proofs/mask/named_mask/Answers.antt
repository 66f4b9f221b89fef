use Rattle.std.specs.Prelude.{option_map}
use Rattle.spv_lines.specs.inner.Answer.{names_in}
use Rattle.spv_lines.proofs.Named.{nought_named, not_alone, no_first_named, first_named}
use Rattle.spv_lines.proofs.mask.named_mask.Goals as goal
use Rattle.spv_lines.proofs.mask.named_mask.Goals.{else-first-eq0-via-then-first-eq0+else-is_none}
use Rattle.spv_lines.proofs.mask.named_mask.Goals.{else-first-eq0-via-else-first-eq0}

pub returns-in_default : goal.returns-in_default
returns-in_default c =
    no_first_named (names_in c.args.table.now c.args.kind) c.args.text.now c.split_cell.result.0.now
    (option_map (λ t. t.now) c.split_cell.result.1) c.split_cell.ensures c.in_default.ensures

pub returns-then-is_none : goal.returns-then-is_none
returns-then-is_none c =
    nought_named (λ t. t.now) (names_in c.args.table.now c.args.kind) c.args.text.now c.split_cell.result.0.now
    c.in-Some.first c.split_cell.result.1 c.is_none.result c.split_cell.ensures c.in-Some.ensures c.if-first-eq0.true
    c.is_none.ensures c.if-is_none.true

pub named_bits-requires : goal.named_bits-requires
named_bits-requires c = (c.split_cell.result.0.now, c.split_cell.ensures, c.in-Some.ensures)

pub returns : goal.returns
returns c = elim c.else-first-eq0.branch [
  | else-first-eq0-via-then-first-eq0+else-is_none w ↦
      first_named (λ t. t.now) (names_in c.args.table.now c.args.kind) c.args.text.now c.split_cell.result.0.now
      c.in-Some.first c.split_cell.result.1 _ c.split_cell.ensures c.in-Some.ensures
      (λ e f. not_alone c.split_cell.result.1 w.is_none.result w.is_none.ensures w.if-is_none.false f)
      c.named_bits.ensures
  | else-first-eq0-via-else-first-eq0 w ↦
      first_named (λ t. t.now) (names_in c.args.table.now c.args.kind) c.args.text.now c.split_cell.result.0.now
      c.in-Some.first c.split_cell.result.1 _ c.split_cell.ensures c.in-Some.ensures
      (λ e f. w.if-first-eq0.false e) c.named_bits.ensures
]
