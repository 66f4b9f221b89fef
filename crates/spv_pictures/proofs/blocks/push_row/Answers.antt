use Rattle.std.proofs.Common.{string_bytes}
use Rattle.std.specs.Prelude.{codes}
use Rattle.spv_pictures.specs.Blocks.{row_text}
use Rattle.spv_pictures.specs.inner.Rows.{plain_row}
use Rattle.spv_pictures.proofs.Added.{on_pushed, three, two}
use Rattle.spv_pictures.proofs.blocks.push_row.Goals as goal

pub returns-then-is_fault : goal.returns-then-is_fault
returns-then-is_fault c =
    rw c.if-is_fault.true
    (on_pushed c.push_str-then-is_fault.result _ (string_bytes c.push_str-then-is_fault.new.self)
    (string_bytes c.push_row_text.new.out)
    (codes "</FONT><BR ALIGN=\"LEFT\"/>") c.push_str-then-is_fault.ensures.bytes
    (λ p. three (string_bytes c.args.out.now) (codes "<FONT COLOR=\"red\">") (row_text (plain_row c.args.row.now))
    (codes "</FONT><BR ALIGN=\"LEFT\"/>") _ _ _ c.in_ok-push_str.ensures.bytes c.in_ok-push_row_text.ensures p))

pub returns : goal.returns
returns c =
    rw c.if-is_fault.false
    (on_pushed c.push_str-2.result _ (string_bytes c.push_str-2.new.self) (string_bytes c.push_row_text-2.new.out)
    (codes "<BR ALIGN=\"LEFT\"/>") c.push_str-2.ensures.bytes
    (λ p. two (string_bytes c.args.out.now) (row_text (plain_row c.args.row.now))
    (codes "<BR ALIGN=\"LEFT\"/>") _ _ c.in_ok-push_row_text-2.ensures p))
