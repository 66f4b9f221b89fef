use Rattle.std.proofs.Common.{◌∙◌, ap, sym, inl, inr, string_bytes}
use Rattle.spv_inst.specs.inner.Written.{is_without_zero}
use Rattle.spv_parser.proofs.Taken.{no_quoted}
use Rattle.spv_parser.proofs.operands.read_text_token.Goals as goal
use Rattle.spv_parser.proofs.operands.read_text_token.Goals.{else-is_break-via-then-is_break+else-is_text}
use Rattle.spv_parser.proofs.operands.read_text_token.Goals.{else-is_break-via-else-is_break}

pub returns-else-is_break : goal.returns-else-is_break
returns-else-is_break c =
    let q = rw c.in-Some.is at c.in_ok-behind.ensures in
    no_quoted c.args.rest.now (string_bytes c.read_quoted.new.out) c.in-Some.behind.now q
    (elim c.else-is_break.branch [
      | else-is_break-via-then-is_break+else-is_text w ↦
          inl (ap is_without_zero (sym w.as_str.ensures.value) ∙ (sym w.is_text.ensures ∙ w.if-is_text.false))
      | else-is_break-via-else-is_break w ↦ inr (c.is_break.ensures.1 w.if-is_break.false)
    ])
