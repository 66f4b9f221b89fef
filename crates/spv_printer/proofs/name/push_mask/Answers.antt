use Rattle.std.proofs.Common.{◌∙◌, sym, string_bytes}
use Rattle.spv_table.specs.Table.{kind_of}
use Rattle.spv_inst.specs.Reading.{enumerants_at}
use Rattle.spv_printer.proofs.BitNames.{nameless_mask, mask_shown}
use Rattle.spv_printer.proofs.name.push_mask.Goals as goal

pub returns-clause-text : goal.returns-clause-text
returns-clause-text c =
    mask_shown c.push_names.result (enumerants_at (kind_of c.args.table.now c.args.kind)) c.args.mask
    (string_bytes c.args.out.now) (string_bytes c.push_names.new.out) c.if-mask-eq0.false
    (sym (c.in_ok-is_mask_named.ensures.named ∙ c.if-not-branch.false)) c.push_names.ensures.text

pub returns-then-not-branch-clause-text : goal.returns-then-not-branch-clause-text
returns-then-not-branch-clause-text c =
    rw (← nameless_mask (enumerants_at (kind_of c.args.table.now c.args.kind)) c.args.mask c.if-mask-eq0.false
    (sym (c.in_ok-is_mask_named.ensures.named ∙ c.if-not-branch.true))) c.push_marked.ensures
