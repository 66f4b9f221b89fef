use Rattle.std.proofs.Common.{ap, List, ℕ, Bor}
use Rattle.spv_module.specs.Module.{plain_operand}
use Rattle.spv_parser.proofs.Opening.{value_opened, mask_opened, value_plain, mask_plain}
use Rattle.spv_parser.proofs.seen.kinds_behind.Goals as goal

pub returns-in-Value : goal.returns-in-Value
returns-in-Value c =
    let e = ap plain_operand c.in-Value.is in
    record {
      kinds = value_opened (λ (ks : Bor (List ℕ)). ks.now) c.args.table.now _ _
          (plain_operand c.args.operand.now) c.value_kinds.result e c.value_kinds.ensures;
      plain = value_plain _ _ (plain_operand c.args.operand.now) c.value_kinds.result e;
    }

pub returns-in-Mask : goal.returns-in-Mask
returns-in-Mask c =
    let e = ap plain_operand c.in-Mask.is in
    record {
      kinds = mask_opened (λ (ks : Bor (List ℕ)). ks.now) c.args.table.now _ _
          (plain_operand c.args.operand.now) c.mask_kinds.result e c.mask_kinds.ensures;
      plain = mask_plain _ _ (plain_operand c.args.operand.now) c.mask_kinds.result e;
    }
