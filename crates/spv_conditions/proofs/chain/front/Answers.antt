use Rattle.std.proofs.Common.{◌∙◌, sym, ap, arith}
use Rattle.std.proofs.lemmas.List.{length-map, take-map}
use Rattle.spv_module.specs.Module.{plain_operand, plain_operands}
use Rattle.spv_type_kinds.specs.Operands.{ids_in}
use Rattle.spv_conditions.proofs.lemmas.Fronts.{front_ids, all_ids}
use Rattle.spv_conditions.proofs.chain.front.Goals as goal

pub returns-then-count-operands : goal.returns-then-count-operands
returns-then-count-operands c =
    ap ids_in (sym (take-map plain_operand c.args.count c.args.operands.now))
    ∙ front_ids (plain_operands c.args.operands.now) c.args.count

pub returns-else-count-operands : goal.returns-else-count-operands
returns-else-count-operands c =
    let l = length-map c.args.operands.now plain_operand in
    let f = c.if-count-operands.false in
    all_ids (plain_operands c.args.operands.now) c.args.count (omega arith)
