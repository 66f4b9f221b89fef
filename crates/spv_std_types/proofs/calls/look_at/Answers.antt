use Rattle.std.proofs.Common.{rules, ◌≡◌, true, get_or}
use Rattle.spv_module.specs.declared.operand.Operand.TheVariants as code
use Rattle.spv_module.specs.Operand.{OfType, Id, Word}
use Rattle.spv_module.specs.Module.{plain_operand}
use Rattle.spv_std_types.proofs.Calling.{is_result}
use Rattle.spv_std_types.proofs.Passing.{of_parts}
use Rattle.spv_std_types.proofs.calls.look_at.Goals as goal

pub returns-in-OfType : goal.returns-in-OfType
returns-in-OfType c =
    let os = c.args.operands.now in
    let d = code.OfType 0 in
    let p0 : plain_operand (get_or c.args.operands.now 0 (code.OfType 0)) ≡ OfType c.in-OfType.r = search rules in
    let p1 : is_result (plain_operand (get_or c.args.operands.now 1 (code.OfType 0))) ≡ true = search rules in
    let p2 : plain_operand (get_or c.args.operands.now 2 (code.OfType 0)) ≡ Id c.in-OfType.set = search rules in
    let p3 : plain_operand (get_or c.args.operands.now 3 (code.OfType 0)) ≡ Word c.in-OfType.number = search rules in
    of_parts c.args.definitions.now os d c.in-OfType.r c.in-OfType.set c.in-OfType.number c.look_behind.result
    c.in-OfType.len_at_least p0 p1 p2 p3 c.look_behind.ensures
