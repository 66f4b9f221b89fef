use Rattle.std.proofs.Common.{◌≢◌, length, map, arith}
use Rattle.std.proofs.lemmas.List.{length-map}
use Rattle.spv_module.specs.Module.{plain_operand}
use Rattle.spv_layout.proofs.Tested.{are_apart}
use Rattle.spv_layout.proofs.fitting.have_forms.Goals as goal

pub returns-then-forms-operands : goal.returns-then-forms-operands
returns-then-forms-operands c =
    let l = length-map c.args.operands.now plain_operand in
    let n : length c.args.forms.now ≢ length (map plain_operand c.args.operands.now) = omega arith in
    are_apart c.args.kinds.now c.args.forms.now (map plain_operand c.args.operands.now) n
