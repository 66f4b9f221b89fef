use Rattle.std.proofs.Common.{◌≤◌, [], ◌∷◌, length, arith}
use Rattle.spv_module.specs.Module.{plain_operands}
use Rattle.spv_type_kinds.specs.Operands.{ids_in}
use Rattle.spv_type_forms.specs.Values.{types_of}
use Rattle.spv_ops.proofs.Copying.{other_gathered}
use Rattle.spv_ops.proofs.copy.one_type.Goals as goal

pub returns-else-count-eq1 : goal.returns-else-count-eq1
returns-else-count-eq1 c = λ t.
    let few = c.in-Some.ensures.some.0 in
    let all = c.gather.array_long in
    let l : c.in-Some.count ≤ length c.gather.new.types = omega arith in
    other_gathered c.gather.new.types c.in-Some.count t
    (types_of c.args.definitions.now (ids_in (plain_operands c.args.operands.now))) l c.if-count-eq1.false
    c.in-Some.ensures.some.1

pub returns-in-None : goal.returns-in-None
returns-in-None c = λ t e.
    let many = c.in-None.ensures.none (t ∷ []) e in
    absurd (omega arith)
