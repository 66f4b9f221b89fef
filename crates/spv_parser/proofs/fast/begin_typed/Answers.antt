use Rattle.std.proofs.Common.{refl, map, arith, ap, ◌∙◌, ◌++◌, ◌∷◌, []}
use Rattle.spv_inst.specs.Flat.{due}
use Rattle.spv_inst.specs.inner.Pending.{items_of}
use Rattle.spv_parser.proofs.Quick.{start_typed}
use Rattle.spv_parser.proofs.fast.begin_typed.Goals as goal

pub returns-clause-read : goal.returns-clause-read
returns-clause-read c = λ before.
    let b = rw c.in-Some-Result-default.field-0-0-is at
    (c.in-Some-Result-default.ensures c.args.setting.now.table.now c.requires.forms) in
    start_typed c.args.setting.now.table.now _ before c.args.opcode
    (map due (items_of c.args.pattern.now)) _ _ c.args.operands.now c.in-Some.cell.rest.now _ _
    c.in-Some.cell.number c.args.id refl c.requires.none c.requires.broken c.requires.first b c.in-Some.ensures
    (omega arith) (c.in_ok-push-2.ensures.items ∙ ap (λ z. z ++ (c.args.id ∷ [])) c.in_ok-push.ensures.items)
