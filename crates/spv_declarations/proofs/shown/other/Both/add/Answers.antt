use Rattle.spv_declarations.proofs.Seconds.{both_more}
use Rattle.spv_declarations.proofs.Stated.{on_ok, known_19, known_20}
use Rattle.spv_declarations.proofs.shown.other.Both.add.Goals as goal

pub add_with-requires-clause-known : goal.add_with-requires-clause-known
add_with-requires-clause-known c = known_19

pub add_with-requires-clause-inst : goal.add_with-requires-clause-inst
add_with-requires-clause-inst c = (c.args.number, c.inst-inst.ensures)

pub add_with-requires-2-clause-known : goal.add_with-requires-2-clause-known
add_with-requires-2-clause-known c = known_20

pub returns : goal.returns
returns c = on_ok c.add_with-2.result _ _
    (λ a b. both_more c.args.definitions.now c.args.number _ _ _ c.inst-inst.ensures c.in_ok-add_with.ensures a b)
    c.add_with-2.ensures
