use Rattle.spv_declarations.proofs.Seconds.{some_new, new_breaks}
use Rattle.spv_declarations.proofs.Stated.{known_19, known_20}
use Rattle.spv_declarations.proofs.shown.other.second_id.Goals as goal

pub gives-by_restricted-requires-clause-known : goal.gives-by_restricted-requires-clause-known
gives-by_restricted-requires-clause-known c = known_19

pub gives-by_aliased-requires-clause-known : goal.gives-by_aliased-requires-clause-known
gives-by_aliased-requires-clause-known c = known_20

pub new_id-requires : goal.new_id-requires
new_id-requires c = some_new c.args.definitions.now c.args.inst _ c.in_ok-both.both c.gives-by_restricted.result
    c.gives-by_aliased.result c.inst-own.ensures c.requires.broken c.in_ok-both.ensures c.gives-by_restricted.ensures
    c.gives-by_aliased.ensures

pub returns : goal.returns
returns c = new_breaks c.args.definitions.now c.args.inst c.new_id.result _ c.in_ok-both.both
    c.gives-by_restricted.result c.gives-by_aliased.result c.inst-own.ensures c.in_ok-both.ensures
    c.gives-by_restricted.ensures c.gives-by_aliased.ensures c.new_id.ensures
