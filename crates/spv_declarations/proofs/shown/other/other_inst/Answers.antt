use Rattle.std.proofs.Common.{None, arith}
use Rattle.spv_declarations.proofs.Early.{early_all}
use Rattle.spv_declarations.proofs.Seconds.{second_within, has_restrict, has_alias, restrict_first, alias_first}
use Rattle.spv_declarations.proofs.Stated.{known_19, known_20}
use Rattle.spv_declarations.proofs.shown.other.other_inst.Goals as goal

pub gather-requires-clause-early : goal.gather-requires-clause-early
gather-requires-clause-early c = early_all c.args.definitions.now c.args.total c.requires.total

pub second_id-requires-clause-within : goal.second_id-requires-clause-within
second_id-requires-clause-within c = second_within c.args.definitions.now c.args.inst c.requires.broken

pub second_id-requires-clause-said : goal.second_id-requires-clause-said
second_id-requires-clause-said c = (None, c.in_ok-said.ensures)

pub first_by-restricted-requires-clause-known : goal.first_by-restricted-requires-clause-known
first_by-restricted-requires-clause-known c = known_19

pub first_by-restricted-requires-clause-there : goal.first_by-restricted-requires-clause-there
first_by-restricted-requires-clause-there c =
    has_restrict c.args.definitions.now c.args.inst c.in_ok-x.x c.in_ok-x.ensures

pub first_by-aliased-requires-clause-known : goal.first_by-aliased-requires-clause-known
first_by-aliased-requires-clause-known c = known_20

pub first_by-aliased-requires-clause-there : goal.first_by-aliased-requires-clause-there
first_by-aliased-requires-clause-there c =
    has_alias c.args.definitions.now c.args.inst c.in_ok-x.x c.in_ok-x.ensures

pub returns-then-restricted-aliased : goal.returns-then-restricted-aliased
returns-then-restricted-aliased c =
    let lt = c.if-restricted-aliased.true in
    restrict_first c.args.definitions.now c.args.inst c.in_ok-x.x c.first_by-restricted.result
    c.first_by-aliased.result c.in_ok-x.ensures c.first_by-restricted.ensures c.first_by-aliased.ensures
    (omega (arith, lt))

pub returns : goal.returns
returns c =
    let ge = c.if-restricted-aliased.false in
    alias_first c.args.definitions.now c.args.inst c.in_ok-x.x c.first_by-restricted.result c.first_by-aliased.result
    c.in_ok-x.ensures c.first_by-restricted.ensures c.first_by-aliased.ensures (omega (arith, ge))
