use Rattle.std.proofs.Common.{arith}
use Rattle.spv_declarations.specs.Decorated.{IsSecond}
use Rattle.spv_declarations.proofs.Least.{least_none, least_more, apart_none, apart_more, second_here, none_second}
use Rattle.spv_declarations.proofs.Passes.{none}
use Rattle.spv_declarations.proofs.Stated.{known_19, known_20}
use Rattle.spv_declarations.proofs.Without.{not_second}
use Rattle.spv_declarations.proofs.second.first_second.Goals as goal

pub loop-number-init : goal.loop-number-init
loop-number-init c =
    let is = c.args.definitions.now in
    record {
      restricted = least_none is 19 c.new-restricted.result c.new-restricted.ensures.empty;
      aliased = least_none is 20 c.new-aliased.result c.new-aliased.ensures.empty;
      apart = apart_none c.new-restricted.result c.new-aliased.result c.new-restricted.ensures.empty;
    }

pub add_with-requires-clause-known : goal.add_with-requires-clause-known
add_with-requires-clause-known c = known_19

pub add_with-requires-clause-inst : goal.add_with-requires-clause-inst
add_with-requires-clause-inst c = (c.loop-number.number, c.inst-inst.ensures)

pub add_with-requires-in-loop-number-clause-known : goal.add_with-requires-in-loop-number-clause-known
add_with-requires-in-loop-number-clause-known c = known_20

pub add_with-requires-in-loop-number-clause-inst : goal.add_with-requires-in-loop-number-clause-inst
add_with-requires-in-loop-number-clause-inst c = (c.loop-number.number, c.inst-inst.ensures)

pub returns-then-has_both : goal.returns-then-has_both
returns-then-has_both c =
    let is = c.args.definitions.now in
    let n = c.loop-number.number in
    let r = least_more is 19 n _ c.loop-number.restricted c.add_with.new.set c.inst-inst.ensures
    c.in_ok-add_with.ensures c.loop-number.invariant.restricted in
    let a = least_more is 20 n _ c.loop-number.aliased c.add_with-in-loop-number.new.set c.inst-inst.ensures
    c.in_ok-add_with-2.ensures c.loop-number.invariant.aliased in
    let f = c.has_both.ensures.found c.if-has_both.true in (
      c.loop-number-test.true,
      second_here is n f.0 c.loop-number.restricted c.loop-number.aliased c.add_with.new.set
          c.add_with-in-loop-number.new.set
          c.loop-number.invariant.restricted c.loop-number.invariant.aliased c.loop-number.invariant.apart r a f.1
          f.2,
      none_second is n c.loop-number.restricted c.loop-number.aliased c.loop-number.invariant.restricted
          c.loop-number.invariant.aliased c.loop-number.invariant.apart,
    )

pub loop-number-preserved : goal.loop-number-preserved
loop-number-preserved c =
    let is = c.args.definitions.now in
    let n = c.loop-number.number in
    record {
      restricted = least_more is 19 n _ c.loop-number.restricted c.add_with.new.set c.inst-inst.ensures
          c.in_ok-add_with.ensures c.loop-number.invariant.restricted;
      aliased = least_more is 20 n _ c.loop-number.aliased c.add_with-in-loop-number.new.set c.inst-inst.ensures
          c.in_ok-add_with-2.ensures c.loop-number.invariant.aliased;
      apart = apart_more is _ c.loop-number.restricted c.loop-number.aliased c.add_with.new.set
          c.add_with-in-loop-number.new.set
          c.in_ok-add_with.ensures c.in_ok-add_with-2.ensures
          (c.has_both.ensures.none c.if-has_both.false is) c.loop-number.invariant.apart;
    }

pub returns : goal.returns
returns c =
    let is = c.args.definitions.now in
    none c.args.count c.loop-number.number (IsSecond is) (omega arith)
    (none_second is c.loop-number.number c.loop-number.restricted c.loop-number.aliased
    c.loop-number.invariant.restricted c.loop-number.invariant.aliased c.loop-number.invariant.apart)

pub returns-then-not-kinds : goal.returns-then-not-kinds
returns-then-not-kinds c =
    not_second c.args.definitions.now c.args.count c.args.kinds.now c.requires.kinds c.if-not-kinds.true
