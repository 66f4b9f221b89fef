use Rattle.std.proofs.Common.{arith}
use Rattle.spv_declarations.specs.Decorated.{IsLinkedEntry}
use Rattle.spv_declarations.proofs.Passes.{found_by, more_by}
use Rattle.spv_declarations.proofs.Spanned.{linked_at, none_before, none_behind}
use Rattle.spv_declarations.proofs.Telling.{linked_tells}
use Rattle.spv_declarations.proofs.Without.{not_linked}
use Rattle.spv_declarations.proofs.linked.first_linked.Goals as goal

pub loop-number-init : goal.loop-number-init
loop-number-init c =
    let is = c.args.definitions.now in
    none_before is c.args.front.now.count c.args.front.now.spans (IsLinkedEntry is) c.requires.spans
    (λ n h. linked_at is n h)

pub inst-requires : goal.inst-requires
inst-requires c = let w = c.requires.spans.within.1 in omega (arith, w)

pub links-requires-clause-inst : goal.links-requires-clause-inst
links-requires-clause-inst c = (c.loop-number.number, c.inst.ensures)

pub returns-then-links : goal.returns-then-links
returns-then-links c =
    let is = c.args.definitions.now in
    let w = c.requires.spans.within.1 in
    found_by (IsLinkedEntry is) c.args.front.now.count c.loop-number.number c.links.result (omega (arith, w))
    (linked_tells is c.in_ok-entered.entered c.loop-number.number _ c.links.result c.in_ok-entered.ensures
    c.inst.ensures c.links.ensures) c.if-links.true c.loop-number.invariant

pub loop-number-preserved : goal.loop-number-preserved
loop-number-preserved c =
    let is = c.args.definitions.now in
    more_by (IsLinkedEntry is) c.loop-number.number c.links.result
    (linked_tells is c.in_ok-entered.entered c.loop-number.number _ c.links.result c.in_ok-entered.ensures
    c.inst.ensures c.links.ensures) c.if-links.false c.loop-number.invariant

pub returns : goal.returns
returns c =
    let is = c.args.definitions.now in
    none_behind is c.args.front.now.count c.loop-number.number c.args.front.now.spans (IsLinkedEntry is)
    c.requires.spans
    (λ n h. linked_at is n h) (omega arith) c.loop-number.invariant

pub returns-then-not-front : goal.returns-then-not-front
returns-then-not-front c =
    not_linked c.args.definitions.now c.args.front.now.count c.args.front.now.kinds c.requires.kinds
    c.if-not-front.true
