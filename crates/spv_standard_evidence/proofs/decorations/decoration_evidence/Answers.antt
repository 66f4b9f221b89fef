use Rattle.spv_module.specs.declared.fault.Rule.TheVariants.{O8, O9, O10, O11}
use Rattle.spv_standard_evidence.proofs.Decorating.{by_8, by_9, by_10, by_11, broken_as, shown_as, left_11}
use Rattle.spv_standard_evidence.proofs.decorations.decoration_evidence.Goals as goal

pub second_evidence-requires-clause-broken : goal.second_evidence-requires-clause-broken
second_evidence-requires-clause-broken c =
    let G = c.args.table.now in
    let is = c.args.definitions.now in
    by_8 G is c.args.inst (broken_as G is c.args.inst c.args.rule O8 c.in-O8.is c.requires.broken)

pub returns-in-O8 : goal.returns-in-O8
returns-in-O8 c = shown_as c.args.table.now c.args.definitions.now c.args.inst c.args.rule O8 _ _ c.in-O8.is
    (c.second_evidence.ensures c.args.table.now)

pub linked_evidence-requires-clause-broken : goal.linked_evidence-requires-clause-broken
linked_evidence-requires-clause-broken c =
    let G = c.args.table.now in
    let is = c.args.definitions.now in
    by_9 G is c.args.inst (broken_as G is c.args.inst c.args.rule O9 c.in-O9.is c.requires.broken)

pub returns-in-O9 : goal.returns-in-O9
returns-in-O9 c = shown_as c.args.table.now c.args.definitions.now c.args.inst c.args.rule O9 _ _ c.in-O9.is
    (c.linked_evidence.ensures c.args.table.now)

pub initialized_evidence-requires-clause-broken : goal.initialized_evidence-requires-clause-broken
initialized_evidence-requires-clause-broken c =
    let G = c.args.table.now in
    let is = c.args.definitions.now in
    by_10 G is c.args.inst (broken_as G is c.args.inst c.args.rule O10 c.in-O10.is c.requires.broken)

pub returns-in-O10 : goal.returns-in-O10
returns-in-O10 c = shown_as c.args.table.now c.args.definitions.now c.args.inst c.args.rule O10 _ _ c.in-O10.is
    c.initialized_evidence.ensures

pub half_evidence-requires-clause-broken : goal.half_evidence-requires-clause-broken
half_evidence-requires-clause-broken c =
    let G = c.args.table.now in
    let is = c.args.definitions.now in
    let e = left_11 c.args.rule c.requires.rule c.in_default.not-O8 c.in_default.not-O9 c.in_default.not-O10 in
    by_11 G is c.args.inst (broken_as G is c.args.inst c.args.rule O11 e c.requires.broken)

pub returns-in_default : goal.returns-in_default
returns-in_default c =
    let e = left_11 c.args.rule c.requires.rule c.in_default.not-O8 c.in_default.not-O9 c.in_default.not-O10 in
    shown_as c.args.table.now c.args.definitions.now c.args.inst c.args.rule O11 _ _ e
    (c.half_evidence.ensures c.args.table.now)
