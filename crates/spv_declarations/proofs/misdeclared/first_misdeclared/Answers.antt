use Rattle.std.proofs.Common.{sym, subst, [], ◌∷◌, List}
use Rattle.spv_module.specs.Operand.{PlainInst}
use Rattle.spv_module.specs.declared.fault.Rule.TheVariants as rule
use Rattle.spv_declarations.specs.inner.Early.{AreEarly}
use Rattle.spv_declarations.specs.inner.Kinds.{AreKinds}
use Rattle.spv_declarations.proofs.Early.{early_of}
use Rattle.spv_declarations.proofs.Firsts.{of_o3, of_o5, of_o12, of_o13, before_o3, before_o5, before_o12, before_o13}
use Rattle.spv_declarations.proofs.Firsts.{first_none, incapable_in, told_of}
use Rattle.spv_declarations.proofs.Standing.{o3_early, o5_early, o12_early, o13_early}
use Rattle.spv_declarations.proofs.misdeclared.first_misdeclared.Goals as goal

pub first_decorated-requires-clause-early : goal.first_decorated-requires-clause-early
first_decorated-requires-clause-early c =
    early_of c.args.capabilities.now.table c.args.definitions.now c.args.plan.now c.before_functions-count.result
    c.requires.plan c.before_functions-count.ensures.next

pub first_incapable-incapable-requires-clause-kinds : goal.first_incapable-incapable-requires-clause-kinds
first_incapable-incapable-requires-clause-kinds c =
    subst (λ (is : List PlainInst). AreKinds is c.before_functions-count.result c.kinds_among.result.0)
    (sym c.requires.capabilities) c.kinds_among.ensures.kinds

pub returns : goal.returns
returns c =
    let G = c.args.capabilities.now.table in
    let is = c.args.definitions.now in
    let count = c.before_functions-count.result in
    let early : AreEarly is count =
    early_of G is c.args.plan.now count c.requires.plan c.before_functions-count.ensures.next in
    let same = sym c.requires.capabilities in
    let o3 = c.earlier-found.ensures G is [] (first_none G is) before_o3
    (of_o3 G is count c.in_ok-repeated.repeated (o3_early is count early) c.in_ok-repeated.ensures) in
    let o5 = c.earlier-found-2.ensures G is (rule.O3 ∷ []) o3 before_o5
    (of_o5 G is count c.first_with_id-with_id.result (o5_early is count early) c.first_with_id-with_id.ensures) in
    let o11 = c.in_ok-decorated.ensures G c.linkage_type-linkage.ensures o5 in
    let o12 = c.earlier-found-3.ensures G is
    (rule.O11 ∷ rule.O10 ∷ rule.O9 ∷ rule.O8 ∷ rule.O7 ∷ rule.O6 ∷ rule.O5 ∷ rule.O3 ∷ []) o11 before_o12
    (of_o12 G is count c.first_elsewhere-elsewhere.result (o12_early is count early)
    c.first_elsewhere-elsewhere.ensures) in
    let o13 = c.earlier.ensures G is
    (rule.O12 ∷ rule.O11 ∷ rule.O10 ∷ rule.O9 ∷ rule.O8 ∷ rule.O7 ∷ rule.O6 ∷ rule.O5 ∷ rule.O3 ∷ []) o12 before_o13
    (of_o13 G is count c.first_incapable-incapable.result (o13_early G is count early)
    (incapable_in G c.args.capabilities.now.insts is count c.first_incapable-incapable.result (sym same)
    c.first_incapable-incapable.ensures)) in
    told_of G is c.args.capabilities.now.insts c.earlier.result same o13
