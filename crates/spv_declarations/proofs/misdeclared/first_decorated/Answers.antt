use Rattle.std.proofs.Common.{[], ◌∷◌}
use Rattle.spv_module.specs.declared.fault.Rule.TheVariants as rule
use Rattle.spv_declarations.proofs.Firsts.{of_o6, of_o7, of_o8, of_o9, of_o10, of_o11, before_o6, before_o7, before_o8}
use Rattle.spv_declarations.proofs.Firsts.{before_o9, before_o10, before_o11}
use Rattle.spv_declarations.proofs.Standing.{o6_early, o7_early, o8_early, o9_early, o10_early, o11_early}
use Rattle.spv_declarations.proofs.misdeclared.first_decorated.Goals as goal

pub returns : goal.returns
returns c = λ G e b.
    let is = c.args.definitions.now in
    let count = c.args.front.now.count in
    let early = c.requires.early in
    let o6 = c.earlier-found.ensures G is (rule.O5 ∷ rule.O3 ∷ []) b before_o6
    (of_o6 G is count c.first_of_no_member-of_no_member.result (o6_early is count early)
    c.first_of_no_member-of_no_member.ensures) in
    let o7 = c.earlier-found-2.ensures G is (rule.O6 ∷ rule.O5 ∷ rule.O3 ∷ []) o6 before_o7
    (of_o7 G is count c.in_ok-misplaced.misplaced (o7_early is count early) c.in_ok-misplaced.ensures) in
    let o8 = c.earlier-found-3.ensures G is (rule.O7 ∷ rule.O6 ∷ rule.O5 ∷ rule.O3 ∷ []) o7 before_o8
    (of_o8 G is count c.in_ok-second.second (o8_early is count early) c.in_ok-second.ensures) in
    let o9 = c.earlier-found-4.ensures G is (rule.O8 ∷ rule.O7 ∷ rule.O6 ∷ rule.O5 ∷ rule.O3 ∷ []) o8 before_o9
    (of_o9 G is count c.in_ok-linked.linked (o9_early is count early) c.in_ok-linked.ensures) in
    let o10 = c.earlier-found-5.ensures G is (rule.O9 ∷ rule.O8 ∷ rule.O7 ∷ rule.O6 ∷ rule.O5 ∷ rule.O3 ∷ []) o9
    before_o10
    (of_o10 G is count c.in_ok-initialized.initialized (o10_early G is count early)
    (c.in_ok-initialized.ensures G e)) in
    c.earlier.ensures G is (rule.O10 ∷ rule.O9 ∷ rule.O8 ∷ rule.O7 ∷ rule.O6 ∷ rule.O5 ∷ rule.O3 ∷ []) o10 before_o11
    (of_o11 G is count c.in_ok-half.half (o11_early is count early) c.in_ok-half.ensures)
