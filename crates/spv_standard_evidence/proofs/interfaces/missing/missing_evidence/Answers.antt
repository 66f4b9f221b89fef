use Rattle.std.proofs.Common.{ℕ, List, length, map, subst, sym, arith}
use Rattle.std.proofs.lemmas.List.{length-map}
use Rattle.spv_module.specs.Module.{plain_inst, plain_operands}
use Rattle.spv_layout.proofs.Misfits.{short_list}
use Rattle.spv_flow.proofs.lemmas.calls.Insts.{defined_within}
use Rattle.spv_declarations.specs.inner.Sets.{IsIn}
use Rattle.spv_interfaces.proofs.Unused.{fit_by, same_length}
use Rattle.spv_evidence.specs.declared.evidence.Evidence.TheVariants.{NotInInterface}
use Rattle.spv_standard_evidence.specs.Interfaces.{Shows}
use Rattle.spv_standard_evidence.specs.inner.Interfaces.{MissesBefore}
use Rattle.spv_standard_evidence.proofs.Missed.{lack_shown, misses_told, reaches, shortest_told, wanted_defined}
use Rattle.spv_standard_evidence.proofs.interfaces.missing.missing_evidence.Goals as goal

pub unreachable-requires : goal.unreachable-requires
unreachable-requires c =
    let r = c.requires.missing in
    c.in_default.ensures r.4.root r.4.defined

pub way_to-requires-clause-few : goal.way_to-requires-clause-few
way_to-requires-clause-few c =
    let xs = c.args.insts.now in
    let s = short_list (map plain_inst xs) in
    let l = length-map xs plain_inst in
    let w = c.requires.words in
    omega (arith, s, l, w)

pub way_to-requires-clause-plan : goal.way_to-requires-clause-plan
way_to-requires-clause-plan c = (c.requires.missing.0, c.requires.missing.1)

pub way_to-requires-clause-root : goal.way_to-requires-clause-root
way_to-requires-clause-root c =
    defined_within c.args.definitions.now c.args.function c.in-Some.root c.in-Some.ensures.there

pub way_to-requires-clause-reached : goal.way_to-requires-clause-reached
way_to-requires-clause-reached c =
    let r = c.requires.missing in
    let is = c.args.definitions.now in
    let os = plain_operands c.args.interface.now in
    let Named = IsIn c.in_ok-named.named in (
      r.0,
      fit_by r.0 is (map plain_inst c.args.insts.now) c.args.plan.now c.requires.same r.1,
      reaches r.0 c.args.minor is os Named c.args.function c.in-Some.root r.2 (λ y. (c.in_ok-named.ensures y).0)
          c.in-Some.ensures r.3 r.4 r.5,
    )

pub without_last-calls-requires : goal.without_last-calls-requires
without_last-calls-requires c =
    let r = c.requires.missing in
    let is = c.args.definitions.now in
    let fit = fit_by r.0 is (map plain_inst c.args.insts.now) c.args.plan.now c.requires.same r.1 in
    let l = c.in_ok-nodes.ensures r.0 fit in
    (length is, l.last, l.rest, l.listed)

pub user_in-user-requires-clause-misses : goal.user_in-user-requires-clause-misses
user_in-user-requires-clause-misses c =
    let r = c.requires.missing in
    let is = c.args.definitions.now in
    let fit = fit_by r.0 is (map plain_inst c.args.insts.now) c.args.plan.now c.requires.same r.1 in
    let Named = IsIn c.in_ok-named.named in
    let l = c.in_ok-nodes.ensures r.0 fit in
    let w = c.without_last-calls.ensures (length is) l.last l.rest l.listed in
    let n = same_length is c.args.insts.now c.requires.same in
    let last = c.without_last-calls.result.last in
    (r.0, fit, misses_told r.0 c.args.minor is Named (length c.args.insts.now) last l.last (sym n) w.1 l.so)

pub unreachable-requires-in_default-number : goal.unreachable-requires-in_default-number
unreachable-requires-in_default-number c =
    let r = c.requires.missing in
    let is = c.args.definitions.now in
    let fit = fit_by r.0 is (map plain_inst c.args.insts.now) c.args.plan.now c.requires.same r.1 in
    let m = c.user_in-user.ensures r.0 fit in
    let d = wanted_defined c.args.minor is c.user_in-user.result.1 m.misses.wanted in
    c.in_default-number.ensures d.0 d.1

pub returns : goal.returns
returns c = λ G plan.
    let is = c.args.definitions.now in
    let os = plain_operands c.args.interface.now in
    let fit = fit_by G is (map plain_inst c.args.insts.now) c.args.plan.now c.requires.same plan in
    let Named = IsIn c.in_ok-named.named in
    let l = c.in_ok-nodes.ensures G fit in
    let calls = c.without_last-calls.result in
    let w = c.without_last-calls.ensures (length is) l.last l.rest l.listed in
    let s = shortest_told is (MissesBefore G c.args.minor is Named (length is)) c.in-Some.root (length is) calls.last
    c.in_ok-nodes.nodes.items calls.functions.items l w.0 w.1 in
    let v = c.in-Some-number.variable in
    let user = c.user_in-user.result in
    subst (λ (cs : List ℕ). Shows G c.args.minor is c.args.function os (NotInInterface v cs user.0))
    (sym c.from_vec.ensures)
    (lack_shown G c.args.minor is os Named c.args.function c.in-Some.root calls.last user.0 user.1 v
    calls.functions.items (λ y. (c.in_ok-named.ensures y).1) c.in-Some.ensures s
    (c.user_in-user.ensures G fit) c.in-Some-number.ensures)

pub overflow_cast-total : goal.overflow_cast-total
overflow_cast-total c =
    let xs = c.args.insts.now in
    let s = short_list (map plain_inst xs) in
    let l = length-map xs plain_inst in
    let w = c.requires.words in
    omega (arith, s, l, w)
