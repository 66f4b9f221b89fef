use Rattle.std.proofs.Common.{◌≡◌, Some, length, sym, ap, map, subst, arith, ◌∙◌}
use Rattle.std.specs.Prelude.{slice_get}
use Rattle.std.proofs.lemmas.List.{length-map}
use Rattle.spv_module.specs.Module.{plain_inst, plain_insts, plain_operand}
use Rattle.spv_layout.specs.Place.{IsShort, first_word_of}
use Rattle.spv_layout.proofs.Misfits.{short_list, inst_there}
use Rattle.spv_type_rules.specs.roles.inner.Known.{AreInRoleBefore, HasMiscast}
use Rattle.spv_type_rules.proofs.lemmas.roles.Casting.{one_up_to, all_in_role, unbroken, first_miscast}
use Rattle.spv_type_rules.proofs.roles.check.roles_check.Goals as goal

pub overflow_cast-result : goal.overflow_cast-result
overflow_cast-result c =
    let v = c.as_slice-insts.ensures.value in
    let xs = c.as_slice-insts.result.now in
    let s = short_list (map plain_inst xs) in
    let l = length-map xs plain_inst in
    let q : IsShort (map plain_inst xs) = rw v c.requires.words in
    omega arith

pub overflow_cast-n : goal.overflow_cast-n
overflow_cast-n c =
    let v = c.as_slice-insts.ensures.value in
    let xs = c.as_slice-insts.result.now in
    let s = short_list (map plain_inst xs) in
    let l = length-map xs plain_inst in
    let q : IsShort (map plain_inst xs) = rw v c.requires.words in
    omega arith

pub returns-then-not-are_in_role-clause-refused : goal.returns-then-not-are_in_role-clause-refused
returns-then-not-are_in_role-clause-refused c = λ G ps p.
    let xs = c.as_slice-insts.result.now in
    let is = plain_insts c.args.module.now in
    let n = c.loop-n.n in
    let i = plain_inst c.index-insts-n.result in
    let v : map plain_inst xs ≡ is = ap (λ items. map plain_inst items) c.as_slice-insts.ensures.value in
    let same : c.args.definitions.now ≡ is = c.requires.definitions in
    let there = inst_there xs n c.index-insts-n.result c.loop-n-test.true c.index-insts-n.is in
    let at : slice_get is n ≡ Some i = rw (← v) there in
    let m = subst (λ js. HasMiscast G js i) same (c.if-not-are_in_role.ensures G (p.fits n i at)) in
    record {
      first = first_miscast G is n i at m (c.loop-n.invariant G ps p);
      word = c.place.ensures.word ∙ ap (λ js. first_word_of js n) same;
    }

pub loop-n-preserved : goal.loop-n-preserved
loop-n-preserved c = λ G ps p.
    let xs = c.as_slice-insts.result.now in
    let is = plain_insts c.args.module.now in
    let n = c.loop-n.n in
    let x = c.index-insts-n.result in
    let i = plain_inst x in
    let v : map plain_inst xs ≡ is = ap (λ items. map plain_inst items) c.as_slice-insts.ensures.value in
    let same : c.args.definitions.now ≡ is = c.requires.definitions in
    let there = inst_there xs n c.index-insts-n.result c.loop-n-test.true c.index-insts-n.is in
    let at : slice_get is n ≡ Some i = rw (← v) there in
    let a = subst (λ js. AreInRoleBefore G js i (length x.operands)) same
    (c.if-not-are_in_role.ensures G (p.fits n i at)) in
    one_up_to G is n (length x.operands) i at (sym (length-map x.operands plain_operand)) a (c.loop-n.invariant G ps p)

pub returns-clause-roles : goal.returns-clause-roles
returns-clause-roles c = λ G ps p.
    let v = ap length c.as_slice-insts.ensures.value in
    let l = length-map c.args.module.now.insts.items plain_inst in
    let a = c.loop-n.auto.n-end in
    let t = c.loop-n-test.false in
    all_in_role G (plain_insts c.args.module.now) c.loop-n.n (omega arith) (c.loop-n.invariant G ps p)

pub returns-clause-unbroken : goal.returns-clause-unbroken
returns-clause-unbroken c = λ G ps p.
    let v = ap length c.as_slice-insts.ensures.value in
    let l = length-map c.args.module.now.insts.items plain_inst in
    let a = c.loop-n.auto.n-end in
    let t = c.loop-n-test.false in
    unbroken G (plain_insts c.args.module.now)
    (all_in_role G (plain_insts c.args.module.now) c.loop-n.n (omega arith) (c.loop-n.invariant G ps p))
