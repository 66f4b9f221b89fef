use Rattle.std.proofs.Common.{◌∙◌, ℕ, List, [], ◌∷◌, map, length, sym, subst, arith, vec_len}
use Rattle.std.proofs.lemmas.Bool.{eqb-true}
use Rattle.spv_module.specs.Module.{plain_inst}
use Rattle.spv_module.specs.Operand.{PlainInst}
use Rattle.spv_layout.specs.declared.class.Class.TheVariants.{Function}
use Rattle.spv_layout.specs.Place.{IsAt}
use Rattle.spv_interfaces.specs.declared.used.Use.{Use}
use Rattle.spv_interfaces.specs.inner.Counted.{AreRest, AreSettled}
use Rattle.spv_interfaces.specs.inner.Lacking.{AreAll}
use Rattle.spv_interfaces.specs.inner.Uses.{AreUses}
use Rattle.spv_interfaces.proofs.Early.{early_of}
use Rattle.spv_interfaces.proofs.Counting.{all_of, none_lacked, none_settled}
use Rattle.spv_interfaces.proofs.Unused.{fit_by, no_numbers, none_without, same_length}
use Rattle.spv_interfaces.proofs.named.first_unnamed.Goals as goal

pub first_variable-requires : goal.first_variable-requires
first_variable-requires c = early_of c.requires.plan.0 c.args.definitions.now (map plain_inst c.args.insts.now)
    c.args.plan.now c.before_functions-start.result c.requires.same c.requires.plan.1
    c.before_functions-start.ensures.within c.before_functions-start.ensures.before
    c.before_functions-start.ensures.next

pub returns-in_default : goal.returns-in_default
returns-in_default c = λ G plan.
    none_without G c.args.minor c.args.definitions.now c.args.entries.now c.in_default.ensures

pub uses_of-requires-clause-before : goal.uses_of-requires-clause-before
uses_of-requires-clause-before c = λ n l.
    let js = map plain_inst c.args.insts.now in
    subst (λ (is : List PlainInst). IsAt is n (Function ∷ []) → ⊥) (sym c.requires.same)
    (c.before_functions-start.ensures.before js n c.requires.plan.1.place l)

pub counts_of-requires : goal.counts_of-requires
counts_of-requires c = λ k n h.
    let w = c.requires.within k n h in
    let l = same_length c.args.definitions.now c.args.insts.now c.requires.same in
    omega (arith, w, l)

pub returns-then-are_settled : goal.returns-then-are_settled
returns-then-are_settled c = λ G plan.
    let counts = c.in_ok-counts.counts.items in
    none_settled G c.args.minor c.args.definitions.now c.args.entries.now counts c.in_ok-counts.ensures
    (subst (λ (xs : List ℕ). AreSettled c.args.minor c.args.definitions.now xs (length c.args.entries.now))
    c.as_slice.ensures.value (c.are_settled.ensures c.if-are_settled.true))

pub returns-then-is_empty : goal.returns-then-is_empty
returns-then-is_empty c = λ G plan.
    let is = c.args.definitions.now in
    let entries = c.args.entries.now in
    let counts = c.in_ok-counts.counts.items in
    let rest = c.in_ok-rest.rest in
    let fit = fit_by G is (map plain_inst c.args.insts.now) c.args.plan.now c.requires.same plan in
    let z = eqb-true (vec_len rest) 0 (sym c.is_empty.ensures ∙ c.if-is_empty.true) in
    let k = rest.ok.0 in
    none_lacked G c.args.minor is entries rest.items (no_numbers rest.items (omega (arith, z, k)))
    (all_of G c.args.minor is entries counts rest.items c.in_ok-uses.uses.items c.in_ok-counts.ensures
    (subst (λ (us : List Use). AreRest us counts (length entries) (length us) rest.items) c.as_slice-2.ensures.value
    c.in_ok-rest.ensures) (c.in_ok-uses.ensures G fit))

pub first_by_calls-requires-clause-within : goal.first_by_calls-requires-clause-within
first_by_calls-requires-clause-within c = λ k n h.
    let w = c.requires.within k n h in
    let l = same_length c.args.definitions.now c.args.insts.now c.requires.same in
    omega (arith, w, l)

pub returns : goal.returns
returns c = λ G plan.
    let is = c.args.definitions.now in
    let entries = c.args.entries.now in
    let counts = c.in_ok-counts.counts.items in
    let rest = c.in_ok-rest.rest.items in
    let fit = fit_by G is (map plain_inst c.args.insts.now) c.args.plan.now c.requires.same plan in
    let used = c.in_ok-uses.ensures G fit in
    let all = all_of G c.args.minor is entries counts rest c.in_ok-uses.uses.items c.in_ok-counts.ensures
    (subst (λ (us : List Use). AreRest us counts (length entries) (length us) rest) c.as_slice-2.ensures.value
    c.in_ok-rest.ensures) used in
    c.in_ok-found.ensures G c.args.minor
    (subst (λ (us : List Use). AreUses G c.args.minor is (length is) us) (sym c.as_slice-3.ensures.value) used)
    (subst (λ (vs : List ℕ). AreAll G c.args.minor is entries vs) (sym c.as_slice-4.ensures.value) all)
