use Rattle.std.proofs.Common.{◌≡◌, ◌∙◌, ℕ, List, Option, Some, map, sym, subst, arith, vec_len}
use Rattle.std.specs.Prelude.{slice_get}
use Rattle.std.proofs.lemmas.Bool.{eqb-true}
use Rattle.spv_module.specs.Module.{plain_inst}
use Rattle.spv_interfaces.specs.inner.Entries.{IsFirstAmong, IsUnnamed}
use Rattle.spv_interfaces.proofs.Early.{early_of}
use Rattle.spv_interfaces.proofs.Entering.{none_among, told_unnamed, told_unsound}
use Rattle.spv_interfaces.proofs.Unused.{no_numbers, same_length}
use Rattle.spv_interfaces.proofs.misfaced.first_misfaced.Goals as goal

pub entry_points-requires : goal.entry_points-requires
entry_points-requires c = early_of c.requires.plan.0 c.args.definitions.now (map plain_inst c.args.insts.now)
    c.args.plan.now c.before_functions-before.result c.requires.same c.requires.plan.1
    c.before_functions-before.ensures.within c.before_functions-before.ensures.before
    c.before_functions-before.ensures.next

pub first_unnamed-requires-clause-within : goal.first_unnamed-requires-clause-within
first_unnamed-requires-clause-within c = λ k n h.
    let g = subst (λ (es : List ℕ). slice_get es k ≡ Some n) c.as_slice.ensures.value h in
    let w = c.in_ok-found.ensures.sound.within k n g in
    let l = same_length c.args.definitions.now c.args.insts.now c.requires.same in
    omega (arith, w, l)

pub returns-then-is_empty : goal.returns-then-is_empty
returns-then-is_empty c = λ G plan.
    let is = c.args.definitions.now in
    let found = c.in_ok-found.found in
    let z = eqb-true (vec_len found.sound) 0 (sym c.is_empty.ensures ∙ c.if-is_empty.true) in
    let k = found.sound.ok.0 in
    told_unsound G c.args.minor is found.sound.items found.unsound c.in_ok-found.ensures
    (none_among (IsUnnamed G c.args.minor is) found.sound.items
    (no_numbers found.sound.items (omega (arith, z, k))))

pub returns-in-Some : goal.returns-in-Some
returns-in-Some c = λ G plan.
    let is = c.args.definitions.now in
    let found = c.in_ok-found.found in
    let h = subst (λ (es : List ℕ). IsFirstAmong (IsUnnamed G c.args.minor is) es c.in_ok-unnamed.unnamed)
    c.as_slice.ensures.value (c.in_ok-unnamed.ensures G plan) in
    told_unnamed G c.args.minor is found.sound.items found.unsound c.in-Some.number c.in_ok-found.ensures
    (subst (λ (o : Option ℕ). IsFirstAmong (IsUnnamed G c.args.minor is) found.sound.items o) c.in-Some.is h)

pub returns : goal.returns
returns c = λ G plan.
    let is = c.args.definitions.now in
    let found = c.in_ok-found.found in
    let h = subst (λ (es : List ℕ). IsFirstAmong (IsUnnamed G c.args.minor is) es c.in_ok-unnamed.unnamed)
    c.as_slice.ensures.value (c.in_ok-unnamed.ensures G plan) in
    told_unsound G c.args.minor is found.sound.items found.unsound c.in_ok-found.ensures
    (subst (λ (o : Option ℕ). IsFirstAmong (IsUnnamed G c.args.minor is) found.sound.items o) c.in-None.is h)
