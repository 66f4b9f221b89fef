use Rattle.std.proofs.Common.{◌≡◌, Some, sym, ◌∙◌, arith}
use borrow.Author.Tests.{ltb-true}
use Rattle.spv_module.specs.Module.{plain_inst}
use Rattle.spv_ids.specs.Outcome.{definition_in}
use Rattle.spv_type_forms.proofs.Lookups.{kept_one}
use Rattle.spv_type_rules.proofs.Pointers.{pointer_told, no_pointer, never_true}
use Rattle.spv_type_rules.proofs.declaration.is_pointer_after.Goals as goal

pub returns-then-number-place : goal.returns-then-number-place
returns-then-number-place c =
    let is = c.args.definitions.now in
    let kept : definition_in c.args.ids.now c.args.id ≡ Some c.in-Some.place = sym c.definition.ensures
    ∙ c.in-Some.is in
    let one = kept_one is c.args.id c.in-Some.place (definition_in c.args.ids.now c.args.id)
    (c.requires c.args.id) kept in
    let d = pointer_told is c.args.number c.args.id c.args.class c.in-Some.place
    (plain_inst c.inst.result.now) one c.inst.ensures in
    (λ y. d.0 (c.if-number-place.true, c.is_pointer_of.ensures.0 y), λ p. c.is_pointer_of.ensures.1 (d.1 p).1)

pub returns-else-number-place : goal.returns-else-number-place
returns-else-number-place c =
    let is = c.args.definitions.now in
    let kept : definition_in c.args.ids.now c.args.id ≡ Some c.in-Some.place = sym c.definition.ensures
    ∙ c.in-Some.is in
    let one = kept_one is c.args.id c.in-Some.place (definition_in c.args.ids.now c.args.id)
    (c.requires c.args.id) kept in (
      λ y. let l = ltb-true c.args.number c.in-Some.place y in absurd (omega (arith, l, c.if-number-place.false)),
      λ p. let e = one.only p.place p.defined in let l = p.after in
          absurd (omega (arith, e, l, c.if-number-place.false)),
    )

pub returns-in-None : goal.returns-in-None
returns-in-None c =
    let is = c.args.definitions.now in
    let kept = sym c.definition.ensures ∙ c.in-None.is in (
      λ y. absurd (never_true y),
      λ p. absurd
          (no_pointer is c.args.number c.args.id c.args.class (definition_in c.args.ids.now c.args.id)
          (c.requires c.args.id) kept p),
    )
