use Rattle.std.proofs.Common.{◌≡◌, ◌∙◌, true, false, ap, length, subst, sym}
use Rattle.std.proofs.lemmas.List.{length-map}
use Rattle.spv_module.specs.Module.{plain_operand, plain_operands}
use Rattle.spv_extended.specs.declared.set.Set.TheVariants.{OpenClStd}
use Rattle.spv_extended.specs.declared.signature.Signature.{Signature}
use Rattle.spv_extended.specs.Facts.{signature_of, takes}
use Rattle.spv_extended.specs.Sets.{set_in}
use Rattle.spv_std_types.specs.Condition.{Holds}
use Rattle.spv_std_types.specs.inner.Failing.{IsFirstIn}
use Rattle.spv_std_types.proofs.Passing.{of_missing, of_other_set, of_taken}
use Rattle.spv_std_types.proofs.Telling.{of_call}
use Rattle.spv_std_types.proofs.calls.look_behind.Goals as goal

pub returns-then-not-is_known : goal.returns-then-not-is_known
returns-then-not-is_known c =
    of_other_set c.args.definitions.now c.args.r c.args.set c.args.number (plain_operands c.args.behind.now)
    (λ e. let on = c.is_known.ensures.1 e in let off = c.if-not-is_known.true in cc)

pub returns-then-not-takes : goal.returns-then-not-takes
returns-then-not-takes c =
    let count = length (plain_operands c.args.behind.now) in
    let told : takes (signature_of OpenClStd c.args.number) count ≡ false =
    ap (λ n. takes (signature_of OpenClStd c.args.number) n) (length-map c.args.behind.now plain_operand)
    ∙ (ap (λ (s : Signature). takes s (length c.args.behind.now)) (sym c.signature_of.ensures)
    ∙ (sym c.takes.ensures ∙ c.if-not-takes.true)) in
    of_missing (set_in c.args.definitions.now c.args.set) c.args.number count
    (c.is_known.ensures.0 c.if-not-is_known.false) told

pub returns : goal.returns
returns c =
    let count = length (plain_operands c.args.behind.now) in
    let std = c.is_known.ensures.0 c.if-not-is_known.false in
    let told : takes (signature_of OpenClStd c.args.number) count ≡ true =
    ap (λ n. takes (signature_of OpenClStd c.args.number) n) (length-map c.args.behind.now plain_operand)
    ∙ (ap (λ (s : Signature). takes s (length c.args.behind.now)) (sym c.signature_of.ensures)
    ∙ (sym c.takes.ensures ∙ c.if-not-takes.false)) in (
      of_taken (set_in c.args.definitions.now c.args.set) c.args.number count std told,
      std,
      of_call c.args.definitions.now c.args.r c.args.set c.args.number (plain_operands c.args.behind.now) _ std
          (subst (λ qs. IsFirstIn (Holds c.args.definitions.now c.args.r (plain_operands c.args.behind.now)) qs c.first_failing.result)
          c.conditions_of.ensures c.first_failing.ensures),
    )
