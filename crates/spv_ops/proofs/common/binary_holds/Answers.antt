use Rattle.std.proofs.Common.{◌≡◌, true, false}
use Rattle.spv_type_forms.specs.inner.Tests.{has_type}
use Rattle.spv_ops.proofs.TwoTypes.{two_calculated, two_given}
use Rattle.spv_ops.proofs.common.binary_holds.Goals.{then-is_typed, else-is_typed}
use Rattle.spv_ops.proofs.common.binary_holds.Goals as goal

pub returns-then-is_typed-2 : goal.returns-then-is_typed-2
returns-then-is_typed-2 c =
    let is = c.args.definitions.now in
    let s = c.args.sort in
    let r = c.args.r in
    let a = c.args.a in
    let b = c.args.b in
    elim c.if-is_typed.branch [
      | then-is_typed w ↦
          let x : has_type is r a ≡ true = cc in
          let y : has_type is r b ≡ true = cc in (
            λ h. two_calculated is s r a b x y (c.has_sort.ensures.0 h),
            λ h. c.has_sort.ensures.1 (two_given is s r a b h).2,
          )
      | else-is_typed w ↦ absurd (let no : false ≡ true = cc in cc)
    ]
