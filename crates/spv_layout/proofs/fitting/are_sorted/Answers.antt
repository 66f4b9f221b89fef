use Rattle.std.proofs.Common.{◌≡◌, ◌<◌, ◌∙◌, sym, map, None, refl, arith}
use Rattle.spv_module.specs.Module.{plain_operand}
use Rattle.spv_layout.specs.inner.Test.{sorts_of, sorts_asked}
use Rattle.spv_layout.proofs.Singles.{same_number, sorts_alone}
use Rattle.spv_layout.proofs.Tested.{sorts_tell}
use Rattle.spv_layout.proofs.fitting.are_sorted.Goals as goal

pub returns : goal.returns
returns c = λ g h.
    let row = c.args.row.now in
    let fs = row.fixed.now in
    let os = map plain_operand c.args.operands.now in
    let e : c.sorts.result ≡ row.sorts = same_number c.sorts.result row.sorts h in
    let q = c.requires.some in
    let s = sorts_alone row.sorts row.kind fs c.requires.sorts q in
    let p : 0 < c.sorts.result = omega (arith, e, q) in
    let t : sorts_of os ≡ sorts_asked fs = sym (c.sorts.ensures p) ∙ e ∙ s.0 in
    sorts_tell g None fs os t s.1 refl
