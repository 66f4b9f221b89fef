use Rattle.std.proofs.Common.{◌≡◌, ◌<◌, ◌∙◌, sym, map, Some, arith}
use Rattle.spv_module.specs.Module.{plain_operand}
use Rattle.spv_layout.specs.inner.Test.{sorts_of, sorts_asked}
use Rattle.spv_layout.proofs.Singles.{sorts_kinded}
use Rattle.spv_layout.proofs.Tested.{asked_end, sorts_tell}
use Rattle.spv_layout.proofs.fitting.are_kinded.Goals as goal

pub returns-then-sorts-kind : goal.returns-then-sorts-kind
returns-then-sorts-kind c = λ h.
    let row = c.args.row.now in
    let fs = row.fixed.now in
    let os = map plain_operand c.args.operands.now in
    let kind = c.in-Some.kind in
    let e : c.sorts.result ≡ kind.sorts = c.if-sorts-kind.true in
    let s = sorts_kinded row.sorts kind fs (rw c.in-Some.is at c.requires) in
    let same = s.0 in
    let end = asked_end fs in
    let p : 0 < c.sorts.result = omega (arith, e, same, end) in
    let t : sorts_of os ≡ sorts_asked fs = sym (c.sorts.ensures p) ∙ e ∙ same in
    sorts_tell c.args.kinds.now (Some kind.place) fs os t s.1 (c.is_kind_there.ensures h)
