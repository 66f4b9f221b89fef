use Rattle.std.proofs.Common.{◌≡◌, ◌∙◌, sym, true, Some}
use Rattle.spv_layout.specs.Rows.{row_of}
use Rattle.spv_layout.specs.inner.Row.{plain_row}
use Rattle.spv_layout.specs.inner.Unkinded.{are_unkinded, is_unkinded_ending}
use Rattle.spv_layout.proofs.Kindless.{unkinded_operands}
use Rattle.spv_layout.proofs.unkinded.is_unkinded.Goals as goal

pub returns-then-are_unkinded-clause-operands : goal.returns-then-are_unkinded-clause-operands
returns-then-are_unkinded-clause-operands c = λ t G i f e.
    let r = plain_row c.in-Some.row.now in
    let k : row_of i.opcode ≡ Some r = rw e (sym c.in-Some.ensures.row) in
    let a : are_unkinded r.fixed ≡ true = sym c.are_unkinded.ensures ∙ c.if-are_unkinded.true in
    let b : is_unkinded_ending r.ending ≡ true = sym c.is_ending_unkinded.ensures ∙ t in
    unkinded_operands G i r k a b f
