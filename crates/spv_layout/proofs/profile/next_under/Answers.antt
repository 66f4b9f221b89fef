use Rattle.std.proofs.Common.{◌≡◌, ◌∙◌, ℕ, refl, sym, ap, Bool, true, false, Option, Some, None}
use Rattle.spv_module.specs.declared.profile.Profile.{Profile}
use Rattle.spv_layout.specs.declared.state.State.{State}
use Rattle.spv_layout.specs.Row.{PlainRow}
use Rattle.spv_layout.specs.Rows.{row_of, class_in, class_of}
use Rattle.spv_layout.specs.Profile.{includes, has_row}
use Rattle.spv_layout.specs.Layout.{seen, class_under}
use Rattle.spv_layout.specs.inner.Row.{plain_row}
use Rattle.spv_layout.specs.inner.State.{next_of}
use Rattle.spv_layout.proofs.Seen.{outside, class_known}
use Rattle.spv_layout.proofs.profile.next_under.Goals as goal

known_row : (p : Profile) (o : Option PlainRow) (r : PlainRow) (b : Bool) → o ≡ Some r → b ≡ includes p r.profile → has_row p o ≡ b
known_row p o r b e h = rw (e, h) refl

not_known : (p : Profile) (s : State) (n : ℕ) → has_row p (row_of n) ≡ false → None ≡ next_of s (class_under p n)
not_known p s n h = rw (h, outside s) refl

no_row : (p : Profile) (o : Option PlainRow) → o ≡ None → has_row p o ≡ false
no_row p o e = rw e refl

pub returns-in_default : goal.returns-in_default
returns-in_default c = not_known c.args.profile c.args.state c.args.opcode (no_row c.args.profile (row_of c.args.opcode) (sym c.in_default.ensures.row))

pub returns-then-includes : goal.returns-then-includes
returns-then-includes c =
    let k = known_row c.args.profile (row_of c.args.opcode) (plain_row c.in-Some.row.now) c.includes.result (sym c.in-Some.ensures.row) c.includes.ensures in
    let u = class_known c.args.profile c.args.opcode (k ∙ c.if-includes.true) in
    let same : c.in-Some.row.now.class ≡ class_of c.args.opcode = ap class_in c.in-Some.ensures.row in
    c.next_seen.ensures ∙ ap (next_of c.args.state) (ap (seen c.args.profile) same ∙ sym u)

pub returns-else-includes : goal.returns-else-includes
returns-else-includes c =
    let k = known_row c.args.profile (row_of c.args.opcode) (plain_row c.in-Some.row.now) c.includes.result (sym c.in-Some.ensures.row) c.includes.ensures in
    not_known c.args.profile c.args.state c.args.opcode (k ∙ c.if-includes.false)
