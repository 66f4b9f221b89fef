use Rattle.std.proofs.Common.{◌≡◌, ◌∙◌, refl, sym, ap, Bool, true, Option, Some}
use Rattle.spv_module.specs.Module.{plain_inst}
use Rattle.spv_module.specs.declared.profile.Profile.{Profile}
use Rattle.spv_layout.specs.Row.{PlainRow}
use Rattle.spv_layout.specs.inner.Row.{plain_row}
use Rattle.spv_layout.specs.Rows.{class_in, row_of}
use Rattle.spv_layout.specs.Profile.{includes, has_row}
use Rattle.spv_layout.proofs.Tested.{fits_iff}
use Rattle.spv_layout.proofs.Singles.{single_words, front_words}
use Rattle.spv_layout.proofs.fitting.fitting.Goals as goal

-- whether a profile has a row that is known
known_row : (p : Profile) (o : Option PlainRow) (r : PlainRow) (b : Bool) → o ≡ Some r → b ≡ includes p r.profile → has_row p o ≡ b
known_row p o r b e h = rw (e, h) refl

pub returns-then-not-includes-clause-misfit : goal.returns-then-not-includes-clause-misfit
returns-then-not-includes-clause-misfit c = λ f.
    let k = known_row c.args.profile (row_of c.args.inst.now.opcode) (plain_row c.in-Some.row.now) c.includes.result (sym c.in-Some.ensures.row) c.includes.ensures in
    let h = f.known in
    let e = c.if-not-includes.true in
    cc

pub returns-then-have_row-clause-fits : goal.returns-then-have_row-clause-fits
returns-then-have_row-clause-fits c =
    let t = rw c.as_slice.ensures.value at (sym c.have_row.ensures) in
    let f = fits_iff c.args.kinds.now (plain_inst c.args.inst.now) (Some (plain_row c.in-Some.row.now)) c.have_row.result (sym c.in-Some.ensures.row) t in
    let k = known_row c.args.profile (row_of c.args.inst.now.opcode) (plain_row c.in-Some.row.now) c.includes.result (sym c.in-Some.ensures.row) c.includes.ensures in
    record { known = k ∙ c.if-not-includes.false; shape = f.0 c.if-have_row.true }

pub returns-then-have_row-clause-class : goal.returns-then-have_row-clause-class
returns-then-have_row-clause-class c = ap class_in c.in-Some.ensures.row

pub returns-then-have_row-clause-single : goal.returns-then-have_row-clause-single
returns-then-have_row-clause-single c = λ h.
    let t = rw c.as_slice.ensures.value at (sym c.have_row.ensures) in
    let f = fits_iff c.args.kinds.now (plain_inst c.args.inst.now) (Some (plain_row c.in-Some.row.now)) c.have_row.result (sym c.in-Some.ensures.row) t in
    single_words c.args.kinds.now (plain_inst c.args.inst.now) (plain_row c.in-Some.row.now) (f.0 c.if-have_row.true) (sym c.in-Some.ensures.row) (sym c.in-Some.ensures.single ∙ h)

pub returns-then-have_row-clause-front : goal.returns-then-have_row-clause-front
returns-then-have_row-clause-front c =
    let t = rw c.as_slice.ensures.value at (sym c.have_row.ensures) in
    let f = fits_iff c.args.kinds.now (plain_inst c.args.inst.now) (Some (plain_row c.in-Some.row.now)) c.have_row.result (sym c.in-Some.ensures.row) t in
    front_words c.args.kinds.now (plain_inst c.args.inst.now) (plain_row c.in-Some.row.now) c.in-Some.row.now.front (f.0 c.if-have_row.true) (sym c.in-Some.ensures.row) c.in-Some.ensures.front

pub returns-else-have_row-clause-misfit : goal.returns-else-have_row-clause-misfit
returns-else-have_row-clause-misfit c = λ g.
    let t = rw c.as_slice.ensures.value at (sym c.have_row.ensures) in
    let f = fits_iff c.args.kinds.now (plain_inst c.args.inst.now) (Some (plain_row c.in-Some.row.now)) c.have_row.result (sym c.in-Some.ensures.row) t in
    let h : c.have_row.result ≡ true = f.1 g.shape in
    let e = c.if-have_row.false in
    cc
