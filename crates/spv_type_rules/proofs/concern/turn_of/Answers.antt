use Rattle.std.proofs.Common.{◌≡◌, ◌≤◌, Some, length, refl, arith}
use Rattle.std.specs.Prelude.{slice_get}
use Rattle.std.proofs.lemmas.Option.{slice_get_read}
use Rattle.spv_type_rules.specs.declared.concern.TheConstants.{TURNS}
use Rattle.spv_type_rules.specs.inner.Turn.{IsTurn}
use Rattle.spv_type_rules.proofs.Turns.{listed, late}
use Rattle.spv_type_rules.proofs.concern.turn_of.Goals as goal

pub returns-in-Some : goal.returns-in-Some
returns-in-Some c =
    let h = c.in-Some.ensures.lookup in
    let e : slice_get TURNS c.from.result ≡ Some c.in-Some.turn.now =
    slice_get_read TURNS (length TURNS) c.from.result c.in-Some.turn.now refl h.3.0 h.1 in
    let e' : slice_get TURNS c.args.number ≡ Some c.in-Some.turn.now = rw c.from.ensures at e in
    listed c.args.number c.in-Some.turn.now e'

pub returns-in-None : goal.returns-in-None
returns-in-None c =
    let l = c.in-None.ensures.lookup.3 in
    let g = c.from.ensures in
    late c.args.number (omega (arith, l, g))
