use Rattle.std.proofs.Common.{◌≡◌, ◌-◌, ◌∙◌, length, take, drop, sym, arith}
use Rattle.std.proofs.lemmas.List.{take_all, length-drop}
use Rattle.spv_table.specs.declared.form.Leaf.TheVariants as leaf
use Rattle.spv_inst.specs.inner.Pairs.{context_at}
use Rattle.spv_inst.proofs.Fitting.{integer_number}
use Rattle.spv_inst.proofs.Shapes.{shape_leaf}
use Rattle.spv_inst.proofs.pairs.read_pairs.Goals as goal

pub returns-in-Id-clause-sofar : goal.returns-in-Id-clause-sofar
returns-in-Id-clause-sofar c = λ b pattern know s.
    let G = c.args.scene.now.table.now in
    c.read_id_pairs-at.ensures.sofar G b pattern _ _ _ c.in-Some.ensures.due
    (λ x. shape_leaf G x _ c.in-Some.pair.leaf leaf.Id c.in-Some.ensures.leaf c.in-Id.is) s

pub returns-then-place-eq-SWITCH-clause-sofar : goal.returns-then-place-eq-SWITCH-clause-sofar
returns-then-place-eq-SWITCH-clause-sofar c = λ b pattern know s.
    let G = c.args.scene.now.table.now in
    let n = c.args.begin in
    let os = c.args.operands.now.items in
    let r = c.requires.room in
    let d = length-drop n os in
    let v : take (length os - n) (drop n os) ≡ drop n os = take_all (length os - n) (drop n os) (omega arith) in
    let ty = rw (c.deref.ensures.value, v) at c.known_of-known.ensures.type_id in
    let fi = rw (c.deref.ensures.value, v) at c.known_of-known.ensures.first in
    let w = c.in-Some-switch_width.ensures (context_at b c.args.place.opcode (drop n os))
    (record { definitions = know; opcode = c.known_of-known.ensures.opcode; type_id = ty; first = fi }) in
    c.read_cases-at.ensures.sofar G b pattern _ _ _ c.in-Some.ensures.due
    (λ x o. shape_leaf G x _ c.in-Some.pair.leaf leaf.Integer c.in-Some.ensures.leaf c.in-Integer.is
    ∙ integer_number x c.in-Some.pair.paired c.args.place.opcode c.if-pair.true c.if-place-eq-SWITCH.true (sym o))
    (sym w) s
