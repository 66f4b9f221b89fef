use Rattle.std.proofs.Common.{◌≡◌, ◌∙◌, length, ap}
use Rattle.spv_module.specs.Module.{plain_operands}
use Rattle.spv_form_evidence.proofs.lemmas.words.Preceding.{before_first, before_within, before_alive, before_next}
use Rattle.spv_form_evidence.proofs.words.before.read_before.Goals as goal

pub loop-number-init : goal.loop-number-init
loop-number-init c =
    let d = c.requires.dead in
    before_first c.args.table.now c.args.image.now c.new-definitions.result d.0 c.args.inst d.1
    c.new-definitions.ensures d.2

pub read_apart-requires-clause-fits : goal.read_apart-requires-clause-fits
read_apart-requires-clause-fits c =
    let d = c.requires.dead in
    before_within c.args.table.now c.args.image.now c.loop-number.number c.loop-number.at c.loop-number.definitions
    d.0 c.args.inst d.1 c.loop-number.invariant d.2

pub unreachable-requires : goal.unreachable-requires
unreachable-requires c =
    let d = c.requires.dead in
    let b = c.loop-number.invariant in
    let e = rw c.in-Err-Fault.field-0-is at (c.in-Err-Fault.ensures.dead b.insts b.knows) in
    before_alive c.args.table.now c.args.image.now c.loop-number.number c.loop-number.at c.loop-number.definitions d.0
    c.in-Err-Fault.field-0-0.rule c.args.inst d.1 _ b d.2 c.loop-number-test.true e.2

pub loop-number-preserved : goal.loop-number-preserved
loop-number-preserved c =
    let x = c.in-Ok.read in
    let new = c.read_apart.new.operands.items in
    let kept = c.in-Ok.ensures.kept in
    let f : x.first ≡ 0 = kept.0 ∙ ap length c.clear.ensures.items in
    let within = c.in-Ok.ensures.within in
    before_next c.args.table.now c.args.image.now c.loop-number.number c.loop-number.at x.end
    c.loop-number.definitions c.add.new.self
    (record { opcode = x.opcode; operands = plain_operands new }) c.loop-number.invariant within.0 within.1 (λ b k. rw
    f at (c.in-Ok.ensures.read b k))
    (λ b k. rw c.deref.ensures.value at (c.in_ok-add.ensures.knows b k))
