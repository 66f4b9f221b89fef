use Rattle.std.proofs.Common.{◌≡◌, ◌≤◌, refl, ap, length, arith}
use Rattle.std.proofs.lemmas.List.{length-map}
use Rattle.spv_module.specs.declared.operand.Operand.TheVariants as code
use Rattle.spv_module.specs.Module.{plain_inst, plain_operand, plain_operands}
use Rattle.spv_interfaces.proofs.Using.{none_used, operand_used, used_all, used_more, used_past}
use Rattle.spv_interfaces.proofs.used.Uses.note_plain.Goals.{in-Some+in_ok-note_id, in_default}
use Rattle.spv_interfaces.proofs.used.Uses.note_plain.Goals as goal

pub loop-operand-init : goal.loop-operand-init
loop-operand-init c = record {
  noted = c.requires.noted;
  added = λ G f. none_used G c.args.wanted.minor c.args.definitions.now (plain_inst c.args.inst.now) c.args.number
      c.args.self.now.found.items;
}

pub loop-operand-preserved : goal.loop-operand-preserved
loop-operand-preserved c =
    let is = c.args.definitions.now in
    let i = plain_inst c.args.inst.now in
    let k = c.loop-operand.operand-index in
    let first = c.args.self.now.found.items in
    let old = c.loop-operand.self.found.items in
    let os = c.as_slice-operand-items.result.now in
    let same : plain_operands os ≡ i.operands = ap plain_operands c.as_slice-operand-items.ensures.value in
    elim c.match-seen_id.branch [
      | in-Some+in_ok-note_id w ↦ rw w.self-is (record {
        noted = w.in_ok-note_id.ensures.noted;
        added = λ G f.
            let u = operand_used G i os k (code.OfType 0) c.seen_id.result same c.loop-operand-test.true
            c.seen_id.ensures c.requires.plain f in
            used_more G c.args.wanted.minor is i c.args.number k w.in-Some.x first old w.note_id.new.self.found.items
            (rw w.in-Some.is at u) (c.loop-operand.invariant.added G f) w.in_ok-note_id.ensures.added;
      })
      | in_default w ↦ rw w.self-is (record {
        noted = c.loop-operand.invariant.noted;
        added = λ G f.
            let u = operand_used G i os k (code.OfType 0) c.seen_id.result same c.loop-operand-test.true
            c.seen_id.ensures c.requires.plain f in
            used_past G c.args.wanted.minor is i c.args.number k first old (rw w.in_default.is at u)
            (c.loop-operand.invariant.added G f);
      })
    ]

pub returns-clause-added : goal.returns-clause-added
returns-clause-added c = λ G f.
    let os = c.args.inst.now.operands in
    let l = ap length c.as_slice-operand-items.ensures.value in
    let m = length-map os plain_operand in
    let t = c.loop-operand-test.false in
    let le : length (plain_operands os) ≤ c.loop-operand.operand-index = omega (arith, l, m, t) in
    used_all G c.args.wanted.minor c.args.definitions.now (plain_inst c.args.inst.now) c.args.number
    c.loop-operand.operand-index (length (plain_operands os)) c.args.self.now.found.items
    c.loop-operand.self.found.items le refl (c.loop-operand.invariant.added G f)
