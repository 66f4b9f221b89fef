use Rattle.std.proofs.Common.{◌≤◌, refl, ap, length, arith}
use Rattle.std.proofs.lemmas.List.{length-map}
use Rattle.spv_module.specs.Module.{plain_inst, plain_operand, plain_operands}
use Rattle.spv_interfaces.proofs.Using.{none_used, used_all, used_more, used_past}
use Rattle.spv_interfaces.proofs.used.Uses.note_extended.Goals.{in-Some+in_ok-note_id, in_default}
use Rattle.spv_interfaces.proofs.used.Uses.note_extended.Goals as goal

pub loop-at-init : goal.loop-at-init
loop-at-init c = record {
  noted = c.requires.noted;
  added = λ G f. none_used G c.args.wanted.minor c.args.definitions.now (plain_inst c.args.inst.now) c.args.number
      c.args.self.now.found.items;
}

pub loop-at-preserved : goal.loop-at-preserved
loop-at-preserved c =
    let is = c.args.definitions.now in
    let i = plain_inst c.args.inst.now in
    let first = c.args.self.now.found.items in
    let old = c.loop-at.self.found.items in
    elim c.match-used_id.branch [
      | in-Some+in_ok-note_id w ↦ rw w.self-is (record {
        noted = w.in_ok-note_id.ensures.noted;
        added = λ G f. used_more G c.args.wanted.minor is i c.args.number c.loop-at.at w.in-Some.x first old
            w.note_id.new.self.found.items (w.in-Some.ensures G f) (c.loop-at.invariant.added G f)
            w.in_ok-note_id.ensures.added;
      })
      | in_default w ↦ rw w.self-is (record {
        noted = c.loop-at.invariant.noted;
        added = λ G f. used_past G c.args.wanted.minor is i c.args.number c.loop-at.at first old
            (w.in_default.ensures G f) (c.loop-at.invariant.added G f);
      })
    ]

pub returns-clause-added : goal.returns-clause-added
returns-clause-added c = λ G f.
    let os = c.args.inst.now.operands in
    let l = ap length c.as_slice-at-end.ensures.value in
    let m = length-map os plain_operand in
    let t = c.loop-at-test.false in
    let le : length (plain_operands os) ≤ c.loop-at.at = omega (arith, l, m, t) in
    used_all G c.args.wanted.minor c.args.definitions.now (plain_inst c.args.inst.now) c.args.number c.loop-at.at
    (length (plain_operands os)) c.args.self.now.found.items c.loop-at.self.found.items le refl
    (c.loop-at.invariant.added G f)
