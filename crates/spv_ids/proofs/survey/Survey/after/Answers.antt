use Rattle.std.proofs.Common.{◌≡◌, ◌<◌, ℕ, get_or, arith}
use Rattle.spv_module.specs.Module.{plain_inst}
use Rattle.spv_module.specs.declared.opcode.TheConstants as opcode
use Rattle.spv_ids.specs.inner.Survey.{insts_of}
use Rattle.spv_ids.proofs.Opens.{goes_on, stays_open}
use Rattle.spv_ids.proofs.Passing.{inst_of, not_announced, clean_at}
use Rattle.spv_ids.proofs.survey.Survey.after.Goals as goal

-- an OpExtInst neither begins nor ends a function, and announces no id
other : (o m : ℕ) → o ≡ opcode.EXT_INST → 12 < m → o ≡ m → ⊥
other o m e l h = omega arith

pub is_extended_sound-requires-clause-floor : goal.is_extended_sound-requires-clause-floor
is_extended_sound-requires-clause-floor c = λ l.
    let s = c.args.self.now in
    let n = c.args.inst in
    let t = inst_of s n c.index-self-inst.result c.requires.survey c.requires.below in
    let i = plain_inst (get_or s.insts.now n c.index-self-inst.result) in
    goes_on (insts_of s) n c.args.floor i t (other i.opcode opcode.FUNCTION c.if-there-eq-EXT_INST.true (omega arith))
    (c.requires.open l)

pub is_extended_sound-requires-clause-there : goal.is_extended_sound-requires-clause-there
is_extended_sound-requires-clause-there c =
    inst_of c.args.self.now c.args.inst c.index-self-inst.result c.requires.survey c.requires.below

pub returns-then-is_extended_sound-clause-clean : goal.returns-then-is_extended_sound-clause-clean
returns-then-is_extended_sound-clause-clean c = c.is_extended_sound.ensures c.if-is_extended_sound.true

pub returns-then-is_extended_sound-clause-silent : goal.returns-then-is_extended_sound-clause-silent
returns-then-is_extended_sound-clause-silent c =
    let s = c.args.self.now in
    let n = c.args.inst in
    let t = inst_of s n c.index-self-inst.result c.requires.survey c.requires.below in
    let i = plain_inst (get_or s.insts.now n c.index-self-inst.result) in
    not_announced (insts_of s) n i t (other i.opcode opcode.TYPE_FORWARD_POINTER c.if-there-eq-EXT_INST.true
    (omega arith))

pub returns-then-is_extended_sound-clause-open : goal.returns-then-is_extended_sound-clause-open
returns-then-is_extended_sound-clause-open c = λ l.
    let s = c.args.self.now in
    let n = c.args.inst in
    let i = plain_inst (get_or s.insts.now n c.index-self-inst.result) in
    let t = inst_of s n c.index-self-inst.result c.requires.survey c.requires.below in
    let e = c.if-there-eq-EXT_INST.true in
    stays_open (insts_of s) n c.args.floor i t (other i.opcode opcode.FUNCTION_END e (omega arith))
    (goes_on (insts_of s) n c.args.floor i t (other i.opcode opcode.FUNCTION e (omega arith)) (c.requires.open l))

pub are_ordinary_sound-requires-clause-floor : goal.are_ordinary_sound-requires-clause-floor
are_ordinary_sound-requires-clause-floor c = λ l.
    let s = c.args.self.now in
    let n = c.args.inst in
    let t = inst_of s n c.index-self-inst.result c.requires.survey c.requires.below in
    goes_on (insts_of s) n c.args.floor (plain_inst (get_or s.insts.now n c.index-self-inst.result)) t
    (c.is_ordinary.ensures.begins c.if-is_ordinary.true) (c.requires.open l)

pub are_ordinary_sound-requires-clause-operands : goal.are_ordinary_sound-requires-clause-operands
are_ordinary_sound-requires-clause-operands c =
    let s = c.args.self.now in
    let n = c.args.inst in
    record {
      inst = plain_inst (get_or s.insts.now n c.index-self-inst.result);
      there = inst_of s n c.index-self-inst.result c.requires.survey c.requires.below;
      same = c.seen.ensures;
    }

pub returns-then-are_ordinary_sound-clause-clean : goal.returns-then-are_ordinary_sound-clause-clean
returns-then-are_ordinary_sound-clause-clean c =
    let s = c.args.self.now in
    let n = c.args.inst in
    let t = inst_of s n c.index-self-inst.result c.requires.survey c.requires.below in
    clean_at s n (plain_inst (get_or s.insts.now n c.index-self-inst.result)) c.seen.result.now c.requires.survey
    c.requires.below t c.if-there-eq-EXT_INST.false c.seen.ensures
    (c.are_ordinary_sound.ensures c.if-are_ordinary_sound.true)

pub returns-then-are_ordinary_sound-clause-silent : goal.returns-then-are_ordinary_sound-clause-silent
returns-then-are_ordinary_sound-clause-silent c =
    let s = c.args.self.now in
    let n = c.args.inst in
    let t = inst_of s n c.index-self-inst.result c.requires.survey c.requires.below in
    not_announced (insts_of s) n (plain_inst (get_or s.insts.now n c.index-self-inst.result)) t
    (c.is_ordinary.ensures.announces c.if-is_ordinary.true)

pub returns-then-are_ordinary_sound-clause-open : goal.returns-then-are_ordinary_sound-clause-open
returns-then-are_ordinary_sound-clause-open c = λ l.
    let s = c.args.self.now in
    let n = c.args.inst in
    let i = plain_inst (get_or s.insts.now n c.index-self-inst.result) in
    let t = inst_of s n c.index-self-inst.result c.requires.survey c.requires.below in
    let g = c.if-is_ordinary.true in
    stays_open (insts_of s) n c.args.floor i t (c.is_ordinary.ensures.ends g)
    (goes_on (insts_of s) n c.args.floor i t (c.is_ordinary.ensures.begins g) (c.requires.open l))

pub are_sound-requires-clause-floor : goal.are_sound-requires-clause-floor
are_sound-requires-clause-floor c =
    let s = c.args.self.now in
    c.entered-here.ensures (insts_of s) (inst_of s c.args.inst c.index-self-inst.result c.requires.survey
    c.requires.below) c.requires.open

pub are_sound-requires-clause-operands : goal.are_sound-requires-clause-operands
are_sound-requires-clause-operands c =
    let s = c.args.self.now in
    let n = c.args.inst in
    record {
      inst = plain_inst (get_or s.insts.now n c.index-self-inst.result);
      there = inst_of s n c.index-self-inst.result c.requires.survey c.requires.below;
      same = c.seen-2.ensures;
    }

pub returns-then-are_sound-clause-clean : goal.returns-then-are_sound-clause-clean
returns-then-are_sound-clause-clean c =
    let s = c.args.self.now in
    let n = c.args.inst in
    let t = inst_of s n c.index-self-inst.result c.requires.survey c.requires.below in
    clean_at s n (plain_inst (get_or s.insts.now n c.index-self-inst.result)) c.seen-2.result.now c.requires.survey
    c.requires.below t c.if-there-eq-EXT_INST.false c.seen-2.ensures (c.are_sound.ensures c.if-are_sound.true)

pub returns-then-are_sound-clause-silent : goal.returns-then-are_sound-clause-silent
returns-then-are_sound-clause-silent c =
    let s = c.args.self.now in
    let n = c.args.inst in
    let t = inst_of s n c.index-self-inst.result c.requires.survey c.requires.below in
    not_announced (insts_of s) n (plain_inst (get_or s.insts.now n c.index-self-inst.result)) t
    c.if-there-eq-TYPE_FORWARD_POINTER.false

pub returns-then-are_sound-clause-open : goal.returns-then-are_sound-clause-open
returns-then-are_sound-clause-open c =
    let s = c.args.self.now in
    let n = c.args.inst in
    let t = inst_of s n c.index-self-inst.result c.requires.survey c.requires.below in
    c.left.ensures (insts_of s) n t (c.entered-here.ensures (insts_of s) t c.requires.open)
