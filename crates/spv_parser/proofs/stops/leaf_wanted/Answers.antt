use Rattle.std.proofs.Common.{sym, ◌≡◌, ◌&&◌, false, refl, nat_eq}
use Rattle.spv_module.specs.declared.opcode.TheConstants.{SWITCH}
use Rattle.spv_table.specs.declared.form.Leaf.TheVariants as leaf
use Rattle.spv_inst.specs.inner.Pending.{plain_slot}
use Rattle.spv_parser.specs.declared.text_reason.Wanted.TheVariants as wanted
use Rattle.spv_parser.proofs.Halting.{wanted_leaf, wanted_context, wanted_switch, wanted_word}
use Rattle.spv_parser.proofs.Taken.{and_left, and_right}
use Rattle.spv_parser.proofs.stops.leaf_wanted.Goals as goal
use Rattle.spv_parser.proofs.stops.leaf_wanted.Goals.{else-asked-via-then-asked+else-known-eq-SWITCH}
use Rattle.spv_parser.proofs.stops.leaf_wanted.Goals.{else-asked-via-else-asked}

pub returns-in-ResultType : goal.returns-in-ResultType
returns-in-ResultType c =
    λ d a e. wanted_leaf c.args.setting.now.table.now d
    (plain_slot c.args.asked.slot) c.args.asked.leaf leaf.ResultType wanted.Id e c.in-ResultType.is refl

pub returns-in-Result : goal.returns-in-Result
returns-in-Result c =
    λ d a e. wanted_leaf c.args.setting.now.table.now d
    (plain_slot c.args.asked.slot) c.args.asked.leaf leaf.Result wanted.Result e c.in-Result.is refl

pub returns-in-Id : goal.returns-in-Id
returns-in-Id c = λ d a e. wanted_leaf c.args.setting.now.table.now d
    (plain_slot c.args.asked.slot) c.args.asked.leaf leaf.Id wanted.Id e c.in-Id.is refl

pub returns-in-Word : goal.returns-in-Word
returns-in-Word c = λ d a e. wanted_leaf c.args.setting.now.table.now d
    (plain_slot c.args.asked.slot) c.args.asked.leaf leaf.Word (wanted.Number 1 false) e c.in-Word.is refl

pub returns-in-Value : goal.returns-in-Value
returns-in-Value c = λ d a e. wanted_leaf c.args.setting.now.table.now d
    (plain_slot c.args.asked.slot) c.args.asked.leaf leaf.Value
    (wanted.Value c.args.asked.slot.kind) e c.in-Value.is refl

pub returns-in-Mask : goal.returns-in-Mask
returns-in-Mask c = λ d a e. wanted_leaf c.args.setting.now.table.now d
    (plain_slot c.args.asked.slot) c.args.asked.leaf leaf.Mask (wanted.Mask c.args.asked.slot.kind) e c.in-Mask.is refl

pub returns-in-Text : goal.returns-in-Text
returns-in-Text c = λ d a e. wanted_leaf c.args.setting.now.table.now d
    (plain_slot c.args.asked.slot) c.args.asked.leaf leaf.Text wanted.Text e c.in-Text.is refl

pub returns-in-Nothing : goal.returns-in-Nothing
returns-in-Nothing c =
    λ d a e. wanted_leaf c.args.setting.now.table.now d (plain_slot c.args.asked.slot) c.args.asked.leaf leaf.Nothing
    (wanted.Nothing c.args.asked.slot.kind) e c.in-Nothing.is refl

pub returns-in-ContextNumber : goal.returns-in-ContextNumber
returns-in-ContextNumber c = λ d a e.
    wanted_context c.args.setting.now.table.now d
    (plain_slot c.args.asked.slot) c.args.asked.leaf c.args.known.type_id c.typed_wanted-in-ContextNumber.result e
    c.in-ContextNumber.is a.operands.type_id (c.typed_wanted-in-ContextNumber.ensures d.before a.definitions)

pub returns-then-known-eq-SWITCH : goal.returns-then-known-eq-SWITCH
returns-then-known-eq-SWITCH c = λ d a e.
    wanted_switch c.args.setting.now.table.now d
    (plain_slot c.args.asked.slot) c.args.asked.leaf c.args.known.opcode c.type_of_first-type_id.result
    c.typed_wanted.result e c.in-Integer.is c.if-asked.true (sym a.operands.opcode) c.if-known-eq-SWITCH.true
    (c.type_of_first-type_id.ensures d a) (c.typed_wanted.ensures d.before a.definitions)

pub returns-else-asked : goal.returns-else-asked
returns-else-asked c = λ d a e.
    let s = plain_slot c.args.asked.slot in
    let b : (s.paired && nat_eq c.args.known.opcode SWITCH) ≡ false = elim c.else-asked.branch [
      | else-asked-via-then-asked+else-known-eq-SWITCH w ↦
          and_right s.paired c.args.known.opcode SWITCH w.if-known-eq-SWITCH.false
      | else-asked-via-else-asked w ↦ and_left s.paired (nat_eq c.args.known.opcode SWITCH) w.if-asked.false
    ] in
    wanted_word c.args.setting.now.table.now d s c.args.asked.leaf c.args.known.opcode
    (wanted.Number 1 false) e c.in-Integer.is (sym a.operands.opcode) b refl
