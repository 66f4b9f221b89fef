use Rattle.std.proofs.Common.{sym, ◌≡◌, ◌&&◌, false, nat_eq}
use Rattle.std.specs.Prelude.{Err}
use Rattle.spv_module.specs.declared.opcode.TheConstants.{SWITCH}
use Rattle.spv_lines.specs.declared.misread.Misread.TheVariants.{IllFormed}
use Rattle.spv_table.specs.declared.form.Leaf.TheVariants as leaf
use Rattle.spv_inst.specs.inner.Pending.{plain_slot}
use Rattle.spv_lines.specs.Operand.{is_float}
use Rattle.spv_parser.proofs.Taken.{as_leaf, context_token, switch_token, plain_integer, nothing_token, and_left}
use Rattle.spv_parser.proofs.Taken.{and_right}
use Rattle.spv_parser.proofs.token.read_token.Goals as goal
use Rattle.spv_parser.proofs.token.read_token.Goals.{else-asked-via-then-asked+else-known-eq-SWITCH}
use Rattle.spv_parser.proofs.token.read_token.Goals.{else-asked-via-else-asked}

pub returns-in-ResultType : goal.returns-in-ResultType
returns-in-ResultType c = λ d a e n.
    let G = c.args.setting.now.table.now in
    let s = plain_slot c.args.asked.slot in
    let hex = is_float G d s in
    as_leaf G d s c.args.asked.leaf leaf.ResultType hex c.args.token.now c.read_type_id.result e c.in-ResultType.is
    (rw c.as_bytes-octets.ensures.value at (c.read_type_id.ensures G hex s.kind))

pub returns-in-Result : goal.returns-in-Result
returns-in-Result c = λ d a e n.
    let G = c.args.setting.now.table.now in
    let s = plain_slot c.args.asked.slot in
    let hex = is_float G d s in
    as_leaf G d s c.args.asked.leaf leaf.Result hex c.args.token.now c.read_result_id.result e c.in-Result.is
    (rw c.as_bytes-octets.ensures.value at (c.read_result_id.ensures G hex s.kind))

pub returns-in-Id : goal.returns-in-Id
returns-in-Id c = λ d a e n.
    let G = c.args.setting.now.table.now in
    let s = plain_slot c.args.asked.slot in
    let hex = is_float G d s in
    as_leaf G d s c.args.asked.leaf leaf.Id hex c.args.token.now c.read_id.result e c.in-Id.is
    (rw c.as_bytes-octets.ensures.value at (c.read_id.ensures G hex s.kind))

pub returns-in-Word : goal.returns-in-Word
returns-in-Word c = λ d a e n.
    let G = c.args.setting.now.table.now in
    let s = plain_slot c.args.asked.slot in
    let hex = is_float G d s in
    as_leaf G d s c.args.asked.leaf leaf.Word hex c.args.token.now c.read_word.result e c.in-Word.is
    (rw c.as_bytes-octets.ensures.value at (c.read_word.ensures G hex s.kind))

pub returns-in-Value : goal.returns-in-Value
returns-in-Value c = λ d a e n.
    let G = c.args.setting.now.table.now in
    let s = plain_slot c.args.asked.slot in
    let hex = is_float G d s in
    as_leaf G d s c.args.asked.leaf leaf.Value hex c.args.token.now c.read_value.result e c.in-Value.is
    (c.read_value.ensures hex)

pub returns-in-Mask : goal.returns-in-Mask
returns-in-Mask c = λ d a e n.
    let G = c.args.setting.now.table.now in
    let s = plain_slot c.args.asked.slot in
    let hex = is_float G d s in
    as_leaf G d s c.args.asked.leaf leaf.Mask hex c.args.token.now c.read_mask.result e c.in-Mask.is
    (c.read_mask.ensures hex)

pub returns-in-ContextNumber : goal.returns-in-ContextNumber
returns-in-ContextNumber c = λ d a e n.
    let G = c.args.setting.now.table.now in
    let s = plain_slot c.args.asked.slot in
    context_token G d s c.args.asked.leaf c.args.known.type_id c.args.token.now c.read_typed-in-ContextNumber.result e
    c.in-ContextNumber.is a.operands.type_id
    (rw c.as_bytes-octets.ensures.value at (c.read_typed-in-ContextNumber.ensures d.before G s.kind a.definitions))

pub returns-then-known-eq-SWITCH : goal.returns-then-known-eq-SWITCH
returns-then-known-eq-SWITCH c = λ d a e n.
    let G = c.args.setting.now.table.now in
    let s = plain_slot c.args.asked.slot in
    switch_token G d s c.args.asked.leaf c.args.known.opcode c.type_of_first-type_id.result c.args.token.now
    c.read_typed.result e c.in-Integer.is c.if-asked.true (sym a.operands.opcode) c.if-known-eq-SWITCH.true
    (c.type_of_first-type_id.ensures d a)
    (rw c.as_bytes-octets.ensures.value at (c.read_typed.ensures d.before G s.kind a.definitions))

pub returns-else-asked : goal.returns-else-asked
returns-else-asked c = λ d a e n.
    let G = c.args.setting.now.table.now in
    let s = plain_slot c.args.asked.slot in
    let b : (s.paired && nat_eq c.args.known.opcode SWITCH) ≡ false = elim c.else-asked.branch [
      | else-asked-via-then-asked+else-known-eq-SWITCH w ↦
          and_right s.paired c.args.known.opcode SWITCH w.if-known-eq-SWITCH.false
      | else-asked-via-else-asked w ↦ and_left s.paired (nat_eq c.args.known.opcode SWITCH) w.if-asked.false
    ] in
    plain_integer G d s c.args.asked.leaf c.args.known.opcode c.args.token.now c.read_word-in-Integer.result e
    c.in-Integer.is (sym a.operands.opcode) b
    (rw c.as_bytes-octets.ensures.value at (c.read_word-in-Integer.ensures G (is_float G d s) s.kind))

pub returns-in-Text : goal.returns-in-Text
returns-in-Text c = λ d a e n. absurd (n c.in-Text.is)

pub returns-in-Nothing : goal.returns-in-Nothing
returns-in-Nothing c = λ d a e n.
    let G = c.args.setting.now.table.now in
    let s = plain_slot c.args.asked.slot in
    as_leaf G d s c.args.asked.leaf leaf.Nothing (is_float G d s) c.args.token.now (Err IllFormed) e c.in-Nothing.is
    (nothing_token G (is_float G d s) s.kind c.args.token.now)
