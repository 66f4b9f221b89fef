use Rattle.std.proofs.Common.{◌≡◌, ◌≤◌, ◌<◌, ◌∙◌, refl, sym, ap, arith, length, true, take, get_or, string_bytes}
use Rattle.spv_module.specs.declared.operand.Operand.TheVariants as code
use Rattle.spv_module.specs.Module.{plain_operands}
use Rattle.spv_module.specs.Operand.{type_in}
use Rattle.spv_module.specs.Width.{first_id}
use Rattle.spv_inst.specs.inner.Known.{Knows}
use Rattle.spv_inst.specs.inner.Pending.{plain_slot, pending_due}
use Rattle.spv_lines.specs.Operand.{Shown}
use Rattle.spv_printer.specs.inner.Printer.{is_number}
use Rattle.spv_printer.proofs.Operands.{result_after, some_number}
use Rattle.spv_printer.proofs.Steps.{context_at, so_far, at_front, at_step, at_done}
use Rattle.spv_printer.proofs.printer.Printer.push_operands.Goals as goal

pub loop-number-preserved : goal.loop-number-preserved
loop-number-preserved c =
    let items = c.args.operands.now in
    let i = c.loop-number.number in
    let o = get_or items i (code.OfType 0) in
    let v = c.loop-number.invariant in
    let h : i < length items = omega arith in
    let n = so_far items i o (code.OfType 0) h refl in
    record {
      opcode = c.known_after-known.ensures.opcode ∙ v.opcode;
      type_id = c.known_after-known.ensures.type_id v.type_id ∙ ap type_in (sym n);
      first = c.known_after-known.ensures.first v.first ∙ ap first_id (sym n);
      has_result = c.in_ok-has_result.ensures.result
          ∙ result_after items i o (code.OfType 0) c.loop-number.has_result h refl v.has_result;
      shown = λ before r us t k m.
          let G = c.args.table.now in
          let s = plain_slot c.in-Some.asked.slot in
          let l = rw c.in-Some.is at c.in_ok-next.ensures.leaf in
          let d = rw c.in-Some.is at c.in_ok-next.ensures.due in
          let a = v.shown before r us t k m in
          let f = at_front (Shown G) G r before c.args.opcode items (pending_due G c.loop-number.self.pending)
          (pending_due G c.next_leaf.new.self) (string_bytes c.args.out.now)
          (string_bytes c.loop-number.out) t i s c.in-Some.asked.leaf o (code.OfType 0) a h refl l d in
          let q : is_number o ≡ true
          → Knows c.loop-number.self.definitions before = λ n. rw v.same (k (some_number items i o _ h refl n)) in
          let p = c.in_ok-has_result.ensures.text
          (context_at before c.args.opcode (plain_operands (take i items))) r f.words f.piece f.slots
          (λ n. record { definitions = q n; opcode = v.opcode; type_id = v.type_id; first = v.first }) v.has_result
          l f.takes f.is_piece in
          at_step (Shown G) G r before c.args.opcode items (pending_due G c.loop-number.self.pending)
          (pending_due G c.open.new.self) (pending_due G c.next_leaf.new.self) (string_bytes c.args.out.now)
          (string_bytes c.loop-number.out)
          (string_bytes c.push_piece.new.out) t i s c.in-Some.asked.leaf o
          (code.OfType 0) a h refl l f c.in_ok-open.ensures p;
      ready = record { whole = v.ready.whole; forms = v.ready.forms; names = c.in_ok-has_result.ensures.names };
      same = v.same;
    }

pub returns-clause-text : goal.returns-clause-text
returns-clause-text c = λ before r us t k m.
    let G = c.args.table.now in
    let h : length c.args.operands.now ≤ c.loop-number.number = omega arith in
    at_done (Shown G) G r before c.args.opcode c.args.operands.now _ _ _ t c.loop-number.number
    (c.loop-number.invariant.shown before r us t k m) h
