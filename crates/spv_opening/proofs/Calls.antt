-- What breaks the rule on cycles of calls breaks it where the module is opened, too.
use Rattle.std.proofs.Common.{◌≡◌, ℕ, List, sym, ◌∙◌}
use Rattle.spv_module.specs.Operand.{PlainInst}
use Rattle.spv_module.specs.declared.opcode.TheConstants as opcode
use Rattle.spv_module.specs.declared.fault.Rule.{Rule}
use Rattle.spv_flow.specs.calls.Broken.{Broken}
use Rattle.spv_flow.specs.calls.Calls.{IsCall, Calls, IsEntryFunction}
use Rattle.spv_flow.specs.calls.Chain.{Chain}
use Rattle.spv_opening.proofs.Alike.{Alike, defined, same_at}
use Rattle.spv_opening.proofs.Spots.{of_function, definition}

call : (is js : List PlainInst) → Alike is js → (n f g : ℕ) → IsCall is n f g → IsCall js n f g
call is js a n f g c = record {
  inst = c.inst;
  there = same_at is js a n c.inst c.there
      (λ e. let never : opcode.FUNCTION_CALL ≡ opcode.EXT_INST = sym c.opcode ∙ e in cc);
  opcode = c.opcode;
  callee = c.callee;
  named = c.named;
  of = of_function is js a n f c.of;
  caller = definition is js a f c.caller;
  function = defined is js a c.callee g c.function;
  called = definition is js a g c.called;
}

calls : (is js : List PlainInst) → Alike is js → (f g : ℕ) → Calls is f g → Calls js f g
calls is js a f g c = record { place = c.place; call = call is js a c.place f g c.call }

chain : (is js : List PlainInst) → Alike is js → (f g : ℕ) → Chain (Calls is) f g → Chain (Calls js) f g
chain is js a f _ Chain.alone = Chain.alone
chain is js a f _ (Chain.more g h c d) = Chain.more g h (chain is js a f g c) (calls is js a g h d)

entry_function : (is js : List PlainInst) → Alike is js → (f : ℕ) → IsEntryFunction is f → IsEntryFunction js f
entry_function is js a f e = record {
  place = e.place;
  inst = e.inst;
  there = same_at is js a e.place e.inst e.there
      (λ x. let never : opcode.ENTRY_POINT ≡ opcode.EXT_INST = sym e.opcode ∙ x in cc);
  opcode = e.opcode;
  id = e.id;
  named = e.named;
  function = defined is js a e.id f e.function;
}

pub calls_broken : (is js : List PlainInst) → Alike is js → (r : Rule) (n : ℕ) → Broken is r n → Broken js r n
calls_broken is js a _ _ (Broken.on_cycle n e f g c h d k) =
    Broken.on_cycle n e f g (call is js a n f g c) (entry_function is js a e h) (chain is js a e f d)
    (chain is js a g f k)
