-- Calls that are in an order are on no cycle.
use Rattle.std.proofs.Common.{◌≡◌, ◌<◌, ◌≤◌, ℕ, List, sym, length, arith}
use Rattle.spv_module.specs.Operand.{PlainInst}
use Rattle.spv_module.specs.declared.fault.Rule.{Rule}
use Rattle.spv_layout.specs.Stage.{of_calls}
use Rattle.spv_layout.specs.First.{IsUnbroken}
use Rattle.spv_flow.specs.declared.calls.graph.Call.{Call}
use Rattle.spv_flow.specs.declared.calls.ordered.Way.{Way}
use Rattle.spv_flow.specs.declared.calls.ordered.Way.TheVariants.{Back, On}
use Rattle.spv_flow.specs.calls.Chain.{Chain, alone, more}
use Rattle.spv_flow.specs.calls.Calls.{Calls}
use Rattle.spv_flow.specs.calls.Broken.{Broken, on_cycle}
use Rattle.spv_flow.specs.calls.inner.Components.{number_of}
use Rattle.spv_flow.specs.calls.inner.Graph.{HasCall, NoneBefore}
use Rattle.spv_flow.specs.calls.inner.Found.{AreCalls}
use Rattle.spv_flow.specs.calls.inner.Ordered.{AllLead, AreFalling, AreAcyclic}
use Rattle.spv_flow.proofs.lemmas.calls.Bridge.{calls_has}
use Rattle.spv_flow.proofs.lemmas.calls.Chains.{mapped, moved}

goes_backward : (calls : List Call) → AllLead Back calls → (f g : ℕ) → Chain (HasCall calls) f g → g ≤ f
goes_backward calls a f _ alone = omega arith
goes_backward calls a f _ (more g h c k) =
    let i = goes_backward calls a f g c in
    let e = a.each k.place k.call k.there in
    let x = k.from in
    let y = k.to in
    omega (arith, i, e, x, y)

goes_forward : (calls : List Call) → AllLead On calls → (f g : ℕ) → Chain (HasCall calls) f g → f ≤ g
goes_forward calls a f _ alone = omega arith
goes_forward calls a f _ (more g h c k) =
    let i = goes_forward calls a f g c in
    let e = a.each k.place k.call k.there in
    let x = k.from in
    let y = k.to in
    omega (arith, i, e, x, y)

falls_at : (numbers : List ℕ) (g h : ℕ) (c : Call) → c.caller ≡ g → c.callee ≡ h
    → number_of numbers c.callee < number_of numbers c.caller → number_of numbers h < number_of numbers g
falls_at numbers g h c x y l = rw (← x, ← y) l

falls : (calls : List Call) (numbers : List ℕ) → AreFalling calls numbers → (f g : ℕ) → Chain (HasCall calls) f g
    → number_of numbers g ≤ number_of numbers f
falls calls numbers a f _ alone = omega arith
falls calls numbers a f _ (more g h c k) =
    let i = falls calls numbers a f g c in
    let e = falls_at numbers g h k.call k.from k.to (a.each k.place k.call k.there) in
    omega (arith, i, e)

pub leading_acyclic : (calls : List Call) (way : Way) → AllLead way calls → AreAcyclic calls
leading_acyclic calls Back a =
    record {
      each = λ k c h b. let i = goes_backward calls a c.callee c.caller b in let e = a.each k c h in
          absurd (omega (arith, i, e));
    }
leading_acyclic calls On a =
    record {
      each = λ k c h b. let i = goes_forward calls a c.callee c.caller b in let e = a.each k c h in
          absurd (omega (arith, i, e));
    }

pub falling_acyclic : (calls : List Call) (numbers : List ℕ) → AreFalling calls numbers → AreAcyclic calls
falling_acyclic calls numbers a =
    record {
      each = λ k c h b. let i = falls calls numbers a c.callee c.caller b in let e = a.each k c h in
          absurd (omega (arith, i, e));
    }

pub acyclic_none : (calls : List Call) (starts : List ℕ) (n : ℕ) → AreAcyclic calls → NoneBefore calls starts n
acyclic_none calls starts n a = record { each = λ j l y. a.each j y.call y.there y.back }

broken_back : (is : List PlainInst) (calls : List Call) → AreCalls is (length is) calls → AreAcyclic calls
    → (r : Rule) (n : ℕ) → ¬ (Broken is r n)
broken_back is calls a y _ _ (on_cycle n e f g k h c d) =
    let w = k.of.begun.within in
    let r = a.complete n f g w k in
    let back = mapped (Calls is) (HasCall calls) (calls_has is calls a) g f d in
    y.each r.0 r.1 r.2 (moved (HasCall calls) g f r.1.callee r.1.caller (sym r.4) (sym r.3) back)

-- Calls that make no cycle break nothing.
pub acyclic_unbroken : (is : List PlainInst) (calls : List Call) → AreCalls is (length is) calls → AreAcyclic calls
    → IsUnbroken (Broken is) of_calls
acyclic_unbroken is calls a y = λ r n e b. broken_back is calls a y r n b
