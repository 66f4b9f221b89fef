-- The examples, worked out.
use Rattle.std.proofs.Common.{◌≡◌, ◌≤◌, ◌⊎◌, ℕ, zero, suc, List, [], ◌∷◌, refl, sym, subst, inl, inr, arith}
use Rattle.spv_module.specs.declared.fault.Rule.{Rule}
use Rattle.spv_module.specs.declared.fault.Rule.TheVariants.{G1}
use Rattle.spv_layout.specs.declared.class.Class.{Class}
use Rattle.spv_layout.specs.declared.class.Class.TheVariants.{EntryPoint, Function, Label, Body, Return, FunctionEnd}
use Rattle.spv_layout.specs.Layout.{classes}
use Rattle.spv_layout.specs.Rows.{rows}
use Rattle.spv_layout.specs.Place.{IsAt, IsOfFunction, IsDefinition}
use Rattle.spv_layout.proofs.Places.{function_same}
use Rattle.spv_ids.specs.Definition.{IsDefinedAt}
use Rattle.spv_flow.specs.calls.Chain.{Chain, alone}
use Rattle.spv_flow.specs.calls.Calls.{IsCall, Calls, IsEntryFunction}
use Rattle.spv_flow.specs.calls.Broken.{Broken, on_cycle}
use Rattle.spv_flow.specs.calls.Example.{entry, function, label, call, return_op, end, functions, looped}
use Rattle.spv_flow.proofs.lemmas.branches.Laid.{StandsAt, within_by}
use Rattle.spv_flow.proofs.lemmas.calls.Chains.{single, keeps}

-- The functions stand at 1 to 5 and at 6 to 10.
abbrev laid : List Class
laid = EntryPoint ∷ Function ∷ Label ∷ Body ∷ Return ∷ FunctionEnd ∷ Function ∷ Label ∷ Body ∷ Return ∷ FunctionEnd ∷ []

looped_classes : classes looped ≡ laid
unfolding rows
looped_classes = refl

of_1 : (n : ℕ) → 1 ≤ n → n ≤ 3 → IsOfFunction looped n 1
of_1 n from to = within_by looped laid Function (FunctionEnd ∷ []) n 1 4 3 looped_classes (omega (arith, to))
    (omega arith) to from refl refl refl

of_6 : (n : ℕ) → 6 ≤ n → n ≤ 8 → IsOfFunction looped n 6
of_6 n from to = within_by looped laid Function (FunctionEnd ∷ []) n 6 9 8 looped_classes (omega (arith, to))
    (omega arith) to from refl refl refl

call_1 : IsOfFunction looped 3 1
call_1 = of_1 3 (omega arith) (omega arith)

label_at : (n : ℕ) → StandsAt laid n (Label ∷ []) → IsAt looped n (Label ∷ [])
label_at n s = subst (λ (l : List Class). StandsAt l n (Label ∷ [])) (sym looped_classes) s

defined_1 : IsDefinition looped 1
defined_1 = record { label = 2; there = label_at 2 refl; of = of_1 2 (omega arith) (omega arith) }

defined_6 : IsDefinition looped 6
defined_6 = record { label = 7; there = label_at 7 refl; of = of_6 7 (omega arith) (omega arith) }

pub called_3 : IsCall looped 3 1 6
called_3 = record {
  inst = call 3 4;
  there = refl;
  opcode = refl;
  callee = 4;
  named = refl;
  of = call_1;
  caller = defined_1;
  function = record { inst = function 4; there = refl; result = refl };
  called = defined_6;
}

pub called_8 : IsCall looped 8 6 6
called_8 = record {
  inst = call 6 4;
  there = refl;
  opcode = refl;
  callee = 4;
  named = refl;
  of = of_6 8 (omega arith) (omega arith);
  caller = defined_6;
  function = record { inst = function 4; there = refl; result = refl };
  called = defined_6;
}

pub entry_0 : IsEntryFunction looped 1
entry_0 = record {
  place = 0;
  inst = entry 1;
  there = refl;
  opcode = refl;
  id = 1;
  named = refl;
  function = record { inst = function 1; there = refl; result = refl };
}

pub chain_6 : Chain (Calls looped) 1 6
chain_6 = single (Calls looped) 1 6 (record { place = 3; call = called_3 })

-- the calls are instructions 3 and 8
call_places : (m f g : ℕ) → IsCall looped m f g → (m ≡ 3) ⊎ (m ≡ 8)
call_places zero f g c = let t = c.there in let e : entry 1 ≡ c.inst = cc in let b = rw (← e) at c.opcode in
    absurd (omega (arith, b))
call_places (suc zero) f g c = let t = c.there in let e : function 1 ≡ c.inst = cc in let b = rw (← e) at c.opcode in
    absurd (omega (arith, b))
call_places (suc (suc zero)) f g c = let t = c.there in let e : label 2 ≡ c.inst = cc in let b = rw (← e) at c.opcode in
    absurd (omega (arith, b))
call_places (suc (suc (suc zero))) f g c = inl refl
call_places (suc (suc (suc (suc zero)))) f g c = let t = c.there in let e : return_op ≡ c.inst = cc in
    let b = rw (← e) at c.opcode in absurd (omega (arith, b))
call_places (suc (suc (suc (suc (suc zero))))) f g c = let t = c.there in let e : end ≡ c.inst = cc in
    let b = rw (← e) at c.opcode in absurd (omega (arith, b))
call_places (suc (suc (suc (suc (suc (suc zero)))))) f g c = let t = c.there in let e : function 4 ≡ c.inst = cc in
    let b = rw (← e) at c.opcode in absurd (omega (arith, b))
call_places (suc (suc (suc (suc (suc (suc (suc zero))))))) f g c = let t = c.there in let e : label 5 ≡ c.inst = cc in
    let b = rw (← e) at c.opcode in absurd (omega (arith, b))
call_places (suc (suc (suc (suc (suc (suc (suc (suc zero)))))))) f g c = inr refl
call_places (suc (suc (suc (suc (suc (suc (suc (suc (suc zero))))))))) f g c = let t = c.there in
    let e : return_op ≡ c.inst = cc in let b = rw (← e) at c.opcode in absurd (omega (arith, b))
call_places (suc (suc (suc (suc (suc (suc (suc (suc (suc (suc zero)))))))))) f g c = let t = c.there in
    let e : end ≡ c.inst = cc in let b = rw (← e) at c.opcode in absurd (omega (arith, b))
call_places (suc (suc (suc (suc (suc (suc (suc (suc (suc (suc (suc k))))))))))) f g c = let t = c.there in cc

-- %4 is the result of instruction 6
defined_by_4 : (m : ℕ) → IsDefinedAt looped 4 m → m ≡ 6
defined_by_4 zero d = let t = d.there in let e : entry 1 ≡ d.inst = cc in let b = rw (← e) at d.result in cc
defined_by_4 (suc zero) d = let t = d.there in let e : function 1 ≡ d.inst = cc in let b = rw (← e) at d.result in cc
defined_by_4 (suc (suc zero)) d = let t = d.there in let e : label 2 ≡ d.inst = cc in let b = rw (← e) at d.result in cc
defined_by_4 (suc (suc (suc zero))) d = let t = d.there in let e : call 3 4 ≡ d.inst = cc in
    let b = rw (← e) at d.result in cc
defined_by_4 (suc (suc (suc (suc zero)))) d = let t = d.there in let e : return_op ≡ d.inst = cc in
    let b = rw (← e) at d.result in cc
defined_by_4 (suc (suc (suc (suc (suc zero))))) d = let t = d.there in let e : end ≡ d.inst = cc in
    let b = rw (← e) at d.result in cc
defined_by_4 (suc (suc (suc (suc (suc (suc zero)))))) d = refl
defined_by_4 (suc (suc (suc (suc (suc (suc (suc zero))))))) d = let t = d.there in let e : label 5 ≡ d.inst = cc in
    let b = rw (← e) at d.result in cc
defined_by_4 (suc (suc (suc (suc (suc (suc (suc (suc zero)))))))) d = let t = d.there in
    let e : call 6 4 ≡ d.inst = cc in let b = rw (← e) at d.result in cc
defined_by_4 (suc (suc (suc (suc (suc (suc (suc (suc (suc zero))))))))) d = let t = d.there in
    let e : return_op ≡ d.inst = cc in let b = rw (← e) at d.result in cc
defined_by_4 (suc (suc (suc (suc (suc (suc (suc (suc (suc (suc zero)))))))))) d = let t = d.there in
    let e : end ≡ d.inst = cc in let b = rw (← e) at d.result in cc
defined_by_4 (suc (suc (suc (suc (suc (suc (suc (suc (suc (suc (suc k))))))))))) d = let t = d.there in cc

defined_as_4 : (x m : ℕ) → x ≡ 4 → IsDefinedAt looped x m → m ≡ 6
defined_as_4 x m e d = defined_by_4 m (rw e at d)

callee_3 : (f g : ℕ) → IsCall looped 3 f g → g ≡ 6
callee_3 f g c =
    let t = c.there in
    let e : call 3 4 ≡ c.inst = cc in
    let n = rw (← e) at c.named in
    let x : c.callee ≡ 4 = cc in
    defined_as_4 c.callee g x c.function

callee_8 : (f g : ℕ) → IsCall looped 8 f g → g ≡ 6
callee_8 f g c =
    let t = c.there in
    let e : call 6 4 ≡ c.inst = cc in
    let n = rw (← e) at c.named in
    let x : c.callee ≡ 4 = cc in
    defined_as_4 c.callee g x c.function

-- each call is of %4
callee_at : (m f g : ℕ) → IsCall looped m f g → g ≡ 6
callee_at m f g c = elim (call_places m f g c) [ inl e ↦ callee_3 f g (rw e at c) | inr e ↦ callee_8 f g (rw e at c) ]

pub label_no_call : (f g : ℕ) → ¬ (IsCall looped 2 f g)
label_no_call f g c =
    elim (call_places 2 f g c) [ inl e ↦ absurd (omega (arith, e)) | inr e ↦ absurd (omega (arith, e)) ]

pub never_calls : ¬ (Calls looped 6 1)
never_calls c = let e = callee_at c.place 6 1 c.call in absurd (omega (arith, e))

stays : (f g : ℕ) → Chain (Calls looped) f g → f ≡ 6 → g ≡ 6
stays f g c e = let P : ℕ → Type 0 = λ x. x ≡ 6 in
    keeps (Calls looped) P (λ a b s p. callee_at s.place a b s.call) f g c e

pub no_chain : ¬ (Chain (Calls looped) 6 1)
no_chain c = let e = stays 6 1 c refl in absurd (omega (arith, e))

call_moved : (m n f g : ℕ) → m ≡ n → IsCall looped m f g → IsCall looped n f g
call_moved m n f g e c = rw (← e) c

from_outside : (r : Rule) (n : ℕ) → Broken looped r n → n ≡ 3 → ⊥
from_outside _ _ (on_cycle n e f g k h c d) q =
    let k' = call_moved n 3 f g q k in
    let a : f ≡ 1 = function_same looped 3 f 1 k'.of call_1 in
    let b = stays g f d (callee_3 f g k') in
    absurd (omega (arith, a, b))

-- no instruction of the functions alone is an OpEntryPoint
no_entry_at : (m f : ℕ) (h : IsEntryFunction functions f) → h.place ≡ m → ⊥
no_entry_at zero f h q = let t = h.there in let t' = rw q at t in let e : function 1 ≡ h.inst = cc in
    let b = rw (← e) at h.opcode in absurd (omega (arith, b))
no_entry_at (suc zero) f h q = let t = h.there in let t' = rw q at t in let e : label 2 ≡ h.inst = cc in
    let b = rw (← e) at h.opcode in absurd (omega (arith, b))
no_entry_at (suc (suc zero)) f h q = let t = h.there in let t' = rw q at t in let e : call 3 4 ≡ h.inst = cc in
    let b = rw (← e) at h.opcode in absurd (omega (arith, b))
no_entry_at (suc (suc (suc zero))) f h q = let t = h.there in let t' = rw q at t in let e : return_op ≡ h.inst = cc in
    let b = rw (← e) at h.opcode in absurd (omega (arith, b))
no_entry_at (suc (suc (suc (suc zero)))) f h q = let t = h.there in let t' = rw q at t in let e : end ≡ h.inst = cc in
    let b = rw (← e) at h.opcode in absurd (omega (arith, b))
no_entry_at (suc (suc (suc (suc (suc zero))))) f h q = let t = h.there in let t' = rw q at t in
    let e : function 4 ≡ h.inst = cc in let b = rw (← e) at h.opcode in absurd (omega (arith, b))
no_entry_at (suc (suc (suc (suc (suc (suc zero)))))) f h q = let t = h.there in let t' = rw q at t in
    let e : label 5 ≡ h.inst = cc in let b = rw (← e) at h.opcode in absurd (omega (arith, b))
no_entry_at (suc (suc (suc (suc (suc (suc (suc zero))))))) f h q = let t = h.there in let t' = rw q at t in
    let e : call 6 4 ≡ h.inst = cc in let b = rw (← e) at h.opcode in absurd (omega (arith, b))
no_entry_at (suc (suc (suc (suc (suc (suc (suc (suc zero)))))))) f h q = let t = h.there in let t' = rw q at t in
    let e : return_op ≡ h.inst = cc in let b = rw (← e) at h.opcode in absurd (omega (arith, b))
no_entry_at (suc (suc (suc (suc (suc (suc (suc (suc (suc zero))))))))) f h q = let t = h.there in let t' = rw q at t in
    let e : end ≡ h.inst = cc in let b = rw (← e) at h.opcode in absurd (omega (arith, b))
no_entry_at (suc (suc (suc (suc (suc (suc (suc (suc (suc (suc k)))))))))) f h q = let t = h.there in
    let t' = rw q at t in cc

pub no_entry : (f : ℕ) → ¬ (IsEntryFunction functions f)
no_entry f h = no_entry_at h.place f h refl

pub outside : ¬ (Broken looped G1 3)
outside b = from_outside G1 3 b refl

pub inside : Broken looped G1 8
inside = on_cycle 8 1 6 6 called_8 entry_0 chain_6 alone

unreached_at : (r : Rule) (n : ℕ) → Broken functions r n → ⊥
unreached_at _ _ (on_cycle n e f g k h c d) = no_entry e h

pub unreached : (n : ℕ) → ¬ (Broken functions G1 n)
unreached n b = unreached_at G1 n b
