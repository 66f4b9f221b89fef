-- The example, worked out.
use Rattle.std.proofs.Common.{◌≡◌, ◌∙◌, ◌≤◌, ℕ, zero, suc, List, [], ◌∷◌, refl, sym, ap, subst, Some, length, arith}
use Rattle.std.specs.Prelude.{slice_get}
use Rattle.std.proofs.lemmas.Option.{same_Some}
use Rattle.spv_module.specs.Operand.{PlainInst}
use Rattle.spv_module.specs.declared.opcode.TheConstants as opcode
use Rattle.spv_module.specs.declared.fault.Rule.{Rule}
use Rattle.spv_module.specs.declared.fault.Rule.TheVariants.{G1}
use Rattle.spv_layout.proofs.Places.{function_same}
use Rattle.spv_flow.specs.calls.Calls.{IsCall, IsEntryFunction}
use Rattle.spv_flow.specs.calls.Example.{entry, function, label, call, return_op, end, looped}
use Rattle.spv_flow.proofs.lemmas.calls.Worked.{called_3, called_8, entry_0, outside}
use Rattle.spv_evidence.specs.declared.evidence.Evidence.{Evidence}
use Rattle.spv_evidence.specs.declared.evidence.Evidence.TheVariants.{Cycle}
use Rattle.spv_flow_evidence.specs.calls.Evidence.{IsCallChain, IsEntryChain, IsShortestOf, IsEvidence}
use Rattle.spv_flow_evidence.proofs.lemmas.calls.Walked.{sufficient}

-- the only OpEntryPoint is the first instruction
entry_place : (k : ℕ) (i : PlainInst) → slice_get looped k ≡ Some i → i.opcode ≡ opcode.ENTRY_POINT → i ≡ entry 1
entry_place (suc zero) i h o = let e : function 1 ≡ i = cc in let b = rw (← e) at o in absurd (omega (arith, b))
entry_place (suc (suc zero)) i h o = let e : label 2 ≡ i = cc in let b = rw (← e) at o in absurd (omega (arith, b))
entry_place (suc (suc (suc zero))) i h o = let e : call 3 4 ≡ i = cc in let b = rw (← e) at o in
    absurd (omega (arith, b))
entry_place (suc (suc (suc (suc zero)))) i h o = let e : return_op ≡ i = cc in let b = rw (← e) at o in
    absurd (omega (arith, b))
entry_place (suc (suc (suc (suc (suc zero))))) i h o = let e : end ≡ i = cc in let b = rw (← e) at o in
    absurd (omega (arith, b))
entry_place (suc (suc (suc (suc (suc (suc zero)))))) i h o = let e : function 4 ≡ i = cc in let b = rw (← e) at o in
    absurd (omega (arith, b))
entry_place (suc (suc (suc (suc (suc (suc (suc zero))))))) i h o = let e : label 5 ≡ i = cc in let b = rw (← e) at o in
    absurd (omega (arith, b))
entry_place (suc (suc (suc (suc (suc (suc (suc (suc zero)))))))) i h o = let e : call 6 4 ≡ i = cc in
    let b = rw (← e) at o in absurd (omega (arith, b))
entry_place (suc (suc (suc (suc (suc (suc (suc (suc (suc zero))))))))) i h o = let e : return_op ≡ i = cc in
    let b = rw (← e) at o in absurd (omega (arith, b))
entry_place (suc (suc (suc (suc (suc (suc (suc (suc (suc (suc zero)))))))))) i h o = let e : end ≡ i = cc in
    let b = rw (← e) at o in absurd (omega (arith, b))
entry_place _ i h o = cc

-- the second function is not its
not_entry : ¬ (IsEntryFunction looped 6)
not_entry h =
    let e = entry_place h.place h.inst h.there h.opcode in
    let n = rw e at h.named in
    let x : ◌≡◌ {A = ℕ} 1 h.id = cc in
    let d : function 4 ≡ h.function.inst = same_Some (function 4) h.function.inst h.function.there in
    let r = rw (← d) at h.function.result in
    let y : ◌≡◌ {A = ℕ} 4 h.id = cc in
    omega (arith, x, y)

first_of_chain : (g f : ℕ) (functions : List ℕ) → IsCallChain looped g f functions
    → (rest : List ℕ) × (functions ≡ f ∷ rest)
first_of_chain g _ _ IsCallChain.alone = ([], refl)
first_of_chain g _ _ (IsCallChain.next f h rest k c) = (rest, refl)

some_function : (g f : ℕ) (functions : List ℕ) → IsCallChain looped g f functions → 1 ≤ length functions
some_function g f functions c = let r = first_of_chain g f functions c in let l = ap length r.1 in omega (arith, l)

two_functions : (g f : ℕ) (functions : List ℕ) → IsCallChain looped g f functions → ¬ (f ≡ g) → 2 ≤ length functions
two_functions g _ _ IsCallChain.alone n = absurd (n refl)
two_functions g _ _ (IsCallChain.next f h rest k c) n = let l = some_function g h rest c in omega (arith, l)

entry_moved : (f g : ℕ) → f ≡ g → IsEntryFunction looped f → IsEntryFunction looped g
entry_moved f g e h = let P : ℕ → Type 0 = λ x. IsEntryFunction looped x in subst P e h

from_entry : (functions : List ℕ) → IsEntryChain looped 6 functions → 2 ≤ length functions
from_entry functions c = two_functions 6 c.entry functions c.chain (λ e. not_entry (entry_moved c.entry 6 e c.function))

pub inner : IsEvidence looped G1 8 (Cycle (1 ∷ 6 ∷ []) (6 ∷ []))
inner = IsEvidence.on_cycle 8 6 6 (1 ∷ 6 ∷ []) (6 ∷ []) called_8
    (record {
      holds = record {
        entry = 1;
        function = entry_0;
        chain = IsCallChain.next 1 6 (6 ∷ []) (record { place = 3; call = called_3 }) IsCallChain.alone;
      };
      least = from_entry;
    })
    (record { holds = IsCallChain.alone; least = λ other c. some_function 6 6 other c })

-- what evidence of the call tells of its lists
record IsTold (n : ℕ) (e : Evidence) : Type 0 where
  pub caller : ℕ
  pub callee : ℕ
  pub calls : List ℕ
  pub cycle : List ℕ
  pub call : IsCall looped n caller callee
  pub to : IsShortestOf (IsEntryChain looped caller) calls
  pub back : IsShortestOf (IsCallChain looped caller callee) cycle
  pub told : e ≡ Cycle calls cycle

told : (r : Rule) (n : ℕ) (e : Evidence) → IsEvidence looped r n e → IsTold n e
told _ _ _ (IsEvidence.on_cycle n f g calls cycle k a b) =
    record { caller = f; callee = g; calls = calls; cycle = cycle; call = k; to = a; back = b; told = refl }

same_lists : (a b c d : List ℕ) → Cycle a b ≡ Cycle c d → (a ≡ c) × (b ≡ d)
same_lists a b c d e = (cc, cc)

same_head : (a b : ℕ) (xs ys : List ℕ) → a ∷ xs ≡ b ∷ ys → a ≡ b
same_head a b xs ys e = cc

pub no_entry : ¬ (IsEvidence looped G1 8 (Cycle (6 ∷ []) (6 ∷ [])))
no_entry v =
    let t = told G1 8 (Cycle (6 ∷ []) (6 ∷ [])) v in
    let s = same_lists (6 ∷ []) (6 ∷ []) t.calls t.cycle t.told in
    let h = t.to.holds in
    let r = first_of_chain t.caller h.entry t.calls h.chain in
    let e : h.entry ≡ 6 = sym (same_head 6 h.entry [] r.0 (s.0 ∙ r.1)) in
    not_entry (entry_moved h.entry 6 e h.function)

pub longer : ¬ (IsEvidence looped G1 8 (Cycle (1 ∷ 6 ∷ []) (6 ∷ 6 ∷ [])))
longer v =
    let t = told G1 8 (Cycle (1 ∷ 6 ∷ []) (6 ∷ 6 ∷ [])) v in
    let s = same_lists (1 ∷ 6 ∷ []) (6 ∷ 6 ∷ []) t.calls t.cycle t.told in
    let f : t.caller ≡ 6 = function_same looped 8 t.caller 6 t.call.of called_8.of in
    let r = first_of_chain t.caller t.callee t.cycle t.back.holds in
    let g : t.callee ≡ 6 = sym (same_head 6 t.callee (6 ∷ []) r.0 (s.1 ∙ r.1)) in
    let c : IsCallChain looped t.caller t.callee (6 ∷ []) = rw (f, g) IsCallChain.alone in
    let l = t.back.least (6 ∷ []) c in
    let n = ap length s.1 in
    omega (arith, l, n)

pub outer : (e : Evidence) → ¬ (IsEvidence looped G1 3 e)
outer e v = outside (sufficient looped G1 3 e v)
