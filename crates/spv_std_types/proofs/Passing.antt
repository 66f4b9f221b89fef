-- What one pass over the calls of OpenCL.std tells of them.
use Rattle.std.proofs.Common.{◌≡◌, ◌<◌, ◌≤◌, ◌∙◌, ◌+◌, ◌-◌, ◌&&◌, ℕ, List, ◌∷◌, Option, Some, None, true, false, not, length, get_or, take, drop, refl, sym, ap, subst, eq-eqb, ne_eqb, below_more, arith, inl, inr}
use Rattle.std.specs.Prelude.{slice_get, MatchOption}
use Rattle.std.proofs.lemmas.Bool.{cases_lt}
use Rattle.std.proofs.lemmas.List.{take_rest}
use Rattle.std.proofs.lemmas.Option.{slice_get_past}
use Rattle.spv_module.specs.declared.opcode.TheConstants.{EXT_INST}
use Rattle.spv_module.specs.declared.operand.Operand.{Operand}
use Rattle.spv_module.specs.Module.{plain_operand, plain_operands}
use Rattle.spv_module.specs.Operand.{Plain, OfType, Result, Id, Word, PlainInst}
use Rattle.spv_extended.specs.declared.set.Set.{Set}
use Rattle.spv_extended.specs.declared.set.Set.TheVariants.{OpenClStd, OpenClDebugInfo, DebugInfo, Other}
use Rattle.spv_extended.specs.Facts.{signature_of, takes}
use Rattle.spv_extended.specs.Miscalled.{IsMiscalled, is_miscall, misses}
use Rattle.spv_extended.specs.Sets.{set_in}
use Rattle.spv_extended.proofs.Missing.{not_at}
use Rattle.spv_std_types.specs.declared.calls.Look.{Look}
use Rattle.spv_std_types.specs.declared.calls.Look.TheVariants as look
use Rattle.spv_std_types.specs.declared.calls.Pass.{Pass}
use Rattle.spv_std_types.specs.declared.condition.Condition.{Condition}
use Rattle.spv_std_types.specs.Mistyped.{BreaksCall, IsFirstMistyped, IsMistyped, IsMistypedBy, Mistypes}
use Rattle.spv_std_types.specs.inner.Looking.{IsFirstUpTo, IsPassed, Tells}
use Rattle.spv_std_types.proofs.Calling.{four_of, is_result}
use Rattle.spv_std_types.proofs.Telling.{none_mistyped, of_inst, of_number}

-- of other sets nothing is asked
misses_none : (s : Set) (number count : ℕ) → (s ≡ OpenClStd → ⊥) → misses s number count ≡ false
misses_none OpenClStd number count n = absurd (n refl)
misses_none OpenClDebugInfo number count n = refl
misses_none DebugInfo number count n = refl
misses_none Other number count n = refl

pub of_other_set : (is : List PlainInst) (r set number : ℕ) (os : List Plain) → (set_in is set ≡ OpenClStd → ⊥)
    → Tells is (misses (set_in is set) number (length os)) (BreaksCall is r set number os) look.Other
of_other_set is r set number os n = (misses_none (set_in is set) number (length os) n, λ a m. n m.0)

-- a call of OpenCL.std has as many operands as its instruction takes, or not
pub of_missing : (s : Set) (number count : ℕ) → s ≡ OpenClStd → takes (signature_of OpenClStd number) count ≡ false
    → misses s number count ≡ true
of_missing s number count e f = ap (λ (t : Set). misses t number count) e ∙ ap not f

pub of_taken : (s : Set) (number count : ℕ) → s ≡ OpenClStd → takes (signature_of OpenClStd number) count ≡ true
    → misses s number count ≡ false
of_taken s number count e f = ap (λ (t : Set). misses t number count) e ∙ ap not f

of_call : (is : List PlainInst) (p q u v : Plain) (ps : List Plain) (r set number : ℕ) (l : Look) → p ≡ OfType r
    → is_result q ≡ true → u ≡ Id set → v ≡ Word number
    → Tells is (misses (set_in is set) number (length ps)) (BreaksCall is r set number ps) l
    → Tells is (is_miscall (set_in is) (p ∷ q ∷ u ∷ v ∷ ps)) (Mistypes is (p ∷ q ∷ u ∷ v ∷ ps)) l
of_call is p (Result x) u v ps r set number look.Other e f g h k = rw (e, g, h) (k.0, λ a m. k.1 a m)
of_call is p (Result x) u v ps r set number look.Missing e f g h k = rw (e, g, h) k
of_call is p (Result x) u v ps r set number (look.Std y None) e f g h k = rw (e, g, h) (k.0, k.1, λ a m. k.2 a m)
of_call is p (Result x) u v ps r set number (look.Std y (Some a)) e f g h k = rw (e, g, h) k
of_call is p _ u v ps r set number l e f g h k = absurd (let no : false ≡ true = f in cc)

-- what is told of a call by its parts is told of the operands
pub of_parts : (is : List PlainInst) (os : List Operand) (d : Operand) (r set number : ℕ) (l : Look) → 4 ≤ length os
    → plain_operand (get_or os 0 d) ≡ OfType r → is_result (plain_operand (get_or os 1 d)) ≡ true
    → plain_operand (get_or os 2 d) ≡ Id set → plain_operand (get_or os 3 d) ≡ Word number
    → Tells is (misses (set_in is set) number (length (plain_operands (take (length os - 4) (drop 4 os)))))
    (BreaksCall is r set number (plain_operands (take (length os - 4) (drop 4 os)))) l
    → Tells is (is_miscall (set_in is) (plain_operands os)) (Mistypes is (plain_operands os)) l
of_parts is os d r set number l n e f g h k =
    subst (λ (ps : List Operand). Tells is (is_miscall (set_in is) (plain_operands ps)) (Mistypes is (plain_operands ps)) l)
    (four_of os d n)
    (of_call is (plain_operand (get_or os 0 d)) (plain_operand (get_or os 1 d)) (plain_operand (get_or os 2 d))
    (plain_operand (get_or os 3 d)) (plain_operands (drop 4 os)) r set number l e f g h
    (subst
    (λ (ps : List Operand). Tells is (misses (set_in is set) number (length (plain_operands ps))) (BreaksCall is r set number (plain_operands ps)) l)
    (take_rest os 4) k))

-- an OpExtInst calls what OpenCL.std does not have, or not; another instruction does not
pub is_miscalled : (is : List PlainInst) (n : ℕ) (i : PlainInst) → slice_get is n ≡ Some i → i.opcode ≡ EXT_INST
    → is_miscall (set_in is) i.operands ≡ true → IsMiscalled is n
is_miscalled is n i t e m = record {
  inst = i;
  there = t;
  missed = ap (λ b. b && is_miscall (set_in is) i.operands) (eq-eqb i.opcode EXT_INST e) ∙ m;
}

no_miscall : (is : List PlainInst) (n : ℕ) (i : PlainInst) → slice_get is n ≡ Some i → i.opcode ≡ EXT_INST
    → is_miscall (set_in is) i.operands ≡ false → ¬ (IsMiscalled is n)
no_miscall is n i t e m =
    not_at is n i t (ap (λ b. b && is_miscall (set_in is) i.operands) (eq-eqb i.opcode EXT_INST e) ∙ m)

no_call : (is : List PlainInst) (n : ℕ) (i : PlainInst) → slice_get is n ≡ Some i → (i.opcode ≡ EXT_INST → ⊥)
    → ¬ (IsMiscalled is n)
no_call is n i t e =
    not_at is n i t (ap (λ b. b && is_miscall (set_in is) i.operands) (ne_eqb i.opcode EXT_INST e))

no_type : (is : List PlainInst) (n : ℕ) (i : PlainInst) → slice_get is n ≡ Some i → (i.opcode ≡ EXT_INST → ⊥)
    → ¬ (IsMistyped is n)
no_type is n i t e = of_number is n i None t (λ a b. e b.0)

-- before the first instruction
pub none_passed : (is : List PlainInst) → IsPassed is 0 (record { known = None; mistyped = None })
none_passed is = record {
  known = tt;
  called = λ k h. absurd (omega (arith, h));
  mistyped = λ k h. absurd (omega (arith, h));
}

-- one instruction more, at which no rule is broken
further : (is : List PlainInst) (n : ℕ) (o : Option ℕ) → IsFirstUpTo is n o → ¬ (IsMistyped is n)
    → IsFirstUpTo is (n + 1) o
further is n None h m = below_more _ _ h m
further is n (Some k) h m = h

one_more : (is : List PlainInst) (n : ℕ) (p : Pass) → IsPassed is n p → ¬ (IsMiscalled is n) → ¬ (IsMistyped is n)
    → IsPassed is (n + 1) p
one_more is n p h c m = record {
  known = h.known;
  called = below_more _ _ h.called c;
  mistyped = further is n p.mistyped h.mistyped m;
}

pub passed_by : (is : List PlainInst) (n : ℕ) (p : Pass) (i : PlainInst) → IsPassed is n p → slice_get is n ≡ Some i
    → (i.opcode ≡ EXT_INST → ⊥) → IsPassed is (n + 1) p
passed_by is n p i h t e = one_more is n p h (no_call is n i t e) (no_type is n i t e)

pub passed_other : (is : List PlainInst) (n : ℕ) (p : Pass) (i : PlainInst) → IsPassed is n p → slice_get is n ≡ Some i
    → i.opcode ≡ EXT_INST → Tells is (is_miscall (set_in is) i.operands) (Mistypes is i.operands) look.Other
    → IsPassed is (n + 1) p
passed_other is n p i h t e k =
    one_more is n p h (no_miscall is n i t e k.0) (of_number is n i None t (of_inst is i None e k.1))

-- one instruction more, which breaks the condition, or none
counted : (is : List PlainInst) (n : ℕ) (old new : Option ℕ) (o : Option Condition) → IsFirstUpTo is n old
    → MatchOption o (¬ (IsMistyped is n)) (IsMistypedBy is n) → MatchOption old (Unit {0}) (λ m. new ≡ Some m)
    → (old ≡ None → MatchOption o (new ≡ None) (λ _. new ≡ Some n)) → IsFirstUpTo is (n + 1) new
counted is n None new None h m a b = rw (b refl) (below_more _ _ h m)
counted is n None new (Some q) h m a b = rw (b refl) ((q, m), h)
counted is n (Some k) new o h m a b = rw a h

pub passed_std : (is : List PlainInst) (n : ℕ) (p : Pass) (i : PlainInst) (x : ℕ) (o : Option Condition) (new : Option ℕ)
    → IsPassed is n p → slice_get is n ≡ Some i → i.opcode ≡ EXT_INST
    → Tells is (is_miscall (set_in is) i.operands) (Mistypes is i.operands) (look.Std x o)
    → MatchOption p.mistyped (Unit {0}) (λ m. new ≡ Some m)
    → (p.mistyped ≡ None → MatchOption o (new ≡ None) (λ _. new ≡ Some n))
    → IsPassed is (n + 1) (record { known = Some x; mistyped = new })
passed_std is n p i x o new h t e k a b = record {
  known = k.1;
  called = below_more _ _ h.called (no_miscall is n i t e k.0);
  mistyped = counted is n p.mistyped new o h.mistyped (of_number is n i o t (of_inst is i o e k.2)) a b;
}

-- where all instructions were looked at
pub first_of_all : (is : List PlainInst) (n : ℕ) (o : Option ℕ) → IsFirstUpTo is n o → length is ≤ n
    → IsFirstMistyped is o
first_of_all is n None h l = none_mistyped is n h l
first_of_all is n (Some k) h l = h

pub none_miscalled : (is : List PlainInst) (n : ℕ) → ((k : ℕ) → k < n → ¬ (IsMiscalled is k)) → length is ≤ n → (k : ℕ)
    → ¬ (IsMiscalled is k)
none_miscalled is n h l k m = elim (cases_lt k n) [
  | inl a ↦ h k a m
  | inr b ↦
      let past : length is ≤ k = omega arith in
      let one : Some m.inst ≡ None = sym m.there ∙ slice_get_past is k past in
      cc
]
