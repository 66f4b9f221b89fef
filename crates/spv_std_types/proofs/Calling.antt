-- The parts of the operands of an OpExtInst.
use Rattle.std.proofs.Common.{◌≡◌, ◌≤◌, ◌-◌, ℕ, List, [], ◌∷◌, Option, Some, None, Bool, true, false, length, take, drop, get_or, refl, sym, ap, subst, arith}
use Rattle.std.proofs.lemmas.List.{take_rest}
use Rattle.spv_module.specs.declared.operand.Operand.{Operand}
use Rattle.spv_module.specs.Module.{plain_operand, plain_operands}
use Rattle.spv_module.specs.Operand.{Plain, OfType, Result, Id, Word, PlainInst}
use Rattle.spv_std_types.specs.declared.condition.Condition.{Condition}
use Rattle.spv_std_types.specs.Mistyped.{BreaksCall, Mistypes}
use Rattle.spv_std_types.specs.inner.Failing.{IsFound}

abbrev pub is_result : Plain → Bool
is_result (Result x) = true
is_result _ = false

drop_none : (os : List Operand) → os ≡ drop 0 os
drop_none [] = refl
drop_none (x ∷ os) = refl

pub four_of : (os : List Operand) (d : Operand) → 4 ≤ length os
    → get_or os 0 d ∷ get_or os 1 d ∷ get_or os 2 d ∷ get_or os 3 d ∷ drop 4 os ≡ os
four_of [] d l = absurd (omega (arith, l))
four_of (a ∷ []) d l = absurd (let m : 4 ≤ 1 = l in omega (arith, m))
four_of (a ∷ b ∷ []) d l = absurd (let m : 4 ≤ 2 = l in omega (arith, m))
four_of (a ∷ b ∷ e ∷ []) d l = absurd (let m : 4 ≤ 3 = l in omega (arith, m))
four_of (a ∷ b ∷ e ∷ f ∷ os) d l = ap (λ ps. a ∷ b ∷ e ∷ f ∷ ps) (sym (drop_none os))

of_call : (is : List PlainInst) (p q u v : Plain) (ps : List Plain) (r set number : ℕ) (o : Option Condition)
    → p ≡ OfType r → is_result q ≡ true → u ≡ Id set → v ≡ Word number
    → IsFound (BreaksCall is r set number ps) o → IsFound (Mistypes is (p ∷ q ∷ u ∷ v ∷ ps)) o
of_call is p (Result x) u v ps r set number None e f g h k = rw (e, g, h) (λ a m. k a m)
of_call is p (Result x) u v ps r set number (Some a) e f g h k = rw (e, g, h) k
of_call is p _ u v ps r set number o e f g h k = absurd (let no : false ≡ true = f in cc)

-- what is said of a call by its parts is said of the operands
pub of_parts : (is : List PlainInst) (os : List Operand) (d : Operand) (r set number : ℕ) (o : Option Condition)
    → 4 ≤ length os → plain_operand (get_or os 0 d) ≡ OfType r → is_result (plain_operand (get_or os 1 d)) ≡ true
    → plain_operand (get_or os 2 d) ≡ Id set → plain_operand (get_or os 3 d) ≡ Word number
    → IsFound (BreaksCall is r set number (plain_operands (take (length os - 4) (drop 4 os)))) o
    → IsFound (Mistypes is (plain_operands os)) o
of_parts is os d r set number o l e f g h k =
    subst (λ (ps : List Operand). IsFound (Mistypes is (plain_operands ps)) o) (four_of os d l)
    (of_call is (plain_operand (get_or os 0 d)) (plain_operand (get_or os 1 d)) (plain_operand (get_or os 2 d))
    (plain_operand (get_or os 3 d)) (plain_operands (drop 4 os)) r set number o e f g h
    (subst (λ (ps : List Operand). IsFound (BreaksCall is r set number (plain_operands ps)) o) (take_rest os 4) k))
