-- What an answer says of a call, of an instruction, and of those before it.
use Rattle.std.proofs.Common.{◌≡◌, ◌<◌, ◌≤◌, ◌∙◌, ℕ, List, ◌∷◌, Option, Some, None, length, subst, sym, arith, inl, inr}
use Rattle.std.specs.Prelude.{slice_get, MatchOption}
use Rattle.std.proofs.lemmas.Bool.{cases_lt}
use Rattle.std.proofs.lemmas.Option.{slice_get_past}
use Rattle.spv_module.specs.declared.opcode.TheConstants.{EXT_INST}
use Rattle.spv_module.specs.Operand.{Plain, OfType, Result, Id, Word, PlainInst}
use Rattle.spv_extended.specs.declared.set.Set.TheVariants.{OpenClStd}
use Rattle.spv_extended.specs.Sets.{set_in}
use Rattle.spv_std_types.specs.declared.condition.Condition.{Condition}
use Rattle.spv_std_types.specs.Condition.{Holds}
use Rattle.spv_std_types.specs.Table.{conditions_of}
use Rattle.spv_std_types.specs.Mistyped.{BreaksCall, Mistypes, IsMistyped, IsMistypedBy}
use Rattle.spv_std_types.specs.inner.Failing.{BreaksBy, IsFirstIn, IsFound}
use Rattle.spv_std_types.proofs.Listing.{not_all, same_first}

-- a call of OpenCL.std
pub of_call : (is : List PlainInst) (r set number : ℕ) (os : List Plain) (o : Option Condition)
    → set_in is set ≡ OpenClStd → IsFirstIn (Holds is r os) (conditions_of number) o
    → IsFound (BreaksCall is r set number os) o
of_call is r set number os None e h = λ a m. not_all (Holds is r os) (conditions_of number) a m.1 h
of_call is r set number os (Some a) e h = (e, h)

-- an OpExtInst
pub of_inst : (is : List PlainInst) (i : PlainInst) (o : Option Condition) → i.opcode ≡ EXT_INST
    → IsFound (Mistypes is i.operands) o → IsFound (BreaksBy is i) o
of_inst is i None e h = λ a b. h a b.1
of_inst is i (Some a) e h = (e, h)

-- the instruction of a number
pub of_number : (is : List PlainInst) (n : ℕ) (i : PlainInst) (o : Option Condition) → slice_get is n ≡ Some i
    → IsFound (BreaksBy is i) o → MatchOption o (¬ (IsMistyped is n)) (IsMistypedBy is n)
of_number is n i None t h = λ m.
    let b = m.1 in
    let one : Some b.inst ≡ Some i = sym b.there ∙ t in
    let same : b.inst ≡ i = cc in
    h m.0 (subst (λ (j : PlainInst). BreaksBy is j m.0) same (b.called, b.mistyped))
of_number is n i (Some a) t h = record { inst = i; there = t; called = h.0; mistyped = h.1 }

-- where all instructions were looked at, none breaks the rule
pub none_mistyped : (is : List PlainInst) (n : ℕ) → ((k : ℕ) → k < n → ¬ (IsMistyped is k)) → length is ≤ n → (k : ℕ)
    → ¬ (IsMistyped is k)
none_mistyped is n h l k m = elim (cases_lt k n) [
  | inl a ↦ h k a m
  | inr b ↦
      let past : length is ≤ k = omega arith in
      let one : Some m.1.inst ≡ None = sym m.1.there ∙ slice_get_past is k past in
      cc
]

-- one condition is broken
one_mistyping : (is : List PlainInst) (os : List Plain) (a b : Condition) → Mistypes is os a → Mistypes is os b → a ≡ b
one_mistyping is (OfType r ∷ Result x ∷ Id set ∷ Word number ∷ os) a b m n =
    same_first (Holds is r os) (conditions_of number) a b m.1 n.1
one_mistyping is _ a b m n = absurd m

pub one_told : (is : List PlainInst) (n : ℕ) (a b : Condition) → IsMistypedBy is n a → IsMistypedBy is n b → a ≡ b
one_told is n a b p q =
    let one : Some q.inst ≡ Some p.inst = sym q.there ∙ p.there in
    let same : q.inst ≡ p.inst = cc in
    one_mistyping is p.inst.operands a b p.mistyped
    (subst (λ (j : PlainInst). Mistypes is j.operands b) same q.mistyped)
