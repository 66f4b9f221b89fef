-- What shows that one of O8 to O11 is broken.
use Rattle.std.proofs.Common.{◌≡◌, ◌≢◌, ℕ, List, Option, Some, None, Result, IfOk, sym, subst, inl, inr}
use Rattle.std.specs.Prelude.{MatchOption}
use Rattle.spv_table.specs.Table.{Table}
use Rattle.spv_module.specs.Operand.{PlainInst}
use Rattle.spv_module.specs.declared.fault.Rule.{Rule}
use Rattle.spv_module.specs.declared.fault.Rule.TheVariants.{O8, O9, O10, O11}
use Rattle.spv_declarations.specs.Broken.{Broken}
use Rattle.spv_declarations.specs.Decorated.{Has, HasBy, Imports, IsEntered, IsHalfBuiltIn, IsInitialized, IsLinkedEntry}
use Rattle.spv_declarations.specs.Decorated.{IsSecond}
use Rattle.spv_declarations.specs.Shown.{IsHalfBy}
use Rattle.spv_declarations.specs.declared.shown.members.Mixture.{Mixture}
use Rattle.spv_declarations.specs.declared.shown.members.Mixture.TheVariants.{Members, Within}
use Rattle.spv_evidence.specs.declared.evidence.Evidence.{Evidence}
use Rattle.spv_evidence.specs.declared.evidence.Evidence.TheVariants.{Earlier, Operand, Pair}
use Rattle.spv_standard_evidence.specs.Declarations.{IsDecorating, IsEvidence}

pub by_8 : (G : Table) (is : List PlainInst) (n : ℕ) → Broken G is O8 n → IsSecond is n
by_8 G is _ (Broken.second n h) = h

pub by_9 : (G : Table) (is : List PlainInst) (n : ℕ) → Broken G is O9 n → IsLinkedEntry is n
by_9 G is _ (Broken.linked_entry n h) = h

pub by_10 : (G : Table) (is : List PlainInst) (n : ℕ) → Broken G is O10 n → IsInitialized G is n
by_10 G is _ (Broken.initialized n h) = h

pub by_11 : (G : Table) (is : List PlainInst) (n : ℕ) → Broken G is O11 n → IsHalfBuiltIn is n
by_11 G is _ (Broken.half_built_in n h) = h

-- a broken rule, by its name
pub broken_as : (G : Table) (is : List PlainInst) (n : ℕ) (r q : Rule) → r ≡ q → Broken G is r n → Broken G is q n
broken_as G is n r q e h = subst (λ (p : Rule). Broken G is p n) e h

pub shown_as : (G : Table) (is : List PlainInst) (n : ℕ) (r q : Rule) (E : Type 0) (o : Result Evidence E) → r ≡ q
    → IfOk o (IsEvidence G is q n) → IfOk o (IsEvidence G is r n)
shown_as G is n r q E o e h = subst (λ (p : Rule). IfOk o (IsEvidence G is p n)) (sym e) h

-- of the four rules the one that is left is O11
pub left_11 : (r : Rule) → IsDecorating r → r ≢ O8 → r ≢ O9 → r ≢ O10 → r ≡ O11
left_11 r d a b c = elim d [
  | inl e ↦ absurd (a e)
  | inr v ↦ elim v [ inl e ↦ absurd (b e) | inr w ↦ elim w [ inl e ↦ absurd (c e) | inr e ↦ e ] ]
]

pub entry_shown : (G : Table) (is : List PlainInst) (n m : ℕ)
    → ((x : ℕ) × (e : IsEntered is x) × HasBy is x 41 n × (e.place ≡ m)) → IsEvidence G is O9 n (Earlier m)
entry_shown G is n m h =
    subst (λ (k : ℕ). IsEvidence G is O9 n (Earlier k)) h.3 (IsEvidence.linked_entry n h.0 h.1 h.2)

-- what puts a variable outside: what imports it, or its class
abbrev pub IsOutsideBy : Table → List PlainInst → ℕ → Option ℕ → Type 0
IsOutsideBy G is n o = MatchOption o ((e : IsInitialized G is n) × (e.class ≡ 1))
    (λ m. (e : IsInitialized G is n) × Has is (Imports G) e.id m)

pub import_shown : (G : Table) (is : List PlainInst) (n m : ℕ) (o : Option ℕ) → o ≡ Some m → IsOutsideBy G is n o
    → IsEvidence G is O10 n (Earlier m)
import_shown G is n m o e h =
    let p : IsOutsideBy G is n (Some m) = subst (λ (q : Option ℕ). IsOutsideBy G is n q) e h in
    IsEvidence.imported n m p.0 p.1

pub input_shown : (G : Table) (is : List PlainInst) (n : ℕ) (o : Option ℕ) → o ≡ None → IsOutsideBy G is n o
    → IsEvidence G is O10 n (Operand 2)
input_shown G is n o e h =
    let p : IsOutsideBy G is n None = subst (λ (q : Option ℕ). IsOutsideBy G is n q) e h in
    IsEvidence.input n p.0 p.1

-- the members of a struct
pub part_shown : (G : Table) (is : List PlainInst) (n j k : ℕ) (m : Mixture) → m ≡ Members j k → IsHalfBy is n m
    → IsEvidence G is O11 n (Pair j k)
part_shown G is n j k m e h = IsEvidence.in_part n j k (subst (λ (q : Mixture). IsHalfBy is n q) e h)

pub within_shown : (G : Table) (is : List PlainInst) (n k : ℕ) (m : Mixture) → m ≡ Within k → IsHalfBy is n m
    → IsEvidence G is O11 n (Operand k)
within_shown G is n k m e h = IsEvidence.within n k (subst (λ (q : Mixture). IsHalfBy is n q) e h)
