-- Which instruction imports a function.
use Rattle.std.proofs.Common.{◌≡◌, ◌+◌, ◌↔◌, ◌∙◌, ℕ, List, Option, Some, Bool, true, false, sym, subst, inl, inr, arith}
use Rattle.std.proofs.Common.{length, nat_eq}
use Rattle.std.specs.Prelude.{slice_get, IsTrue}
use Rattle.std.proofs.lemmas.Bool.{eqb-true, eq-eqb}
use Rattle.std.proofs.lemmas.Option.{slice_get_within}
use Rattle.spv_table.specs.Table.{Table}
use Rattle.spv_module.specs.Operand.{PlainInst}
use Rattle.spv_ids.specs.Definition.{IsDefinedAt}
use Rattle.spv_ids.specs.Outcome.{IsOnly}
use Rattle.spv_capabilities.specs.Entry.{imported_by}
use Rattle.spv_capabilities.specs.Asked.{IsImported}
use Rattle.spv_capabilities.proofs.Marked.{below_or}
use Rattle.spv_form_evidence.specs.capabilities.inner.Imports.{Imports, AreNoImportsBefore}
use Rattle.spv_form_evidence.proofs.lemmas.capabilities.Suffices.{same_inst}

-- by the id that is imported
pub import_told : (is : List PlainInst) (l : Option ℕ) (i : PlainInst) (n x : ℕ) (b : Bool) → Some x ≡ imported_by l i
    → IsTrue b ↔ IsDefinedAt is x n → IsTrue b ↔ Imports is l i n
import_told is l i n x b e told = (
  λ y. (x, sym e, told.0 y),
  λ m. let same : Some x ≡ Some m.0 = e ∙ m.1 in let q : m.0 ≡ x = cc in told.1 (subst (λ y. IsDefinedAt is y n) q m.2),
)

pub none_more : (is : List PlainInst) (l : Option ℕ) (n k : ℕ) (i : PlainInst) → AreNoImportsBefore is l n k
    → slice_get is k ≡ Some i → ¬ (Imports is l i n) → AreNoImportsBefore is l n (k + 1)
none_more is l n k i before at never j d b there m = elim (below_or j k b) [
  | inl c ↦ before j d c there m
  | inr q ↦
      let same : d ≡ i = same_inst is k i d at (subst (λ (z : ℕ). slice_get is z ≡ Some d) q there) in
      never (subst (λ (e : PlainInst). Imports is l e n) same m)
]

pub no_imports : (G : Table) (is : List PlainInst) (l : Option ℕ) (n k : ℕ) → (a : IsImported G is n)
    → imported_by l a.inst ≡ Some a.id → length is ≡ k → AreNoImportsBefore is l n k → ⊥
no_imports G is l n k a named e before =
    let w = slice_get_within is a.place a.inst a.there in
    before a.place a.inst (omega arith) a.there (a.id, named, a.defined)

-- the one definition of an id
pub defined_some : (is : List PlainInst) (x n m : ℕ) → IsOnly is x m → IsTrue (nat_eq m n) ↔ IsDefinedAt is x n
defined_some is x n m o = (λ y. subst (IsDefinedAt is x) (eqb-true m n y) o.there, λ d. eq-eqb m n (sym (o.only n d)))

pub defined_none : (is : List PlainInst) (x n : ℕ) → ((k : ℕ) → ¬ (IsDefinedAt is x k))
    → IsTrue false ↔ IsDefinedAt is x n
defined_none is x n never = (λ h. absurd (let no : false ≡ true = h in cc), λ d. absurd (never n d))
