-- Which part of E2 is broken.
use Rattle.std.proofs.Common.{◌≡◌, ◌≢◌, ◌<◌, ◌+◌, ◌↔◌, ◌∙◌, ℕ, List, Some, None, length, sym, subst, inl, inr, arith}
use Rattle.std.specs.Prelude.{◌⊎◌, slice_get}
use Rattle.std.proofs.lemmas.Bool.{cases_eq}
use Rattle.std.proofs.lemmas.Option.{slice_get_within}
use Rattle.spv_table.specs.Table.{Table}
use Rattle.spv_module.specs.Operand.{PlainInst, result_in}
use Rattle.spv_module.specs.declared.opcode.TheConstants as opcode
use Rattle.spv_layout.specs.Place.{IsDefinition}
use Rattle.spv_ids.specs.Definition.{IsDefinedAt}
use Rattle.spv_ids.specs.Outcome.{IsDefinitionOf}
use Rattle.spv_capabilities.specs.Entry.{IsKernelFunction, IsSoundMode, ReturnsVoid, called_by, entered_by, second_id}
use Rattle.spv_capabilities.specs.inner.Entry.{IsCalled, IsSoundLinkage}
use Rattle.spv_capabilities.specs.Keeps.{KeepsEntries}
use Rattle.spv_capabilities.proofs.Marked.{below_or}
use Rattle.spv_evidence.specs.declared.evidence.EntryPart.TheVariants as part
use Rattle.spv_form_evidence.specs.capabilities.Evidence.{IsUnsound}
use Rattle.spv_form_evidence.specs.capabilities.inner.Calls.{AreNoCalls, AreNoCallsBefore}
use Rattle.spv_form_evidence.proofs.lemmas.capabilities.Suffices.{same_inst, entered_second}

-- ---- calls, one instruction on

pub one_more : (is : List PlainInst) (x n : ℕ) (i : PlainInst) → AreNoCallsBefore is x n → slice_get is n ≡ Some i
    → called_by i ≢ Some x → AreNoCallsBefore is x (n + 1)
one_more is x n i a t h = record {
  each = λ c l k. elim (below_or c n l) [
    | inl b ↦ a.each c b k
    | inr q ↦
        let s : k.call ≡ i = same_inst is n i k.call t (subst (λ (z : ℕ). slice_get is z ≡ Some k.call) q k.there) in
        h (subst (λ (j : PlainInst). called_by j ≡ Some x) s k.called)
  ];
}

pub none_at_all : (is : List PlainInst) (x n : ℕ) → n ≡ length is → AreNoCallsBefore is x n → AreNoCalls is x
none_at_all is x n e a = record {
  each = λ c k. let l : c < length is = slice_get_within is c k.call k.there in a.each c (omega arith) k;
}

-- ---- the function of an OpEntryPoint

-- an instruction defines one id
one_id : (is : List PlainInst) (x y f : ℕ) → IsDefinedAt is x f → IsDefinedAt is y f → x ≡ y
one_id is x y f d e =
    let s : e.inst ≡ d.inst = same_inst is f d.inst e.inst d.there e.there in
    let r : result_in d.inst.operands ≡ Some y = subst (λ (i : PlainInst). result_in i.operands ≡ Some y) s e.result in
    let q : Some x ≡ Some y = sym d.result ∙ r in
    cc

uncalled : (is : List PlainInst) (x f : ℕ) → IsDefinedAt is x f → AreNoCalls is x → ¬ (IsCalled is f)
uncalled is x f d none c =
    let s : c.id ≡ x = one_id is c.id x f c.defined d in
    let called = subst (λ (y : ℕ). called_by c.inst ≡ Some y) s c.named in
    none.each c.place (record { call = c.inst; there = c.there; called = called })

pub kernel_function : (is : List PlainInst) (x f : ℕ) → IsDefinedAt is x f → IsDefinition is f → ReturnsVoid is f
    → AreNoCalls is x → IsKernelFunction is x
kernel_function is x f d e v none =
    record { function = f; defined = d; definition = e; void = v; uncalled = uncalled is x f d none }

-- the same id
same_entered : (i : PlainInst) (x y : ℕ) → entered_by i ≡ Some x → entered_by i ≡ Some y → y ≡ x
same_entered i x y e f = let s : Some x ≡ Some y = sym e ∙ f in cc

pub undefined : (G : Table) (is : List PlainInst) (n : ℕ) (i : PlainInst) (x : ℕ) → i.opcode ≡ opcode.ENTRY_POINT
    → entered_by i ≡ Some x → IsDefinitionOf is x None → IsUnsound G is n i part.Declared
undefined G is n i x o e never = IsUnsound.declared o (λ y f s d k.
    never f (subst (λ (z : ℕ). IsDefinedAt is z f) (same_entered i x y e s) d))

pub undeclared : (G : Table) (is : List PlainInst) (n : ℕ) (i : PlainInst) (x m : ℕ) → i.opcode ≡ opcode.ENTRY_POINT
    → entered_by i ≡ Some x → IsDefinitionOf is x (Some m) → ¬ (IsDefinition is m) → IsUnsound G is n i part.Declared
undeclared G is n i x m o e one h = IsUnsound.declared o (λ y f s d k.
    let q : f ≡ m = one.only f (subst (λ (z : ℕ). IsDefinedAt is z f) (same_entered i x y e s) d) in
    h (subst (IsDefinition is) q k))

pub not_void : (G : Table) (is : List PlainInst) (n : ℕ) (i : PlainInst) (x m : ℕ) → i.opcode ≡ opcode.ENTRY_POINT
    → entered_by i ≡ Some x → IsDefinitionOf is x (Some m) → ¬ (ReturnsVoid is m) → IsUnsound G is n i part.Returns
not_void G is n i x m o e one h = IsUnsound.returns o (λ y f s d k.
    let q : f ≡ m = one.only f (subst (λ (z : ℕ). IsDefinedAt is z f) (same_entered i x y e s) d) in
    h (subst (ReturnsVoid is) q k))

pub unnamed_function : (G : Table) (is : List PlainInst) (n : ℕ) (i : PlainInst) → i.opcode ≡ opcode.ENTRY_POINT
    → second_id i.operands ≡ None → IsUnsound G is n i part.Declared
unnamed_function G is n i o e = IsUnsound.declared o (λ y f s d k.
    let no : None ≡ Some y = sym e ∙ entered_second i y s in
    cc)

-- ---- by the opcode

pub not_linked : (P Q : Type 0) → ¬ (P ↔ (¬ Q)) → ¬ (P × Q) → (¬ Q) × (¬ P)
not_linked P Q h b = (
  λ q. h ((λ p z. b (p, q)), (λ n. absurd (n q))),
  λ p. h ((λ p q. b (p, q)), (λ n. p)),
)

pub decided : (P : Type 0) (a b : ℕ) → ¬ (a ≡ b → P) → a ≡ b
decided P a b h = elim (cases_eq a b) [ inl e ↦ e | inr d ↦ absurd (h (λ e. absurd (d e))) ]

-- an opcode that is one of two is no third
neither : (n a b c : ℕ) → (n ≡ a) ⊎ (n ≡ b) → a ≢ c → b ≢ c → n ≢ c
neither n a b c o x y e = elim o [ inl p ↦ x (sym p ∙ e) | inr q ↦ y (sym q ∙ e) ]

pub not_mode : (G : Table) (is : List PlainInst) (n : ℕ) (i : PlainInst)
    → (i.opcode ≡ opcode.EXECUTION_MODE) ⊎ (i.opcode ≡ opcode.EXECUTION_MODE_ID) → ¬ (KeepsEntries G is n i)
    → ¬ (IsSoundMode is i.operands)
not_mode G is n i o h s =
    let entry = neither i.opcode opcode.EXECUTION_MODE opcode.EXECUTION_MODE_ID opcode.ENTRY_POINT o
    (λ e. absurd (omega (arith, e))) (λ e. absurd (omega (arith, e))) in
    let function = neither i.opcode opcode.EXECUTION_MODE opcode.EXECUTION_MODE_ID opcode.FUNCTION o
    (λ e. absurd (omega (arith, e))) (λ e. absurd (omega (arith, e))) in
    h (record { entry = λ e. absurd (entry e); mode = λ e. s; linkage = λ e. absurd (function e) })

-- an opcode that is none of two
no_mode : (P : Type 0) (n a b : ℕ) → n ≢ a → n ≢ b → (n ≡ a) ⊎ (n ≡ b) → P
no_mode P n a b x y o = elim o [ inl e ↦ absurd (x e) | inr e ↦ absurd (y e) ]

pub not_linkage : (G : Table) (is : List PlainInst) (n : ℕ) (i : PlainInst) → i.opcode ≢ opcode.ENTRY_POINT
    → i.opcode ≢ opcode.EXECUTION_MODE → i.opcode ≢ opcode.EXECUTION_MODE_ID
    → ¬ (KeepsEntries G is n i) → (i.opcode ≡ opcode.FUNCTION) × (¬ (IsSoundLinkage G is n))
not_linkage G is n i a b d h =
    let mode = no_mode (IsSoundMode is i.operands) i.opcode opcode.EXECUTION_MODE opcode.EXECUTION_MODE_ID b d in (
      decided (IsSoundLinkage G is n) i.opcode opcode.FUNCTION
          (λ l. h (record { entry = λ e. absurd (a e); mode = mode; linkage = l })),
      λ l. h (record { entry = λ e. absurd (a e); mode = mode; linkage = λ e. l }),
    )
