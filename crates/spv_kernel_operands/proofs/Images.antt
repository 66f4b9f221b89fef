-- Where sampled images are made.
use Rattle.std.proofs.Common.{◌≡◌, ◌⊎◌, ◌∙◌, ◌↔◌, ℕ, List, Some, Bool, true, false, IsTrue, refl, sym, subst}
use Rattle.std.proofs.lemmas.Bool.{false≢true}
use Rattle.std.specs.Prelude.{not, slice_get}
use Rattle.std.proofs.lemmas.Option.{same_Some}
use Rattle.spv_module.specs.declared.opcode.TheConstants as opcode
use Rattle.spv_module.specs.Operand.{Plain, PlainInst}
use Rattle.spv_ids.specs.Definition.{IsDefinedAt}
use Rattle.spv_ids.specs.Outcome.{IsOnly}
use Rattle.spv_kernel_operands.specs.Value.{id_at}
use Rattle.spv_kernel_operands.specs.Objects.{IsMadeBeside, IsMadeElsewhere}

-- the definition of an id is there, and an image of it is made there or nowhere
pub image_only : (is : List PlainInst) (n x m : ℕ) → IsOnly is x m
    → ((k : ℕ) × IsDefinedAt is x k × IsMadeBeside is n k) → IsMadeBeside is n m
image_only is n x m o h = subst (λ (k : ℕ). IsMadeBeside is n k) (o.only h.0 h.1) h.2

pub elsewhere_from : (is : List PlainInst) (n : ℕ) (i : PlainInst) (os : List Plain) (x : ℕ) → slice_get is n ≡ Some i
    → (i.opcode ≡ opcode.IMAGE_SAMPLE_EXPLICIT_LOD) ⊎ (i.opcode ≡ opcode.IMAGE) → os ≡ i.operands
    → id_at os 2 ≡ Some x → ¬ ((k : ℕ) × IsDefinedAt is x k × IsMadeBeside is n k) → IsMadeElsewhere is n
elsewhere_from is n i os x there called same used none = record {
  inst = i;
  there = there;
  called = called;
  id = x;
  used = subst (λ (xs : List Plain). id_at xs 2 ≡ Some x) same used;
  elsewhere = λ m d b. none (m, d, b);
}

pub elsewhere_within : (is : List PlainInst) (n : ℕ) (i : PlainInst) (os : List Plain) (x : ℕ)
    → slice_get is n ≡ Some i → os ≡ i.operands → id_at os 2 ≡ Some x → IsMadeElsewhere is n
    → ¬ ((k : ℕ) × IsDefinedAt is x k × IsMadeBeside is n k)
elsewhere_within is n i os x there same used h = λ s.
    let inst : i ≡ h.inst = same_Some i h.inst (sym there ∙ h.there) in
    let one : id_at h.inst.operands 2 ≡ Some x =
    subst (λ (j : PlainInst). id_at j.operands 2 ≡ Some x) inst
    (subst (λ (xs : List Plain). id_at xs 2 ≡ Some x) same used) in
    let id : x ≡ h.id = same_Some x h.id (sym one ∙ h.used) in
    h.elsewhere s.0 (subst (λ (y : ℕ). IsDefinedAt is y s.0) id s.1) s.2

-- the answer turned round
pub not_within : {P Q : Type 0} (b : Bool) → (IsTrue b ↔ P) → (¬ P → Q) → (Q → ¬ P) → (IsTrue (not b) ↔ Q)
not_within true h from within = (λ t. absurd (false≢true t), λ q. absurd (within q (h.0 refl)))
not_within false h from within = (λ t. from (λ p. false≢true (h.1 p)), λ q. refl)
