-- Blocks and uses that come early, and what shows it.
use Rattle.std.proofs.Common.{◌≡◌, ◌≢◌, ◌<◌, ℕ, List, length, refl, sym, subst}
use Rattle.spv_table.specs.Table.{Table}
use Rattle.spv_module.specs.Operand.{PlainInst}
use Rattle.spv_module.specs.declared.fault.Rule.{Rule}
use Rattle.spv_module.specs.declared.fault.Rule.TheVariants.{O1, O2}
use Rattle.spv_evidence.specs.declared.evidence.Evidence.{Evidence}
use Rattle.spv_evidence.specs.declared.evidence.Evidence.TheVariants.{Defined, OnTheWay}
use Rattle.spv_block_order.specs.Broken.{Broken}
use Rattle.spv_block_order.specs.Early.{IsEarlyBlock, IsEarlyUse}
use Rattle.spv_block_order.specs.inner.First.{IsEarlyBlockBy}
use Rattle.spv_block_order.specs.inner.Uses.{IsEarlyUseBy}
use Rattle.spv_standard_evidence.specs.Order.{IsEvidence}

one : (G : Table) (is : List PlainInst) (n : ℕ) → Broken G is O1 n → IsEarlyBlock G is n
one G is _ (Broken.early_block n h) = h

pub block_of : (G : Table) (is js : List PlainInst) (n : ℕ) (r : Rule) → is ≡ js → r ≡ O1 → Broken G js r n
    → IsEarlyBlock G is n
block_of G is js n r same e h =
    subst (λ (ks : List PlainInst). IsEarlyBlock G ks n) (sym same)
    (one G js n (subst (λ (q : Rule). Broken G js q n) e h))

other : (G : Table) (is : List PlainInst) (r : Rule) (n : ℕ) → r ≢ O1 → Broken G is r n → (r ≡ O2) × IsEarlyUse G is n
other G is _ _ not (Broken.early_block n h) = absurd (not refl)
other G is _ _ not (Broken.early_use n h) = (refl, h)

pub use_of : (G : Table) (is js : List PlainInst) (n : ℕ) (r : Rule) → is ≡ js → r ≢ O1 → Broken G js r n
    → (r ≡ O2) × IsEarlyUse G is n
use_of G is js n r same not h =
    let u = other G js r n not h in
    (u.0, subst (λ (ks : List PlainInst). IsEarlyUse G ks n) (sym same) u.1)

pub use_within : (G : Table) (is : List PlainInst) (n : ℕ) → IsEarlyUse G is n → n < length is
use_within G is n u = u.of.begun.within

-- the evidence
pub block_shown : (G : Table) (is js : List PlainInst) (n h : ℕ) (r : Rule) → is ≡ js → r ≡ O1
    → IsEarlyBlockBy G is n h → IsEvidence G js r n (OnTheWay h)
block_shown G is js n h r same e (f, (early, at)) =
    subst (λ (ks : List PlainInst). IsEvidence G ks r n (OnTheWay h)) same
    (subst (λ (q : Rule). IsEvidence G is q n (OnTheWay h)) (sym e)
    (subst (λ (b : ℕ). IsEvidence G is O1 n (OnTheWay b)) at (IsEvidence.early_block f n early)))

pub use_shown : (G : Table) (is js : List PlainInst) (n k m : ℕ) (r : Rule) → is ≡ js → r ≡ O2
    → IsEarlyUseBy G is n k m → IsEvidence G js r n (Defined k m)
use_shown G is js n k m r same e (u, a, b) =
    subst (λ (ks : List PlainInst). IsEvidence G ks r n (Defined k m)) same
    (subst (λ (q : Rule). IsEvidence G is q n (Defined k m)) (sym e)
    (subst (λ (p : ℕ). IsEvidence G is O2 n (Defined p m)) a
    (subst (λ (p : ℕ). IsEvidence G is O2 n (Defined u.operand p)) b (IsEvidence.early_use n u))))

pub order_suffices : (G : Table) (is : List PlainInst) (r : Rule) (n : ℕ) (e : Evidence) → IsEvidence G is r n e
    → Broken G is r n
order_suffices G is _ _ _ (IsEvidence.early_block f n e) = Broken.early_block n (f, e)
order_suffices G is _ _ _ (IsEvidence.early_use n e) = Broken.early_use n e
