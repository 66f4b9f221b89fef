-- What is known where a rule of types is broken.
use Rattle.std.proofs.Common.{◌≡◌, ◌∙◌, inl, inr, ℕ, List, Some, sym, subst}
use Rattle.std.specs.Prelude.{slice_get}
use Rattle.spv_table.specs.Table.{Table}
use Rattle.spv_module.specs.Operand.{PlainInst}
use Rattle.spv_module.specs.declared.fault.Rule.{Rule}
use Rattle.spv_module.specs.declared.fault.Rule.TheVariants as rule
use Rattle.std.proofs.lemmas.Bool.{cases_eq}
use Rattle.spv_module.specs.declared.opcode.TheConstants as opcode
use Rattle.spv_type_rules.specs.Keeps.{Keeps}
use Rattle.spv_layout.specs.declared.place.Place.{Place}
use Rattle.spv_layout.specs.Place.{IsShort}
use Rattle.spv_type_evidence.specs.types.Broken.{IsBroken}
use Rattle.spv_type_evidence.specs.types.Evidence.{IsEvidence, Shows}
use Rattle.spv_type_evidence.specs.types.inner.Known.{IsKnown}
use Rattle.spv_evidence.specs.declared.evidence.Evidence.{Evidence}

-- what is known, by a list that is the same
pub known_of : (G : Table) (is js : List PlainInst) (places : List Place) (r : Rule) (n : ℕ) → js ≡ is → IsShort is
    → IsBroken G is places r n → IsKnown G js
known_of G is js places r n e w b =
    subst (IsKnown G) (sym e) (record { fits = b.plan.fits; laid = b.plan.layout; roles = b.roles; words = w })

-- the instruction that is looked at
pub inst_same : (is : List PlainInst) (n : ℕ) (i j : PlainInst) → slice_get is n ≡ Some i → slice_get is n ≡ Some j
    → i ≡ j
inst_same is n i j a b = let e : Some i ≡ Some j = sym a ∙ b in cc

pub is_evidence : (G : Table) (is js : List PlainInst) (r : Rule) (n : ℕ) (i : PlainInst) (e : Evidence) → js ≡ is
    → slice_get js n ≡ Some i → Shows G js n i r e → IsEvidence G is r n e
is_evidence G is js r n i e same at s =
    subst (λ ks. IsEvidence G ks r n e) same (record { inst = i; there = at; shows = s })

-- what is broken at it, by a list that is the same
not_kept : (G : Table) (is js : List PlainInst) (places : List Place) (q r : Rule) (n : ℕ) (i : PlainInst) → js ≡ is
    → slice_get js n ≡ Some i → q ≡ r → IsBroken G is places q n → ¬ (Keeps (λ m j. Unit {0}) js r n i)
not_kept G is js places q r n i e at same b h =
    let there : slice_get is n ≡ Some i = subst (λ ks. slice_get ks n ≡ Some i) e at in
    let inst : i ≡ b.inst = inst_same is n i b.inst there b.there in
    b.broken (rw (same, ← inst) (subst (λ ks. Keeps (λ m j. Unit {0}) ks r n i) e h))

pub call_opcode : (G : Table) (is js : List PlainInst) (places : List Place) (q : Rule) (n : ℕ) (i : PlainInst)
    → js ≡ is → slice_get js n ≡ Some i → q ≡ rule.Y8 → IsBroken G is places q n → i.opcode ≡ opcode.FUNCTION_CALL
call_opcode G is js places q n i e at same b = elim (cases_eq i.opcode opcode.FUNCTION_CALL) [
  | inl o ↦ o
  | inr o ↦ absurd (not_kept G is js places q rule.Y8 n i e at same b (λ h. absurd (o h)))
]
