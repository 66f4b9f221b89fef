-- The first broken rule, where the rules were asked one after another.
use Rattle.std.proofs.Common.{◌≡◌, ◌<◌, ◌∙◌, inl, inr, ℕ, List, [], ◌∷◌, Some, Bool, true, false, nat_eq, refl, sym}
use Rattle.std.proofs.Common.{arith}
use Rattle.std.specs.List.{AllByRecursion}
use Rattle.std.specs.Prelude.{slice_get}
use Rattle.std.proofs.lemmas.Bool.{eqb-true}
use Rattle.spv_table.specs.Table.{Table}
use Rattle.spv_module.specs.Operand.{Plain, Value, Mask, PlainInst}
use Rattle.spv_module.specs.declared.fault.Rule.{Rule}
use Rattle.spv_module.specs.declared.fault.Rule.TheVariants as rule
use Rattle.spv_module.specs.declared.opcode.TheConstants as opcode
use Rattle.spv_layout.specs.First.{rank_of}
use Rattle.spv_layout.specs.inner.Unkinded.{IsUnkinded}
use Rattle.spv_capabilities.specs.Asked.{IsCoveredEntry}
use Rattle.spv_capabilities.specs.Capable.{IsCapable, IsCoveredOperand, needs_of}
use Rattle.spv_capabilities.specs.inner.Known.{AreCovered, IsAskedAlone, is_asked_more}
use Rattle.spv_capabilities.specs.inner.Entry.{IsSoundLinkage}
use Rattle.spv_capabilities.specs.Keeps.{Keeps, KeepsEntries}

-- None of them is broken.
pub all_kept : (G : Table) (is : List PlainInst) (n : ℕ) (i : PlainInst) → Keeps G is rule.C1 n i
    → Keeps G is rule.C2 n i → Keeps G is rule.M1 n i → Keeps G is rule.E1 n i → Keeps G is rule.E2 n i → (r : Rule)
    → Keeps G is r n i
all_kept G is n i a b c d e rule.C1 = a
all_kept G is n i a b c d e rule.C2 = b
all_kept G is n i a b c d e rule.M1 = c
all_kept G is n i a b c d e rule.E1 = d
all_kept G is n i a b c d e rule.E2 = e
all_kept G is n i a b c d e _ = tt

-- None of those before E2 is broken, before E1, and so on.
pub kept_before_e2 : (G : Table) (is : List PlainInst) (n : ℕ) (i : PlainInst) → Keeps G is rule.C1 n i
    → Keeps G is rule.C2 n i → Keeps G is rule.M1 n i → Keeps G is rule.E1 n i → (q : Rule) → rank_of q < 25
    → Keeps G is q n i
kept_before_e2 G is n i a b c d rule.C1 l = a
kept_before_e2 G is n i a b c d rule.C2 l = b
kept_before_e2 G is n i a b c d rule.M1 l = c
kept_before_e2 G is n i a b c d rule.E1 l = d
kept_before_e2 G is n i a b c d rule.E2 l = absurd (omega arith)
kept_before_e2 G is n i a b c d _ l = tt

pub kept_before_e1 : (G : Table) (is : List PlainInst) (n : ℕ) (i : PlainInst) → Keeps G is rule.C1 n i
    → Keeps G is rule.C2 n i → Keeps G is rule.M1 n i → (q : Rule) → rank_of q < 24 → Keeps G is q n i
kept_before_e1 G is n i a b c rule.C1 l = a
kept_before_e1 G is n i a b c rule.C2 l = b
kept_before_e1 G is n i a b c rule.M1 l = c
kept_before_e1 G is n i a b c rule.E1 l = absurd (omega arith)
kept_before_e1 G is n i a b c rule.E2 l = absurd (omega arith)
kept_before_e1 G is n i a b c _ l = tt

pub kept_before_m1 : (G : Table) (is : List PlainInst) (n : ℕ) (i : PlainInst) → Keeps G is rule.C1 n i
    → Keeps G is rule.C2 n i → (q : Rule) → rank_of q < 23 → Keeps G is q n i
kept_before_m1 G is n i a b rule.C1 l = a
kept_before_m1 G is n i a b rule.C2 l = b
kept_before_m1 G is n i a b rule.M1 l = absurd (omega arith)
kept_before_m1 G is n i a b rule.E1 l = absurd (omega arith)
kept_before_m1 G is n i a b rule.E2 l = absurd (omega arith)
kept_before_m1 G is n i a b _ l = tt

pub kept_before_c2 : (G : Table) (is : List PlainInst) (n : ℕ) (i : PlainInst) → Keeps G is rule.C1 n i → (q : Rule)
    → rank_of q < 22 → Keeps G is q n i
kept_before_c2 G is n i a rule.C1 l = a
kept_before_c2 G is n i a rule.C2 l = absurd (omega arith)
kept_before_c2 G is n i a rule.M1 l = absurd (omega arith)
kept_before_c2 G is n i a rule.E1 l = absurd (omega arith)
kept_before_c2 G is n i a rule.E2 l = absurd (omega arith)
kept_before_c2 G is n i a _ l = tt

pub kept_before_c1 : (G : Table) (is : List PlainInst) (n : ℕ) (i : PlainInst) → (q : Rule) → rank_of q < 21
    → Keeps G is q n i
kept_before_c1 G is n i rule.C1 l = absurd (omega arith)
kept_before_c1 G is n i rule.C2 l = absurd (omega arith)
kept_before_c1 G is n i rule.M1 l = absurd (omega arith)
kept_before_c1 G is n i rule.E1 l = absurd (omega arith)
kept_before_c1 G is n i rule.E2 l = absurd (omega arith)
kept_before_c1 G is n i _ l = tt

-- At an opcode of which no rule but C2 speaks, C2 alone is asked, by the entry and the operands.

not_this : (n m : ℕ) → is_asked_more n ≡ false → is_asked_more m ≡ true → n ≡ m → ⊥
not_this n m e h same = let f : is_asked_more m ≡ false = rw (← same) e in let no : true ≡ false = sym h ∙ f in cc

differs : (n m : ℕ) (b : Bool) → nat_eq n m ≡ b → is_asked_more n ≡ false → is_asked_more m ≡ true → nat_eq n m ≡ false
differs n m true q e h = absurd (not_this n m e h (eqb-true n m q))
differs n m false q e h = q

needs_nothing : (i : PlainInst) → is_asked_more i.opcode ≡ false → needs_of i ≡ []
needs_nothing i e = rw (
  differs i.opcode opcode.TYPE_INT (nat_eq i.opcode opcode.TYPE_INT) refl e refl,
  differs i.opcode opcode.TYPE_FLOAT (nat_eq i.opcode opcode.TYPE_FLOAT) refl e refl,
  differs i.opcode opcode.TYPE_VECTOR (nat_eq i.opcode opcode.TYPE_VECTOR) refl e refl,
  differs i.opcode opcode.TYPE_IMAGE (nat_eq i.opcode opcode.TYPE_IMAGE) refl e refl,
  differs i.opcode opcode.TYPE_SAMPLER (nat_eq i.opcode opcode.TYPE_SAMPLER) refl e refl,
) refl

capable_then : (G : Table) (is : List PlainInst) (i : PlainInst) → is_asked_more i.opcode ≡ false → AreCovered G is i
    → IsCapable G is i
capable_then G is i e a = record { entry = a.entry; operands = a.operands; needs = rw (needs_nothing i e) tt }

pub covered_then : (G : Table) (is : List PlainInst) (i : PlainInst) → IsCapable G is i → AreCovered G is i
covered_then G is i c = record { entry = c.entry; operands = c.operands }

entries_then : (G : Table) (is : List PlainInst) (n : ℕ) (i : PlainInst) → is_asked_more i.opcode ≡ false
    → (i.opcode ≡ opcode.FUNCTION → IsSoundLinkage G is n) → KeepsEntries G is n i
entries_then G is n i e l = record {
  entry = λ h. absurd (not_this i.opcode opcode.ENTRY_POINT e refl h);
  mode = λ h. absurd (elim h [
    | inl q ↦ not_this i.opcode opcode.EXECUTION_MODE e refl q
    | inr q ↦ not_this i.opcode opcode.EXECUTION_MODE_ID e refl q
  ]);
  linkage = l;
}

pub all_covered : (G : Table) (is : List PlainInst) (n : ℕ) (i : PlainInst) → is_asked_more i.opcode ≡ false
    → AreCovered G is i → (i.opcode ≡ opcode.FUNCTION → IsSoundLinkage G is n) → (r : Rule) → Keeps G is r n i
all_covered G is n i e a l =
    all_kept G is n i (λ h. absurd (not_this i.opcode opcode.MEMORY_MODEL e refl h)) (capable_then G is i e a)
    (λ h. absurd (not_this i.opcode opcode.MEMORY_MODEL e refl h))
    (λ h. absurd (not_this i.opcode opcode.MEMORY_MODEL e refl h)) (entries_then G is n i e l)

pub kept_before_covered : (G : Table) (is : List PlainInst) (n : ℕ) (i : PlainInst) → is_asked_more i.opcode ≡ false
    → (q : Rule) → rank_of q < 22 → Keeps G is q n i
kept_before_covered G is n i e = kept_before_c2 G is n i (λ h. absurd (not_this i.opcode opcode.MEMORY_MODEL e refl h))

pub kept_before_linkage : (G : Table) (is : List PlainInst) (n : ℕ) (i : PlainInst) → is_asked_more i.opcode ≡ false
    → AreCovered G is i → (q : Rule) → rank_of q < 25 → Keeps G is q n i
kept_before_linkage G is n i e a =
    kept_before_e2 G is n i (λ h. absurd (not_this i.opcode opcode.MEMORY_MODEL e refl h)) (capable_then G is i e a)
    (λ h. absurd (not_this i.opcode opcode.MEMORY_MODEL e refl h))
    (λ h. absurd (not_this i.opcode opcode.MEMORY_MODEL e refl h))

-- At an opcode where nothing is asked but the entry, no operand is.

unkinded_covered : (G : Table) (is : List PlainInst) (o : Plain) → IsUnkinded o → IsCoveredOperand G is o
unkinded_covered G is (Value k v) u = absurd u
unkinded_covered G is (Mask k m) u = absurd u
unkinded_covered G is o u = tt

all_unkinded : (G : Table) (is : List PlainInst) (os : List Plain) → AllByRecursion IsUnkinded os
    → AllByRecursion (IsCoveredOperand G is) os
all_unkinded G is [] u = tt
all_unkinded G is (o ∷ os) u = (unkinded_covered G is o u.0, all_unkinded G is os u.1)

pub all_free : (G : Table) (is : List PlainInst) (n : ℕ) (i : PlainInst) → slice_get is n ≡ Some i
    → IsCoveredEntry G is i.opcode → IsAskedAlone is i.opcode → (r : Rule) → Keeps G is r n i
all_free G is n i at e a =
    all_covered G is n i a.more (record { entry = e; operands = all_unkinded G is i.operands (a.kinds n i at refl) })
    (λ h. absurd (a.function h))
