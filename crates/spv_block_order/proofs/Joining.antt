-- The first broken rule, of the first block that stands early and the first use that does.
use Rattle.std.proofs.Common.{◌≡◌, ◌<◌, ◌≤◌, ◌⊎◌, ◌∙◌, ℕ, List, Some, None, sym, ap, subst, inl, inr}
use Rattle.std.proofs.Common.{arith}
use Rattle.std.proofs.lemmas.Bool.{cases_lt}
use Rattle.spv_table.specs.Table.{Table}
use Rattle.spv_module.specs.Operand.{PlainInst}
use Rattle.spv_module.specs.declared.fault.Rule.{Rule}
use Rattle.spv_module.specs.declared.fault.Rule.TheVariants.{O1, O2}
use Rattle.spv_module.specs.declared.fault.Stop.{Stop}
use Rattle.spv_module.specs.declared.fault.Stop.TheVariants.{Fault, Memory}
use Rattle.spv_layout.specs.Stage.{of_standard}
use Rattle.spv_layout.specs.First.{rank_of, IsFirst}
use Rattle.spv_layout.specs.Place.{first_word_of, IsOfFunction}
use Rattle.spv_layout.specs.inner.Outcome.{IsStopAt}
use Rattle.spv_flow.specs.walks.inner.Starts.{IsExtent}
use Rattle.spv_block_order.specs.Early.{IsEarlyIn, IsEarlyBlock, IsEarlyUse}
use Rattle.spv_block_order.specs.Broken.{Broken, IsRefusal}
use Rattle.spv_block_order.specs.inner.First.{IsFirstIn, IsFirstUse, IsFoundIn, IsFoundFirst}
use Rattle.spv_block_order.proofs.Bridging.{early_function, of_function}

-- a block that stands early, of the function
early_in : (G : Table) (is : List PlainInst) (f n : ℕ) → IsOfFunction is n f → IsEarlyBlock G is n → IsEarlyIn G is f n
early_in G is f n of (g, e) =
    subst (λ (k : ℕ). IsEarlyIn G is k n) (early_function G is g f n e of) e

-- the first block that stands early is before the function's end
pub label_before : (G : Table) (is : List PlainInst) (f end n : ℕ) → IsExtent is f end → IsFirstIn G is f (Some n)
    → n < end
label_before G is f end n x first = (x.all n (of_function G is f n first.0)).1

-- this number is lower than another, or the same, where a rank is no greater
or_same : (n m a b : ℕ) → n ≤ m → (n ≡ m → a ≤ b) → (n < m) ⊎ ((n ≡ m) × (a ≤ b))
or_same n m a b le ranks = elim (cases_lt n m) [
  | inl less ↦ inl less
  | inr more ↦ (let same : n ≡ m = omega (arith, le, more) in inr (same, ranks same))
]

-- a use is no lower than the first
use_from : (G : Table) (is : List PlainInst) (f limit n m : ℕ) → IsFirstUse G is f limit (Some n) → f ≤ m
    → IsEarlyUse G is m → n ≤ m
use_from G is f limit n m first from u = elim (cases_lt m n) [
  | inl less ↦ (let lt = first.0.1 in absurd (first.1 m less (from, omega (arith, less, lt), u)))
  | inr more ↦ more
]

use_past : (G : Table) (is : List PlainInst) (f limit m : ℕ) → IsFirstUse G is f limit None → f ≤ m
    → IsEarlyUse G is m → limit ≤ m
use_past G is f limit m none from u = elim (cases_lt m limit) [
  | inl less ↦ absurd (none m (from, less, u))
  | inr more ↦ more
]

block_from : (G : Table) (is : List PlainInst) (f n m : ℕ) → IsFirstIn G is f (Some n) → IsOfFunction is m f
    → IsEarlyBlock G is m → n ≤ m
block_from G is f n m first of e = elim (cases_lt m n) [
  | inl less ↦ absurd (first.1 m less (early_in G is f m of e))
  | inr more ↦ more
]

-- What is found in a function, by rule.

use_least : (G : Table) (is : List PlainInst) (f end limit n : ℕ) → IsExtent is f end
    → IsFirstUse G is f limit (Some n)
    → ((m : ℕ) → IsOfFunction is m f → IsEarlyBlock G is m → limit ≤ m) → (q : Rule) (m : ℕ) → IsOfFunction is m f
    → Broken G is q m → (n < m) ⊎ ((n ≡ m) × (rank_of O2 ≤ rank_of q))
use_least G is f end limit n x first blocks _ _ of (Broken.early_block m e) =
    let le = blocks m of e in
    let lt = first.0.1 in
    inl (omega (arith, le, lt))
use_least G is f end limit n x first blocks _ _ of (Broken.early_use m u) =
    or_same n m (rank_of O2) (rank_of O2) (use_from G is f limit n m first (x.all m of).0 u) (λ same. omega arith)

-- the use comes first, where no block below the limit is early
found_use : (G : Table) (is : List PlainInst) (f end limit n : ℕ) → IsExtent is f end → limit ≤ end
    → IsFirstUse G is f limit (Some n) → ((m : ℕ) → IsOfFunction is m f → IsEarlyBlock G is m → limit ≤ m)
    → IsFoundIn G is f (record { rule = O2; inst = n })
found_use G is f end limit n x within first blocks =
    let lt = first.0.1 in
    record {
      broken = Broken.early_use n first.0.2;
      of = x.of n first.0.0 (omega (arith, lt, within));
      least = use_least G is f end limit n x first blocks;
    }

pub found_use_below : (G : Table) (is : List PlainInst) (f end limit n : ℕ) → IsExtent is f end
    → IsFirstIn G is f (Some limit) → IsFirstUse G is f limit (Some n)
    → IsFoundFirst G is f (Some (record { rule = O2; inst = n }))
found_use_below G is f end limit n x label first =
    let lt = label_before G is f end limit x label in
    found_use G is f end limit n x (omega (arith, lt)) first
    (λ m of e. block_from G is f limit m label of e)

pub found_use_alone : (G : Table) (is : List PlainInst) (f end n : ℕ) → IsExtent is f end → IsFirstIn G is f None
    → IsFirstUse G is f end (Some n) → IsFoundFirst G is f (Some (record { rule = O2; inst = n }))
found_use_alone G is f end n x none first =
    found_use G is f end end n x (omega arith) first (λ m of e. absurd (none m (early_in G is f m of e)))

block_least : (G : Table) (is : List PlainInst) (f end n : ℕ) → IsExtent is f end → IsFirstIn G is f (Some n)
    → IsFirstUse G is f n None → (q : Rule) (m : ℕ) → IsOfFunction is m f → Broken G is q m
    → (n < m) ⊎ ((n ≡ m) × (rank_of O1 ≤ rank_of q))
block_least G is f end n x first none _ _ of (Broken.early_block m e) =
    or_same n m (rank_of O1) (rank_of O1) (block_from G is f n m first of e) (λ same. omega arith)
block_least G is f end n x first none _ _ of (Broken.early_use m u) =
    or_same n m (rank_of O1) (rank_of O2) (use_past G is f n m none (x.all m of).0 u) (λ same. omega arith)

-- the block comes first, where no use before it is early
pub found_block : (G : Table) (is : List PlainInst) (f end n : ℕ) → IsExtent is f end → IsFirstIn G is f (Some n)
    → IsFirstUse G is f n None → IsFoundFirst G is f (Some (record { rule = O1; inst = n }))
found_block G is f end n x first none = record {
  broken = Broken.early_block n (f, first.0);
  of = of_function G is f n first.0;
  least = block_least G is f end n x first none;
}

-- where neither is, no rule is broken
neither : (G : Table) (is : List PlainInst) (f end : ℕ) → IsExtent is f end → IsFirstIn G is f None
    → IsFirstUse G is f end None → (q : Rule) (m : ℕ) → IsOfFunction is m f → ¬ (Broken G is q m)
neither G is f end x blocks uses _ _ of (Broken.early_block m e) = blocks m (early_in G is f m of e)
neither G is f end x blocks uses _ _ of (Broken.early_use m u) =
    let r = x.all m of in uses m (r.0, r.1, u)

pub found_none : (G : Table) (is : List PlainInst) (f end : ℕ) → IsExtent is f end → IsFirstIn G is f None
    → IsFirstUse G is f end None → IsFoundFirst G is f None
found_none G is f end x blocks uses = neither G is f end x blocks uses

-- what is told of the first
pub told : (G : Table) (is : List PlainInst) (r : Rule) (n : ℕ) (stop : Stop)
    → IsFirst (Broken G is) of_standard r n → IsStopAt is r n stop → IsRefusal G is stop
told G is r n Memory first h = absurd h
told G is r n (Fault f) first (e, where_at, word) =
    let one : IsFirst (Broken G is) of_standard f.rule n =
    subst (λ (q : Rule). IsFirst (Broken G is) of_standard q n) (sym e) first in (
      subst (λ (m : ℕ). IsFirst (Broken G is) of_standard f.rule m) (sym where_at) one,
      word ∙ ap (first_word_of is) (sym where_at),
    )
