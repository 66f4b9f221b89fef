-- What is gathered of instructions, one after another.
use Rattle.std.proofs.Common.{◌≡◌, ◌∙◌, ◌⊎◌, ◌+◌, ◌≤◌, inl, inr, ℕ, true, false, sym, subst, arith, List, [], Some}
use Rattle.std.proofs.Common.{IsTrue}
use Rattle.std.specs.Prelude.{slice_get}
use Rattle.std.specs.BTreeSet.{BTreeSet}
use Rattle.std.proofs.lemmas.Bool.{cases_lt}
use Rattle.spv_module.specs.Operand.{PlainInst}
use Rattle.spv_declarations.specs.Given.{At}
use Rattle.spv_declarations.specs.inner.Early.{AreEarly, is_early}
use Rattle.spv_declarations.specs.inner.Sets.{IsIn, HasBoth, Adds, AddsBoth, IsSaid, IsSaidBefore, Gathers, HasAll}
use Rattle.spv_declarations.specs.inner.Sets.{GathersBoth, HasAllBoth}

-- Two instructions of one place are one.
pub one_inst : (is : List PlainInst) (n : ℕ) (i j : PlainInst) → slice_get is n ≡ Some i → slice_get is n ≡ Some j
    → i ≡ j
one_inst is n i j a b = let e : Some i ≡ Some j = sym a ∙ b in cc

-- what is said at an instruction
pub at_tells : (is : List PlainInst) (P : PlainInst → Type 0) (n : ℕ) (i : PlainInst) → slice_get is n ≡ Some i
    → At is P n → P i
at_tells is P n i at h = subst P (one_inst is n h.0 i h.1 at) h.2

pub said_none : (is : List PlainInst) (P : PlainInst → Type 0) → IsSaidBefore 0 is P → ⊥
said_none is P s = let l = s.2 in omega (arith, l)

pub said_later : (is : List PlainInst) (P : PlainInst → Type 0) (n m : ℕ) → n ≤ m → IsSaidBefore n is P
    → IsSaidBefore m is P
said_later is P n m le s = let l = s.2 in (s.0, s.1, omega (arith, l, le), s.3, s.4)

pub said_here : (is : List PlainInst) (P : PlainInst → Type 0) (n : ℕ) (i : PlainInst) → slice_get is n ≡ Some i → P i
    → IsSaidBefore (n + 1) is P
said_here is P n i at p = (n, i, omega arith, at, p)

pub said_cases : (is : List PlainInst) (P : PlainInst → Type 0) (n : ℕ) (i : PlainInst) → slice_get is n ≡ Some i
    → IsSaidBefore (n + 1) is P → IsSaidBefore n is P ⊎ P i
said_cases is P n i at s = elim (cases_lt s.0 n) [
  | inl l ↦ inl (s.0, s.1, l, s.3, s.4)
  | inr g ↦
      let l = s.2 in
      let e : s.0 ≡ n = omega (arith, l, g) in
      let there : slice_get is n ≡ Some s.1 = subst (λ (m : ℕ). slice_get is m ≡ Some s.1) e s.3 in
      inr (subst P (one_inst is n s.1 i there at) s.4)
]

pub said_all : (is : List PlainInst) (P : PlainInst → Type 0) (n : ℕ) → IsSaidBefore n is P → IsSaid is P
said_all is P n s = (s.0, s.1, s.3, s.4)

pub said_early : (is : List PlainInst) (P : PlainInst → Type 0) (count n : ℕ) → AreEarly is count
    → ((i : PlainInst) → P i → is_early i.opcode ≡ true) → count ≤ n → IsSaid is P → IsSaidBefore n is P
said_early is P count n early f le s =
    let l = early.each s.0 s.1 s.2 (f s.1 s.3) in
    (s.0, s.1, omega (arith, l, le), s.2, s.3)

-- An empty set has nothing.
pub none_in : (s : BTreeSet ℕ) (x : ℕ) → s.keys ≡ [] → IsIn s x → ⊥
none_in s x e t = let no : IsTrue false = rw e at t in let d : false ≡ true = no in cc

pub none_both : (s : BTreeSet (ℕ × ℕ)) (x y : ℕ) → s.keys ≡ [] → HasBoth s x y → ⊥
none_both s x y e t = let no : IsTrue false = rw e at t in let d : false ≡ true = no in cc

pub gathers_none : (is : List PlainInst) (Says : PlainInst → ℕ → Type 0) (s : BTreeSet ℕ) → s.keys ≡ []
    → Gathers 0 is Says s
gathers_none is Says s e x = (λ t. absurd (none_in s x e t), λ b. absurd (said_none is (λ i. Says i x) b))

pub gathers_more : (is : List PlainInst) (Says : PlainInst → ℕ → Type 0) (n : ℕ) (i : PlainInst)
    (old new : BTreeSet ℕ) → slice_get is n ≡ Some i → Adds (Says i) old new → Gathers n is Says old
    → Gathers (n + 1) is Says new
gathers_more is Says n i old new at a g x = (
  λ t. elim ((a x).0 t) [
    | inl o ↦ said_later is (λ j. Says j x) n (n + 1) (omega arith) ((g x).0 o)
    | inr p ↦ said_here is (λ j. Says j x) n i at p
  ],
  λ b. (a x).1 (elim (said_cases is (λ j. Says j x) n i at b) [ inl o ↦ inl ((g x).1 o) | inr p ↦ inr p ]),
)

pub gathers_all : (is : List PlainInst) (Says : PlainInst → ℕ → Type 0) (count n : ℕ) (s : BTreeSet ℕ)
    → AreEarly is count → ((i : PlainInst) (x : ℕ) → Says i x → is_early i.opcode ≡ true) → count ≤ n
    → Gathers n is Says s → HasAll is Says s
gathers_all is Says count n s early f le g x = (
  λ t. said_all is (λ i. Says i x) n ((g x).0 t),
  λ b. (g x).1 (said_early is (λ i. Says i x) count n early (λ i. f i x) le b),
)

pub both_gather_none : (is : List PlainInst) (Says : PlainInst → ℕ → ℕ → Type 0) (s : BTreeSet (ℕ × ℕ))
    → s.keys ≡ [] → GathersBoth 0 is Says s
both_gather_none is Says s e x y =
    (λ t. absurd (none_both s x y e t), λ b. absurd (said_none is (λ i. Says i x y) b))

pub both_gather_more : (is : List PlainInst) (Says : PlainInst → ℕ → ℕ → Type 0) (n : ℕ) (i : PlainInst)
    (old new : BTreeSet (ℕ × ℕ)) → slice_get is n ≡ Some i → AddsBoth (Says i) old new → GathersBoth n is Says old
    → GathersBoth (n + 1) is Says new
both_gather_more is Says n i old new at a g x y = (
  λ t. elim ((a x y).0 t) [
    | inl o ↦ said_later is (λ j. Says j x y) n (n + 1) (omega arith) ((g x y).0 o)
    | inr p ↦ said_here is (λ j. Says j x y) n i at p
  ],
  λ b. (a x y).1 (elim (said_cases is (λ j. Says j x y) n i at b) [ inl o ↦ inl ((g x y).1 o) | inr p ↦ inr p ]),
)

pub both_gather_all : (is : List PlainInst) (Says : PlainInst → ℕ → ℕ → Type 0) (count n : ℕ)
    (s : BTreeSet (ℕ × ℕ)) → AreEarly is count
    → ((i : PlainInst) (x y : ℕ) → Says i x y → is_early i.opcode ≡ true) → count ≤ n
    → GathersBoth n is Says s → HasAllBoth is Says s
both_gather_all is Says count n s early f le g x y = (
  λ t. said_all is (λ i. Says i x y) n ((g x y).0 t),
  λ b. (g x y).1 (said_early is (λ i. Says i x y) count n early (λ i. f i x y) le b),
)
