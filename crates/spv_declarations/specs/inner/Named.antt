-- The order of models with names. (For the code alone.)
use Rattle.std.specs.Borrow.{Bor}
use Rattle.std.specs.Prelude.{◌≡◌, ◌↔◌, ℕ, List, Some, IsTrue}
use Rattle.std.specs.BTreeSet.{BTreeSet, contains}
use Rattle.std.specs.Cmp.Lexicographic.{slice_cmp}
use Rattle.std.specs.Ordering.{nat_cmp, ordering_then}
use Rattle.std.specs.declared.cmp.Ordering.{Ordering}
use Rattle.spv_module.specs.Operand.{PlainInst}
use Rattle.spv_declarations.specs.Entry.{named_by}
use Rattle.spv_declarations.specs.inner.Sets.{IsSaidBefore}

abbrev pub named_cmp : ℕ × Bor (List ℕ) → ℕ × Bor (List ℕ) → Ordering
named_cmp x y = ordering_then (nat_cmp x.0 y.0) (slice_cmp nat_cmp x.1.now y.1.now)

-- a model and a name; an instruction has them
abbrev pub Name : Type 0
Name = ℕ × Bor (List ℕ)

abbrev pub Names : Name → PlainInst → Type 0
Names q i = named_by i ≡ Some (q.0, q.1.now)

-- the set has the names of the instructions before n
abbrev pub AreSeen : ℕ → List PlainInst → BTreeSet Name → Type 0
AreSeen n is s = (q : Name) → IsTrue (contains named_cmp s q) ↔ IsSaidBefore n is (Names q)
