-- What is kept of ids that have a decoration. (For the code alone.)
use Rattle.std.specs.Prelude.{◌<◌, ℕ, List}
use Rattle.std.specs.BTreeSet.{BTreeSet}
use Rattle.spv_module.specs.Operand.{PlainInst}
use Rattle.spv_declarations.specs.Decorated.{HasBy, IsLeastBy}
use Rattle.spv_declarations.specs.inner.Sets.{IsIn}

-- The set has the ids that have the decoration by an instruction before n; and of each there is a least one.
pub record AreLeast (is : List PlainInst) (d n : ℕ) (s : BTreeSet ℕ) : Type 0 where
  pub has : (x m : ℕ) → m < n → HasBy is x d m → IsIn s x
  pub least : (x : ℕ) → IsIn s x → (m : ℕ) × (m < n) × IsLeastBy is x d m

-- No id is in both.
abbrev pub AreApart : BTreeSet ℕ → BTreeSet ℕ → Type 0
AreApart r a = (x : ℕ) → IsIn r x → IsIn a x → ⊥
