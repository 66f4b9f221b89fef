-- Numbers that are kept under numbers. (For the code alone.)
use Rattle.std.specs.Prelude.{ℕ, unwrap_or}
use Rattle.std.specs.Ordering.{nat_cmp}
use Rattle.std.specs.BTreeMap.{BTreeMap, get}

-- what is kept under a number: 0 where nothing is
abbrev pub kept : BTreeMap ℕ ℕ → ℕ → ℕ
kept m k = unwrap_or (get nat_cmp m k) 0
