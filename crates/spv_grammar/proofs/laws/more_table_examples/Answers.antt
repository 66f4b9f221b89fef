use Rattle.std.proofs.Common.{ℕ, List, [], ◌∷◌, Option, Some, None, length, refl, ap, arith}
use Rattle.spv_table.specs.Table.{Sort}
use Rattle.spv_grammar.proofs.laws.more_table_examples.Goals as goal

-- how many enumerants the first kind has
abbrev first_count : Option (List Sort) → ℕ
first_count None = 0
first_count (Some []) = 0
first_count (Some (s ∷ _)) = length s.enumerants

pub returns-clause-kept : goal.returns-clause-kept
returns-clause-kept c = record { entries = refl; kinds = refl }

pub returns-clause-dropped : goal.returns-clause-dropped
returns-clause-dropped c = λ h. let e = ap first_count h.kinds in omega (arith, e)
