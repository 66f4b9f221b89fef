-- What the last value or mask that was read stands for. (For the code alone.)
use Rattle.std.specs.Prelude.{◌≡◌, ◌∷◌, [], ℕ, List, Option, None, Bool, IfSome}
use Rattle.spv_table.specs.Table.{Table}
use Rattle.spv_module.specs.Operand.{Plain, Context, result_in, type_in}
use Rattle.spv_module.specs.Shape.{alone, shape_of}
use Rattle.spv_inst.specs.inner.Pending.{opened_kinds}
use Rattle.spv_inst.specs.inner.Written.{operand_words}
use Rattle.spv_lines.specs.inner.Answer.{IsTaken}
use Rattle.spv_parser.specs.declared.seen.Seen.{Seen}

-- A token is an operand of a kind that is neither a result nor a result type, has one word, and parameters of those
-- kinds.
pub record StandsFor (G : Table) (kind : ℕ) (token : List ℕ) (word : ℕ) (kinds : List ℕ) : Type 0 where
  pub operand : Plain
  pub taken : (c : Context) (hex : Bool) → IsTaken G hex kind (shape_of G c (alone kind)) token operand
  pub opened : opened_kinds G operand ≡ kinds
  pub words : operand_words operand ≡ word ∷ []
  pub plain : (result_in (operand ∷ []) ≡ None) × (type_in (operand ∷ []) ≡ None)

-- The token that is kept, if one is, stands for what is kept with it.
abbrev pub IsSeen : Table → Option Seen → Type 0
IsSeen G seen = IfSome seen (λ s. StandsFor G s.kind s.token.now s.word s.kinds.now)
