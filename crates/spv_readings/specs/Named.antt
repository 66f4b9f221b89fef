-- The id that an operand names, and the instruction that defines it. [own]
use Rattle.std.specs.Prelude.{◌≡◌, ℕ, List, Option, Some, None, MatchOption, option_and_then, slice_get}
use Rattle.spv_module.specs.Operand.{Plain, OfType, Id, PlainInst}
use Rattle.spv_ids.specs.Outcome.{IsDefinitionOf}

-- the id that an operand names, if it names one that is defined elsewhere
abbrev pub named_in : Plain → Option ℕ
named_in (OfType x) = Some x
named_in (Id x) = Some x
named_in _ = None

-- the same of operand k, if there is one
abbrev pub named_at : PlainInst → Option ℕ → Option ℕ
named_at i o = option_and_then (λ k. option_and_then named_in (slice_get i.operands k)) o

-- instruction m defines the id of that operand; where it names none, or an id without a definition, there is no m
abbrev pub IsDefinedBy : List PlainInst → PlainInst → Option ℕ → Option ℕ → Type 0
IsDefinedBy is i o m = MatchOption (named_at i o) (m ≡ None) (λ x. IsDefinitionOf is x m)
