-- What the making of a grammar comes to. (Own.)
use Rattle.std.specs.Prelude.{ℕ, List, Option}
use Rattle.spv_builtin.specs.Source.{breaks}
use Rattle.spv_grammar.specs.declared.error.GrammarError.{GrammarError}
use Rattle.spvk.specs.Status.{status_of}

-- Why a call with this grammar text, or with none, answers a status other than 0: the text breaks a code, or memory was
-- refused. No clause can tell when memory is refused, so the last stands for itself.
pub data IsReason (text : Option (List ℕ)) : ℕ → Type 0 where
  refused : (e : GrammarError) → breaks text e → IsReason text (status_of e)
  memory : IsReason text 1
