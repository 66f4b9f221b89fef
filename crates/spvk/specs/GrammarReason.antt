-- What explains why a text gives no grammar. (Own.)
use Rattle.std.specs.Prelude.{◌≡◌, ℕ, List, Some}
use Rattle.spv_grammar.specs.Reason.{IsReason}
use Rattle.spvk.specs.declared.buffer.Buffer.{Buffer}

-- The bytes are the lines of what the text is refused for; none where it breaks no code.
pub record IsExplained (text : List ℕ) (b : Buffer) : Type 0 where
  pub lines : List ℕ
  pub reason : IsReason text lines
  pub bytes : b.bytes ≡ Some lines

-- The answer of `grammar_explain`: status 0 and what explains; or status 1, out of memory, and what was there.
pub data ExplainsGrammar (text : List ℕ) (old : Buffer) : Buffer → ℕ → Type 0 where
  done : (new : Buffer) → IsExplained text new → ExplainsGrammar text old new 0
  memory : ExplainsGrammar text old old 1
