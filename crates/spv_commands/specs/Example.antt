-- A grammar file and streams for the worked examples.
use Rattle.std.specs.Prelude.{◌++◌, ◌∷◌, ℕ, List, [], Some, codes}
use Rattle.spv_words.specs.declared.words.WordError.TheVariants.{W2}
use Rattle.spv_check.specs.Verdict.{line_end}
use Rattle.spv_explain.specs.Lines.{refused_text}
use Rattle.spv_command_line.specs.declared.command_line.Command.{Command}
use Rattle.spv_command_line.specs.declared.command_line.Command.TheVariants.{Judge}
use Rattle.spv_command_line.specs.declared.command_line.Task.TheVariants as tasks
use Rattle.spv_commands.specs.Streams.{Reading, Writing, reading, writing}

-- no instructions and no kinds
abbrev pub empty_grammar : List ℕ
empty_grammar = codes "{\"instructions\":[],\"operand_kinds\":[]}"

-- a reader that gave these bytes, and a writer that held none and got these; no call of them failed
abbrev pub reader_of : List ℕ → Reading
reader_of bytes = reading (λ (left : List ℕ). Some left) (λ left. 0) bytes []

abbrev pub writer_of : List ℕ → Writing
writer_of bytes = writing (λ (held : List ℕ). Some held) (λ held. 0) [] bytes

-- what a command writes of three bytes, which are no module by W2: the line of the fault, and where it explains, what
-- the code says and what is found
abbrev pub answer_of : Command → List ℕ
answer_of (Judge (tasks.Explain full) grammar files scope naming quiet json) =
    codes "fault W2" ++ (line_end ++ refused_text W2 (1 ∷ 2 ∷ 3 ∷ []))
answer_of _ = codes "fault W2" ++ line_end
