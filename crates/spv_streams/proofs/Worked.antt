-- Worked examples of lines of errors.
use Rattle.std.proofs.Common.{◌++◌, [], Some, codes}
use Rattle.spv_grammar.specs.declared.error.GrammarError.TheVariants.{J1}
use Rattle.spv_commands.proofs.Worked.{nothing_read}
use Rattle.spv_streams.specs.Run.{IsErrorLine}
use Rattle.spv_streams.specs.Run.IsErrorLine.{refused as broken}
use Rattle.spv_check.specs.Verdict.{line_end}

pub nothing_breaks : (failed strange absent ambiguous : Type 0)
    → IsErrorLine (Some []) failed strange absent ambiguous (codes "error J1" ++ line_end)
nothing_breaks failed strange absent ambiguous = broken J1 (λ _. nothing_read)
