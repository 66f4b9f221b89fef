-- Small texts that fail, and why.
use Rattle.std.specs.Prelude.{◌++◌, ℕ, List, codes}
use Rattle.spv_parser.specs.declared.text_reason.Wanted.{Wanted}
use Rattle.spv_parser.specs.Reason.{Reason}

-- the lines of a header, and a line behind them
abbrev pub text_with : List ℕ → List ℕ
text_with line = codes "; SPIR-V\n; Version: 1.6\n; Generator: 7\n; Bound: 6\n; Schema: 0\n" ++ line

-- a line, what is left of it where its reading stops, and what is wanted there
abbrev pub reason_with : List ℕ → List ℕ → Wanted → Reason
reason_with line rest wanted = record { line = line; stop = record { rest = rest; wanted = wanted } }
