-- The table as the code reads it. (For the code alone.)
use Rattle.std.specs.Borrow.{Bor}
use Rattle.std.specs.Prelude.{◌⊎◌, ℕ, List, [], ◌∷◌, IsTrue}
use Rattle.spv_module.specs.Operand.{PlainInst}
use Rattle.spv_declarations.specs.Table.{Line, IsAsked, is_among}
use Rattle.spv_declarations.specs.declared.table.Further.{Further}

-- a line of it, as definitions read it
abbrev pub line : Bor (List (ℕ × ℕ)) × Bor (List (ℕ × ℕ)) × Further → Line
line l = (record { now = l.0.now }, record { now = l.1.now }, l.2)

-- an id whose definition has that opcode is such a one as a line says; as a line of the decoration says
abbrev pub IsOfLine : List PlainInst → Line → ℕ → ℕ → Type 0
IsOfLine is l opcode x = IsTrue (is_among l.1.now opcode) × IsAsked is l.2 x

abbrev pub IsOnLine : List PlainInst → List Line → ℕ → ℕ → ℕ → Type 0
IsOnLine is [] d opcode x = ⊥
IsOnLine is (l ∷ ls) d opcode x = (IsTrue (is_among l.0.now d) × IsOfLine is l opcode x) ⊎ IsOnLine is ls d opcode x
