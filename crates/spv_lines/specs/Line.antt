-- The line of an instruction: how it is shown, what it is read as. (Own.)
use Rattle.std.specs.Prelude.{◌≡◌, ◌<◌, ◌++◌, ℕ, List, [], ◌∷◌, Option, Some, None, Bool, false}
use Rattle.std.specs.Prelude.{nat_eq, ◌&&◌, if◌then◌else◌, map, option_map, unwrap_or, codes}
use Rattle.std.specs.List.{AllByRecursion}
use Rattle.spv_table.specs.declared.table.Entry.{Entry}
use Rattle.spv_table.specs.Table.{Table, entry_of, pattern_of}
use Rattle.spv_table.specs.Lookups.{opcode_named}
use Rattle.spv_module.specs.Operand.{PlainInst, start, result_in}
use Rattle.spv_inst.specs.Flat.{due}
use Rattle.spv_lines.specs.Name.{Names, if_plain, by_number}
use Rattle.spv_lines.specs.Operand.{id_text, Shown, IsRead}
use Rattle.spv_lines.specs.Written.{Written}

-- what is shown of an instruction's result [own]
abbrev pub shown_result : Option ℕ → List ℕ
shown_result None = []
shown_result (Some x) = id_text x ++ codes " = "

-- what is shown of an instruction's name [own]
abbrev pub shown_name : Table → ℕ → Entry → List ℕ
shown_name G opcode e = unwrap_or (if_plain (opcode_named G.entries) opcode e.name) (by_number opcode)

-- After the instructions before, the line is the shown one of the instruction, whose further words are these. [own]
pub record IsShownLine (G : Table) (before : List PlainInst) (i : PlainInst) (further line : List ℕ) : Type 0 where
  pub entry : Entry
  pub operands : List ℕ
  pub known : entry_of G i.opcode ≡ Some entry
  pub written : Written (Shown G) G (result_in i.operands) (start before i.opcode)
      (map due (pattern_of entry)) i.operands further operands
  pub all : line ≡ shown_result (result_in i.operands) ++ (shown_name G i.opcode entry ++ operands)

-- the octets before the first space, and from it on [own]
abbrev pub before_space : List ℕ → List ℕ
before_space [] = []
before_space (b ∷ t) = if nat_eq b 32 then [] else b ∷ before_space t

-- the octets from the first space on [own]
abbrev pub from_space : List ℕ → List ℕ
from_space [] = []
from_space (b ∷ t) = if nat_eq b 32 then b ∷ t else from_space t

-- does ` = ` stand at the front [own]
abbrev pub begins_equals : List ℕ → Bool
begins_equals (a ∷ b ∷ c ∷ t) = nat_eq a 32 && (nat_eq b 61 && nat_eq c 32)
begins_equals _ = false

-- what stands before the first ` = `, and what after it [own]
pub record Halves : Type 0 where
  pub front : List ℕ
  pub back : List ℕ

-- what stands behind ` = ` [own]
abbrev pub behind_equals : List ℕ → List ℕ
behind_equals (a ∷ b ∷ c ∷ t) = t
behind_equals _ = []

-- a line without its ` = ` [own]
abbrev pub cut_at_equals : List ℕ → Option Halves
cut_at_equals [] = None
cut_at_equals (b ∷ t) =
    if begins_equals (b ∷ t) then Some (record { front = []; back = behind_equals (b ∷ t) })
    else option_map (λ h. record { front = b ∷ h.front; back = h.back }) (cut_at_equals t)

-- what stands in front of ` = `, if a line has it; the name; the operands, which are nothing or begin with a space
-- [own]
pub record Parts : Type 0 where
  pub result : Option (List ℕ)
  pub name : List ℕ
  pub operands : List ℕ

-- does a line begin with `%` [own]
abbrev pub begins_percent : List ℕ → Bool
begins_percent [] = false
begins_percent (b ∷ t) = nat_eq b 37

-- the same of what stands behind the result [own]
abbrev pub parts_behind : Option (List ℕ) → List ℕ → Parts
parts_behind result t = record { result = result; name = before_space t; operands = from_space t }

-- The name goes up to the next space or the end of the line; it stands first or, where the line begins with `%`, behind
-- its first ` = `. [own]
abbrev pub parts_of : List ℕ → Option Parts
parts_of line = if begins_percent line then option_map (λ h. parts_behind (Some h.front) h.back) (cut_at_equals line)
    else Some (parts_behind None line)

-- all are words of 32 bits [own]
abbrev pub AreWords : List ℕ → Type 0
AreWords us = AllByRecursion (λ u. u < 4294967296) us

-- A name or `#N` stands for an instruction of the table. [own]
pub record IsInstName (G : Table) (t : List ℕ) (opcode : ℕ) (entry : Entry) : Type 0 where
  pub named : Names (opcode_named G.entries) opcode t
  pub known : entry_of G opcode ≡ Some entry
  pub range : opcode < 65536

-- After the instructions before, the line is read as the instruction, whose further words are these. [own]
pub record IsReadLine (G : Table) (before : List PlainInst) (i : PlainInst) (further line : List ℕ) : Type 0 where
  pub parts : Parts
  pub entry : Entry
  pub divided : parts_of line ≡ Some parts
  pub name : IsInstName G parts.name i.opcode entry
  pub result : parts.result ≡ option_map id_text (result_in i.operands)
  pub written : Written (IsRead G) G (result_in i.operands) (start before i.opcode)
      (map due (pattern_of entry)) i.operands further parts.operands
  pub small : AreWords further
