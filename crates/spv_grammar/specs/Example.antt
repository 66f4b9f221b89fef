-- Small parts of a file, for the worked examples.
use Rattle.std.specs.Prelude.{ℕ, List, [], ◌∷◌, Some, None, codes}
use Rattle.serde_json.specs.Data.{Data, string, array, object, no_items, no_members, member}
use Rattle.spv_table.specs.declared.table.Category.TheVariants as category
use Rattle.spv_table.specs.declared.table.Quantifier.TheVariants as quantifier
use Rattle.spv_table.specs.declared.table.Enumerant.{Enumerant}
use Rattle.spv_grammar.specs.declared.file.FileOperand.{FileOperand}
use Rattle.spv_grammar.specs.declared.file.FileInstruction.{FileInstruction}
use Rattle.spv_grammar.specs.declared.file.FileEnumerant.{FileEnumerant}
use Rattle.spv_grammar.specs.declared.file.FileKind.{FileKind}
use Rattle.spv_grammar.specs.declared.file.File.{File}
use Rattle.spv_table.specs.Table.{Table}

-- kinds A and B of ids, and a literal that bears the name A again
abbrev pub a_kind : FileKind
a_kind = record { name = codes "A"; category = Some category.Id; enumerants = []; bases = [] }

abbrev pub b_kind : FileKind
b_kind = record { name = codes "B"; category = Some category.Id; enumerants = []; bases = [] }

abbrev pub a_again : FileKind
a_again = record { name = codes "A"; category = Some category.Literal; enumerants = []; bases = [] }

-- an operand that comes once, and one whose quantifier is unknown
abbrev pub once : List ℕ → FileOperand
once name = record { kind = name; quantifier = Some quantifier.One }

abbrev pub unknown : List ℕ → FileOperand
unknown name = record { kind = name; quantifier = None }

abbrev pub instruction : ℕ → List FileOperand → FileInstruction
instruction opcode operands =
    record { name = codes "OpA"; opcode = Some opcode; operands = operands; capabilities = [] }

-- an instruction whose opcode is out of range, with an operand of a kind that no file has
abbrev pub no_opcode : FileInstruction
no_opcode = record { name = codes "OpB"; opcode = None; operands = once (codes "X") ∷ []; capabilities = [] }

abbrev pub file_with : List FileInstruction → File
file_with is = record { instructions = is; kinds = a_kind ∷ b_kind ∷ [] }

-- an enumerant of a value
abbrev pub valued : ℕ → FileEnumerant
valued v = record { name = codes "E"; value = Some v; parameters = []; capabilities = [] }

-- the tree {"instructions":[],"operand_kinds":[]}
abbrev pub empty_tree : Data
empty_tree =
    object (member (codes "instructions") (array no_items) (member (codes "operand_kinds") (array no_items) no_members))

-- the tree {"kind":"A","quantifier":"?"}
abbrev pub operand_tree : Data
operand_tree =
    object (member (codes "kind") (string (codes "A")) (member (codes "quantifier") (string (codes "?")) no_members))

-- the kind of results, and a composite of some bases
abbrev pub result_kind : FileKind
result_kind = record { name = codes "IdResult"; category = Some category.Id; enumerants = []; bases = [] }

abbrev pub composite : List (List ℕ) → FileKind
composite bases = record { name = codes "C"; category = Some category.Composite; enumerants = []; bases = bases }

abbrev pub file_of_kinds : List FileInstruction → List FileKind → File
file_of_kinds is kinds = record { instructions = is; kinds = kinds }

-- two enumerants of one value: the first has a quantified parameter of the kind A
abbrev pub dropped : FileEnumerant
dropped =
    record {
      name = codes "Dropped";
      value = Some 1;
      parameters =
          record { kind = codes "A"; quantifier = Some quantifier.Maybe } ∷ [];
      capabilities = [];
    }

abbrev pub kept : FileEnumerant
kept = record { name = codes "Kept"; value = Some 1; parameters = []; capabilities = [] }

-- a file of a kind with the two enumerants, and the kind A
abbrev pub twice_file : File
twice_file =
    record {
      instructions = [];
      kinds = record {
        name = codes "Twice";
        category = Some category.ValueEnum;
        enumerants =
            dropped ∷ kept ∷ [];
        bases = [];
      } ∷ a_kind ∷ [];
    }

-- the two as a table would have them
abbrev pub dropped_one : Enumerant
dropped_one = record { name = codes "Dropped"; value = 1; parameters = 1 ∷ []; capabilities = [] }

abbrev pub kept_one : Enumerant
kept_one = record { name = codes "Kept"; value = 1; parameters = []; capabilities = [] }

-- a table of these two kinds, where the first has some enumerants
abbrev pub twice_table : List Enumerant → Table
twice_table es =
    record {
      kinds = record {
        kind = record {
          name = codes "Twice";
          category = category.ValueEnum;
          bases =
              [];
        };
        enumerants = es;
      }
          ∷ record { kind = record { name = codes "A"; category = category.Id; bases = [] }; enumerants = [] }
          ∷ [];
      entries = [];
    }
