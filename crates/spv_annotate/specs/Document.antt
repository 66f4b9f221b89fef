-- The text for reading of a module, in pieces. (Own.)
use Rattle.std.specs.Prelude.{◌≡◌, ◌++◌, ◌&&◌, ℕ, List, [], ◌∷◌, Option, Some, None, Bool, true, false, not}
use Rattle.std.specs.Prelude.{nat_eq, get_or, is_some, if◌then◌else◌, codes, decimal, drop, length}
use Rattle.std.specs.List.{flat_map, range_with_len}
use Rattle.spv_words.specs.declared.words.Header.{Header as Opening}
use Rattle.spv_table.specs.Lookups.{is_number}
use Rattle.spv_module.specs.Operand.{PlainInst, result_in}
use Rattle.spv_module.specs.declared.opcode.TheConstants.{FUNCTION, LABEL}
use Rattle.spv_table.specs.Table.{Table}
use Rattle.spv_module.specs.Instruction.{IsListing}
use Rattle.spv_module.specs.Module.{plain_insts}
use Rattle.spv_module.specs.declared.module.Module.{Module}
use Rattle.spv_lines.specs.Line.{AreWords}
use Rattle.spv_lines.specs.Text.{ShownLines, header_lines, inst_line, lines_of}
use Rattle.spv_lines.specs.Plain.{plain_of}
use Rattle.spv_extended.specs.declared.reach.Reach.{Reach}
use Rattle.spv_extended.specs.declared.reach.Reach.TheVariants.{OpenCl}
use Rattle.spv_annotate.specs.declared.finding.Finding.{Finding}
use Rattle.spv_annotate.specs.Piece.{PlainPiece, Header, Section, Function, Block, Line, Comment, Mark, Break}
use Rattle.spv_annotate.specs.Module.{function_of, inst_at, open_function, section_before, section_of}
use Rattle.spv_annotate.specs.Called.{told_line}
use Rattle.spv_annotate.specs.Notes.{comment}
use Rattle.spv_annotate.specs.Values.{AreValues}

-- the line of the version; for OpenCL that is the one that the module has
abbrev pub version_line : Reach → List ℕ
version_line (OpenCl minor) = codes "; Version: 1." ++ decimal minor
version_line reach = codes "; Version: 1.6"

-- the lines of a module before its instructions, with that line in them
abbrev pub told_header : Reach → Opening → List (List ℕ)
told_header reach h = codes "; SPIR-V" ∷ version_line reach ∷ drop 2 (header_lines h)

-- what is written: a module's lines of the header, instructions and their shown lines; the decimal value of each float
-- constant, by the number of its instruction; what is told of a fault, and the function that is asked for, if any
pub record Subject : Type 0 where
  pub header : List (List ℕ)
  pub insts : List PlainInst
  pub lines : List (List ℕ)
  pub values : ℕ → List ℕ
  pub finding : Option Finding
  pub asked : Option ℕ

-- does an OpFunction, if there is one, define the id
abbrev pub is_function_named : List PlainInst → ℕ → Option ℕ → Bool
is_function_named is x None = false
is_function_named is x (Some f) = is_number x (result_in (inst_at is f).operands)

-- is instruction n asked for: all are, or those of the functions with that id [2.4]
abbrev pub is_of : List PlainInst → Option ℕ → ℕ → Bool
is_of is None n = true
is_of is (Some x) n = is_function_named is x (function_of is n)

-- what begins with an instruction of that opcode: a function, a block, or outside of functions a section that is not
-- the one before [2.4]
abbrev pub begun : ℕ → ℕ → Bool → ℕ → List PlainPiece
begun opcode before inside n =
    if nat_eq opcode FUNCTION then Function n ∷ []
    else (if nat_eq opcode LABEL then Block n ∷ []
    else (if not inside && not (nat_eq (section_of opcode) before) then Section n (section_of opcode) ∷ [] else []))

abbrev pub beginning : List PlainInst → ℕ → List PlainPiece
beginning is n = begun (inst_at is n).opcode (section_before is n) (is_some (open_function is n)) n

-- lines behind one another
abbrev pub header_piece : List ℕ → List PlainPiece
header_piece t = Header t ∷ Break ∷ []

abbrev pub mark_piece : List ℕ → List PlainPiece
mark_piece t = Mark (codes "; ^ " ++ t) ∷ Break ∷ []

-- what is told of a fault, below the instruction where it is told
abbrev pub marks : Option Finding → ℕ → List PlainPiece
marks None n = []
marks (Some f) n = if nat_eq f.inst n then flat_map mark_piece (lines_of f.lines.now) else []

-- the line of the verdict, the first of what is told of a fault
abbrev pub verdict_line : Finding → List ℕ
verdict_line f = get_or (lines_of f.lines.now) 0 []

-- that line above all others, where a fault is told
abbrev pub verdict_piece : Option Finding → List PlainPiece
verdict_piece None = []
verdict_piece (Some f) = Mark (codes "; " ++ verdict_line f) ∷ Break ∷ []

-- the line of instruction n, with its comment
abbrev pub line_pieces : Subject → ℕ → List ℕ → List PlainPiece
line_pieces S n line = Line n line ∷ Comment (comment S.insts (S.values n) n line) ∷ Break ∷ []

-- the line of instruction n, in which literals that are read as ids have no `%`
abbrev pub line_of : Subject → ℕ → List ℕ
line_of S n = told_line S.insts (inst_at S.insts n) (inst_line S.lines n)

-- all pieces of instruction n, if it is asked for
abbrev pub entry : Subject → ℕ → List PlainPiece
entry S n =
    if is_of S.insts S.asked n
    then beginning S.insts n ++ line_pieces S n (plain_of (line_of S n)) ++ marks S.finding n else []

-- what is told of a fault behind the last instruction
abbrev pub ending : Subject → List PlainPiece
ending S = if is_of S.insts S.asked (length S.insts) then marks S.finding (length S.insts) else []

-- the pieces of all instructions in order, and what is told at the end
abbrev pub entries : Subject → List PlainPiece
entries S = flat_map (entry S) (range_with_len 0 (length S.insts)) ++ ending S

-- all pieces: that of the verdict, those of the header, and those of the instructions
abbrev pub document : Subject → List PlainPiece
document S = verdict_piece S.finding ++ (flat_map header_piece S.header ++ entries S)

-- What is written of a module under a table: its header, by how far the module is looked at, its instructions and their
-- shown lines, what is told of a fault, and the function that is asked for.
pub record IsSubject (G : Table) (reach : Reach) (m : Module) (told : Option Finding)
    (function : Option ℕ) (S : Subject)
    : Type 0 where
  pub header : S.header ≡ told_header reach m.header
  pub insts : S.insts ≡ plain_insts m
  pub lines : ShownLines G [] (plain_insts m) S.lines
  pub values : AreValues (plain_insts m) S.values
  pub finding : S.finding ≡ told
  pub asked : S.asked ≡ function

-- Words spell the instructions; each is one of 32 bits. [2.3]
pub record IsSpelled (G : Table) (is : List PlainInst) : Type 0 where
  pub words : List ℕ
  pub small : AreWords words
  pub listed : IsListing G is words
