-- Lines that are put together from words, one operand behind the other. (For the code alone.)
use Rattle.std.specs.Prelude.{◌≡◌, ◌≢◌, ◌<◌, ◌≤◌, ◌+◌, ◌-◌, ◌++◌, ◌∷◌, [], ℕ}
use Rattle.std.specs.Prelude.{suc, List}
use Rattle.std.specs.Prelude.{Option, Some, None, Bool, true, false, is_some, IsUtf8, length, drop, map, take}
use Rattle.std.specs.Prelude.{⊤, if◌then◌else◌, slice_index}
use Rattle.std.specs.List.{AllByRecursion}
use Rattle.spv_table.specs.declared.table.Enumerant.{Enumerant}
use Rattle.spv_table.specs.declared.table.Item.{Item}
use Rattle.spv_table.specs.Table.{Table, enumerant_of}
use Rattle.spv_module.specs.declared.opcode.TheConstants.{SWITCH}
use Rattle.spv_inst.specs.declared.definitions.Definitions.{Definitions}
use Rattle.spv_inst.specs.inner.Known.{Knows}
use Rattle.spv_inst.specs.inner.Pending.{items_of}
use Rattle.spv_inst.specs.Flat.{Due, due}
use Rattle.spv_module.specs.Instruction.{IsInstruction}
use Rattle.spv_module.specs.Operand.{Context, Plain, PlainInst, Result, Number, Text, and_then, result_in, start}
use Rattle.spv_module.specs.Operand.{type_in}
use Rattle.spv_inst.specs.inner.Reading.{between}
use Rattle.spv_inst.specs.inner.Sofar.{Sofar}
use Rattle.spv_module.specs.Shape.{AsText, Slot, alone, shape_of}
use Rattle.spv_module.specs.Spelling.{Match, Takes}
use Rattle.spv_module.specs.Width.{declared_width}
use Rattle.spv_lines.specs.Line.{IsShownLine}
use Rattle.spv_lines.specs.Operand.{Shown, escaped, is_float, quoted, shown_operand}
use Rattle.spv_lines.specs.Written.{Written}
use Rattle.spv_printer.specs.declared.fast_operand.Draft.{Draft}
use Rattle.spv_printer.specs.declared.fast_operand.Added.{Added}
use Rattle.spv_printer.specs.declared.fast_line.FastLine.{FastLine}

-- what an operand has in its line behind the name, a result nothing
abbrev pub piece_of : Table → Plain → List ℕ
piece_of G (Result x) = []
piece_of G o = 32 ∷ shown_operand G false o

abbrev pub pieces_of : Table → List Plain → List ℕ
pieces_of G [] = []
pieces_of G (o ∷ os) = piece_of G o ++ pieces_of G os

-- is an operand no number, so that it is shown alike wherever it stands
abbrev pub is_no_number : Plain → Bool
is_no_number (Number low high words) = false
is_no_number _ = true

-- An operand is shown alike where it stands and where no number is a float.
abbrev pub IsShownAlike : Table → Context → Plain → Type 0
IsShownAlike G c o = (s : Slot) (ws : List ℕ) (ss : List Slot) → Takes s.kind (shape_of G c s) o ws ss
    → shown_operand G (is_float G c s) o ≡ shown_operand G false o

-- So is each of some operands, one behind the other.
abbrev pub AreShownAlike : Table → Context → List Plain → Type 0
AreShownAlike G c [] = ⊤
AreShownAlike G c (o ∷ os) = IsShownAlike G c o × AreShownAlike G (and_then c o) os

-- how many results there are
abbrev pub results_of : List Plain → ℕ
results_of [] = 0
results_of (Result x ∷ os) = suc (results_of os)
results_of (_ ∷ os) = results_of os

-- Behind a place a space and a text were added.
pub record IsTextAdded (piece : List ℕ) (at end : ℕ) (old new : List ℕ) : Type 0 where
  pub low : at ≤ end
  pub high : end ≤ at + 80
  pub text : take end new ≡ take at old ++ (32 ∷ piece)
  pub utf8 : IsUtf8 (32 ∷ piece)

-- a character of ASCII that stands in quotes as it is, and no zero
pub record IsPlain (octet : ℕ) : Type 0 where
  pub some : octet ≢ 0
  pub ascii : octet < 128
  pub quote : octet ≢ 34
  pub mark : octet ≢ 92
  pub feed : octet ≢ 10

-- So many octets, up to the first that is zero, were copied behind a place; each is plain.
pub record IsCopied (octets : List ℕ) (at n : ℕ) (old new : List ℕ) : Type 0 where
  pub few : n ≤ 64
  pub within : n < length octets
  pub zero : slice_index octets n ≡ 0
  pub some : AllByRecursion (λ b. b ≢ 0) (take n octets)
  pub ascii : AllByRecursion (λ b. b < 128) (take n octets)
  pub plain : escaped (take n octets) ≡ take n octets
  pub text : take (at + n) new ≡ take at old ++ take n octets

-- Behind a place a space and, in quotes, a text were added, which so many of the first words spell.
pub record IsQuoted (words : List ℕ) (at end count : ℕ) (old new : List ℕ) : Type 0 where
  pub octets : List ℕ
  pub takes : (k : ℕ) → Takes k AsText (Text octets) (take count words) []
  pub some : 0 < count
  pub within : count ≤ length words
  pub piece : IsTextAdded (quoted octets) at end old new

-- From place 128 on, a buffer has what operands have in their line, where their instruction is no OpSwitch
-- and the definitions are those before it; what is kept of them is theirs.
pub record AreDrafted (G : Table) (defined : Definitions) (os : List Plain) (d : Draft)
    (buffer : List ℕ) : Type 0 where
  pub low : 128 ≤ d.at
  pub within : d.at ≤ length buffer
  pub text : drop 128 (take d.at buffer) ≡ pieces_of G os
  pub alike : (before : List PlainInst) (opcode : ℕ) → Knows defined before → opcode ≢ SWITCH
      → AreShownAlike G (start before opcode) os
  pub result : result_in os ≡ d.result
  pub count : results_of os ≡ (if is_some d.result then 1 else 0)
  pub type_id : type_in os ≡ d.type_id
  pub utf8 : IsUtf8 (drop 128 (take d.at buffer))

-- From place 128 up to the end of the operands a buffer has characters.
pub record AreCharacters (d : Draft) (buffer : List ℕ) : Type 0 where
  pub low : 128 ≤ d.at
  pub within : d.at ≤ length buffer
  pub utf8 : IsUtf8 (drop 128 (take d.at buffer))

-- They are what is written for the operands of an instruction after those that have the definitions; what is kept of
-- these is theirs.
pub record IsLineOf (G : Table) (defined : Definitions) (i : PlainInst) (d : Draft) (buffer : List ℕ) : Type 0 where
  pub text : (before : List PlainInst) (r : Option ℕ) (ds : List Due) (us t : List ℕ) → Knows defined before
      → Written (Shown G) G r (start before i.opcode) ds i.operands us t → drop 128 (take d.at buffer) ≡ t
  pub result : result_in i.operands ≡ d.result
  pub type_id : type_in i.operands ≡ d.type_id

-- One operand more is that of a kind, by its words; the kinds of its parameters are these.
pub record IsAdded (G : Table) (defined : Definitions) (kind : ℕ) (words kinds : List ℕ) (d next : Draft)
    (old new : List ℕ) : Type 0 where
  pub operand : Plain
  pub takes : (b : Context) → Knows defined b.before → type_in b.operands ≡ d.type_id
      → Takes kind (shape_of G b (alone kind)) operand words (map alone kinds)
  pub added : (os : List Plain) → AreDrafted G defined os d old
      → AreDrafted G defined (os ++ (operand ∷ [])) next new

-- It is at the front of some words.
pub record IsFront (G : Table) (defined : Definitions) (kind : ℕ) (words : List ℕ) (d : Draft) (a : Added)
    (old new : List ℕ) : Type 0 where
  pub some : 0 < a.words
  pub within : a.words ≤ length words
  pub added : IsAdded G defined kind (take a.words words) a.kinds.now d a.draft old new

-- The enumerant of a value has that name, and parameters of these kinds.
pub record IsNamedBy (es : List Enumerant) (value : ℕ) (name kinds : List ℕ) : Type 0 where
  pub enumerant : Enumerant
  pub found : enumerant_of es value ≡ Some enumerant
  pub name_is : enumerant.name ≡ name
  pub kinds_are : enumerant.parameters ≡ kinds

-- The operand of a kind that a word is has that name in a line; the kinds of its parameters are these.
pub record IsNamed (G : Table) (kind word : ℕ) (name kinds : List ℕ) : Type 0 where
  pub operand : Plain
  pub takes : (b : Context) → Takes kind (shape_of G b (alone kind)) operand (word ∷ []) (map alone kinds)
  pub shown : shown_operand G false operand ≡ name
  pub steady : is_no_number operand ≡ true
  pub result : result_in (operand ∷ []) ≡ None
  pub type_id : type_in (operand ∷ []) ≡ None

-- The operands in the buffer are those that words spell by a pattern, after instructions that have the definitions.
pub record IsSpelled (G : Table) (defined : Definitions) (words : List ℕ) (pattern : List Item) (first end : ℕ)
    (d : Draft) (buffer : List ℕ) : Type 0 where
  pub operands : List Plain
  pub characters : AreCharacters d buffer
  pub line : (opcode : ℕ) → opcode ≢ SWITCH
      → IsLineOf G defined (record { opcode = opcode; operands = operands }) d buffer
  pub matches : (before : List PlainInst) (opcode : ℕ) → Knows defined before
      → Match G (start before opcode) (items_of pattern) operands (between words first end)

-- The operands so far, what is due behind them, and the words that are left.
pub record AreDraftedSoFar (G : Table) (defined : Definitions) (words : List ℕ) (pattern : List Item)
    (first at end : ℕ) (ds : List Due) (d : Draft) (buffer : List ℕ) : Type 0 where
  pub operands : List Plain
  pub drafted : AreDrafted G defined operands d buffer
  pub front : (before : List PlainInst) (opcode : ℕ) → Knows defined before
      → Sofar G (start before opcode) (map due (items_of pattern)) (between words first end) operands ds
      (between words at end) (at - first)

-- What is kept of an instruction is its own, and it declares no width.
pub record IsTold (i : PlainInst) (f : FastLine) : Type 0 where
  pub opcode : i.opcode ≡ f.opcode
  pub result : result_in i.operands ≡ f.result
  pub type_id : type_in i.operands ≡ f.type_id
  pub width : declared_width i ≡ None

-- The words from a place on are those of an instruction, after any that have the definitions, whose line was added to a
-- text.
pub record IsFastLine (G : Table) (defined : Definitions) (words old new : List ℕ) (at : ℕ)
    (f : FastLine) : Type 0 where
  pub inst : PlainInst
  pub some : at < f.end
  pub within : f.end ≤ length words
  pub read : (before : List PlainInst) → Knows defined before → IsInstruction G before inst (between words at f.end)
  pub text : (before : List PlainInst) (further line : List ℕ) → Knows defined before
      → IsShownLine G before inst further line → new ≡ old ++ (line ++ (10 ∷ []))
  pub told : IsTold inst f

-- One operand more is this one.
pub record IsOneMore (G : Table) (defined : Definitions) (operand : Plain) (d next : Draft)
    (old new : List ℕ) : Type 0 where
  pub added : (os : List Plain) → AreDrafted G defined os d old
      → AreDrafted G defined (os ++ (operand ∷ [])) next new

-- Behind what was drafted of a line a name was added, and nothing else is told of the line.
pub record IsNameAdded (name : List ℕ) (d next : Draft) (old new : List ℕ) : Type 0 where
  pub piece : IsTextAdded name d.at next.at old new
  pub result : next.result ≡ d.result
  pub type_id : next.type_id ≡ d.type_id

-- The line of an instruction, after any that have the definitions, was added to a text; what is kept of the instruction
-- is its own, and it declares no width.
pub record IsListedLine (G : Table) (defined : Definitions) (i : PlainInst) (d : Draft)
    (old new : List ℕ) : Type 0 where
  pub text : (before : List PlainInst) (further line : List ℕ) → Knows defined before
      → IsShownLine G before i further line → new ≡ old ++ (line ++ (10 ∷ []))
  pub result : result_in i.operands ≡ d.result
  pub type_id : type_in i.operands ≡ d.type_id
  pub width : declared_width i ≡ None
