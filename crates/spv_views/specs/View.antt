-- What is written of a stream of bytes for people to look at. (Own.)
use Rattle.std.specs.Prelude.{◌≡◌, ◌<◌, ◌≤◌, ◌++◌, ℕ, List, [], Option, Some, None, Bool, true, false, drop, length}
use Rattle.std.specs.Prelude.{◌⊎◌, Ok, Err, take}
use Rattle.std.specs.List.{flat_map, list_any}
use Rattle.spv_words.specs.Header.{IsModule}
use Rattle.spv_words.specs.declared.words.Order.{Order}
use Rattle.spv_table.specs.Table.{Table}
use Rattle.spv_module.specs.Operand.{PlainInst}
use Rattle.spv_module.specs.Instruction.{IsListing}
use Rattle.spv_module.specs.Malformed.{IsMalformed}
use Rattle.spv_module.specs.Module.{plain_insts}
use Rattle.spv_module.specs.declared.fault.Rule.{Rule}
use Rattle.spv_module.specs.declared.module.Module.{Module}
use Rattle.spv_extended.specs.declared.reach.Reach.{Reach}
use Rattle.spv_lines.specs.Text.{ShownLines}
use Rattle.spv_inst.specs.Outcome.{IsHeaderOf}
use Rattle.spv_layout.specs.First.{stage_of}
use Rattle.spv_layout.specs.Stage.{of_layout}
use Rattle.spv_check.specs.Text.{line_of}
use Rattle.spv_check.specs.Verdict.{IsVerdict}
use Rattle.spv_check.specs.declared.verdict_line.Judgment.{Judgment}
use Rattle.spv_check.specs.declared.verdict_line.Judgment.TheVariants.{Valid, Refused, Broken}
use Rattle.spv_facts.specs.declared.fact.Detail.TheVariants.{Short}
use Rattle.spv_explain.specs.Stream.{IsExplanation, IsModuleOf, IsWalk}
use Rattle.spv_explain.specs.declared.stream.Explanation.{Explanation}
use Rattle.spv_names.specs.Chosen.{IsChosen, is_function}
use Rattle.spv_names.specs.declared.chosen.Chosen.{Chosen}
use Rattle.spv_names.specs.declared.chosen.NameError.TheVariants.{Absent, Several}
use Rattle.spv_annotate.specs.Document.{IsSubject, Subject, document}
use Rattle.spv_annotate.specs.Page.{IsPage}
use Rattle.spv_annotate.specs.Piece.{text_of}
use Rattle.spv_annotate.specs.declared.finding.Finding as annotate
use Rattle.spv_pictures.specs.Blocks.{block_graph_text}
use Rattle.spv_pictures.specs.Calls.{call_graph_text}
use Rattle.spv_pictures.specs.declared.marks.Finding as graph
use Rattle.spv_views.specs.Finding.{IsFindingOf}
use Rattle.spv_views.specs.declared.view.View.{View}
use Rattle.spv_views.specs.declared.view.View.TheVariants.{Text, Page, Graph}

-- has a module a function of that id
abbrev pub has_function : List PlainInst → ℕ → Bool
has_function is id = list_any (is_function id) is

-- The id is that of the function that is asked for, or none is asked for.
abbrev pub IsPart : List PlainInst → Option Chosen → Option ℕ → Type 0
IsPart is None None = Unit {0}
IsPart is (Some chosen) (Some id) = IsChosen is chosen (Ok id) × (has_function is id ≡ true)
IsPart is function id = ⊥

-- A function is asked for, and there is none of its name or of its id.
abbrev pub IsNoPart : List PlainInst → Option Chosen → Type 0
IsNoPart is None = ⊥
IsNoPart is (Some chosen) =
    IsChosen is chosen (Err Absent) ⊎ ((id : ℕ) × IsChosen is chosen (Ok id) × (has_function is id ≡ false))

-- A function is asked for by a name that several have.
abbrev pub AreParts : List PlainInst → Option Chosen → Type 0
AreParts is None = ⊥
AreParts is (Some chosen) = IsChosen is chosen (Err Several)

-- The bytes are words that spell the module, under the grammar table.
pub record AreListed (G : Table) (bytes : List ℕ) (m : Module) : Type 0 where
  pub words : List ℕ
  pub order : Order
  pub is_module : IsModule order bytes words
  pub listed : IsModuleOf G words m

-- A verdict breaks none of the rules W, I, P and L, so that the functions of the module can be told apart.
abbrev pub KeepsLayout : Judgment → Type 0
KeepsLayout Valid = Unit {0}
KeepsLayout (Refused code) = ⊥
KeepsLayout (Broken f) = of_layout < stage_of f.rule

-- The bytes are words of which the first spell the instructions of the module, and the next one is malformed. [2.3]
pub record AreBegun (G : Table) (bytes : List ℕ) (m : Module) : Type 0 where
  pub words : List ℕ
  pub order : Order
  pub is_module : IsModule order bytes words
  pub header : IsHeaderOf words m.header
  pub part : List ℕ
  pub rest : List ℕ
  pub all : drop 5 words ≡ part ++ rest
  pub listed : IsListing G (plain_insts m) part
  pub rule : Rule
  pub word : ℕ
  pub malformed : IsMalformed G (plain_insts m) rest rule word

-- is the beginning of a module shown, where its words are no list of instructions: in the text and the page, where no
-- function is asked for
abbrev pub shows_beginning : View → Option Chosen → Bool
shows_beginning (Text color) None = true
shows_beginning (Page title) None = true
shows_beginning how function = false

-- The verdict on the bytes, under the table, as far as they are looked at, breaks none of these rules; or it breaks
-- one.
pub record AreLaidOut (G : Table) (reach : Reach) (bytes : List ℕ) : Type 0 where
  pub judgment : Judgment
  pub verdict : IsVerdict G reach bytes (line_of judgment)
  pub keeps : KeepsLayout judgment

pub record AreMislaid (G : Table) (reach : Reach) (bytes : List ℕ) : Type 0 where
  pub judgment : Judgment
  pub verdict : IsVerdict G reach bytes (line_of judgment)
  pub breaks : ¬ (KeepsLayout judgment)

-- Where a function is asked for, functions can be told apart.
abbrev pub AreLaidOutFor : Table → Reach → List ℕ → Option Chosen → Type 0
AreLaidOutFor G reach bytes None = Unit {0}
AreLaidOutFor G reach bytes (Some chosen) = AreLaidOut G reach bytes

-- No text is written of the bytes: they are no words; they are those of no list of instructions, and the beginning of
-- one is not shown; or a function is asked for, and where one begins and ends cannot be told.
pub data HasNoText (how : View) (G : Table) (reach : Reach) (bytes : List ℕ) : Option Chosen → Type 0 where
  wordless : (function : Option Chosen) → ((order : Order) (words : List ℕ) → ¬ (IsModule order bytes words))
      → HasNoText how G reach bytes function
  unlisted : (function : Option Chosen) → shows_beginning how function ≡ false
      → ((m : Module) → ¬ (AreListed G bytes m)) → HasNoText how G reach bytes function
  mislaid : (chosen : Chosen) → AreMislaid G reach bytes → HasNoText how G reach bytes (Some chosen)

-- what the graph marks: the instruction of the fault and the labels of the blocks of its walk
abbrev pub mark_in : annotate.Finding → graph.Finding → Type 0
mark_in f g = (g.inst ≡ f.inst) × (g.walk.now ≡ f.walk.now)

abbrev pub IsMark : Option annotate.Finding → Option graph.Finding → Type 0
IsMark None None = Unit {0}
IsMark (Some f) (Some g) = mark_in f g
IsMark _ _ = ⊥

-- The text is that of the pieces of the module's document, with what is told of its fault.
pub record IsAnnotated (G : Table) (reach : Reach) (m : Module)
    (finding : Option annotate.Finding) (function : Option ℕ)
    (color : Bool) (text : List ℕ) : Type 0 where
  pub subject : Subject
  pub of : IsSubject G reach m finding function subject
  pub all : text ≡ flat_map (text_of color) (document subject)

-- It draws the blocks of a function.
pub record IsBlockGraph (G : Table) (m : Module) (finding : Option annotate.Finding) (id : ℕ) (text : List ℕ)
    : Type 0 where
  pub marks : Option graph.Finding
  pub of : IsMark finding marks
  pub lines : List (List ℕ)
  pub shown : ShownLines G [] (plain_insts m) lines
  pub all : text ≡ block_graph_text marks (plain_insts m) lines id

-- It is the text of a module with comments, the page, the graph of its calls or that of a function's blocks.
abbrev pub IsWritten : View → Table → Reach → Module → Option annotate.Finding → Option ℕ → List ℕ → Type 0
IsWritten (Text color) G reach m finding function text = IsAnnotated G reach m finding function color text
IsWritten (Page title) G reach m finding function text = IsPage G reach m title.now finding function text
IsWritten Graph G reach m finding None text = text ≡ call_graph_text (plain_insts m)
IsWritten Graph G reach m finding (Some id) text = IsBlockGraph G m finding id text

-- What explains the verdict on the bytes is told, with the walk of its evidence; the graph of the calls needs no
-- verdict.
pub data IsTold (G : Table) (reach : Reach) (bytes : List ℕ) : View → Option ℕ → Option annotate.Finding → Type 0 where
  explained : (how : View) (function : Option ℕ) (finding : Option annotate.Finding) (e : Explanation) (walk : List ℕ)
      → IsExplanation Short G reach bytes e → IsWalk Short G reach bytes e walk → IsFindingOf e walk finding
      → IsTold G reach bytes how function finding
  calls : IsTold G reach bytes Graph None None

-- The text is written of the module of the bytes, with what is told.
pub record IsTextOf (how : View) (G : Table) (reach : Reach) (function : Option ℕ) (bytes : List ℕ) (m : Module)
    (text : List ℕ) : Type 0 where
  pub finding : Option annotate.Finding
  pub told : IsTold G reach bytes how function finding
  pub written : IsWritten how G reach m finding function text

-- This is what is written of all of these bytes, under the grammar table, and whether it is the text of a whole module.
pub data IsViewing (how : View) (G : Table) (reach : Reach) (function : Option Chosen) (bytes : List ℕ) : List ℕ → Bool
    → Type 0 where
  -- there is none: their verdict line
  judged : (line : List ℕ) → HasNoText how G reach bytes function → IsVerdict G reach bytes line
      → IsViewing how G reach function bytes line false
  -- they are those of no list of instructions: the instructions before the one that is malformed, and what explains it
  begun : (m : Module) (text : List ℕ) → shows_beginning how function ≡ true → AreBegun G bytes m
      → IsTextOf how G reach None bytes m text → IsViewing how G reach function bytes text false
  -- there is one, and it has the function that is asked for
  viewed : (m : Module) (id : Option ℕ) (text : List ℕ) → AreListed G bytes m → AreLaidOutFor G reach bytes function
      → IsPart (plain_insts m) function id → IsTextOf how G reach id bytes m text
      → IsViewing how G reach function bytes text true

-- A writer that held the bytes `old` now also holds what is written of the bytes, and nothing else; the answer tells
-- whether it is the text of a module.
pub record Views (how : View) (G : Table) (reach : Reach) (function : Option Chosen)
    (bytes old : List ℕ) (new : Option (List ℕ))
    (answer : Bool) : Type 0 where
  pub output : List ℕ
  pub viewing : IsViewing how G reach function bytes output answer
  pub written : new ≡ Some (old ++ output)

-- A writer that held the bytes `old` now also holds a beginning of what is written, and nothing else.
pub record BeginsViewing (how : View) (G : Table) (reach : Reach) (function : Option Chosen) (bytes old : List ℕ)
    (new : Option (List ℕ)) : Type 0 where
  pub output : List ℕ
  pub answer : Bool
  pub viewing : IsViewing how G reach function bytes output answer
  pub count : ℕ
  pub fits : count ≤ length output
  pub written : new ≡ Some (old ++ take count output)

-- A function is asked for, and the bytes are a module in which functions can be told apart, and which has no such one.
pub record LacksFunction (G : Table) (reach : Reach) (bytes : List ℕ) (function : Option Chosen) : Type 0 where
  pub of : Module
  pub listed : AreListed G bytes of
  pub laid : AreLaidOutFor G reach bytes function
  pub none : IsNoPart (plain_insts of) function

-- The same, and the function is asked for by a name that several have.
pub record NamesSeveral (G : Table) (reach : Reach) (bytes : List ℕ) (function : Option Chosen) : Type 0 where
  pub of : Module
  pub listed : AreListed G bytes of
  pub laid : AreLaidOutFor G reach bytes function
  pub several : AreParts (plain_insts of) function
