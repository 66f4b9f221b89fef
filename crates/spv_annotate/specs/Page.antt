-- The page: what stands in it for each piece of the text for reading. (HTML Living Standard, 4 and 13; own.)
use Rattle.std.specs.Prelude.{◌≡◌, ◌++◌, ◌==◌, ◌&&◌, ℕ, List, [], ◌∷◌, Option, Some, None, Bool, false}
use Rattle.std.specs.Prelude.{nat_eq, nat_lt, if◌then◌else◌, codes, decimal, length, map, filter, take, drop}
use Rattle.std.specs.Prelude.{option_and_then, option_map, unwrap_or}
use Rattle.std.specs.List.{filter_map, flat_map, list_any, onto_first, prefix_len, range_with_len}
use Rattle.spv_table.specs.Lookups.{is_number}
use Rattle.spv_table.specs.Table.{Table}
use Rattle.spv_module.specs.Module.{plain_insts}
use Rattle.spv_module.specs.Operand.{Plain, OfType, Id, Argument, Mention, PlainInst, result_in}
use Rattle.spv_module.specs.declared.module.Module.{Module}
use Rattle.spv_module.specs.declared.opcode.TheConstants.{FUNCTION, LABEL}
use Rattle.spv_lines.specs.Digits as digits
use Rattle.spv_lines.specs.Digits.{is_digit, value}
use Rattle.spv_lines.specs.Operand.{id_text}
use Rattle.spv_lines.specs.Plain.{plain_of}
use Rattle.spv_extended.specs.declared.reach.Reach.{Reach}
use Rattle.spv_annotate.specs.declared.edges.Edge.{Edge}
use Rattle.spv_annotate.specs.declared.finding.Finding.{Finding}
use Rattle.spv_annotate.specs.declared.linked.Quoting.{Quoting}
use Rattle.spv_annotate.specs.declared.linked.Quoting.TheVariants.{Outside, Commented}
use Rattle.spv_annotate.specs.declared.style.TheConstants.{HEAD, STYLE, TITLED, LIST, MIDDLE, END}
use Rattle.spv_annotate.specs.Called.{told_operands}
use Rattle.spv_annotate.specs.Document.{Subject, IsSubject, beginning, document, is_of, verdict_line}
use Rattle.spv_annotate.specs.Html.{escaped}
use Rattle.spv_annotate.specs.Module.{definition_of, function_of, inst_at, name_by, naming_of, once}
use Rattle.spv_annotate.specs.Notes.{short_name}
use Rattle.spv_annotate.specs.Quoted.{after_byte, begins_id}
use Rattle.spv_annotate.specs.Piece.{PlainPiece, Header, Section, Function, Block, Line, Comment, Mark, Break}

-- a line from there on, cut before each id
abbrev pub cut_from : Quoting → List ℕ → List (List ℕ)
cut_from q [] = [] ∷ []
cut_from q (b ∷ line) =
    if begins_id q b then [] ∷ onto_first b (cut_from q line) else onto_first b (cut_from (after_byte q b) line)

-- the id that digits are, if they are one
abbrev pub id_of : List ℕ → Option ℕ
id_of ds = if digits.is_number ds && nat_lt (value ds) 4294967296 then Some (value ds) else None

-- a link to the instruction of that number
abbrev pub link_to : ℕ → List ℕ → List ℕ
link_to n html = codes "<a href=#" ++ (decimal n ++ (62 ∷ (html ++ codes "</a>")))

-- an id with a link to the instruction of that number, if there is one
abbrev pub id_html : Option ℕ → List ℕ → List ℕ
id_html (Some n) word = link_to n (escaped word)
id_html None word = escaped word

-- the digits at the front of a text, and what stands behind them
abbrev pub digits_in : List ℕ → List ℕ
digits_in text = take (prefix_len is_digit text) text

abbrev pub behind_digits : List ℕ → List ℕ
behind_digits text = drop (prefix_len is_digit text) text

-- a part of a line that is cut before each id: an id at its front has a link to the instruction that defines it
abbrev pub part_html : (ℕ → Option ℕ) → List ℕ → List ℕ
part_html definition [] = []
part_html definition (b ∷ text) =
    if b == 37 then id_html (option_and_then definition (id_of (digits_in text))) (37 ∷ digits_in text)
    ++ escaped (behind_digits text)
    else escaped (b ∷ text)

-- a line with links
abbrev pub linked : (ℕ → Option ℕ) → Quoting → List ℕ → List ℕ
linked definition q line = flat_map (part_html definition) (cut_from q line)

-- the ids of the blocks of the walk that shows a fault
abbrev pub walk_of : Option Finding → List ℕ
walk_of None = []
walk_of (Some f) = f.walk.now

-- the id that an operand uses: one that it names other than as the result
abbrev pub used_in : Plain → Option ℕ
used_in (OfType x) = Some x
used_in (Id x) = Some x
used_in (Argument x) = Some x
used_in (Mention x) = Some x
used_in _ = None

-- the uses of ids by operands of instruction n, each as an edge from the instruction to the id; literals are none
abbrev pub uses_from : ℕ → List Plain → List Edge
uses_from n os = map (λ x. record { from = n; to = x }) (filter_map used_in os)

abbrev pub uses_at : List PlainInst → ℕ → List Edge
uses_at is n = uses_from n (told_operands is (inst_at is n))

-- those of an instruction that is asked for
abbrev pub asked_uses : List PlainInst → Option ℕ → ℕ → List Edge
asked_uses is asked n = if is_of is asked n then uses_at is n else []

-- all of these, in the order of the instructions
abbrev pub uses_of : List PlainInst → Option ℕ → List Edge
uses_of is asked = flat_map (asked_uses is asked) (range_with_len 0 (length is))

-- the instructions that are asked for and use an id, in order; one that uses it several times stands there as often
abbrev pub users_of : List PlainInst → Option ℕ → ℕ → List ℕ
users_of is asked x = map (λ e. e.from) (filter (λ e. nat_eq e.to x) (uses_of is asked))

-- an instruction, if it is asked for
abbrev pub if_asked : List PlainInst → Option ℕ → ℕ → Option ℕ
if_asked is asked n = if is_of is asked n then Some n else None

-- an instruction to which a link leads: one that there is, and that is asked for
abbrev pub on_page : List PlainInst → Option ℕ → ℕ → Option ℕ
on_page is asked n = if nat_lt n (length is) then if_asked is asked n else None

-- what is known where a page is written: the instructions of the module; of each id the instruction that defines it
-- and those that use it, as far as they are asked for, and the one that names it, if there are such; the number of the
-- instruction of the fault, and that of the OpFunction of the function that it is of; and of each id whether it is that
-- of a block of the walk that shows the fault
pub record Scene : Type 0 where
  pub insts : List PlainInst
  pub definition : ℕ → Option ℕ
  pub naming : ℕ → Option ℕ
  pub users : ℕ → List ℕ
  pub fault : Option ℕ
  pub faulty : Option ℕ
  pub walked : ℕ → Bool

-- is an instruction the label of a block of the walk
abbrev pub is_walked : Scene → ℕ → Bool
is_walked S n = (inst_at S.insts n).opcode == LABEL
    && unwrap_or (option_map S.walked (result_in (inst_at S.insts n).operands)) false

-- how the line of an instruction is marked: as that of the fault, as that of a block of the walk, or not at all
abbrev pub line_class : Scene → ℕ → List ℕ
line_class S n =
    if is_number n S.fault then codes " class=fault" else (if is_walked S n then codes " class=walk" else [])

-- the line of an instruction as a heading of a function or of a block, or as it is
abbrev pub headed : ℕ → List ℕ → List ℕ
headed opcode html =
    if opcode == FUNCTION then codes "<h2>" ++ (html ++ codes "</h2>")
    else (if opcode == LABEL then codes "<h3>" ++ (html ++ codes "</h3>") else html)

-- a link without a text to an instruction: the style shows its number
abbrev pub bare_link : ℕ → List ℕ
bare_link n = codes "<a href=#" ++ (decimal n ++ codes "></a>")

-- how many uses of an id have links
abbrev pub most_uses : ℕ
most_uses = 50

-- links to the instructions that use an id, at the one that defines it, but for those behind the first fifty
abbrev pub use_links : Scene → ℕ → Option ℕ → List ℕ
use_links S n None = []
use_links S n (Some x) = if is_number n (S.definition x)
    then codes "<u>" ++ (flat_map bare_link (take most_uses (once (S.users x))) ++ codes "</u>") else []

-- what stands in the page for a piece: each line is an element, which its end closes; that of an instruction has the
-- instruction's number as its anchor
abbrev pub page_of : Scene → PlainPiece → List ℕ
page_of S (Header t) = codes "<div>" ++ escaped t
page_of S (Section n s) = codes "<br>\n"
page_of S (Function n) = codes "<br>\n"
page_of S (Block n) = []
page_of S (Line n t) = codes "<div id=" ++ (decimal n ++ (line_class S n ++ (62 ∷
    (headed (inst_at S.insts n).opcode (linked S.definition Outside t)
    ++ use_links S n (result_in (inst_at S.insts n).operands)))))
page_of S (Comment t) = codes "<i>" ++ (linked S.definition Commented t ++ codes "</i>")
page_of S (Mark t) = codes "<div class=fault>" ++ linked S.definition Commented t
page_of S Break = codes "</div>\n"

-- a section by its number [2.4]
abbrev pub section_title : ℕ → List ℕ
section_title s =
    if s == 1 then codes "Capabilities" else (if s == 2 then codes "Extensions" else
    (if s == 3 then codes "Imports" else (if s == 4 then codes "Memory model" else
    (if s == 5 then codes "Entry points" else (if s == 6 then codes "Execution modes" else
    (if s == 7 then codes "Sources and names" else (if s == 8 then codes "Decorations" else
    codes "Types, constants and variables")))))))

-- the name of an id behind a space, if an instruction names it
abbrev pub name_behind : Scene → Option ℕ → List ℕ
name_behind S None = []
name_behind S (Some n) = 32 ∷ short_name (name_by (inst_at S.insts n))

-- a result, if there is one, and its name
abbrev pub label_of : Scene → Option ℕ → List ℕ
label_of S None = []
label_of S (Some x) = id_text x ++ name_behind S (S.naming x)

-- a link to an instruction, by its result
abbrev pub entry_link : Scene → ℕ → List ℕ
entry_link S n = link_to n (escaped (label_of S (result_in (inst_at S.insts n).operands)))

-- a link to the first instruction of a section
abbrev pub section_link : ℕ → ℕ → List ℕ
section_link n s = codes "<a href=#" ++ (decimal n ++ (62 ∷ (section_title s ++ codes "</a>\n")))

-- how a function is marked in the list of contents: as that of the fault, or not at all
abbrev pub summary_class : Scene → ℕ → List ℕ
summary_class S n = if is_number n S.faulty then codes " class=fault" else []

-- what stands in the list of contents for a piece: a link to a section or a block, and for a function a list of its own
abbrev pub contents_of : Scene → PlainPiece → List ℕ
contents_of S (Section n s) = section_link n s
contents_of S (Function n) = codes "</details>\n<details>\n<summary" ++ (summary_class S n ++ (62 ∷ (entry_link S n
    ++ codes "</summary>\n")))
contents_of S (Block n) = entry_link S n ++ codes "\n"
contents_of S _ = []

-- what begins with instruction n, if it is asked for: a section, a function or a block
abbrev pub outlined : List PlainInst → Option ℕ → ℕ → List PlainPiece
outlined is asked n = if is_of is asked n then beginning is n else []

abbrev pub beginnings : List PlainInst → Option ℕ → List PlainPiece
beginnings is asked = flat_map (outlined is asked) (range_with_len 0 (length is))

-- the line of the verdict, where a fault is told: with a link to its instruction, if that is on the page
abbrev pub notice : List PlainInst → Option ℕ → Option Finding → List ℕ
notice is asked None = []
notice is asked (Some f) =
    codes "<p class=fault>" ++ (id_html (on_page is asked f.inst) (verdict_line f) ++ codes "</p>\n")

-- what stands before the list of contents, by the parts of src/style.rt: the title, without control characters, twice,
-- and the line of the verdict
abbrev pub front_of : List ℕ → List ℕ → List ℕ
front_of title told = HEAD.now ++ (title ++ (STYLE.now ++ (title ++ (TITLED.now ++ (told ++ LIST.now)))))

abbrev pub page_front : List ℕ → List ℕ → List ℕ
page_front title told = front_of (escaped (plain_of title)) told

-- What is known where the page of a module is written, whose instructions these are, of which this is told, and of
-- which this function is asked for.
pub record IsScene (is : List PlainInst) (finding : Option Finding) (asked : Option ℕ) (S : Scene) : Type 0 where
  pub insts : S.insts ≡ is
  pub definition : (x : ℕ) → S.definition x ≡ option_and_then (if_asked is asked) (definition_of is x)
  pub naming : (x : ℕ) → S.naming x ≡ naming_of is x
  pub users : (x : ℕ) → S.users x ≡ users_of is asked x
  pub fault : S.fault ≡ option_map (λ f. f.inst) finding
  pub faulty : S.faulty ≡ option_and_then (λ f. function_of is f.inst) finding
  pub walked : (x : ℕ) → S.walked x ≡ list_any (nat_eq x) (walk_of finding)

-- The text is the page of a module: a list of contents, and the pieces of the text for reading.
pub record IsPage (G : Table) (reach : Reach) (m : Module) (title : List ℕ)
    (finding : Option Finding) (asked : Option ℕ)
    (t : List ℕ) : Type 0 where
  pub subject : Subject
  pub scene : Scene
  pub of : IsSubject G reach m finding asked subject
  pub known : IsScene (plain_insts m) finding asked scene
  pub all : t ≡ page_front title (notice (plain_insts m) asked finding)
      ++ (flat_map (contents_of scene) (beginnings (plain_insts m) asked)
      ++ (MIDDLE.now ++ (flat_map (page_of scene) (document subject) ++ END.now)))
