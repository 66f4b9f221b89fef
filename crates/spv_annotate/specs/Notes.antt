-- The comment behind the line of an instruction. (Own.)
use Rattle.std.specs.Prelude.{◌+◌, ◌++◌, ◌&&◌, ℕ, zero, suc, List, [], ◌∷◌, Option, Some, None, Bool}
use Rattle.std.specs.Prelude.{nat_eq, nat_le, nat_lt, slice_get, slice_index, unwrap_or, if◌then◌else◌, codes}
use Rattle.std.specs.Prelude.{bytes_eq, drop, false, filter, length, not, take, decimal}
use Rattle.std.specs.List.{flat_map}
use Rattle.spv_table.specs.Lookups.{is_number}
use Rattle.spv_module.specs.Operand.{PlainInst, result_in}
use Rattle.spv_module.specs.declared.opcode.TheConstants.{NAME, LABEL}
use Rattle.spv_names.specs.Names.{named_by}
use Rattle.spv_names.specs.declared.naming.Naming.TheVariants.{EntryPoint}
use Rattle.spv_extended.specs.declared.call.Call.{Call}
use Rattle.spv_extended.specs.declared.set.Set.{Set}
use Rattle.spv_extended.specs.declared.set.Set.TheVariants.{OpenClStd}
use Rattle.spv_layout.specs.Place.{first_word_of}
use Rattle.spv_lines.specs.Operand.{id_text}
use Rattle.spv_lines.specs.Text.{lines_of}
use Rattle.spv_lines.specs.Plain.{is_control, is_late_control, plain_of}
use Rattle.spv_annotate.specs.declared.opencl.TheConstants.{OPENCL}
use Rattle.spv_annotate.specs.Called.{called_by, ids_of}
use Rattle.spv_annotate.specs.Html.{escaped_byte}
use Rattle.spv_annotate.specs.Module.{definition_of, inst_at, name_by, naming_of, predecessors}

-- a text behind a comma and a space; nothing where it is empty
abbrev pub note : List ℕ → List ℕ
note [] = []
note (b ∷ t) = codes ", " ++ (b ∷ t)

-- the last place of a text, up to a greatest one, at which a character begins
unfoldable pub cut_at : List ℕ → ℕ → ℕ
cut_at t zero = 0
cut_at t (suc k) =
    if nat_le 128 (slice_index t (suc k)) && nat_lt (slice_index t (suc k)) 192 then cut_at t k else suc k

-- a text up to so many octets, in whole characters
abbrev pub beginning_of : ℕ → List ℕ → List ℕ
beginning_of k t = if nat_le (length t) k then t else take (cut_at t k) t

-- how many octets an octet takes in a page: four as `\xNN`, or as many as its character reference
abbrev pub octet_room : ℕ → ℕ
octet_room b = if is_control b then 4 else length (escaped_byte b)

-- how many a text takes there
abbrev pub room : List ℕ → ℕ
room [] = 0
room (a ∷ []) = octet_room a
room (a ∷ b ∷ t) = if is_late_control a b then 8 + room t else octet_room a + room (b ∷ t)

-- do so many octets of a name take at most forty in a page
abbrev pub fits : List ℕ → ℕ → Bool
fits t k = nat_le (room (beginning_of k t)) 40

-- how many octets of a name are told at most: of 40, 20, 10 and 6 the first that fits
abbrev pub told_most : List ℕ → ℕ
told_most t = if fits t 40 then 40 else (if fits t 20 then 20 else (if fits t 10 then 10 else 6))

-- a name without its control characters; of a long one the beginning, and two points
abbrev pub short_by : ℕ → List ℕ → List ℕ
short_by k t = if nat_le (length t) k then plain_of t else plain_of (take (cut_at t k) t) ++ codes ".."

abbrev pub short_name : List ℕ → List ℕ
short_name t = short_by (told_most t) t

-- `, %17 sum`, where the first OpName of an id is the one of that number
abbrev pub name_text : List PlainInst → ℕ → Option ℕ → List ℕ
name_text is x None = []
name_text is x (Some n) = codes ", " ++ id_text x ++ (32 ∷ short_name (name_by (inst_at is n)))

abbrev pub name_note : List PlainInst → ℕ → List ℕ
name_note is x = name_text is x (naming_of is x)

-- is a text the name that an OpName of that number gives, if there is one
abbrev pub is_name : List PlainInst → List ℕ → Option ℕ → Bool
is_name is t None = false
is_name is t (Some n) = bytes_eq t (name_by (inst_at is n))

-- the function of an OpEntryPoint, where an OpName gives it the same name [3.49.5]
abbrev pub entry_in : List PlainInst → Option (ℕ × List ℕ) → Option ℕ
entry_in is None = None
entry_in is (Some p) = if is_name is p.1 (naming_of is p.0) then Some p.0 else None

abbrev pub entry_named : List PlainInst → PlainInst → Option ℕ
entry_named is i = entry_in is (named_by EntryPoint i)

-- the name of an id, but for one whose name stands on the line already
abbrev pub name_unless : List PlainInst → Option ℕ → ℕ → List ℕ
name_unless is named x = if is_number x named then [] else name_note is x

-- each number of a list once, where it first stands
abbrev pub each_once : List ℕ → List ℕ
each_once [] = []
each_once (x ∷ xs) = x ∷ filter (λ y. not (nat_eq x y)) (each_once xs)

-- the names of the ids on a line, that of each id once: none at an OpName, which has the name itself, and so with the
-- function of an OpEntryPoint that has the same one
abbrev pub name_notes : List PlainInst → PlainInst → List ℕ
name_notes is i =
    if nat_eq i.opcode NAME then [] else flat_map (name_unless is (entry_named is i)) (each_once (ids_of is i))

-- the table of src/opencl.rt, where each number of an instruction of OpenCL.std has a line with its name
unfoldable pub opencl_lines : List (List ℕ)
opencl_lines = lines_of OPENCL.now

-- the name of an instruction of OpenCL.std
abbrev pub opencl_name : ℕ → List ℕ
opencl_name k = unwrap_or (slice_get opencl_lines k) []

-- `, sqrt`, where the set is OpenCL.std
abbrev pub call_name : Set → ℕ → List ℕ
call_name OpenClStd k = note (opencl_name k)
call_name _ k = []

abbrev pub call_text : Option Call → List ℕ
call_text None = []
call_text (Some c) = call_name c.set c.number

abbrev pub call_note : List PlainInst → PlainInst → List ℕ
call_note is i = call_text (called_by is i)

-- `, from %13 %14`
abbrev pub from_text : List ℕ → List ℕ
from_text [] = []
from_text (y ∷ ys) = codes ", from" ++ flat_map (λ x. 32 ∷ id_text x) (y ∷ ys)

-- the blocks whose branch goes to a label, at the first instruction that defines it
abbrev pub from_note : List PlainInst → ℕ → Option ℕ → List ℕ
from_note is n None = []
from_note is n (Some x) = if is_number n (definition_of is x) then from_text (predecessors is x) else []

abbrev pub block_note : List PlainInst → ℕ → PlainInst → List ℕ
block_note is n i = if nat_eq i.opcode LABEL then from_note is n (result_in i.operands) else []

-- the notes on instruction n; the decimal value is that of a float constant, or nothing
abbrev pub notes : List PlainInst → List ℕ → ℕ → PlainInst → List ℕ
notes is value n i = name_notes is i ++ call_note is i ++ note value ++ block_note is n i

-- spaces up to the column of comments, one at least, behind a line of so many octets
abbrev pub column : List ℕ
column = codes "                                                "

abbrev pub gap : ℕ → List ℕ
gap count = drop (if nat_lt count 47 then count else 47) column

-- the numbers of an instruction and of its first word
abbrev pub place_text : ℕ → ℕ → List ℕ
place_text n word = codes "; inst " ++ decimal n ++ codes " word " ++ decimal word

-- the comment behind the line of instruction n, and the spaces before it
abbrev pub comment : List PlainInst → List ℕ → ℕ → List ℕ → List ℕ
comment is value n line =
    gap (length line) ++ place_text n (first_word_of is n) ++ notes is value n (inst_at is n)
