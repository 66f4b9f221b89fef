-- What the text for reading tells of the instructions of a module, by their operands alone. (Own, where no section is
-- named.)
use Rattle.std.specs.Prelude.{◌||◌, ℕ, zero, suc, List, [], ◌∷◌, Option, Some, None}
use Rattle.std.specs.Prelude.{nat_eq, slice_get, unwrap_or, option_and_then, option_map, if◌then◌else◌, map, filter}
use Rattle.std.specs.Prelude.{drop, length}
use Rattle.std.specs.List.{position_from, filter_map, flat_map, range_with_len}
use Rattle.spv_table.specs.Lookups.{is_number}
use Rattle.spv_module.specs.Operand.{Plain, OfType, Result, Id, Argument, Mention, PlainInst, result_in}
use Rattle.spv_module.specs.declared.opcode.TheConstants.{FUNCTION, FUNCTION_END, LABEL}
use Rattle.spv_module.specs.declared.opcode.TheConstants.{BRANCH, BRANCH_CONDITIONAL, SWITCH}
use Rattle.spv_names.specs.Names as names
use Rattle.spv_names.specs.declared.naming.Naming.TheVariants.{Name}
use Rattle.spv_layout.specs.declared.class.Class.{Class}
use Rattle.spv_layout.specs.declared.class.Class.TheVariants as kind
use Rattle.spv_layout.specs.Rows.{class_of}
use Rattle.spv_annotate.specs.declared.edges.Edge.{Edge}

-- the instruction of that number; where there is none, an OpNop
abbrev pub inst_at : List PlainInst → ℕ → PlainInst
inst_at is n = unwrap_or (slice_get is n) (record { opcode = 0; operands = [] })

-- the number of the first instruction with that result
abbrev pub definition_of : List PlainInst → ℕ → Option ℕ
definition_of is x = position_from (λ i. is_number x (result_in i.operands)) 0 is

-- the first instruction with that result; where there is none, an OpNop
abbrev pub defined_by : List PlainInst → ℕ → PlainInst
defined_by is x = unwrap_or (option_and_then (slice_get is) (definition_of is x)) (record { opcode = 0; operands = [] })

-- the id that an OpName names [3.49.2]
abbrev pub named_by : PlainInst → Option ℕ
named_by i = option_map (λ p. p.0) (names.named_by Name i)

-- the name that an OpName gives, and no text where an instruction gives none
abbrev pub text_in : Option (ℕ × List ℕ) → List ℕ
text_in None = []
text_in (Some p) = p.1

abbrev pub name_by : PlainInst → List ℕ
name_by i = text_in (names.named_by Name i)

-- the number of the first OpName of an id
abbrev pub naming_of : List PlainInst → ℕ → Option ℕ
naming_of is x = position_from (λ i. is_number x (named_by i)) 0 is

-- the id that an operand is, if it is one
abbrev pub id_in : Plain → Option ℕ
id_in (OfType x) = Some x
id_in (Result x) = Some x
id_in (Id x) = Some x
id_in (Argument x) = Some x
id_in (Mention x) = Some x
id_in _ = None

-- the section in which instructions of a class stand before the first function: 1 to 9 [2.4]
abbrev pub section_in : Class → ℕ
section_in kind.Capability = 1
section_in kind.Extension = 2
section_in kind.Import = 3
section_in kind.MemoryModel = 4
section_in kind.EntryPoint = 5
section_in kind.ExecutionMode = 6
section_in kind.Source = 7
section_in kind.Name = 7
section_in kind.Processed = 7
section_in kind.Decoration = 8
section_in _ = 9

-- the section of an opcode
abbrev pub section_of : ℕ → ℕ
section_of opcode = section_in (class_of opcode)

-- the section before an instruction: that of the one before it, and none before the first
abbrev pub section_before : List PlainInst → ℕ → ℕ
section_before is zero = 0
section_before is (suc n) = section_of (inst_at is n).opcode

-- the OpFunction of the function that is open before an instruction: the last one before it, if no OpFunctionEnd stands
-- between [2.4]
abbrev pub open_function : List PlainInst → ℕ → Option ℕ
open_function is zero = None
open_function is (suc n) =
    if nat_eq (inst_at is n).opcode FUNCTION then Some n
    else (if nat_eq (inst_at is n).opcode FUNCTION_END then None else open_function is n)

-- the OpFunction of the function that an instruction is of: from its OpFunction to its OpFunctionEnd
abbrev pub function_of : List PlainInst → ℕ → Option ℕ
function_of is n = if nat_eq (inst_at is n).opcode FUNCTION then Some n else open_function is n

-- the OpLabel of the block that is open before an instruction: the last one before it in the same function
abbrev pub open_block : List PlainInst → ℕ → Option ℕ
open_block is zero = None
open_block is (suc n) =
    if nat_eq (inst_at is n).opcode LABEL then Some n
    else (if nat_eq (inst_at is n).opcode FUNCTION || nat_eq (inst_at is n).opcode FUNCTION_END then None
    else open_block is n)

-- the id of the label of that block
abbrev pub label_before : List PlainInst → ℕ → Option ℕ
label_before is n = option_and_then (λ b. result_in (inst_at is b).operands) (open_block is n)

-- the id that an operand names other than by its type or result
abbrev pub target_in : Plain → Option ℕ
target_in (Id x) = Some x
target_in _ = None

-- the labels to which a branch may go: all ids that an OpBranch names, and all but the first, the condition, that an
-- OpBranchConditional or an OpSwitch does [3.49.17]
abbrev pub targets_of : PlainInst → List ℕ
targets_of i =
    if nat_eq i.opcode BRANCH then filter_map target_in i.operands
    else (if nat_eq i.opcode BRANCH_CONDITIONAL || nat_eq i.opcode SWITCH
    then drop 1 (filter_map target_in i.operands) else [])

-- edges from the block of one label, if there is one, to those of some
abbrev pub edges_from : Option ℕ → List ℕ → List Edge
edges_from None ts = []
edges_from (Some y) ts = map (λ t. record { from = y; to = t }) ts

-- the edges that an instruction makes: from the block that it is of to the labels to which it may go
abbrev pub edges_at : List PlainInst → ℕ → List Edge
edges_at is n = edges_from (label_before is n) (targets_of (inst_at is n))

-- the edges of a module, in the order of its instructions
abbrev pub edges_of : List PlainInst → List Edge
edges_of is = flat_map (edges_at is) (range_with_len 0 (length is))

-- numbers without those that stand right behind an equal one
abbrev pub once_behind : ℕ → List ℕ → List ℕ
once_behind x [] = []
once_behind x (y ∷ ys) = if nat_eq x y then once_behind x ys else y ∷ once_behind y ys

abbrev pub once : List ℕ → List ℕ
once [] = []
once (x ∷ xs) = x ∷ once_behind x xs

-- the labels of the blocks whose branch may go to a label, in the order of these branches
abbrev pub predecessors : List PlainInst → ℕ → List ℕ
predecessors is x = once (map (λ e. e.from) (filter (λ e. nat_eq e.to x) (edges_of is)))
