-- The picture of a function's blocks. (Own.)
use Rattle.std.specs.Prelude.{◌++◌, ◌+◌, ◌*◌, ◌||◌, ◌&&◌, ℕ, List, [], ◌∷◌, Option, Some, None, Bool, true, false}
use Rattle.std.specs.Prelude.{codes, decimal, flat_map, nat_eq, slice_get, unwrap_or, if◌then◌else◌}
use Rattle.std.specs.List.{find, list_any}
use Rattle.spv_module.specs.Operand.{Plain, Id, Number, PlainInst, result_in}
use Rattle.spv_module.specs.declared.opcode.TheConstants.{BRANCH, BRANCH_CONDITIONAL, LABEL, SWITCH}
use Rattle.spv_pictures.specs.Function.{begins_function, ends_function, groups, is_function}
use Rattle.spv_pictures.specs.Label.{label_text, node_name}
use Rattle.spv_pictures.specs.declared.marks.Finding.{Finding}

-- an instruction of a module: its number, what it is, and its line in the text of the module
pub record Row : Type 0 where
  pub number : ℕ
  pub inst : PlainInst
  pub line : List ℕ

-- the instructions from a number on, with their lines
abbrev pub rows_from : ℕ → List PlainInst → List (List ℕ) → List Row
rows_from n [] lines = []
rows_from n (i ∷ is) [] = []
rows_from n (i ∷ is) (l ∷ lines) = record { number = n; inst = i; line = l } ∷ rows_from (n + 1) is lines

-- the rows of the first function with that id, from its OpFunction on to before its end; none where there is none
abbrev pub function_rows : ℕ → List Row → List Row
function_rows x rows =
    unwrap_or (slice_get (groups (λ r. is_function x r.inst) (λ r. ends_function r.inst.opcode) rows) 0) []

-- does a block begin with this row; does a part of a function: what stands before its blocks, or a block
abbrev pub begins_block : Row → Bool
begins_block r = nat_eq r.inst.opcode LABEL

abbrev pub begins_part : Row → Bool
begins_part r = begins_function r.inst.opcode || begins_block r

-- the id of a part: the result of its first instruction
abbrev pub part_id : List Row → Option ℕ
part_id [] = None
part_id (r ∷ rows) = result_in r.inst.operands

-- is an instruction that of the fault; the labels of the fault's walk
abbrev pub is_fault : Option Finding → ℕ → Bool
is_fault None n = false
is_fault (Some f) n = nat_eq f.inst n

abbrev pub walk_of : Option Finding → List ℕ
walk_of None = []
walk_of (Some f) = f.walk.now

-- is a block on a walk; does a walk go from one block to the next
abbrev pub is_on : List ℕ → Option ℕ → Bool
is_on walk None = false
is_on walk (Some x) = list_any (nat_eq x) walk

abbrev pub goes : List ℕ → ℕ → ℕ → Bool
goes [] a b = false
goes (x ∷ []) a b = false
goes (x ∷ y ∷ walk) a b = (nat_eq x a && nat_eq y b) || goes (y ∷ walk) a b

abbrev pub goes_from : List ℕ → Option ℕ → ℕ → Bool
goes_from walk None b = false
goes_from walk (Some a) b = goes walk a b

-- the line of an instruction: its number and what is shown of it, in red where the fault is
abbrev pub row_text : Row → List ℕ
row_text r = decimal r.number ++ (codes ": " ++ label_text r.line)

abbrev pub marked_row : Bool → Row → List ℕ
marked_row true r = codes "<FONT COLOR=\"red\">" ++ (row_text r ++ codes "</FONT><BR ALIGN=\"LEFT\"/>")
marked_row false r = row_text r ++ codes "<BR ALIGN=\"LEFT\"/>"

-- what marks the part that has the fault, and a block on its walk
abbrev pub part_mark : Bool → Bool → List ℕ
part_mark true on = codes " [color=red penwidth=3]"
part_mark false true = codes " [color=red]"
part_mark false false = []

-- the node of a part
abbrev pub part_node : Option Finding → List Row → List ℕ
part_node f part = codes "  " ++ (node_name (part_id part) ++ (codes " [label=<"
    ++ (flat_map (λ r. marked_row (is_fault f r.number) r) part ++ (codes ">]"
    ++ (part_mark (list_any (λ r. is_fault f r.number) part) (is_on (walk_of f) (part_id part)) ++ codes ";\n")))))

-- an edge: where it leads, and the word at it, if it has one
pub record Edge : Type 0 where
  pub to : ℕ
  pub word : List ℕ

abbrev pub edge_to : ℕ → List ℕ → Edge
edge_to to word = record { to = to; word = word }

-- the edges of the cases of an OpSwitch: each with its number, as its line shows it
abbrev pub case_edges : List Plain → List Edge
case_edges (Number low high words ∷ Id x ∷ os) = edge_to x (decimal (low + 4294967296 * high)) ∷ case_edges os
case_edges _ = []

-- the edges of an OpBranch, an OpBranchConditional and an OpSwitch [3.49.17]
abbrev pub branch_edges : List Plain → List Edge
branch_edges (Id x ∷ _) = edge_to x [] ∷ []
branch_edges _ = []

abbrev pub conditional_edges : List Plain → List Edge
conditional_edges (Id c ∷ Id x ∷ Id y ∷ _) = edge_to x (codes "true") ∷ edge_to y (codes "false") ∷ []
conditional_edges _ = []

abbrev pub switch_edges : List Plain → List Edge
switch_edges (Id s ∷ Id x ∷ os) = edge_to x (codes "default") ∷ case_edges os
switch_edges _ = []

abbrev pub edges_of : PlainInst → List Edge
edges_of i = if nat_eq i.opcode BRANCH then branch_edges i.operands
    else (if nat_eq i.opcode BRANCH_CONDITIONAL then conditional_edges i.operands
    else (if nat_eq i.opcode SWITCH then switch_edges i.operands else []))

-- the text of an edge: its word, and red where the fault's walk takes it
abbrev pub word_mark : List ℕ → List ℕ
word_mark [] = []
word_mark (b ∷ word) = codes " [label=\"" ++ ((b ∷ word) ++ codes "\"]")

abbrev pub step_mark : Bool → List ℕ
step_mark true = codes " [color=red fontcolor=red]"
step_mark false = []

abbrev pub edge_text : Option Finding → Option ℕ → Edge → List ℕ
edge_text f from e = codes "  " ++ (node_name from ++ (codes " -> " ++ (node_name (Some e.to)
    ++ (word_mark e.word ++ (step_mark (goes_from (walk_of f) from e.to) ++ codes ";\n")))))

-- a part, with the edges of its instructions
abbrev pub part_text : Option Finding → List Row → List ℕ
part_text f part = part_node f part ++ flat_map (λ r. flat_map (edge_text f (part_id part)) (edges_of r.inst)) part

-- the edge from a function to its first block
abbrev pub entry_to : Option ℕ → Option Row → List ℕ
entry_to from None = []
entry_to from (Some r) = codes "  " ++ (node_name from ++ (codes " -> " ++ (node_name (result_in r.inst.operands)
    ++ codes " [style=dashed];\n")))

abbrev pub entry_edge : List Row → List ℕ
entry_edge rows = entry_to (part_id rows) (find begins_block rows)

-- the picture of a function's rows: a node for each part, with its lines, and an edge for each way to a block
abbrev pub picture_of : Option Finding → List Row → List ℕ
picture_of f rows =
    codes "digraph \"blocks\" {\n  node [shape=box label=\"%\\N\" fontname=\"monospace\"];\n"
    ++ (codes "  edge [fontname=\"monospace\"];\n"
    ++ (flat_map (part_text f) (groups begins_part begins_block rows) ++ (entry_edge rows ++ codes "}\n")))

-- the picture of the blocks of the function with that id, of a list of instructions with these lines
abbrev pub block_graph_text : Option Finding → List PlainInst → List (List ℕ) → ℕ → List ℕ
block_graph_text f is lines x = picture_of f (function_rows x (rows_from 0 is lines))
