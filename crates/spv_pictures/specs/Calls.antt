-- The picture of a module's calls. (Own.)
use Rattle.std.specs.Prelude.{◌++◌, ℕ, List, [], ◌∷◌, Option, Some, None, Bool, true, false, codes, flat_map}
use Rattle.std.specs.Prelude.{nat_eq, option_and_then, if◌then◌else◌}
use Rattle.std.specs.List.{list_any}
use Rattle.spv_module.specs.Operand.{Plain, OfType, Result, Id, PlainInst, result_in}
use Rattle.spv_module.specs.declared.opcode.TheConstants.{FUNCTION_CALL, LABEL}
use Rattle.spv_pictures.specs.Function.{begins_function, ends_function, groups}
use Rattle.spv_pictures.specs.Label.{label_text, node_name, shown_id}
use Rattle.spv_names.specs.Names.{name_of, named_by}
use Rattle.spv_names.specs.declared.naming.Naming.TheVariants.{Name, EntryPoint}

-- all names that OpEntryPoints give to an id
abbrev pub given_to : ℕ → Option (ℕ × List ℕ) → List (List ℕ)
given_to x None = []
given_to x (Some p) = if nat_eq p.0 x then p.1 ∷ [] else []

abbrev pub entry_names : List PlainInst → ℕ → List (List ℕ)
entry_names is x = flat_map (λ i. given_to x (named_by EntryPoint i)) is

abbrev pub entries_of : List PlainInst → Option ℕ → List (List ℕ)
entries_of is None = []
entries_of is (Some x) = entry_names is x

-- what stands below a function's id: its name; the names of the entry points that it is, in bold
abbrev pub name_line : Option (List ℕ) → List ℕ
name_line None = []
name_line (Some t) = codes "<BR/>" ++ label_text t

abbrev pub entry_line : List ℕ → List ℕ
entry_line t = codes "<B><BR/>" ++ (label_text t ++ codes "</B>")

abbrev pub entry_lines : List (List ℕ) → List ℕ
entry_lines ts = flat_map entry_line ts

-- the label of a function, by its id, its name and the lines of the entry points that it is
abbrev pub function_label : Option ℕ → Option (List ℕ) → List ℕ → List ℕ
function_label x name entries =
    codes " [label=<" ++ (shown_id x ++ (name_line name ++ (entries ++ codes ">]")))

-- what marks an entry point, by these lines, and a declaration
abbrev pub entry_mark : List ℕ → List ℕ
entry_mark [] = []
entry_mark (b ∷ t) = codes " [peripheries=2]"

abbrev pub declaration_mark : Bool → List ℕ
declaration_mark true = []
declaration_mark false = codes " [style=dashed]"

-- the node of a function, by its id, its name, these lines, and whether it has a block
abbrev pub function_node : Option ℕ → Option (List ℕ) → List ℕ → Bool → List ℕ
function_node x name entries has_block = codes "  " ++ (node_name x ++ (function_label x name entries
    ++ (entry_mark entries ++ (declaration_mark has_block ++ codes ";\n"))))

-- the function that an instruction calls, if it is an OpFunctionCall [3.49.9]
abbrev pub callee_in : List Plain → Option ℕ
callee_in (OfType _ ∷ Result _ ∷ Id f ∷ _) = Some f
callee_in _ = None

abbrev pub callee_of : PlainInst → Option ℕ
callee_of i = if nat_eq i.opcode FUNCTION_CALL then callee_in i.operands else None

-- the edge of a call
abbrev pub call_edge : Option ℕ → Option ℕ → List ℕ
call_edge from None = []
call_edge from (Some to) = codes "  " ++ (node_name from ++ (codes " -> " ++ (node_name (Some to) ++ codes ";\n")))

-- does a list have an OpLabel
abbrev pub has_label : List PlainInst → Bool
has_label is = list_any (λ i. nat_eq i.opcode LABEL) is

-- a function of a module, with its calls
abbrev pub function_text : List PlainInst → List PlainInst → List ℕ
function_text is [] = []
function_text is (i ∷ body) =
    let x = result_in i.operands in
    function_node x (option_and_then (name_of Name is) x) (entry_lines (entries_of is x)) (has_label body)
    ++ flat_map (λ j. call_edge x (callee_of j)) body

-- the functions of a list of instructions
abbrev pub functions : List PlainInst → List (List PlainInst)
functions is = groups (λ i. begins_function i.opcode) (λ i. ends_function i.opcode) is

-- the picture of the calls of a list of instructions: a node for each function, and an edge for each call from the
-- function that it is in
abbrev pub call_graph_text : List PlainInst → List ℕ
call_graph_text is = codes "strict digraph \"calls\" {\n  node [shape=box label=\"%\\N\"];\n"
    ++ (flat_map (function_text is) (functions is) ++ codes "}\n")
