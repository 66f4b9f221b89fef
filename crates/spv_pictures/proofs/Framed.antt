-- The frame of a picture of blocks is that of the same one without lines.
use Rattle.std.proofs.Common.{◌≡◌, ◌++◌, ◌+◌, ◌∙◌, ℕ, Bool, true, false, cond, List, [], ◌∷◌, Option, Some, None}
use Rattle.std.proofs.Common.{flat_map, map, take, slice_get, unwrap_or, refl, sym, ap, append-nil}
use Rattle.std.specs.Prelude.{◌||◌, codes, decimal, if◌then◌else◌}
use Rattle.std.specs.List.{before_first, find, list_any, position_or_len}
use Rattle.spv_module.specs.Operand.{PlainInst, result_in}
use Rattle.spv_pictures.specs.Blocks.{Row, begins_block, begins_part, block_graph_text, edge_text, edges_of, entry_edge}
use Rattle.spv_pictures.specs.Blocks.{entry_to, function_rows, is_fault, is_on, marked_row, part_id, part_mark}
use Rattle.spv_pictures.specs.Blocks.{part_node, part_text, picture_of, row_text, rows_from, walk_of}
use Rattle.spv_pictures.specs.Function.{ends_function, groups, is_function}
use Rattle.spv_pictures.specs.Label.{label_text, node_name}
use Rattle.spv_pictures.specs.Reading.{frame_of}
use Rattle.spv_pictures.specs.declared.marks.Finding.{Finding}
use Rattle.spv_pictures.proofs.Grouped.{before-map}
use Rattle.spv_pictures.proofs.Labels.{HasNoMark, label_unmarked, unmarked-append}
use Rattle.spv_pictures.proofs.Frames.{IsLevel, Same, decimal_unmarked, level-append, name_level, part_edges_level}
use Rattle.spv_pictures.proofs.Frames.{same-append, same_itself, same_level, same_nil, same_texts}

-- a row without its line
abbrev bare : Row → Row
bare r = record { number = r.number; inst = r.inst; line = [] }

row_unmarked : (r : Row) → HasNoMark (row_text r)
row_unmarked r = unmarked-append (decimal r.number) (codes ": " ++ label_text r.line) (decimal_unmarked r.number)
    (unmarked-append (codes ": ") (label_text r.line) (record { all = refl }) (label_unmarked r.line))

row_same : (b : Bool) (r : Row) → Same 1 1 (marked_row b r) (marked_row b (bare r))
row_same true r =
    let e = codes "</FONT><BR ALIGN=\"LEFT\"/>" in
    let f = codes "<FONT COLOR=\"red\">" in
    same-append 1 1 1 f f (row_text r ++ e) (row_text (bare r) ++ e) (same_itself 1 f)
    (same-append 1 1 1 (row_text r) (row_text (bare r)) e e
    (same_texts (row_text r) (row_text (bare r)) (row_unmarked r) (row_unmarked (bare r))) (same_itself 1 e))
row_same false r =
    let e = codes "<BR ALIGN=\"LEFT\"/>" in
    same-append 1 1 1 (row_text r) (row_text (bare r)) e e
    (same_texts (row_text r) (row_text (bare r)) (row_unmarked r) (row_unmarked (bare r))) (same_itself 1 e)

rows_same : (f : Option Finding) (part : List Row)
    → Same 1 1 (flat_map (λ (r : Row). marked_row (is_fault f r.number) r) part)
    (flat_map (λ (r : Row). marked_row (is_fault f r.number) r) (map bare part))
rows_same f [] = same_nil 1
rows_same f (r ∷ part) =
    same-append 1 1 1 (marked_row (is_fault f r.number) r) (marked_row (is_fault f r.number) (bare r))
    (flat_map (λ (s : Row). marked_row (is_fault f s.number) s) part)
    (flat_map (λ (s : Row). marked_row (is_fault f s.number) s) (map bare part))
    (row_same (is_fault f r.number) r) (rows_same f part)

-- the node of a part, by its id, its lines and its mark
abbrev node_with : Option ℕ → List ℕ → List ℕ → List ℕ
node_with x lines mark =
    codes "  " ++ (node_name x ++ (codes " [label=<" ++ (lines ++ (codes ">]" ++ (mark ++ codes ";\n")))))

mark_level : (a b : Bool) → IsLevel (part_mark a b)
mark_level true b = record { level = refl }
mark_level false true = record { level = refl }
mark_level false false = record { level = refl }

node_same : (x : Option ℕ) (s t mark : List ℕ) → IsLevel mark → Same 1 1 s t
    → Same 0 0 (node_with x s mark) (node_with x t mark)
node_same x s t mark l h =
    let a = codes "  " in
    let b = node_name x in
    let c = codes " [label=<" in
    let d = codes ">]" in
    let e = codes ";\n" in
    let end : Same 0 0 (mark ++ e) (mark ++ e) = same-append 0 0 0 mark mark e e (same_level mark l)
    (same_itself 0 e) in
    let behind : Same 1 0 (d ++ (mark ++ e)) (d ++ (mark ++ e)) = same-append 1 0 0 d d (mark ++ e) (mark ++ e)
    (same_itself 1 d) end in
    let lines : Same 1 0 (s ++ (d ++ (mark ++ e))) (t ++ (d ++ (mark ++ e))) = same-append 1 1 0 s t (d ++ (mark ++ e))
    (d ++ (mark ++ e)) h behind in
    let label : Same 0 0 (c ++ (s ++ (d ++ (mark ++ e)))) (c ++ (t ++ (d ++ (mark ++ e)))) = same-append 0 1 0 c c
    (s ++ (d ++ (mark ++ e))) (t ++ (d ++ (mark ++ e))) (same_itself 0 c) lines in
    same-append 0 0 0 a a (b ++ (c ++ (s ++ (d ++ (mark ++ e))))) (b ++ (c ++ (t ++ (d ++ (mark ++ e)))))
    (same_itself 0 a)
    (same-append 0 0 0 b b (c ++ (s ++ (d ++ (mark ++ e)))) (c ++ (t ++ (d ++ (mark ++ e))))
    (same_level b (name_level x)) label)

id_bare : (part : List Row) → part_id (map bare part) ≡ part_id part
id_bare [] = refl
id_bare (r ∷ part) = refl

fault_bare : (f : Option Finding) (part : List Row)
    → list_any (λ (r : Row). is_fault f r.number) (map bare part) ≡ list_any (λ (r : Row). is_fault f r.number) part
fault_bare f [] = refl
fault_bare f (r ∷ part) = ap (λ b. is_fault f r.number || b) (fault_bare f part)

edges_bare : (f : Option Finding) (from : Option ℕ) (part : List Row)
    → flat_map (λ (r : Row). flat_map (edge_text f from) (edges_of r.inst)) (map bare part) ≡ flat_map
    (λ (r : Row). flat_map (edge_text f from) (edges_of r.inst)) part
edges_bare f from [] = refl
edges_bare f from (r ∷ part) = ap (λ t. flat_map (edge_text f from) (edges_of r.inst) ++ t) (edges_bare f from part)

moved : (d e : ℕ) (s t u : List ℕ) → u ≡ t → Same d e s t → Same d e s u
moved d e s t u q h = rw q h

part_same : (f : Option Finding) (part : List Row) → Same 0 0 (part_text f part) (part_text f (map bare part))
part_same f part =
    let x = part_id part in
    let y = part_id (map bare part) in
    let lines = flat_map (λ (r : Row). marked_row (is_fault f r.number) r) in
    let a = list_any (λ (r : Row). is_fault f r.number) part in
    let b = list_any (λ (r : Row). is_fault f r.number) (map bare part) in
    let edges = λ (from : Option ℕ) (rows : List Row). flat_map
    (λ (r : Row). flat_map (edge_text f from) (edges_of r.inst)) rows in
    let n : part_node f (map bare part) ≡ node_with x (lines (map bare part)) (part_mark a (is_on (walk_of f) x))
    = ap (λ z. node_with z (lines (map bare part)) (part_mark b (is_on (walk_of f) z))) (id_bare part)
    ∙ ap (λ z. node_with x (lines (map bare part)) (part_mark z (is_on (walk_of f) x))) (fault_bare f part) in
    let m : edges y (map bare part) ≡ edges x part = ap (λ z. edges z (map bare part)) (id_bare part)
    ∙ edges_bare f x part in
    let q : part_node f (map bare part) ++ edges y (map bare part) ≡ node_with x (lines (map bare part))
    (part_mark a (is_on (walk_of f) x)) ++ edges x part =
    ap (λ z. z ++ edges y (map bare part)) n
    ∙ ap (λ z. node_with x (lines (map bare part)) (part_mark a (is_on (walk_of f) x)) ++ z) m in
    moved 0 0 (part_text f part) (node_with x (lines (map bare part)) (part_mark a (is_on (walk_of f) x))
    ++ edges x part) (part_text f (map bare part)) q
    (same-append 0 0 0 (part_node f part) (node_with x (lines (map bare part)) (part_mark a (is_on (walk_of f) x)))
    (edges x part) (edges x part)
    (node_same x (lines part) (lines (map bare part)) (part_mark a (is_on (walk_of f) x))
    (mark_level a (is_on (walk_of f) x)) (rows_same f part))
    (same_level (edges x part) (part_edges_level f x part)))

parts_same : (f : Option Finding) (parts : List (List Row))
    → Same 0 0 (flat_map (part_text f) parts) (flat_map (part_text f) (map (map bare) parts))
parts_same f [] = same_nil 0
parts_same f (part ∷ parts) =
    same-append 0 0 0 (part_text f part) (part_text f (map bare part)) (flat_map (part_text f) parts)
    (flat_map (part_text f) (map (map bare) parts)) (part_same f part) (parts_same f parts)

pub groups-map : {A B : Type 0} (f : A → B) (begins ends : B → Bool) (xs : List A)
    → groups begins ends (map f xs) ≡ map (map f) (groups (λ x. begins (f x)) (λ x. ends (f x)) xs)
groups-map f begins ends [] = refl
groups-map f begins ends (x ∷ xs) =
    by (begins (f x)) (groups-map f begins ends xs) (before-map ends f xs (position_or_len (λ y. ends (f y)) xs) refl)
  where
    by : (b : Bool) → groups begins ends (map f xs) ≡ map (map f) (groups (λ y. begins (f y)) (λ y. ends (f y)) xs)
        → map f (take (position_or_len (λ y. ends (f y)) xs) xs) ≡ before_first ends (map f xs)
        → (if b then (f x ∷ before_first ends (map f xs))
        ∷ groups begins ends (map f xs) else groups begins ends (map f xs))
        ≡ map (map f) (if b then (x ∷ before_first (λ y. ends (f y)) xs)
        ∷ groups (λ y. begins (f y)) (λ y. ends (f y)) xs else groups (λ y. begins (f y)) (λ y. ends (f y)) xs)
    by true e g = ap (λ z. (f x ∷ z) ∷ groups begins ends (map f xs)) (sym g)
        ∙ ap (λ z. (f x ∷ map f (before_first (λ y. ends (f y)) xs)) ∷ z) e
    by false e g = e

found_bare : (from : Option ℕ) (rows : List Row)
    → entry_to from (find begins_block (map bare rows)) ≡ entry_to from (find begins_block rows)
found_bare from [] = refl
found_bare from (r ∷ rows) = by (begins_block r) (found_bare from rows)
  where
    by : (b : Bool) → entry_to from (find begins_block (map bare rows)) ≡ entry_to from (find begins_block rows)
        → entry_to from (cond b (Some (bare r)) (find begins_block (map bare rows))) ≡ entry_to from
        (cond b (Some r) (find begins_block rows))
    by true e = refl
    by false e = e

entry_bare : (rows : List Row) → entry_edge (map bare rows) ≡ entry_edge rows
entry_bare rows = ap (λ x. entry_to x (find begins_block (map bare rows))) (id_bare rows)
    ∙ found_bare (part_id rows) rows

entry_level : (from : Option ℕ) (o : Option Row) → IsLevel (entry_to from o)
entry_level from None = record { level = refl }
entry_level from (Some r) =
    let to = node_name (result_in r.inst.operands) in
    let e = codes " [style=dashed];\n" in
    level-append (codes "  ") (node_name from ++ (codes " -> " ++ (to ++ e))) (record { level = refl })
    (level-append (node_name from) (codes " -> " ++ (to ++ e)) (name_level from)
    (level-append (codes " -> ") (to ++ e) (record { level = refl })
    (level-append to e (name_level (result_in r.inst.operands)) (record { level = refl }))))

abbrev head : List ℕ
head = codes "digraph \"blocks\" {\n  node [shape=box label=\"%\\N\" fontname=\"monospace\"];\n"

abbrev second : List ℕ
second = codes "  edge [fontname=\"monospace\"];\n"

picture_same : (f : Option Finding) (rows : List Row) → Same 0 0 (picture_of f rows) (picture_of f (map bare rows))
picture_same f rows =
    let parts = groups begins_part begins_block rows in
    let t = flat_map (part_text f) parts in
    let u = flat_map (part_text f) (map (map bare) parts) in
    let end = entry_edge rows ++ codes "}\n" in
    let g : flat_map (part_text f) (groups begins_part begins_block (map bare rows)) ≡ u = ap (flat_map (part_text f))
    (groups-map bare begins_part begins_block rows) in
    let q : picture_of f (map bare rows) ≡ head
    ++ (second ++ (u ++ end)) =
    ap (λ z. head ++ (second ++ (z ++ (entry_edge (map bare rows) ++ codes "}\n")))) g
    ∙ ap (λ z. head ++ (second ++ (u ++ (z ++ codes "}\n")))) (entry_bare rows) in
    let l : IsLevel end = level-append (entry_edge rows) (codes "}\n")
    (entry_level (part_id rows) (find begins_block rows)) (record { level = refl }) in
    moved 0 0 (picture_of f rows) (head ++ (second ++ (u ++ end))) (picture_of f (map bare rows)) q
    (same-append 0 0 0 head head (second ++ (t ++ end)) (second ++ (u ++ end)) (same_itself 0 head)
    (same-append 0 0 0 second second (t ++ end) (u ++ end) (same_itself 0 second)
    (same-append 0 0 0 t u end end (parts_same f parts) (same_level end l))))

pub framed : (s t : List ℕ) → Same 0 0 s t → frame_of s ≡ frame_of t
framed s t h = ap frame_of (sym (append-nil s)) ∙ (h.before [] [] refl ∙ ap frame_of (append-nil t))

rows_bare : (n : ℕ) (is : List PlainInst) (lines : List (List ℕ))
    → rows_from n is (map (λ (l : List ℕ). []) lines) ≡ map bare (rows_from n is lines)
rows_bare n [] lines = refl
rows_bare n (i ∷ is) [] = refl
rows_bare n (i ∷ is) (l ∷ lines) = ap (λ z. record { number = n; inst = i; line = [] } ∷ z) (rows_bare (n + 1) is lines)

first_bare : (gs : List (List Row))
    → unwrap_or (slice_get (map (map bare) gs) 0) [] ≡ map bare (unwrap_or (slice_get gs 0) [])
first_bare [] = refl
first_bare (g ∷ gs) = refl

function_bare : (x : ℕ) (rows : List Row) → function_rows x (map bare rows) ≡ map bare (function_rows x rows)
function_bare x rows =
    ap (λ z. unwrap_or (slice_get z 0) [])
    (groups-map bare (λ (r : Row). is_function x r.inst) (λ (r : Row). ends_function r.inst.opcode) rows)
    ∙ first_bare (groups (λ (r : Row). is_function x r.inst) (λ (r : Row). ends_function r.inst.opcode) rows)

-- the frame does not depend on the lines
pub block_frame : (f : Option Finding) (is : List PlainInst) (lines : List (List ℕ)) (x : ℕ)
    → frame_of (block_graph_text f is lines x) ≡ frame_of (block_graph_text f is (map (λ (l : List ℕ). []) lines) x)
block_frame f is lines x =
    let rows = function_rows x (rows_from 0 is lines) in
    let e : function_rows x (rows_from 0 is (map (λ (l : List ℕ). []) lines)) ≡ map bare rows = ap (function_rows x)
    (rows_bare 0 is lines) ∙ function_bare x (rows_from 0 is lines) in
    framed (picture_of f rows) (picture_of f (map bare rows)) (picture_same f rows)
    ∙ ap (λ z. frame_of (picture_of f z)) (sym e)
