-- A small module, and its pictures.
use Rattle.std.specs.Prelude.{◌++◌, ℕ, List, [], ◌∷◌, codes}
use Rattle.spv_module.specs.Operand.{Plain, OfType, Result, Id, Number, Text, Value, Mask, PlainInst}
use Rattle.spv_module.specs.declared.opcode.TheConstants as opcode

abbrev pub inst : ℕ → List Plain → PlainInst
inst code operands = record { opcode = code; operands = operands }

-- a kernel %1 with two blocks, which calls %2, of which there is a declaration
abbrev pub kernel : List PlainInst
kernel =
    inst opcode.ENTRY_POINT (Value 0 6 ∷ Id 1 ∷ Text (codes "k") ∷ [])
    ∷ inst opcode.NAME (Id 2 ∷ Text (codes "f<T>") ∷ [])
    ∷ inst opcode.FUNCTION (OfType 3 ∷ Result 1 ∷ Mask 1 0 ∷ Id 4 ∷ []) ∷ inst opcode.LABEL (Result 5 ∷ [])
    ∷ inst opcode.FUNCTION_CALL (OfType 3 ∷ Result 6 ∷ Id 2 ∷ [])
    ∷ inst opcode.SWITCH (Id 9 ∷ Id 7 ∷ Number 2 0 1 ∷ Id 5 ∷ []) ∷ inst opcode.LABEL (Result 7 ∷ [])
    ∷ inst opcode.RETURN [] ∷ inst opcode.FUNCTION_END []
    ∷ inst opcode.FUNCTION (OfType 3 ∷ Result 2 ∷ Mask 1 0 ∷ Id 4 ∷ []) ∷ inst opcode.FUNCTION_END [] ∷ []

-- lines for it, which need not be those of its text
abbrev pub kernel_lines : List (List ℕ)
kernel_lines =
    codes "a" ∷ codes "b" ∷ codes "c" ∷ codes "d" ∷ codes "e" ∷ codes "f" ∷ codes "g" ∷ codes "h" ∷ codes "i"
    ∷ codes "j" ∷ codes "k" ∷ []

abbrev pub kernel_calls : List ℕ
kernel_calls = codes "strict digraph \"calls\" {\n  node [shape=box label=\"%\\N\"];\n"
    ++ codes "  \"1\" [label=<%1<B><BR/>k</B>>] [peripheries=2];\n" ++ codes "  \"1\" -> \"2\";\n"
    ++ codes "  \"2\" [label=<%2<BR/>f&lt;T&gt;>] [style=dashed];\n" ++ codes "}\n"

-- the picture of no blocks
abbrev pub no_blocks : List ℕ
no_blocks = codes "digraph \"blocks\" {\n  node [shape=box label=\"%\\N\" fontname=\"monospace\"];\n"
    ++ codes "  edge [fontname=\"monospace\"];\n}\n"

abbrev pub kernel_blocks : List ℕ
kernel_blocks = codes "digraph \"blocks\" {\n  node [shape=box label=\"%\\N\" fontname=\"monospace\"];\n"
    ++ codes "  edge [fontname=\"monospace\"];\n" ++ codes "  \"1\" [label=<2: c<BR ALIGN=\"LEFT\"/>>];\n"
    ++ codes "  \"5\" [label=<3: d<BR ALIGN=\"LEFT\"/>4: e<BR ALIGN=\"LEFT\"/>5: f<BR ALIGN=\"LEFT\"/>>];\n"
    ++ codes "  \"5\" -> \"7\" [label=\"default\"];\n" ++ codes "  \"5\" -> \"5\" [label=\"2\"];\n"
    ++ codes "  \"7\" [label=<6: g<BR ALIGN=\"LEFT\"/>7: h<BR ALIGN=\"LEFT\"/>>];\n"
    ++ codes "  \"1\" -> \"5\" [style=dashed];\n" ++ codes "}\n"
