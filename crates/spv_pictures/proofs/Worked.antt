-- Worked examples.
use Rattle.std.proofs.Common.{◌≡◌, [], ◌∷◌, None, true, refl}
use Rattle.std.specs.Prelude.{codes}
use Rattle.std.specs.Fmt.{digits}
use Rattle.std.specs.Str.{chars}
use lib.Utf8.{encode}
use Rattle.spv_pictures.specs.Blocks.{block_graph_text, marked_row}
use Rattle.spv_pictures.specs.Calls.{call_graph_text, entry_lines}
use Rattle.spv_pictures.specs.Example.{inst, kernel, kernel_blocks, kernel_calls, kernel_lines, no_blocks}
use Rattle.spv_pictures.specs.Label.{drawn_text, label_text}
use Rattle.spv_pictures.specs.Reading.{frame_of, read_back}

pub marked_example : label_text (codes "a<b> \\N") ≡ codes "a&lt;b&gt; \\\\N"
unfolding chars encode
marked_example = refl

pub hidden_example : label_text (10 ∷ []) ≡ codes "\\\\x0a"
unfolding chars encode
hidden_example = refl

pub not_hidden_example : drawn_text (10 ∷ []) ≡ 10 ∷ [] → ⊥
unfolding chars encode
not_hidden_example e = cc

pub read_example : read_back (codes "&lt;&amp;\\\\") ≡ codes "<&\\"
read_example = refl

pub order_example : read_back (codes "\\N") ≡ []
order_example = refl

pub frame_example : frame_of (codes "1 [label=<a<BR/>b>];") ≡ codes "1 [label=<<BR/>>];"
frame_example = refl

pub calls_example : call_graph_text kernel ≡ kernel_calls
unfolding chars encode digits
calls_example = refl

pub blocks_example : block_graph_text None kernel kernel_lines 1 ≡ kernel_blocks
unfolding chars encode digits
blocks_example = refl

pub none_example : block_graph_text None kernel kernel_lines 9 ≡ no_blocks
unfolding chars encode digits
none_example = refl

pub red_example : marked_row true (record {
  number = 3;
  inst = inst 253 [];
  line = codes "OpReturn";
}) ≡ codes "<FONT COLOR=\"red\">3: OpReturn</FONT><BR ALIGN=\"LEFT\"/>"
unfolding chars encode digits
red_example = refl

pub entries_example : entry_lines (codes "l" ∷ codes "k" ∷ []) ≡ codes "<B><BR/>l</B><B><BR/>k</B>"
unfolding chars encode
entries_example = refl
