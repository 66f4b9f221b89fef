-- How a label is read back, and what a picture is without the texts of its labels. (Own.)
use Rattle.std.specs.Prelude.{◌++◌, ◌+◌, ◌-◌, ◌==◌, ◌||◌, ◌&&◌, ℕ, List, [], ◌∷◌, Bool, not, bytes_eq, codes}
use Rattle.std.specs.Prelude.{map, nat_eq, if◌then◌else◌}
use Rattle.spv_module.specs.Operand.{Plain, Text, PlainInst}

-- what an entity stands for, by what it has between `&` and `;`; nothing where it is none of the five
abbrev pub entity_of : List ℕ → List ℕ
entity_of e = if bytes_eq e (codes "amp") then codes "&" else (if bytes_eq e (codes "lt") then codes "<"
    else (if bytes_eq e (codes "gt") then codes ">" else (if bytes_eq e (codes "quot") then codes "\""
    else (if bytes_eq e (codes "#39") then codes "'" else []))))

-- where a reader of a label is: in its text, in an entity of which so much is read, or behind a backslash
pub data State : Type 0 where
  InText : State
  InEntity : List ℕ → State
  BehindSlash : State

-- what a byte shows of itself there, and where the reader is behind it: entities are read, and a backslash stands for
-- itself behind another one. Behind one, any other byte is an order to graphviz, and shows nothing of itself.
abbrev pub shown_at : State → ℕ → List ℕ
shown_at InText b = if b == 38 || b == 92 then [] else b ∷ []
shown_at (InEntity e) b = if b == 59 then entity_of e else []
shown_at BehindSlash b = if b == 92 then b ∷ [] else []

abbrev pub state_behind : State → ℕ → State
state_behind InText b = if b == 38 then InEntity [] else (if b == 92 then BehindSlash else InText)
state_behind (InEntity e) b = if b == 59 then InText else InEntity (e ++ b ∷ [])
state_behind BehindSlash b = InText

-- what graphviz shows of a label
abbrev pub read_in : State → List ℕ → List ℕ
read_in s [] = []
read_in s (b ∷ t) = shown_at s b ++ read_in (state_behind s b) t

abbrev pub read_back : List ℕ → List ℕ
read_back t = read_in InText t

-- is a byte one that could end a text of a label: `<`, `>`, `"` or `'`
abbrev pub is_mark : ℕ → Bool
is_mark b = b == 60 || (b == 62 || (b == 34 || b == 39))

-- how many `<` are not ended behind a byte, as graphviz counts them: outside of labels there is none, in the text of a
-- label one, in its tags two
abbrev pub depth_behind : ℕ → ℕ → ℕ
depth_behind depth b = if b == 60 then depth + 1 else (if b == 62 then depth - 1 else depth)

-- is a byte of the text of a label
abbrev pub is_text : ℕ → ℕ → Bool
is_text depth b = nat_eq depth 1 && not (b == 60 || b == 62)

-- what is left of a picture without the texts of its labels
abbrev pub frame_in : ℕ → List ℕ → List ℕ
frame_in depth [] = []
frame_in depth (b ∷ t) = (if is_text depth b then [] else b ∷ []) ++ frame_in (depth_behind depth b) t

abbrev pub frame_of : List ℕ → List ℕ
frame_of t = frame_in 0 t

-- an instruction with other texts in place of its own
abbrev pub retold_operand : (List ℕ → List ℕ) → Plain → Plain
retold_operand f (Text t) = Text (f t)
retold_operand f o = o

abbrev pub retold : (List ℕ → List ℕ) → PlainInst → PlainInst
retold f i = record { opcode = i.opcode; operands = map (retold_operand f) i.operands }
