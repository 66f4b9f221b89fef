-- Opcodes that may come, told by the classes of the layout. (Own.)
use Rattle.std.specs.Prelude.{◌++◌, ℕ, List, [], ◌∷◌, Bool, true, false, codes, flat_map, nat_lt, if◌then◌else◌}
use Rattle.std.specs.List.{list_any}
use Rattle.std.specs.Str.{bytes_eq}
use Rattle.spv_layout.specs.Rows.{class_of}
use Rattle.spv_layout.specs.declared.class.Class.{Class}
use Rattle.spv_layout.specs.declared.class.Class.TheVariants as class

-- a class in words: a class of one opcode by its name, and those that end a block by the same words
abbrev pub class_text : Class → List ℕ
class_text class.Capability = codes "OpCapability"
class_text class.Extension = codes "OpExtension"
class_text class.Import = codes "OpExtInstImport"
class_text class.MemoryModel = codes "OpMemoryModel"
class_text class.EntryPoint = codes "OpEntryPoint"
class_text class.ExecutionMode = codes "OpExecutionMode"
class_text class.Source = codes "a source"
class_text class.Name = codes "a name"
class_text class.Processed = codes "OpModuleProcessed"
class_text class.Decoration = codes "a decoration"
class_text class.Declaration = codes "a type or constant"
class_text class.Variable = codes "a variable"
class_text class.Undef = codes "OpUndef"
class_text class.Function = codes "OpFunction"
class_text class.Parameter = codes "OpFunctionParameter"
class_text class.FunctionEnd = codes "OpFunctionEnd"
class_text class.Label = codes "OpLabel"
class_text class.Phi = codes "OpPhi"
class_text class.Body = codes "an instruction of a block"
class_text class.Branch = codes "the end of a block"
class_text class.BranchConditional = codes "the end of a block"
class_text class.Switch = codes "the end of a block"
class_text class.Return = codes "the end of a block"
class_text class.LoopMerge = codes "OpLoopMerge"
class_text class.SelectionMerge = codes "OpSelectionMerge"
class_text class.Line = codes "a line"
class_text class.Extended = codes "OpExtInst"
class_text class.Outside = codes "an opcode outside the profile"

-- the class of a number that may be an opcode
abbrev pub class_at : ℕ → Class
class_at opcode = if nat_lt opcode 65536 then class_of opcode else class.Outside

-- is a class told by the words of another: OpExtInst, where it may come in a block, by those of its instructions
abbrev pub sounds_as : Class → Class → Bool
sounds_as class.Extended class.Body = true
sounds_as c d = bytes_eq (class_text c) (class_text d)

-- classes with one more, unless one of them is told by the same words
abbrev pub with_class : List Class → Class → List Class
with_class cs c = if list_any (sounds_as c) cs then cs else cs ++ (c ∷ [])

-- these classes and those of opcodes, each once, in the order in which they first come
abbrev pub classes_from : List Class → List ℕ → List Class
classes_from cs [] = cs
classes_from cs (o ∷ os) = classes_from (with_class cs (class_at o)) os

-- ` a variable; OpUndef; OpFunction`
abbrev pub class_part : Class → List ℕ
class_part c = codes "; " ++ class_text c

abbrev pub class_parts : List Class → List ℕ
class_parts [] = []
class_parts (c ∷ cs) = codes " " ++ class_text c ++ flat_map class_part cs

abbrev pub later_end : Bool → List ℕ
later_end true = codes "; end of module"
later_end false = []

-- the classes of opcodes in words, and that the module may end
abbrev pub classes_text : List ℕ → Bool → List ℕ
classes_text opcodes end = class_parts (classes_from [] opcodes) ++ later_end end
