-- The operands of declarations and constants. (For the code alone.)
use Rattle.std.specs.Prelude.{ℕ, List, [], ◌∷◌, Option, Some, None}
use Rattle.spv_module.specs.Operand.{Plain, Result, Id, Word, Number, Value}

-- of an OpTypeInt, its width and signedness
abbrev pub int_in : List Plain → Option (ℕ × ℕ)
int_in (Result t ∷ Word w ∷ Word s ∷ []) = Some (w, s)
int_in _ = None

-- of an OpTypeFloat, its width
abbrev pub float_in : List Plain → Option ℕ
float_in (Result t ∷ Word w ∷ []) = Some w
float_in _ = None

-- of an OpTypeVector, its component type and count
abbrev pub vector_in : List Plain → Option (ℕ × ℕ)
vector_in (Result t ∷ Id c ∷ Word m ∷ []) = Some (c, m)
vector_in _ = None

-- of an OpTypeArray, its element type and length
abbrev pub array_in : List Plain → Option (ℕ × ℕ)
array_in (Result t ∷ Id e ∷ Id l ∷ []) = Some (e, l)
array_in _ = None

-- of an OpTypePointer, what it points to
abbrev pub pointee_in : List Plain → Option ℕ
pointee_in (Result t ∷ Value j class ∷ Id p ∷ []) = Some p
pointee_in _ = None

-- of an OpTypeForwardPointer, the pointer and its storage class
abbrev pub forward_in : List Plain → Option (ℕ × ℕ)
forward_in (Id p ∷ Value j class ∷ []) = Some (p, class)
forward_in _ = None

-- of an OpTypeSampledImage, the image type
abbrev pub image_type_in : List Plain → Option ℕ
image_type_in (Result t ∷ Id i ∷ []) = Some i
image_type_in _ = None

-- of an OpTypeStruct, its members
abbrev pub members_in : List Plain → Option (List Plain)
members_in (Result t ∷ os) = Some os
members_in _ = None

-- of an OpTypeFunction, its return type and parameters
abbrev pub signature_in : List Plain → Option (ℕ × List Plain)
signature_in (Result t ∷ Id r ∷ os) = Some (r, os)
signature_in _ = None

-- of an OpConstant, the low word, by what follows its type and its result
abbrev pub low_in : List Plain → Option ℕ
low_in (Number low high words ∷ []) = Some low
low_in _ = None

-- of an OpConstantSampler, what tells whether its coordinates are normalized, by what follows its type and its result
abbrev pub normalized_in : List Plain → Option ℕ
normalized_in (Value a mode ∷ Word n ∷ Value f filter ∷ []) = Some n
normalized_in _ = None
