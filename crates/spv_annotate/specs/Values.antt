-- The decimal values of float constants. (Own.)
use Rattle.std.specs.Prelude.{◌≡◌, ◌<◌, ◌+◌, ◌-◌, ◌*◌, ◌/◌, ◌%◌, ◌||◌, ℕ, zero, suc, List, [], ◌∷◌, Option}
use Rattle.std.specs.Prelude.{◌++◌, Some, None, Bool, true, false, codes, nat_eq, nat_lt, if◌then◌else◌, nat_le}
use Rattle.std.specs.Prelude.{option_and_then, from_bits, length}
use Rattle.std.specs.List.{AllByRecursion}
use Rattle.std.specs.Float.{binary32, binary64}
use Rattle.ryu.specs.Parse.{parse_float}
use Rattle.spv_lines.specs.Digits.{hex_digits}
use Rattle.spv_module.specs.Operand.{Plain, OfType, Result, Word, Number, PlainInst}
use Rattle.spv_module.specs.declared.opcode.TheConstants.{CONSTANT, SPEC_CONSTANT, TYPE_FLOAT}
use Rattle.spv_annotate.specs.declared.values.Bits.{Bits}
use Rattle.spv_annotate.specs.declared.values.Bits.TheVariants.{Half, Single, Double}
use Rattle.spv_annotate.specs.Module.{defined_by, inst_at}

-- the width that operands of an OpTypeFloat tell [3.49.6]
abbrev pub width_in : List Plain → Option ℕ
width_in (Result x ∷ Word w ∷ os) = Some w
width_in _ = None

abbrev pub float_width : PlainInst → Option ℕ
float_width i = if nat_eq i.opcode TYPE_FLOAT then width_in i.operands else None

-- a fraction of ten bits, below one, doubled until it is one or more, and the exponent, one less each time: the bits of
-- a single float
unfoldable pub raised : ℕ → ℕ → ℕ → ℕ
raised zero e m = e * 8388608 + (m % 1024) * 8192
raised (suc left) e m = if nat_le 1024 m then e * 8388608 + (m % 1024) * 8192 else raised left (e - 1) (2 * m)

-- the size of a half float, of fifteen bits, as a single float
abbrev pub widened_size : ℕ → ℕ
widened_size h =
    if nat_eq h 0 then 0
    else (if nat_eq (h / 1024) 0 then raised 10 113 h
    else (if nat_eq (h / 1024) 31 then 2139095040 + (h % 1024) * 8192
    else (h / 1024 + 112) * 8388608 + (h % 1024) * 8192))

-- a half float of sixteen bits as a single one of the same value
abbrev pub widened : ℕ → ℕ
widened h = (h / 32768 % 2) * 2147483648 + widened_size (h % 32768)

-- the bits of a float of a width, by its low and high word; nothing is told of other widths
abbrev pub bits_of : ℕ → ℕ → ℕ → Option Bits
bits_of low high w =
    if nat_eq w 16 then Some (Half (low % 65536))
    else (if nat_eq w 32 then Some (Single low)
    else (if nat_eq w 64 then Some (Double (low + 4294967296 * high)) else None))

-- the bits of the float that operands of an OpConstant or OpSpecConstant are [3.49.7]
abbrev pub float_in : List PlainInst → List Plain → Option Bits
float_in is (OfType t ∷ Result r ∷ Number low high words ∷ os) =
    option_and_then (bits_of low high) (float_width (defined_by is t))
float_in is _ = None

-- the bits of a float constant
abbrev pub float_of : List PlainInst → PlainInst → Option Bits
float_of is i = if nat_eq i.opcode CONSTANT || nat_eq i.opcode SPEC_CONSTANT then float_in is i.operands else None

-- are bits those of no number: each bit of the exponent is 1, and one of the fraction (IEEE 754, 3.4)
abbrev pub is_nan : Bits → Bool
is_nan (Half n) = nat_lt 31744 (n % 32768)
is_nan (Single n) = nat_lt 2139095040 (n % 2147483648)
is_nan (Double n) = nat_lt 9218868437227405312 (n % 9223372036854775808)

-- bits in hexadecimal, in as many digits as the width has, of a double float its high word first
abbrev pub hex_of : Bits → List ℕ
hex_of (Half n) = hex_digits 4 n
hex_of (Single n) = hex_digits 8 n
hex_of (Double n) = hex_digits 8 (n / 4294967296) ++ hex_digits 8 (n % 4294967296)

-- A text reads back as a float.
abbrev pub ReadsBack : Bits → List ℕ → Type 0
ReadsBack (Half n) t = parse_float binary32 t ≡ Some (from_bits binary32 (widened n))
ReadsBack (Single n) t = parse_float binary32 t ≡ Some (from_bits binary32 n)
ReadsBack (Double n) t = parse_float binary64 t ≡ Some (from_bits binary64 n)

-- A text is the value of a float, in letters, digits and signs; or of one that is no number, which has none, its bits.
abbrev pub IsValueOf : Bool → Bits → List ℕ → Type 0
IsValueOf true b t = t ≡ codes "NaN 0x" ++ hex_of b
IsValueOf false b t = ReadsBack b t × AllByRecursion (λ c. 32 < c) t

-- The same of a float, if there is one; and nothing, where there is none.
abbrev pub IsValue : Option Bits → List ℕ → Type 0
IsValue None t = t ≡ []
IsValue (Some b) t = IsValueOf (is_nan b) b t

-- The texts are the values of the float constants, by the numbers of their instructions.
abbrev pub AreValues : List PlainInst → (ℕ → List ℕ) → Type 0
AreValues is values = (n : ℕ) → n < length is → IsValue (float_of is (inst_at is n)) (values n)
