-- What is told of bytes that are no words of a module. (Own.)
use Rattle.std.specs.Prelude.{◌++◌, ◌+◌, ◌*◌, ◌/◌, ◌%◌, ◌&&◌, ◌||◌, ℕ, List, Option, Some, None, Bool, codes}
use Rattle.std.specs.Prelude.{decimal, length}
use Rattle.std.specs.Prelude.{nat_eq, nat_le, nat_lt, slice_index, if◌then◌else◌}
use Rattle.spv_words.specs.Header.{magic_number}
use Rattle.spv_words.specs.Words.{word_of}
use Rattle.spv_words.specs.declared.words.Order.{Order}
use Rattle.spv_words.specs.declared.words.Order.TheVariants.{Little, Big}
use Rattle.spv_words.specs.declared.words.WordError.{WordError}
use Rattle.spv_words.specs.declared.words.WordError.TheVariants as code
use Rattle.spv_lines.specs.Digits.{hex_digits}
use Rattle.spv_facts.specs.declared.refused.Front.{Front}

-- word n of bytes in an order [2.3]
abbrev pub word_at : Order → List ℕ → ℕ → ℕ
word_at o bytes n = word_of o (slice_index bytes (4 * n)) (slice_index bytes (4 * n + 1))
    (slice_index bytes (4 * n + 2)) (slice_index bytes (4 * n + 3))

-- the order in which the first word is the magic number; the lowest byte first where it is that in neither [2.3]
abbrev pub order_of : List ℕ → Order
order_of bytes = if nat_eq (word_at Big bytes 0) magic_number then Big else Little

-- how many bytes there are, and what stands at the words of a header in that order [2.3]
abbrev pub front_in : Order → List ℕ → Front
front_in o bytes = record {
  size = length bytes;
  magic = word_at o bytes 0;
  version = word_at o bytes 1;
  bound = word_at o bytes 3;
  schema = word_at o bytes 4;
}

abbrev pub front_of : List ℕ → Front
front_of bytes = front_in (order_of bytes) bytes

-- `12 bytes`
abbrev pub size_text : ℕ → List ℕ
size_text n = decimal n ++ (if nat_eq n 1 then codes " byte" else codes " bytes")

-- `0x464c457f`
abbrev pub hex_text : ℕ → List ℕ
hex_text w = codes "0x" ++ hex_digits 8 w

-- the version word: 0, major number, minor number and 0, from its highest byte on [2.3]
abbrev pub is_version : ℕ → Bool
is_version w = nat_lt w 16777216 && nat_eq (w % 256) 0

abbrev pub major_of : ℕ → ℕ
major_of w = w / 65536

abbrev pub minor_of : ℕ → ℕ
minor_of w = w / 256 % 256

-- `version 1.4`, or the word where it is no version
abbrev pub version_text : ℕ → List ℕ
version_text w =
    if is_version w then codes "version " ++ decimal (major_of w) ++ codes "." ++ decimal (minor_of w) else hex_text w

-- is it one of the versions 1.0 to 1.5
abbrev pub is_earlier : ℕ → Bool
is_earlier w = is_version w && (nat_eq (major_of w) 1 && nat_lt (minor_of w) 6)

-- what is found in bytes that break a code: their number, the first word, the version, the schema, the bound
abbrev pub found_text : WordError → Front → Option (List ℕ)
found_text code.W2 f = Some (size_text f.size)
found_text code.W3 f = Some (size_text f.size)
found_text code.W4 f = Some (hex_text f.magic)
found_text code.W5 f = Some (version_text f.version)
found_text code.W6 f = Some (decimal f.schema)
found_text code.W7 f = Some (decimal f.bound)
found_text code.W8 f = Some (codes "more than 16777216 bytes")
found_text e f = None

-- how a module of an earlier version is read
abbrev pub version_help : ℕ → Option (List ℕ)
version_help w = if is_earlier w then Some (codes "--as-1.6 reads it as a module of version 1.6") else None

-- Is a word, the lowest byte first, that with which LLVM bitcode begins: `BC`, 0xC0 and 0xDE, or the magic number
-- 0x0B17C0DE of a wrapper? [LLVM Bitcode File Format]
abbrev pub is_bitcode : ℕ → Bool
is_bitcode w = nat_eq w 3737142082 || nat_eq w 186106078

-- May a byte be one of a text: a printing character of ASCII, a tab (9), a line feed (10) or a carriage return (13)?
-- Are all four of a word such bytes?
abbrev pub is_text_byte : ℕ → Bool
is_text_byte b = nat_le 32 b && nat_lt b 127 || (nat_eq b 9 || (nat_eq b 10 || nat_eq b 13))

abbrev pub is_text : ℕ → Bool
is_text w = is_text_byte (w % 256) && (is_text_byte (w / 256 % 256)
    && (is_text_byte (w / 65536 % 256) && is_text_byte (w / 16777216 % 256)))

-- what makes a module of bytes that begin with this word, the lowest byte first
abbrev pub source_help : ℕ → Option (List ℕ)
source_help w = if is_bitcode w then Some (codes "it begins as LLVM bitcode, of which llvm-spirv makes a module")
    else (if is_text w then Some (codes "it begins as a text, of which spv asm makes a module") else None)

-- how bytes are read, or made a module
abbrev pub help_text : WordError → Front → Option (List ℕ)
help_text code.W3 f = source_help f.magic
help_text code.W4 f = source_help f.magic
help_text code.W5 f = version_help f.version
help_text e f = None
