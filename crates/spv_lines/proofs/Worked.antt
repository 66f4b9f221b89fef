-- Worked examples under a small table.
use Rattle.std.proofs.Common.{◌≡◌, ◌≢◌, ◌++◌, ◌<◌, ◌&&◌, ℕ, List, [], ◌∷◌, Option, Some, None, Bool, true, false, refl}
use Rattle.std.proofs.Common.{sym, arith, map, ap, inr}
use Rattle.std.specs.Prelude.{codes, decimal, nat_eq, IsUtf8}
use Rattle.std.proofs.lemmas.Bool.Decides.{nat_tests}
use Rattle.std.specs.Fmt.{digits}
use Rattle.std.specs.List.{AllByRecursion, list_all}
use Rattle.spv_table.specs.Table.{pattern_of}
use Rattle.spv_table.specs.Lookups.{value_named, opcode_named}
use Rattle.spv_module.specs.declared.opcode.TheConstants.{SWITCH}
use Rattle.spv_module.specs.Operand.{OfType, Result, Id, Word, Number, Text, Mask, start}
use Rattle.spv_module.specs.Shape.{alone, shape_of}
use Rattle.spv_module.specs.Spelling.{Takes, HoldsText, mask_parameters}
use Rattle.spv_inst.specs.Flat.{due}
use Rattle.spv_module.specs.Example.{load_entry, string_entry, switch_entry, access, small, load, string, long_value}
use Rattle.spv_module.specs.Example.{switch}
use Rattle.spv_inst.proofs.Worked.{string_listed}
use Rattle.spv_lines.specs.declared.asm_error.AsmCode.TheVariants.{S1, S2, S3, S4}
use Rattle.spv_lines.specs.Digits.{hex_digits}
use Rattle.spv_lines.specs.Name.{is_plain, is_name_octet, Names, NamesMask, joined, AreNamesOf, mask_values, shown_mask}
use Rattle.spv_lines.specs.Operand.{Shown, IsRead, number_text}
use Rattle.spv_lines.specs.Written.{Piece, Written}
use Rattle.spv_lines.specs.Line.{IsShownLine, IsReadLine, IsInstName}
use Rattle.spv_lines.specs.Text.{IsShownText, ShownLines, IsReadText}
use Rattle.spv_lines.specs.Fault.{IsFailure, LineFails, HeaderLine, IsHeaderLine, line_at, number_of, ResultFails}
use Rattle.spv_lines.specs.Example.{small_header, string_text}
use Rattle.spv_lines.proofs.Tokens.{names_same, masks_same}
use Rattle.spv_lines.proofs.Once.{line_once}
use Rattle.spv_lines.proofs.Showing.{text_back}

pub volatile : Names (value_named access) 1 (codes "Volatile")
volatile = Names.named (codes "Volatile") (record { plain = refl; found = refl })

pub numbered_one : Names (value_named access) 1 (codes "#1")
unfolding digits
numbered_one = Names.numbered

pub both_named : NamesMask (value_named access) 3 (codes "Volatile|Aligned")
both_named = NamesMask.named (codes "Volatile" ∷ codes "Aligned" ∷ [])
    (record { plain = refl; found = refl }, (record { plain = refl; found = refl }, tt))

pub both_numbered : NamesMask (value_named access) 3 (codes "#3")
unfolding digits
both_numbered = NamesMask.numbered

abc : HoldsText (6513249 ∷ []) (codes "abc") []
abc = record {
  words = (omega arith, tt);
  octets = refl;
  no_zero = (λ e. omega arith, (λ e. omega arith, (λ e. omega arith, tt)));
  short = omega arith;
}

abc_text : IsUtf8 (codes "abc")
unfolding lib.Utf8.encode
abc_text = (codes "abc", (refl, refl))

apart : (a b : ℕ) → nat_eq a b ≡ false → a ≡ b → ⊥
apart a b h e = grind (arith, nat_tests)

-- the text of a mask is told by its names
wrong_names : (x : ℕ) (t : List ℕ) → x < 4294967296 → NamesMask (value_named access) x t → (us : List (List ℕ))
    → t ≡ joined us → (ys : List ℕ) → AreNamesOf (value_named access) ys us → ys ≢ mask_values x → ⊥
wrong_names x _ h (NamesMask.named ts n) us e ys m d =
    let f = Rattle.spv_lines.proofs.Tokens.joined_same (value_named access) (mask_values x) ys ts us n m e in
    d (sym (Rattle.spv_lines.proofs.Tokens.found_same (value_named access) (mask_values x) ys ts us n m f))
wrong_names x _ h NamesMask.numbered us e ys m d =
    Rattle.spv_lines.proofs.Tokens.no_number (value_named access) ys us (decimal x) m (sym e)

first_two : (xs : List ℕ) → 2 ∷ 1 ∷ [] ≡ 1 ∷ xs → ⊥
first_two xs e = let z : 2 ≡ 1 = cc in apart 2 1 refl z

pub wrong_order : NamesMask (value_named access) 3 (codes "Aligned|Volatile") → ⊥
wrong_order n =
    wrong_names 3 (codes "Aligned|Volatile") (omega arith) n (codes "Aligned" ∷ codes "Volatile" ∷ []) refl (2 ∷ 1 ∷ [])
    (record { plain = refl; found = refl }, (record { plain = refl; found = refl }, tt)) (first_two (2 ∷ []))

pub shown_none : shown_mask access 0 ≡ codes "#0"
unfolding digits
shown_none = refl

pub hexadecimal : hex_digits 8 1065353216 ≡ codes "3f800000"
unfolding hex_digits
hexadecimal = refl

pub wide_hexadecimal : number_text true 0 1072693248 2 ≡ codes "0x3ff0000000000000"
unfolding hex_digits
wide_hexadecimal = refl

pub wide_decimal : number_text false 7 1 2 ≡ codes "4294967303"
unfolding digits
wide_decimal = refl

load_operands : Written (Shown small) small (Some 9) (start [] 61) (map due (pattern_of load_entry)) load.operands
    (2 ∷ 9 ∷ 8 ∷ 3 ∷ 4 ∷ []) (codes " %2 %8 Volatile|Aligned 4")
unfolding shape_of mask_parameters digits
load_operands =
    Written.take _ _ _ (OfType 2) (2 ∷ []) [] (codes " %2") _ _ _ (Takes.result_type 2)
    (Piece.other (OfType 2) (codes "%2") refl refl) (
    Written.take _ _ _ (Result 9) (9 ∷ []) [] [] _ _ _ (Takes.result 9) (Piece.result 9 refl refl) (
    Written.take _ _ _ (Id 8) (8 ∷ []) [] (codes " %8") _ _ _ (Takes.id 8) (Piece.other (Id 8) (codes "%8") refl refl) (
    Written.maybe _ _ _ _ 3 (4 ∷ []) _ (
    Written.take _ _ _ (Mask 3 3) (3 ∷ []) (alone 4 ∷ []) (codes " Volatile|Aligned") _ _ _
    (Takes.mask access 3 (4 ∷ []) refl) (Piece.other (Mask 3 3) (codes "Volatile|Aligned") refl refl) (
    Written.take _ _ _ (Word 4) (4 ∷ []) [] (codes " 4") _ _ _ (Takes.word 4)
    (Piece.other (Word 4) (codes "4") refl refl) (
    Written.end _))))))

pub load_shown : IsShownLine small [] load (2 ∷ 9 ∷ 8 ∷ 3 ∷ 4 ∷ []) (codes "%9 = OpLoad %2 %8 Volatile|Aligned 4")
unfolding digits
load_shown = record {
  entry = load_entry;
  operands = codes " %2 %8 Volatile|Aligned 4";
  known = refl;
  written = load_operands;
  all = refl;
}

differ : codes "%9 = OpLoad %2 %8 Volatile|Aligned 4" ≡ codes "%9 = OpLoad %2 %8 #3 4" → ⊥
differ e = let f : 86 ≡ 35 = ap (λ t. Rattle.std.specs.Prelude.slice_index t 18) e in apart 86 35 refl f

pub load_numbered : IsShownLine small [] load (2 ∷ 9 ∷ 8 ∷ 3 ∷ 4 ∷ []) (codes "%9 = OpLoad %2 %8 #3 4") → ⊥
load_numbered h = differ (line_once small [] load (2 ∷ 9 ∷ 8 ∷ 3 ∷ 4 ∷ []) (2 ∷ 9 ∷ 8 ∷ 3 ∷ 4 ∷ [])
    (codes "%9 = OpLoad %2 %8 Volatile|Aligned 4") (codes "%9 = OpLoad %2 %8 #3 4") load_shown h)

numbered_operands : Written (IsRead small) small (Some 9) (start [] 61) (map due (pattern_of load_entry)) load.operands
    (2 ∷ 9 ∷ 8 ∷ 3 ∷ 4 ∷ []) (codes " %2 %8 #3 4")
unfolding shape_of mask_parameters digits
numbered_operands =
    Written.take _ _ _ (OfType 2) (2 ∷ []) [] (codes " %2") _ _ _ (Takes.result_type 2)
    (Piece.other (OfType 2) (codes "%2") refl refl) (
    Written.take _ _ _ (Result 9) (9 ∷ []) [] [] _ _ _ (Takes.result 9) (Piece.result 9 refl refl) (
    Written.take _ _ _ (Id 8) (8 ∷ []) [] (codes " %8") _ _ _ (Takes.id 8) (Piece.other (Id 8) (codes "%8") refl refl) (
    Written.maybe _ _ _ _ 3 (4 ∷ []) _ (
    Written.take _ _ _ (Mask 3 3) (3 ∷ []) (alone 4 ∷ []) (codes " #3") _ _ _ (Takes.mask access 3 (4 ∷ []) refl)
    (Piece.other (Mask 3 3) (codes "#3") refl both_numbered) (
    Written.take _ _ _ (Word 4) (4 ∷ []) [] (codes " 4") _ _ _ (Takes.word 4)
    (Piece.other (Word 4) (codes "4") refl refl) (
    Written.end _))))))

pub load_read : IsReadLine small [] load (2 ∷ 9 ∷ 8 ∷ 3 ∷ 4 ∷ []) (codes "%9 = #61 %2 %8 #3 4")
unfolding digits
load_read = record {
  parts = record { result = Some (codes "%9"); name = codes "#61"; operands = codes " %2 %8 #3 4" };
  entry = load_entry;
  divided = refl;
  name = record { named = Names.numbered; known = refl; range = omega arith };
  result = refl;
  written = numbered_operands;
  small = (omega arith, (omega arith, (omega arith, (omega arith, (omega arith, tt)))));
}

switch_operands : Written (Shown small) small None (start long_value SWITCH)
    (map due (pattern_of switch_entry)) switch.operands (2 ∷ 10 ∷ 7 ∷ 1 ∷ 11 ∷ []) (codes " %2 %10 4294967303 %11")
unfolding shape_of digits
switch_operands =
    Written.take _ _ _ (Id 2) (2 ∷ []) [] (codes " %2") _ _ _ (Takes.id 2) (Piece.other (Id 2) (codes "%2") refl refl) (
    Written.take _ _ _ (Id 10) (10 ∷ []) [] (codes " %10") _ _ _ (Takes.id 10)
    (Piece.other (Id 10) (codes "%10") refl refl) (
    Written.many _ _ _ _ 7 (1 ∷ 11 ∷ []) _ (
    Written.parts _ _ _ (record { kind = 4; paired = true } ∷ record { kind = 2; paired = true } ∷ []) _ _ _ refl (
    Written.take _ _ _ (Number 7 1 2) (7 ∷ 1 ∷ []) [] (codes " 4294967303") _ _ _ (Takes.wide 64 7 1 (omega arith))
    (Piece.other (Number 7 1 2) (codes "4294967303") refl refl) (
    Written.take _ _ _ (Id 11) (11 ∷ []) [] (codes " %11") _ _ _ (Takes.id 11)
    (Piece.other (Id 11) (codes "%11") refl refl) (
    Written.no_many _ _ _ _ _ (Written.end _)))))))

pub switch_shown : IsShownLine small long_value switch (2 ∷ 10 ∷ 7 ∷ 1 ∷ 11 ∷ [])
    (codes "OpSwitch %2 %10 4294967303 %11")
unfolding digits
switch_shown = record {
  entry = switch_entry;
  operands = codes " %2 %10 4294967303 %11";
  known = refl;
  written = switch_operands;
  all = refl;
}

string_operands : Written (Shown small) small (Some 5) (start [] 7) (map due (pattern_of string_entry)) string.operands
    (5 ∷ 6513249 ∷ []) (codes " \"abc\"")
unfolding shape_of
string_operands =
    Written.take _ _ _ (Result 5) (5 ∷ []) [] [] _ _ _ (Takes.result 5) (Piece.result 5 refl refl) (
    Written.take _ _ _ (Text (codes "abc")) (6513249 ∷ []) [] (codes " \"abc\"") _ _ _
    (Takes.text (codes "abc") (6513249 ∷ []) [] abc tt abc_text)
    (Piece.other (Text (codes "abc")) (codes "\"abc\"") refl refl) (
    Written.end _))

string_shown : IsShownLine small [] string (5 ∷ 6513249 ∷ []) (codes "%5 = OpString \"abc\"")
unfolding digits
string_shown = record {
  entry = string_entry;
  operands = codes " \"abc\"";
  known = refl;
  written = string_operands;
  all = refl;
}

pub text_shown : IsShownText small small_header (string ∷ []) string_text
unfolding digits
text_shown = record {
  lines = codes "%5 = OpString \"abc\"" ∷ [];
  shown = ShownLines.more [] string [] (5 ∷ 6513249 ∷ []) (codes "%5 = OpString \"abc\"") [] string_shown
      (ShownLines.end _);
  all = refl;
}

pub text_read : IsReadText small small_header (string ∷ []) (196615 ∷ 5 ∷ 6513249 ∷ []) string_text
text_read =
    text_back small small_header (string ∷ []) (196615 ∷ 5 ∷ 6513249 ∷ []) string_text text_shown string_listed
    (omega arith, (omega arith, (omega arith, tt)))
    (record { version = refl; bound_least = omega arith; bound_most = omega arith; schema = refl }) (omega arith)
    (omega arith)

no_line : (o : Option (List ℕ)) (t : List ℕ) → o ≡ None → o ≡ Some t → ⊥
no_line o t e f = cc

pub empty_fails : IsFailure small [] S1 1
empty_fails = IsFailure.header S1 1 (record {
  line = HeaderLine.Magic;
  number = refl;
  before = λ other h. none_before other h;
  wrong = λ e. no_line None (codes "; SPIR-V") refl e;
  code_is = inr (refl, λ e. e);
})
  where
    none_before : (p : HeaderLine) → number_of p < 1 → IsHeaderLine p (line_at [] p)
    none_before HeaderLine.Magic h = absurd (omega arith)
    none_before HeaderLine.Version h = absurd (omega arith)
    none_before HeaderLine.Generator h = absurd (omega arith)
    none_before HeaderLine.Bound h = absurd (omega arith)
    none_before HeaderLine.Schema h = absurd (omega arith)

-- `Volatile|#2` has a `#`, which no name has
not_hash : (b : ℕ) → is_name_octet b ≡ true → b ≢ 35
not_hash b h = grind (arith, nat_tests)

and_both : (a b : Bool) → (a && b) ≡ true → (a ≡ true) × (b ≡ true)
and_both true b h = (refl, h)
and_both false b h = cc

octets_free : (t : List ℕ) → list_all is_name_octet t ≡ true → AllByRecursion (λ b. b ≢ 35) t
octets_free [] h = tt
octets_free (b ∷ t) h = let r = and_both (is_name_octet b) (list_all is_name_octet t) h in
    (not_hash b r.0, octets_free t r.1)

plain_free : (t : List ℕ) → is_plain t ≡ true → AllByRecursion (λ b. b ≢ 35) t
plain_free [] h = tt
plain_free (b ∷ t) h = octets_free (b ∷ t) h

free-append : (t u : List ℕ) → AllByRecursion (λ b. b ≢ 35) t → AllByRecursion (λ b. b ≢ 35) u
    → AllByRecursion (λ b. b ≢ 35) (t ++ u)
free-append [] u h g = g
free-append (x ∷ t) u h g = (h.0, free-append t u h.1 g)

joined_free : (xs : List ℕ) (ts : List (List ℕ)) → AreNamesOf (value_named access) xs ts
    → AllByRecursion (λ b. b ≢ 35) (joined ts)
joined_free [] [] h = tt
joined_free [] (t ∷ ts) h = absurd h
joined_free (x ∷ xs) [] h = absurd h
joined_free (x ∷ []) (t ∷ []) h = plain_free t h.0.plain
joined_free (x ∷ []) (t ∷ u ∷ ts) h = absurd h.1
joined_free (x ∷ y ∷ xs) (t ∷ []) h = absurd h.1
joined_free (x ∷ y ∷ xs) (t ∷ u ∷ ts) h =
    free-append t (124 ∷ joined (u ∷ ts)) (plain_free t h.0.plain)
    ((λ e. apart 124 35 refl e), joined_free (y ∷ xs) (u ∷ ts) h.1)

hash_free : (t u v : List ℕ) → AllByRecursion (λ b. b ≢ 35) t → t ≡ u ++ (35 ∷ v) → ⊥
hash_free [] [] v h e = cc
hash_free [] (y ∷ u) v h e = cc
hash_free (x ∷ t) [] v h e = let z : x ≡ 35 = cc in h.0 z
hash_free (x ∷ t) (y ∷ u) v h e = let f : t ≡ u ++ (35 ∷ v) = cc in hash_free t u v h.1 f

no_hash : (x : ℕ) (t u v : List ℕ) (b : ℕ) → NamesMask (value_named access) x t → t ≡ (b ∷ u) ++ (35 ∷ v) → b ≢ 35 → ⊥
no_hash x _ u v b (NamesMask.named ts n) e d = hash_free (joined ts) (b ∷ u) v (joined_free (mask_values x) ts n) e
no_hash x _ u v b NamesMask.numbered e d = let z : 35 ≡ b = cc in d (sym z)

pub wrong_part : NamesMask (value_named access) 3 (codes "Volatile|#2") → ⊥
wrong_part n = no_hash 3 (codes "Volatile|#2") (codes "olatile|") (codes "2") 86 n refl (λ e. apart 86 35 refl e)

-- a line without ` = `, and lines with a wrong name or result
load_name : IsInstName small (codes "OpLoad") 61 load_entry
load_name = record {
  named = Names.named (codes "OpLoad") (record { plain = refl; found = refl });
  known = refl;
  range = omega arith;
}

pub missing_fails : LineFails small [] 5 (codes "OpLoad %2 %8") S3
unfolding shape_of
missing_fails = LineFails.result (record { result = None; name = codes "OpLoad"; operands = codes " %2 %8" }) 61
    load_entry S3 refl load_name (ResultFails.missing refl)

pub large_fails : LineFails small [] 5 (codes "%4294967296 = OpLoad %2") S4
unfolding shape_of
large_fails = LineFails.result (record {
  result = Some (codes "%4294967296");
  name = codes "OpLoad";
  operands = codes " %2";
}) 61 load_entry S4 refl load_name
    (ResultFails.large (codes "4294967296") refl (record { number = refl; large = omega arith }))

wrong_name : (opcode : ℕ) (t : List ℕ) → Names (opcode_named small.entries) opcode t → t ≡ codes "OpLoa" → ⊥
wrong_name opcode _ (Names.named t n) e =
    let a = n.found in
    let b : opcode_named small.entries (codes "OpLoa") ≡ Some opcode = rw e at a in
    let d : None ≡ Some opcode = b in
    cc
wrong_name opcode _ Names.numbered e = let z : 35 ≡ 79 = cc in apart 35 79 refl z

pub name_fails : LineFails small [] 5 (codes "OpLoa %2") S2
name_fails = LineFails.name (record { result = None; name = codes "OpLoa"; operands = codes " %2" }) refl
    (λ opcode entry n. wrong_name opcode (codes "OpLoa") n.named refl)

pub equals_fails : LineFails small [] 5 (codes "%9 OpLoad") S2
equals_fails = LineFails.undivided refl
