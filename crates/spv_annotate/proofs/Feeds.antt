-- Texts without a line feed.
use Rattle.std.proofs.Common.{◌≡◌, ◌≢◌, ◌/◌, ◌%◌, ◌++◌, ℕ, zero, suc, List, [], ◌∷◌, Option, Some, None, Bool, true}
use Rattle.std.proofs.Common.{false, refl, ap, arith, subst, length, take, drop}
use Rattle.std.specs.Prelude.{codes, decimal, if◌then◌else◌, nat_eq, nat_le, nat_lt, slice_get, unwrap_or}
use Rattle.std.specs.List.{flat_map, onto_first}
use Rattle.std.proofs.lemmas.Bool.Decides.{nat_tests}
use Rattle.spv_table.specs.Lookups.{is_number}
use Rattle.spv_module.specs.Operand.{PlainInst, result_in}
use Rattle.spv_module.specs.declared.opcode.TheConstants.{LABEL, NAME}
use Rattle.spv_lines.specs.Digits.{hex_digit}
use Rattle.spv_lines.specs.Operand.{id_text}
use Rattle.spv_lines.specs.Text.{lines_of}
use Rattle.spv_lines.proofs.Back.{NoFeed, feedless-append, tame_feedless}
use Rattle.spv_lines.proofs.Showing.{AreLines}
use Rattle.spv_lines.specs.Plain as plain
use Rattle.spv_lines.specs.Plain.{is_control, is_late_control, plain_byte, plain_of}
use Rattle.spv_layout.specs.Place.{first_word_of}
use Rattle.spv_annotate.specs.declared.opencl.TheConstants.{OPENCL}
use Rattle.spv_annotate.specs.declared.values.Bits.{Bits}
use Rattle.spv_extended.specs.declared.call.Call.{Call}
use Rattle.spv_extended.specs.declared.set.Set.{Set}
use Rattle.spv_extended.specs.declared.set.Set.TheVariants.{OpenClStd, OpenClDebugInfo, DebugInfo, Other}
use Rattle.spv_annotate.specs.Called.{called_by, ids_of}
use Rattle.spv_annotate.specs.Module.{definition_of, inst_at, name_by, naming_of, predecessors}
use Rattle.spv_annotate.specs.Notes.{block_note, call_name, call_note, call_text, column, comment, cut_at, each_once}
use Rattle.spv_annotate.specs.Notes.{from_note, from_text, gap, entry_named, name_note, name_unless, name_notes}
use Rattle.spv_annotate.specs.Notes.{name_text, note, notes, opencl_lines, opencl_name, place_text, short_name}
use Rattle.spv_annotate.specs.Notes.{told_most}
use Rattle.spv_annotate.specs.Values.{IsValue, IsValueOf, hex_of, is_nan}
use Rattle.spv_annotate.specs.declared.values.Bits.TheVariants.{Half, Single, Double}
use Rattle.spv_annotate.proofs.Inks.{AreInk, hex_ink}
use Rattle.spv_lines.specs.Digits.{hex_digits}
use Rattle.spv_annotate.proofs.Texts.{decimal_feedless, id_feedless, no_feed_by}

-- Texts without control characters.

hex_feedless : (d : ℕ) → hex_digit d ≢ 10
hex_feedless d e = grind (arith, nat_tests)

escaped_feedless : (b : ℕ) (t : List ℕ) → NoFeed t → NoFeed (plain.escaped b ++ t)
escaped_feedless b t h = ((λ e. omega arith), ((λ e. omega arith), (hex_feedless (b / 16), (hex_feedless (b % 16), h))))

byte_feedless : (b : ℕ) (t : List ℕ) → NoFeed t → NoFeed (plain_byte b ++ t)
byte_feedless b t h = split (is_control b) refl
  where
    split : (c : Bool) → is_control b ≡ c → NoFeed (plain_byte b ++ t)
    split true e = rw e (escaped_feedless b t h)
    split false e = rw e ((λ f. grind (arith, nat_tests)), h)

append_nothing : (xs : List ℕ) → xs ++ [] ≡ xs
append_nothing [] = refl
append_nothing (x ∷ xs) = ap (λ ys. x ∷ ys) (append_nothing xs)

pub plain_feedless : (t : List ℕ) → NoFeed (plain_of t)
plain_feedless [] = tt
plain_feedless (a ∷ []) = subst (λ (t : List ℕ). NoFeed t) (append_nothing (plain_byte a)) (byte_feedless a [] tt)
plain_feedless (a ∷ b ∷ text) = split (is_late_control a b) (plain_feedless text) (plain_feedless (b ∷ text))
  where
    split : (l : Bool) → NoFeed (plain_of text) → NoFeed (plain_of (b ∷ text))
        → NoFeed (if l then plain.escaped a ++ (plain.escaped b ++ plain_of text) else plain_byte a
        ++ plain_of (b ∷ text))
    split true h g = escaped_feedless a (plain.escaped b ++ plain_of text) (escaped_feedless b (plain_of text) h)
    split false h g = byte_feedless a (plain_of (b ∷ text)) g

-- Lines of a text.

onto_lines : (b : ℕ) (ls : List (List ℕ)) → b ≢ 10 → AreLines ls → AreLines (onto_first b ls)
onto_lines b [] n h = ((n, tt), tt)
onto_lines b (l ∷ ls) n h = ((n, h.0), h.1)

pub lines_feedless : (t : List ℕ) → AreLines (lines_of t)
lines_feedless [] = tt
lines_feedless (b ∷ t) = split (nat_eq b 10) refl (lines_feedless t)
  where
    split : (z : Bool) → nat_eq b 10 ≡ z → AreLines (lines_of t) → AreLines (lines_of (b ∷ t))
    split true e h = rw e (tt, h)
    split false e h = rw e (onto_lines b (lines_of t) (λ f. grind (arith, nat_tests)) h)

line_feedless : (ls : List (List ℕ)) (k : ℕ) → AreLines ls → NoFeed (unwrap_or (slice_get ls k) [])
line_feedless [] zero h = tt
line_feedless [] (suc k) h = tt
line_feedless (l ∷ ls) zero h = h.0
line_feedless (l ∷ ls) (suc k) h = line_feedless ls k h.1

-- Notes.

note_feedless : (t : List ℕ) → NoFeed t → NoFeed (note t)
note_feedless [] h = tt
note_feedless (b ∷ t) h = ((λ e. omega arith), ((λ e. omega arith), h))

flat_feedless : {A : Type 0} (f : A → List ℕ) (xs : List A) → ((x : A) → NoFeed (f x)) → NoFeed (flat_map f xs)
flat_feedless f [] h = tt
flat_feedless f (x ∷ xs) h = feedless-append (f x) (flat_map f xs) (h x) (flat_feedless f xs h)

name_feedless : (t : List ℕ) → NoFeed (short_name t)
name_feedless t = split (told_most t) (nat_le (length t) (told_most t))
  where
    split : (k : ℕ) (z : Bool) → NoFeed (if z then plain_of t else plain_of (take (cut_at t k) t) ++ codes "..")
    split k true = plain_feedless t
    split k false = feedless-append (plain_of (take (cut_at t k) t)) (codes "..") (plain_feedless (take (cut_at t k) t))
        (no_feed_by (codes "..") refl)

name_note_feedless : (is : List PlainInst) (x : ℕ) (o : Option ℕ) → NoFeed (name_text is x o)
name_note_feedless is x None = tt
name_note_feedless is x (Some n) =
    feedless-append (codes ", " ++ id_text x) (32 ∷ short_name (name_by (inst_at is n)))
    (feedless-append (codes ", ") (id_text x) (no_feed_by (codes ", ") refl) (id_feedless x))
    ((λ e. omega arith), name_feedless (name_by (inst_at is n)))

names_feedless : (is : List PlainInst) (i : PlainInst) → NoFeed (name_notes is i)
names_feedless is i = split (nat_eq i.opcode NAME)
  where
    unless : (x : ℕ) (z : Bool) → NoFeed (if z then [] else name_note is x)
    unless x true = tt
    unless x false = name_note_feedless is x (naming_of is x)

    split : (z : Bool)
        → NoFeed (if z then [] else flat_map (name_unless is (entry_named is i)) (each_once (ids_of is i)))
    split true = tt
    split false = flat_feedless (name_unless is (entry_named is i)) (each_once (ids_of is i))
        (λ x. unless x (is_number x (entry_named is i)))

opencl_feedless : (k : ℕ) → NoFeed (opencl_name k)
unfolding opencl_lines
opencl_feedless k = line_feedless opencl_lines k (lines_feedless OPENCL.now)

named_feedless : (s : Set) (k : ℕ) → NoFeed (call_name s k)
named_feedless OpenClStd k = note_feedless (opencl_name k) (opencl_feedless k)
named_feedless OpenClDebugInfo k = tt
named_feedless DebugInfo k = tt
named_feedless Other k = tt

called_feedless : (o : Option Call) → NoFeed (call_text o)
called_feedless None = tt
called_feedless (Some c) = named_feedless c.set c.number

call_feedless : (is : List PlainInst) (i : PlainInst) → NoFeed (call_note is i)
call_feedless is i = called_feedless (called_by is i)

from_feedless : (ys : List ℕ) → NoFeed (from_text ys)
from_feedless [] = tt
from_feedless (y ∷ ys) =
    feedless-append (codes ", from") (flat_map (λ x. 32 ∷ id_text x) (y ∷ ys)) (no_feed_by (codes ", from") refl)
    (flat_feedless (λ x. 32 ∷ id_text x) (y ∷ ys) (λ x. ((λ e. omega arith), id_feedless x)))

from_note_feedless : (is : List PlainInst) (n : ℕ) (o : Option ℕ) → NoFeed (from_note is n o)
from_note_feedless is n None = tt
from_note_feedless is n (Some x) = split (is_number n (definition_of is x))
  where
    split : (z : Bool) → NoFeed (if z then from_text (predecessors is x) else [])
    split true = from_feedless (predecessors is x)
    split false = tt

block_feedless : (is : List PlainInst) (n : ℕ) (i : PlainInst) → NoFeed (block_note is n i)
block_feedless is n i = split (nat_eq i.opcode LABEL)
  where
    split : (z : Bool) → NoFeed (if z then from_note is n (result_in i.operands) else [])
    split true = from_note_feedless is n (result_in i.operands)
    split false = tt

ink_feedless : (t : List ℕ) → AreInk t → NoFeed t
ink_feedless [] h = tt
ink_feedless (b ∷ t) h = ((λ e. let d = h.0.dark in omega (arith, d, e)), ink_feedless t h.1)

pub value_feedless : (b : Option Bits) (t : List ℕ) → IsValue b t → NoFeed t
value_feedless None t h = rw h tt
value_feedless (Some b) t h = split (is_nan b) h
  where
    hex : (n x : ℕ) → NoFeed (hex_digits n x)
    hex n x = ink_feedless (hex_digits n x) (hex_ink n x)

    bits : (b : Bits) → NoFeed (hex_of b)
    bits (Half n) = hex 4 n
    bits (Single n) = hex 8 n
    bits (Double n) = feedless-append (hex_digits 8 (n / 4294967296)) (hex_digits 8 (n % 4294967296))
        (hex 8 (n / 4294967296)) (hex 8 (n % 4294967296))

    split : (z : Bool) → IsValueOf z b t → NoFeed t
    split true h = rw h (feedless-append (codes "NaN 0x") (hex_of b) (no_feed_by (codes "NaN 0x") refl) (bits b))
    split false h = tame_feedless t h.1

notes_feedless : (is : List PlainInst) (value : List ℕ) (n : ℕ) (i : PlainInst) → NoFeed value
    → NoFeed (notes is value n i)
notes_feedless is value n i h =
    feedless-append (name_notes is i ++ call_note is i ++ note value) (block_note is n i)
    (feedless-append (name_notes is i ++ call_note is i) (note value)
    (feedless-append (name_notes is i) (call_note is i) (names_feedless is i) (call_feedless is i))
    (note_feedless value h))
    (block_feedless is n i)

place_feedless : (n word : ℕ) → NoFeed (place_text n word)
place_feedless n word =
    feedless-append (codes "; inst " ++ decimal n ++ codes " word ") (decimal word)
    (feedless-append (codes "; inst " ++ decimal n) (codes " word ")
    (feedless-append (codes "; inst ") (decimal n) (no_feed_by (codes "; inst ") refl) (decimal_feedless n))
    (no_feed_by (codes " word ") refl))
    (decimal_feedless word)

drop_feedless : (k : ℕ) (t : List ℕ) → NoFeed t → NoFeed (drop k t)
drop_feedless zero t h = h
drop_feedless (suc k) [] h = tt
drop_feedless (suc k) (b ∷ t) h = drop_feedless k t h.1

pub comment_feedless : (is : List PlainInst) (value : List ℕ) (n : ℕ) (line : List ℕ) → NoFeed value
    → NoFeed (comment is value n line)
comment_feedless is value n line h =
    feedless-append (gap (length line) ++ place_text n (first_word_of is n)) (notes is value n (inst_at is n))
    (feedless-append (gap (length line)) (place_text n (first_word_of is n))
    (drop_feedless (if nat_lt (length line) 47 then length line else 47) column (no_feed_by column refl))
    (place_feedless n (first_word_of is n)))
    (notes_feedless is value n (inst_at is n) h)
