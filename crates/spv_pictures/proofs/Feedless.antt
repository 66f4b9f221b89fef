-- No shown line has a line feed.
use Rattle.std.proofs.Common.{◌≡◌, ◌≢◌, ◌++◌, ◌/◌, ◌%◌, ◌+◌, ◌*◌, ℕ, zero, suc, Bool, true, false, List, [], ◌∷◌}
use Rattle.std.proofs.Common.{Option, Some, None, map, nat_eq, arith}
use Rattle.std.specs.Prelude.{◌==◌, decimal, if◌then◌else◌}
use Rattle.std.specs.Fmt.{digit_glyph, digits, digits_onto}
use Rattle.std.proofs.lemmas.Bool.Decides.{nat_tests}
use Rattle.spv_table.specs.Table.{Table, kind_of}
use Rattle.spv_table.specs.Lookups.{opcode_named, value_named}
use Rattle.spv_module.specs.Operand.{Plain, OfType, Result, Id, Word, Number, Text, Value, Mask, Argument, Mention}
use Rattle.spv_module.specs.Operand.{PlainInst, Context, and_then, result_in}
use Rattle.spv_inst.specs.Flat.{Due, OneOf, ManyOf}
use Rattle.spv_inst.specs.Reading.{enumerants_at}
use Rattle.spv_lines.specs.Digits.{hex_digits}
use Rattle.spv_lines.specs.Name.{Names, NamesMask, joined}
use Rattle.spv_lines.specs.Operand.{Shown, id_text, is_float, number_text, quoted, shown_operand, escaped}
use Rattle.spv_lines.specs.Line.{IsShownLine, shown_name, shown_result}
use Rattle.spv_lines.specs.Text.{ShownLines}
use Rattle.spv_lines.specs.Written.{Written, Piece}
use Rattle.spv_lines.proofs.Tame.{hex_tame, joined_tame, plain_tame}
use Rattle.spv_lines.proofs.Back.{NoFeed, escaped_feedless, feedless-append, inst_name_back, mask_back, tame_feedless}
use Rattle.spv_lines.proofs.Back.{value_back}
use Rattle.spv_lines.proofs.Showing.{AreLines}

glyph_feedless : (d : ℕ) → digit_glyph false d ≢ 10
glyph_feedless d = λ e. grind (arith, nat_tests)

digits_feedless : (k n : ℕ) (acc : List ℕ) → NoFeed acc → NoFeed (digits_onto k 10 false n acc)
digits_feedless zero n acc h = h
digits_feedless (suc k) n acc h =
    by (n / 10 == 0) (digits_feedless k (n / 10) (digit_glyph false (n % 10) ∷ acc) (glyph_feedless (n % 10), h))
  where
    by : (b : Bool) → NoFeed (digits_onto k 10 false (n / 10) (digit_glyph false (n % 10) ∷ acc))
        → NoFeed (if b then digit_glyph false (n % 10)
        ∷ acc else digits_onto k 10 false (n / 10) (digit_glyph false (n % 10) ∷ acc))
    by true later = (glyph_feedless (n % 10), h)
    by false later = later

pub decimal_feedless : (n : ℕ) → NoFeed (decimal n)
unfolding digits
decimal_feedless n = digits_feedless 64 n [] tt

names_feedless : (lookup : List ℕ → Option ℕ) (x : ℕ) (t : List ℕ) → Names lookup x t → NoFeed t
names_feedless lookup x _ (Names.named t n) = tame_feedless t (plain_tame t n.plain)
names_feedless lookup x _ Names.numbered = ((λ e. omega arith), decimal_feedless x)

masks_feedless : (lookup : List ℕ → Option ℕ) (x : ℕ) (t : List ℕ) → NamesMask lookup x t → NoFeed t
masks_feedless lookup x _ (NamesMask.named ts n) = tame_feedless (joined ts) (joined_tame lookup _ ts n)
masks_feedless lookup x _ NamesMask.numbered = ((λ e. omega arith), decimal_feedless x)

id_feedless : (x : ℕ) → NoFeed (id_text x)
id_feedless x = ((λ e. omega arith), decimal_feedless x)

hex_feedless : (n x : ℕ) → NoFeed (hex_digits n x)
hex_feedless n x = tame_feedless (hex_digits n x) (hex_tame n x)

number_feedless : (hex : Bool) (low high words : ℕ) → NoFeed (number_text hex low high words)
number_feedless true low high words = ((λ e. omega arith), ((λ e. omega arith), by (nat_eq words 2)))
  where
    by : (b : Bool) → NoFeed (if b then hex_digits 8 high ++ hex_digits 8 low else hex_digits 8 low)
    by true = feedless-append (hex_digits 8 high) (hex_digits 8 low) (hex_feedless 8 high) (hex_feedless 8 low)
    by false = hex_feedless 8 low
number_feedless false low high words = decimal_feedless (low + 4294967296 * high)

quoted_feedless : (t : List ℕ) → NoFeed (quoted t)
quoted_feedless t = (
  (λ e. omega arith),
  feedless-append (escaped t) (34 ∷ []) (escaped_feedless t)
      ((λ e. omega arith), tt),
)

operand_feedless : (G : Table) (hex : Bool) (o : Plain) → NoFeed (shown_operand G hex o)
operand_feedless G hex (OfType x) = id_feedless x
operand_feedless G hex (Result x) = id_feedless x
operand_feedless G hex (Id x) = id_feedless x
operand_feedless G hex (Word x) = decimal_feedless x
operand_feedless G hex (Argument x) = id_feedless x
operand_feedless G hex (Mention x) = id_feedless x
operand_feedless G hex (Number low high words) = number_feedless hex low high words
operand_feedless G hex (Text t) = quoted_feedless t
operand_feedless G hex (Value k x) =
    names_feedless (value_named (enumerants_at (kind_of G k))) x _ (value_back (enumerants_at (kind_of G k)) x)
operand_feedless G hex (Mask k x) =
    masks_feedless (value_named (enumerants_at (kind_of G k))) x _ (mask_back (enumerants_at (kind_of G k)) x)

moved : (t u : List ℕ) → t ≡ u → NoFeed u → NoFeed t
moved t u e h = rw e h

operands_feedless : (G : Table) (r : Option ℕ) (c : Context) (ds : List Due) (os : List Plain) (us t : List ℕ)
    → Written (Shown G) G r c ds os us t → NoFeed t
operands_feedless G r _ _ _ _ _ (Written.end c) = tt
operands_feedless G r _ _ _ _ _ (Written.take c s ds _ ws ss _ os us t k (Piece.result x n e) m) =
    operands_feedless G r (and_then c (Result x)) (map OneOf ss ++ ds) os us t m
operands_feedless G r _ _ _ _ _ (Written.take c s ds _ ws ss _ os us t k (Piece.other o a n e) m) = (
  (λ z. omega arith),
  feedless-append a t
      (moved a (shown_operand G (is_float G c s) o) e (operand_feedless G (is_float G c s) o))
      (operands_feedless G r (and_then c o) (map OneOf ss ++ ds) os us t m),
)
operands_feedless G r _ _ _ _ _ (Written.parts c s ds ss os us t k m) =
    operands_feedless G r c (map OneOf ss ++ ds) os us t m
operands_feedless G r _ _ _ _ _ (Written.no_maybe c s ds os t m) = operands_feedless G r c ds os [] t m
operands_feedless G r _ _ _ _ _ (Written.maybe c s ds os u us t m) =
    operands_feedless G r c (OneOf s ∷ ds) os (u ∷ us) t m
operands_feedless G r _ _ _ _ _ (Written.no_many c s ds os t m) = operands_feedless G r c ds os [] t m
operands_feedless G r _ _ _ _ _ (Written.many c s ds os u us t m) =
    operands_feedless G r c (OneOf s ∷ ManyOf s ∷ ds) os (u ∷ us) t m

result_feedless : (r : Option ℕ) → NoFeed (shown_result r)
result_feedless None = tt
result_feedless (Some x) =
    feedless-append (id_text x) (32 ∷ 61 ∷ 32 ∷ []) (id_feedless x)
    ((λ z. omega arith), ((λ z. omega arith), ((λ z. omega arith), tt)))

line_feedless : (G : Table) (before : List PlainInst) (i : PlainInst) (further line : List ℕ)
    → IsShownLine G before i further line → NoFeed line
line_feedless G before i further line a =
    let r = shown_result (result_in i.operands) in
    let n = shown_name G i.opcode a.entry in
    let fn = names_feedless (opcode_named G.entries) i.opcode n (inst_name_back G i.opcode a.entry) in
    let fo = operands_feedless G _ _ _ i.operands further a.operands a.written in
    moved line (r ++ (n ++ a.operands)) a.all
    (feedless-append r (n ++ a.operands) (result_feedless (result_in i.operands))
    (feedless-append n a.operands fn fo))

pub feedless_lines : (G : Table) (before is : List PlainInst) (ls : List (List ℕ)) → ShownLines G before is ls
    → AreLines ls
feedless_lines G _ _ _ (ShownLines.end before) = tt
feedless_lines G _ _ _ (ShownLines.more before i is further l ls a m) =
    (line_feedless G before i further l a, feedless_lines G (before ++ (i ∷ [])) is ls m)
