-- The rest of a line begins with one operand of a slot.
use Rattle.std.proofs.Common.{◌≡◌, ◌++◌, ◌∙◌, ◌<◌, ◌+◌, ◌*◌, ℕ, List, ◌∷◌, Option, None, Bool, true, false, refl, sym}
use Rattle.std.proofs.Common.{ap, arith}
use Rattle.std.specs.Prelude.{decimal, codes}
use Rattle.std.proofs.lemmas.Fmt.{decimal_injective}
use Rattle.std.proofs.lemmas.List.{append_cancel_left}
use Rattle.spv_table.specs.Table.{Table, kind_of}
use Rattle.spv_table.specs.Lookups.{value_named}
use Rattle.spv_module.specs.Operand.{Plain, OfType, Result, Id, Word, Number, Text, Value, Mask, Context, result_in}
use Rattle.spv_module.specs.Shape.{Slot, Shape}
use Rattle.spv_module.specs.Spelling.{Takes, result_type, result, id, word, narrow, wide, text, value, mask}
use Rattle.spv_inst.specs.Reading.{enumerants_at}
use Rattle.spv_inst.proofs.Texts.{parts_same}
use Rattle.spv_lines.specs.Digits.{hex_digits}
use Rattle.spv_lines.specs.Name.{Names, NamesMask, mask_values}
use Rattle.spv_lines.specs.Operand.{IsRead, is_result, is_float, id_text, quoted, number_text}
use Rattle.spv_lines.specs.Written.{Piece}
use Rattle.spv_lines.specs.Line.{AreWords}
use Rattle.spv_lines.specs.Refusal.{IsBreak}
use Rattle.spv_lines.proofs.Tame.{Both, AreTame, tame-append, decimal_tame, number_tame, plain_tame, hex_tame}
use Rattle.spv_lines.proofs.Tame.{joined_tame, run_same}
use Rattle.spv_lines.proofs.Tokens.{first_same, quoted_same, hex_same, length-hex, names_same, masks_same}
use Rattle.spv_lines.proofs.Once.{front_once}

pub id_tame : (x : ℕ) → x < 4294967296 → AreTame (id_text x)
id_tame x h = (omega arith, decimal_tame x (omega arith))

pub names_tame : (lookup : List ℕ → Option ℕ) (x : ℕ) (t : List ℕ) → x < 4294967296 → Names lookup x t → AreTame t
names_tame lookup x _ h (Names.named t n) = plain_tame t n.plain
names_tame lookup x _ h Names.numbered = number_tame x (omega arith)

pub masks_tame : (lookup : List ℕ → Option ℕ) (x : ℕ) (t : List ℕ) → x < 4294967296 → NamesMask lookup x t → AreTame t
masks_tame lookup x _ h (NamesMask.named ts n) = joined_tame lookup (mask_values x) ts n
masks_tame lookup x _ h NamesMask.numbered = number_tame x (omega arith)

zero_x : AreTame (codes "0x")
zero_x = (omega arith, (omega arith, tt))

pub narrow_tame : (hex : Bool) (x : ℕ) → x < 4294967296 → AreTame (number_text hex x 0 1)
narrow_tame true x h = tame-append (codes "0x") (hex_digits 8 x) zero_x (hex_tame 8 x)
narrow_tame false x h = decimal_tame (x + 4294967296 * 0) (omega arith)

pub wide_tame : (hex : Bool) (low high : ℕ) → low < 4294967296 → high < 4294967296
    → AreTame (number_text hex low high 2)
wide_tame true low high h g =
    tame-append (codes "0x") (hex_digits 8 high ++ hex_digits 8 low) zero_x
    (tame-append (hex_digits 8 high) (hex_digits 8 low) (hex_tame 8 high) (hex_tame 8 low))
wide_tame false low high h g = decimal_tame (low + 4294967296 * high) (omega arith)

narrow_same : (hex : Bool) (x y : ℕ) → x < 4294967296 → y < 4294967296 → number_text hex x 0 1 ≡ number_text hex y 0 1
    → x ≡ y
narrow_same true x y h g e =
    hex_same 8 x y (omega arith) (omega arith) (append_cancel_left (codes "0x") (hex_digits 8 x) (hex_digits 8 y) e)
narrow_same false x y h g e =
    let f = decimal_injective (x + 4294967296 * 0) (y + 4294967296 * 0) (omega arith) (omega arith) e in omega arith

wide_same : (hex : Bool) (a b x y : ℕ) → a < 4294967296 → b < 4294967296 → x < 4294967296 → y < 4294967296
    → number_text hex a b 2 ≡ number_text hex x y 2 → Both (a ≡ x) (b ≡ y)
wide_same true a b x y h g i j e =
    let f = append_cancel_left (codes "0x") (hex_digits 8 b ++ hex_digits 8 a) (hex_digits 8 y ++ hex_digits 8 x) e in
    let l = length-hex 8 b ∙ sym (length-hex 8 y) in
    let r = parts_same (hex_digits 8 b) (hex_digits 8 y) (hex_digits 8 a) (hex_digits 8 x) l f in
    record {
      first = hex_same 8 a x (omega arith) (omega arith) r.second;
      second = hex_same 8 b y (omega arith) (omega arith) r.first;
    }
wide_same false a b x y h g i j e =
    let f = decimal_injective (a + 4294967296 * b) (x + 4294967296 * y) (omega arith) (omega arith) e in
    record { first = omega arith; second = omega arith }

-- what two operands at the front of the same line share
pub record SamePiece (o q : Plain) (p v t u : List ℕ) : Type 0 where
  pub operand : o ≡ q
  pub text : p ≡ v
  pub rest : t ≡ u

-- two tokens that are known
run_both : (a b A B t u : List ℕ) → a ≡ A → b ≡ B → AreTame A → AreTame B → IsBreak t → IsBreak u → a ++ t ≡ b ++ u
    → Both (A ≡ B) (t ≡ u)
run_both a b A B t u f g h i j k e =
    let m : A ++ t ≡ B ++ u = rw (f, g) at e in
    run_same A B t u h i j k m

ids_same : (make : ℕ → Plain) (x y : ℕ) (a b t u : List ℕ) → x < 4294967296 → y < 4294967296 → a ≡ id_text x
    → b ≡ id_text y → IsBreak t → IsBreak u → a ++ t ≡ b ++ u
    → SamePiece (make x) (make y) a b t u
ids_same make x y a b t u h g f i j k e =
    let r = run_both a b (id_text x) (id_text y) t u f i (id_tame x h) (id_tame y g) j k e in
    let d : decimal x ≡ decimal y = (first_same 37 37 (decimal x) (decimal y) r.first).second in
    let n = decimal_injective x y (omega arith) (omega arith) d in
    record { operand = ap make n; text = f ∙ (r.first ∙ sym i); rest = r.second }

words_same : (x y : ℕ) (a b t u : List ℕ) → x < 4294967296 → y < 4294967296 → a ≡ decimal x → b ≡ decimal y → IsBreak t
    → IsBreak u → a ++ t ≡ b ++ u
    → SamePiece (Word x) (Word y) a b t u
words_same x y a b t u h g f i j k e =
    let r = run_both a b (decimal x) (decimal y) t u f i (decimal_tame x (omega arith))
    (decimal_tame y (omega arith)) j k e in
    let n = decimal_injective x y (omega arith) (omega arith) r.first in
    record { operand = ap Word n; text = f ∙ (r.first ∙ sym i); rest = r.second }

narrows_same : (hex : Bool) (x y : ℕ) (a b t u : List ℕ) → x < 4294967296 → y < 4294967296 → a ≡ number_text hex x 0 1
    → b ≡ number_text hex y 0 1 → IsBreak t → IsBreak u
    → a ++ t ≡ b ++ u → SamePiece (Number x 0 1) (Number y 0 1) a b t u
narrows_same hex x y a b t u h g f i j k e =
    let r = run_both a b (number_text hex x 0 1) (number_text hex y 0 1) t u f i (narrow_tame hex x h)
    (narrow_tame hex y g) j k e in
    let n = narrow_same hex x y h g r.first in
    record { operand = ap (λ z. Number z 0 1) n; text = f ∙ (r.first ∙ sym i); rest = r.second }

wides_same : (hex : Bool) (l m x y : ℕ) (a b t u : List ℕ) → l < 4294967296 → m < 4294967296 → x < 4294967296
    → y < 4294967296 → a ≡ number_text hex l m 2 → b ≡ number_text hex x y 2
    → IsBreak t → IsBreak u → a ++ t ≡ b ++ u → SamePiece (Number l m 2) (Number x y 2) a b t u
wides_same hex l m x y a b t u h h' g g' f i j k e =
    let r = run_both a b (number_text hex l m 2) (number_text hex x y 2) t u f i (wide_tame hex l m h h')
    (wide_tame hex x y g g') j k e in
    let n = wide_same hex l m x y h h' g g' r.first in
    record {
      operand = ap (λ z. Number z m 2) n.first ∙ ap (λ z. Number x z 2) n.second;
      text = f ∙ (r.first ∙ sym i);
      rest = r.second;
    }

texts_same : (s q a b t u : List ℕ) → a ≡ quoted s → b ≡ quoted q → a ++ t ≡ b ++ u
    → SamePiece (Text s) (Text q) a b t u
texts_same s q a b t u f g e =
    let m : quoted s ++ t ≡ quoted q ++ u = sym (ap (λ z. z ++ t) f) ∙ (e ∙ ap (λ z. z ++ u) g) in
    let r = quoted_same s q t u m in
    record { operand = ap Text r.first; text = f ∙ (ap quoted r.first ∙ sym g); rest = r.second }

values_same : (lookup : List ℕ → Option ℕ) (k x y : ℕ) (a b t u : List ℕ) → x < 4294967296 → y < 4294967296
    → Names lookup x a → Names lookup y b → IsBreak t → IsBreak u → a ++ t ≡ b ++ u
    → SamePiece (Value k x) (Value k y) a b t u
values_same lookup k x y a b t u h g f i j l e =
    let r = run_same a b t u (names_tame lookup x a h f) (names_tame lookup y b g i) j l e in
    let n = names_same lookup x y a b (omega arith) (omega arith) f i r.first in
    record { operand = ap (Value k) n; text = r.first; rest = r.second }

masked_same : (lookup : List ℕ → Option ℕ) (k x y : ℕ) (a b t u : List ℕ) → x < 4294967296 → y < 4294967296
    → NamesMask lookup x a → NamesMask lookup y b → IsBreak t → IsBreak u → a ++ t ≡ b ++ u
    → SamePiece (Mask k x) (Mask k y) a b t u
masked_same lookup k x y a b t u h g f i j l e =
    let r = run_same a b t u (masks_tame lookup x a h f) (masks_tame lookup y b g i) j l e in
    let n = masks_same lookup x y a b h g f i r.first in
    record { operand = ap (Mask k) n; text = r.first; rest = r.second }

-- tokens that one shape takes
token_same : (G : Table) (hex : Bool) (k : ℕ) (sh : Shape) (o q : Plain) (ws xs : List ℕ) (ss ts : List Slot)
    (a b t u : List ℕ)
    → Takes k sh o ws ss → Takes k sh q xs ts → AreWords ws → AreWords xs → IsRead G hex o a → IsRead G hex q b
    → IsBreak t → IsBreak u → a ++ t ≡ b ++ u → SamePiece o q a b t u
token_same G hex k _ _ _ _ _ _ _ a b t u (result_type x) (result_type y) h g f i j l e =
    ids_same OfType x y a b t u h.0 g.0 f i j l e
token_same G hex k _ _ _ _ _ _ _ a b t u (result x) (result y) h g f i j l e =
    ids_same Result x y a b t u h.0 g.0 f i j l e
token_same G hex k _ _ _ _ _ _ _ a b t u (id x) (id y) h g f i j l e = ids_same Id x y a b t u h.0 g.0 f i j l e
token_same G hex k _ _ _ _ _ _ _ a b t u (word x) (word y) h g f i j l e = words_same x y a b t u h.0 g.0 f i j l e
token_same G hex k _ _ _ _ _ _ _ a b t u (narrow w x n) (narrow _ y m) h g f i j l e =
    narrows_same hex x y a b t u h.0 g.0 f i j l e
token_same G hex k _ _ _ _ _ _ _ a b t u (narrow w x n) (wide _ y z m) h g f i j l e = absurd (omega arith)
token_same G hex k _ _ _ _ _ _ _ a b t u (wide w x y n) (narrow _ z m) h g f i j l e = absurd (omega arith)
token_same G hex k _ _ _ _ _ _ _ a b t u (wide w x y n) (wide _ c d m) h g f i j l e =
    wides_same hex x y c d a b t u h.0 h.1.0 g.0 g.1.0 f i j l e
token_same G hex k _ _ _ _ _ _ _ a b t u (text s ws p n z v) (text q vs r m y w) h g f i j l e =
    texts_same s q a b t u f i e
token_same G hex k _ _ _ _ _ _ _ a b t u (value es x ks n) (value _ y js m) h g f i j l e =
    values_same (value_named (enumerants_at (kind_of G k))) k x y a b t u h.0 g.0 f i j l e
token_same G hex k _ _ _ _ _ _ _ a b t u (mask es x ks n) (mask _ y js m) h g f i j l e =
    masked_same (value_named (enumerants_at (kind_of G k))) k x y a b t u h.0 g.0 f i j l e

-- what takes a result takes results alone
only_result : (k : ℕ) (sh : Shape) (x : ℕ) (o q : Plain) (ws xs : List ℕ) (ss ts : List Slot) → Takes k sh o ws ss
    → o ≡ Result x → Takes k sh q xs ts → (y : ℕ) × (q ≡ Result y)
only_result k _ x _ _ _ _ _ _ (result_type z) e (result_type y) = cc
only_result k _ x _ _ _ _ _ _ (result z) e (result y) = (y, refl)
only_result k _ x _ _ _ _ _ _ (id z) e (id y) = cc
only_result k _ x _ _ _ _ _ _ (word z) e (word y) = cc
only_result k _ x _ _ _ _ _ _ (narrow w z n) e t = cc
only_result k _ x _ _ _ _ _ _ (wide w z y n) e t = cc
only_result k _ x _ _ _ _ _ _ (text s ws p n z v) e t = cc
only_result k _ x _ _ _ _ _ _ (value es z ks n) e t = cc
only_result k _ x _ _ _ _ _ _ (mask es z ks n) e t = cc

no_other : (k : ℕ) (sh : Shape) (c : Context) (x : ℕ) (q : Plain) (ws xs : List ℕ) (ss ts : List Slot)
    → Takes k sh (Result x) ws ss → Takes k sh q xs ts → result_in c.operands ≡ None
    → is_result c q ≡ false → ⊥
no_other k sh c x q ws xs ss ts t t' n f =
    let r = only_result k sh x (Result x) q ws xs ss ts t refl t' in
    let g : is_result c (Result r.0) ≡ false = rw r.1 at f in
    front_once c r.0 n g

pub piece_same : (G : Table) (r : Option ℕ) (c : Context) (s : Slot) (sh : Shape) (o q : Plain) (ws xs : List ℕ)
    (ss ts : List Slot) (p v t u : List ℕ)
    → Takes s.kind sh o ws ss → Takes s.kind sh q xs ts → AreWords ws → AreWords xs → Piece (IsRead G) G r c s o p
    → Piece (IsRead G) G r c s q v
    → IsBreak t → IsBreak u → p ++ t ≡ v ++ u → SamePiece o q p v t u
piece_same G r c s sh _ _ ws xs ss ts _ _ t u h g i j (Piece.result x n m) (Piece.result y n' m') k l e =
    let z : x ≡ y = cc in
    record { operand = ap Result z; text = refl; rest = e }
piece_same G r c s sh _ _ ws xs ss ts _ _ t u h g i j (Piece.result x n m) (Piece.other q b f w) k l e =
    absurd (no_other s.kind sh c x q ws xs ss ts h g n f)
piece_same G r c s sh _ _ ws xs ss ts _ _ t u h g i j (Piece.other o a f w) (Piece.result y n m) k l e =
    absurd (no_other s.kind sh c y o xs ws ts ss g h n f)
piece_same G r c s sh _ _ ws xs ss ts _ _ t u h g i j (Piece.other o a f w) (Piece.other q b f' w') k l e =
    let d = (first_same 32 32 (a ++ t) (b ++ u) e).second in
    let z = token_same G (is_float G c s) s.kind sh o q ws xs ss ts a b t u h g i j w w' k l d in
    record { operand = z.operand; text = ap (λ y. 32 ∷ y) z.text; rest = z.rest }
