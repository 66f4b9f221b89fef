-- A slot takes what stands at the front of the rest of a line, or refuses it.
use Rattle.std.proofs.Common.{◌≡◌, ◌≢◌, ◌++◌, ◌∙◌, ◌⊎◌, inl, inr, ◌<◌, ◌≤◌, ℕ, List, [], ◌∷◌, Option, Some, None, Bool}
use Rattle.std.proofs.Common.{true, false, not, is_some, refl, sym, ap, arith, append_assoc}
use Rattle.std.specs.Prelude.{IsUtf8}
use Rattle.std.specs.Str.{is_utf8}
use Rattle.std.proofs.lemmas.Str.{IsUtf8-from_is_utf8, is_utf8-from_IsUtf8}
use Rattle.std.specs.List.{AllByRecursion}
use Rattle.spv_table.specs.Table.{Table}
use Rattle.spv_module.specs.Operand.{Plain, Result, Text, Context, result_in}
use Rattle.spv_table.specs.declared.form.Leaf.TheVariants as leaf
use Rattle.spv_module.specs.Shape.{Slot, Shape, AsType, AsResult, AsId, AsWord, AsNumber, AsText, AsValue, AsMask}
use Rattle.spv_module.specs.Shape.{AsParts, AsNothing, shape_of}
use Rattle.spv_module.specs.Spelling.{Takes, octets_of}
use Rattle.spv_module.specs.Refusal.{IsLeaf}
use Rattle.spv_inst.specs.inner.Written.{text_words, is_without_zero, is_fit}
use Rattle.spv_inst.proofs.Fit.{fit_takes, takes_fit}
use Rattle.spv_lines.specs.declared.asm_error.AsmCode.{AsmCode}
use Rattle.spv_lines.specs.declared.asm_error.AsmCode.TheVariants.{S3, S4}
use Rattle.spv_lines.specs.Digits.{IsLarge}
use Rattle.spv_lines.specs.Operand.{IsRead, is_result, is_float, quoted}
use Rattle.spv_lines.specs.Written.{Piece}
use Rattle.spv_lines.specs.Line.{AreWords}
use Rattle.spv_lines.specs.Refusal.{IsBreak, at_end, at_space, Place, place_of, is_front, IsTooLarge, StandsInLine}
use Rattle.spv_lines.specs.Refusal.{SlotRefuses}
use Rattle.spv_lines.proofs.Tokens.{first_same, quoted_same}
use Rattle.spv_lines.proofs.Once.{front_once}
use Rattle.spv_lines.proofs.Marked.{NoSpace, tame_spaceless, Token, token_of, whole_same, below_or_not, true_or_false}
use Rattle.spv_lines.proofs.Marked.{true_not_false}
use Rattle.spv_lines.proofs.Quotes.{Quotes, quotes}
use Rattle.spv_lines.proofs.Deciding.{Decision, IsTokenShape, decide, token_spaceless, mark_spaceless}

pub data Decided (G : Table) (r : Option ℕ) (c : Context) (s : Slot) (t : List ℕ) : Type 0 where
  stands : (o : Plain) (ss : List Slot) (rest : List ℕ) → StandsInLine G r c s o ss t rest → Decided G r c s t
  refused : (code : AsmCode) → SlotRefuses G r c s t code → Decided G r c s t

-- the slot of the line's result
pub front_shape : (sh : Shape) (c : Context) → is_front sh c ≡ true → (sh ≡ AsResult) × (result_in c.operands ≡ None)
front_shape AsType c e = cc
front_shape AsResult c e = (refl, none_by (result_in c.operands) e)
  where
    none_by : (o : Option ℕ) → not (is_some o) ≡ true → o ≡ None
    none_by None e = refl
    none_by (Some x) e = cc
front_shape AsId c e = cc
front_shape AsWord c e = cc
front_shape (AsNumber w) c e = cc
front_shape AsText c e = cc
front_shape (AsValue es) c e = cc
front_shape (AsMask es) c e = cc
front_shape (AsParts ss) c e = cc
front_shape AsNothing c e = cc

pub takes_result : (k : ℕ) (sh : Shape) (o : Plain) (ws : List ℕ) (ss : List Slot) → Takes k sh o ws ss → sh ≡ AsResult
    → (x : ℕ) × (o ≡ Result x)
takes_result k _ _ _ _ (Takes.result_type x) e = cc
takes_result k _ _ _ _ (Takes.result x) e = (x, refl)
takes_result k _ _ _ _ (Takes.id x) e = cc
takes_result k _ _ _ _ (Takes.word x) e = cc
takes_result k _ _ _ _ (Takes.narrow w x n) e = cc
takes_result k _ _ _ _ (Takes.wide w x y n) e = cc
takes_result k _ _ _ _ (Takes.text s ws p n z v) e = cc
takes_result k _ _ _ _ (Takes.value es x ks n) e = cc
takes_result k _ _ _ _ (Takes.mask es x ks n) e = cc

pub front_piece : (G : Table) (r : Option ℕ) (c : Context) (s : Slot) (o : Plain) (p : List ℕ) (x : ℕ)
    → Piece (IsRead G) G r c s o p → o ≡ Result x → result_in c.operands ≡ None → r ≡ Some x
front_piece G r c s _ _ x (Piece.result y n e) f m = let z : y ≡ x = cc in e ∙ ap Some z
front_piece G r c s _ _ x (Piece.other o a n e) f m = let n' : is_result c (Result x) ≡ false = rw f at n in
    absurd (front_once c x m n')

decide_front : (G : Table) (r : Option ℕ) (c : Context) (s : Slot) (t : List ℕ)
    → ((x : ℕ) → r ≡ Some x → x < 4294967296) → IsBreak t → shape_of G c s ≡ AsResult → result_in c.operands ≡ None
    → is_front (shape_of G c s) c ≡ true → Decided G r c s t
decide_front G r c s t small b e n f = step r refl
  where
    takes_here : (x : ℕ) → Takes s.kind (shape_of G c s) (Result x) (x ∷ []) []
    takes_here x = rw e (Takes.result x)

    step : (q : Option ℕ) → r ≡ q → Decided G r c s t
    step (Some x) g = Decided.stands (Result x) [] t
        (record {
          words = x ∷ [];
          piece = [];
          takes = takes_here x;
          small = (small x g, tt);
          written = Piece.result x n g;
          broken = b;
          all = refl;
        })
    step None g = Decided.refused S3 (SlotRefuses.wrong
        (λ o ss rest h. let m = takes_result s.kind (shape_of G c s) o h.words ss h.takes e in
        let i = front_piece G r c s o h.piece m.0 h.written m.1 n in cc)
        (λ l. let i = l.behind in cc))

-- an operand of a slot that is not that of the line's result
pub not_result : (k : ℕ) (sh : Shape) (o : Plain) (ws : List ℕ) (ss : List Slot) (c : Context) → Takes k sh o ws ss
    → is_front sh c ≡ false → is_result c o ≡ false
not_result k _ _ _ _ c (Takes.result_type x) e = refl
not_result k _ _ _ _ c (Takes.result x) e = e
not_result k _ _ _ _ c (Takes.id x) e = refl
not_result k _ _ _ _ c (Takes.word x) e = refl
not_result k _ _ _ _ c (Takes.narrow w x n) e = refl
not_result k _ _ _ _ c (Takes.wide w x y n) e = refl
not_result k _ _ _ _ c (Takes.text s ws p n z v) e = refl
not_result k _ _ _ _ c (Takes.value es x ks n) e = refl
not_result k _ _ _ _ c (Takes.mask es x ks n) e = refl

-- its piece is a token behind a space
pub record Behind (G : Table) (c : Context) (s : Slot) (o : Plain) (p : List ℕ) : Type 0 where
  pub token : List ℕ
  pub read : IsRead G (is_float G c s) o token
  pub all : p ≡ 32 ∷ token

pub piece_behind : (G : Table) (r : Option ℕ) (c : Context) (s : Slot) (o : Plain) (p : List ℕ)
    → Piece (IsRead G) G r c s o p → is_result c o ≡ false → Behind G c s o p
piece_behind G r c s _ _ (Piece.result x n e) f = absurd (front_once c x n f)
piece_behind G r c s _ _ (Piece.other o a n e) f = record { token = a; read = e; all = refl }

-- nothing is left of the line
decide_end : (G : Table) (r : Option ℕ) (c : Context) (s : Slot) → is_front (shape_of G c s) c ≡ false
    → Decided G r c s []
decide_end G r c s f = Decided.refused S3 (SlotRefuses.wrong
    (λ o ss rest h.
    let n = not_result s.kind (shape_of G c s) o h.words ss c h.takes f in
    let b = piece_behind G r c s o h.piece h.written n in
    no_cell b.token rest (h.all ∙ ap (λ p. p ++ rest) b.all))
    (λ l. no_cell (l.place.mark ++ (l.digits ++ l.rest)) []
    (l.all ∙ sym (nothing_more (32 ∷ (l.place.mark ++ (l.digits ++ l.rest)))))))
  where
    no_cell : (a u : List ℕ) → [] ≡ (32 ∷ a) ++ u → ⊥
    no_cell a u e = cc

    nothing_more : (a : List ℕ) → a ++ [] ≡ a
    nothing_more a = Rattle.std.proofs.lemmas.List.append-nil a

-- a token without spaces
token_stood : (G : Table) (r : Option ℕ) (c : Context) (s : Slot) (u : List ℕ) → IsTokenShape (shape_of G c s)
    → is_front (shape_of G c s) c ≡ false → (k : Token u) → (o : Plain) (ss : List Slot) (rest : List ℕ)
    → StandsInLine G r c s o ss (32 ∷ u) rest
    → (ws : List ℕ) × Takes s.kind (shape_of G c s) o ws ss × AreWords ws × IsRead G (is_float G c s) o k.token
token_stood G r c s u ts f k o ss rest h =
    let n = not_result s.kind (shape_of G c s) o h.words ss c h.takes f in
    let b = piece_behind G r c s o h.piece h.written n in
    let e : 32 ∷ u ≡ 32 ∷ (b.token ++ rest) = h.all ∙ ap (λ p. p ++ rest) b.all in
    let g : k.token ++ k.rest ≡ b.token ++ rest = sym k.all ∙ (first_same 32 32 u (b.token ++ rest) e).second in
    let w = whole_same k.token b.token k.rest rest k.spaceless
    (token_spaceless G (is_float G c s) s.kind (shape_of G c s) o h.words ss b.token h.takes h.small b.read ts)
    k.broken h.broken g in
    let i = b.read in
    let j : IsRead G (is_float G c s) o k.token = rw w.first i in
    (h.words, h.takes, h.small, j)

token_larged : (G : Table) (c : Context) (s : Slot) (u : List ℕ) (k : Token u) (l : IsTooLarge G c s (32 ∷ u))
    → k.token ≡ l.place.mark ++ l.digits
token_larged G c s u k l =
    let e = (first_same 32 32 u (l.place.mark ++ (l.digits ++ l.rest)) l.all).second in
    let g : k.token ++ k.rest ≡ (l.place.mark ++ l.digits) ++ l.rest = sym k.all
    ∙ (e ∙ sym (append_assoc l.place.mark l.digits l.rest)) in
    (whole_same k.token (l.place.mark ++ l.digits) k.rest l.rest k.spaceless
    (mark_spaceless (is_float G c s) (shape_of G c s) l.place l.digits l.placed l.large.number) k.broken l.broken
    g).first

pub token_taken : (G : Table) (r : Option ℕ) (c : Context) (s : Slot) (u : List ℕ) → is_front (shape_of G c s) c ≡ false
    → (k : Token u) (o : Plain) (ws : List ℕ) (ss : List Slot)
    → Takes s.kind (shape_of G c s) o ws ss → AreWords ws → IsRead G (is_float G c s) o k.token
    → StandsInLine G r c s o ss (32 ∷ u) k.rest
token_taken G r c s u f k o ws ss t w i = record {
  words = ws;
  piece = 32 ∷ k.token;
  takes = t;
  small = w;
  written = Piece.other o k.token (not_result s.kind (shape_of G c s) o ws ss c t f) i;
  broken = k.broken;
  all = ap (λ z. 32 ∷ z) k.all;
}

pub token_large : (G : Table) (r : Option ℕ) (c : Context) (s : Slot) (u : List ℕ) → is_front (shape_of G c s) c ≡ false
    → (k : Token u) (P : Place) (ds : List ℕ)
    → place_of (is_float G c s) (shape_of G c s) ≡ Some P → IsLarge P.limit ds → k.token ≡ P.mark ++ ds
    → SlotRefuses G r c s (32 ∷ u) S4
token_large G r c s u f k P ds p l e = SlotRefuses.large (record {
  place = P;
  digits = ds;
  rest = k.rest;
  behind = f;
  placed = p;
  large = l;
  broken = k.broken;
  all = ap (λ z. 32 ∷ z) (k.all ∙ (ap (λ z. z ++ k.rest) e ∙ append_assoc P.mark ds k.rest));
})

pub token_none : (G : Table) (r : Option ℕ) (c : Context) (s : Slot) (u : List ℕ) → IsTokenShape (shape_of G c s)
    → is_front (shape_of G c s) c ≡ false → (k : Token u)
    → ((o : Plain) (ws : List ℕ) (ss : List Slot) → Takes s.kind (shape_of G c s) o ws ss → AreWords ws
    → IsRead G (is_float G c s) o k.token → ⊥)
    → ((P : Place) (ds : List ℕ) → place_of (is_float G c s) (shape_of G c s) ≡ Some P → IsLarge P.limit ds
    → k.token ≡ P.mark ++ ds → ⊥) → SlotRefuses G r c s (32 ∷ u) S3
token_none G r c s u ts f k n m = SlotRefuses.wrong
    (λ o ss rest h. let x = token_stood G r c s u ts f k o ss rest h in n o x.0 ss x.1 x.2 x.3)
    (λ l. m l.place l.digits l.placed l.large (token_larged G c s u k l))

decide_token : (G : Table) (r : Option ℕ) (c : Context) (s : Slot) (u : List ℕ) → IsTokenShape (shape_of G c s)
    → is_front (shape_of G c s) c ≡ false → Token u → Decided G r c s (32 ∷ u)
decide_token G r c s u ts f k = step (decide G (is_float G c s) s.kind (shape_of G c s) k.token ts)
  where
    step : Decision G (is_float G c s) s.kind (shape_of G c s) k.token → Decided G r c s (32 ∷ u)
    step (Decision.taken o ws ss t w i) = Decided.stands o ss k.rest (token_taken G r c s u f k o ws ss t w i)
    step (Decision.large P ds p l e) = Decided.refused S4 (token_large G r c s u f k P ds p l e)
    step (Decision.none n m) = Decided.refused S3 (token_none G r c s u ts f k n m)

-- a text in quotes
break_or_not : (t : List ℕ) → IsBreak t ⊎ (IsBreak t → ⊥)
break_or_not [] = inl at_end
break_or_not (b ∷ t) = step (Rattle.spv_lines.proofs.Marked.same_or_not b 32)
  where
    only : (b : ℕ) (t u : List ℕ) → IsBreak u → u ≡ b ∷ t → b ≡ 32
    only b t _ at_end e = cc
    only b t _ (at_space u) e = cc

    step : (b ≡ 32) ⊎ (b ≢ 32) → IsBreak (b ∷ t) ⊎ (IsBreak (b ∷ t) → ⊥)
    step (inl e) = inl (rw e (at_space t))
    step (inr n) = inr (λ h. n (only b t (b ∷ t) h refl))

octets_or_not : (t : List ℕ) → AllByRecursion (λ b. b < 256) t ⊎ (AllByRecursion (λ b. b < 256) t → ⊥)
octets_or_not [] = inl tt
octets_or_not (b ∷ t) = step (below_or_not b 256) (octets_or_not t)
  where
    step : (b < 256) ⊎ (256 ≤ b) → AllByRecursion (λ b. b < 256) t ⊎ (AllByRecursion (λ b. b < 256) t → ⊥)
        → AllByRecursion (λ b. b < 256) (b ∷ t) ⊎ (AllByRecursion (λ b. b < 256) (b ∷ t) → ⊥)
    step (inl l) (inl h) = inl (l, h)
    step (inl l) (inr n) = inr (λ h. n h.1)
    step (inr l) h = inr (λ g. let k = g.0 in omega arith)

-- the octets of words
words_octets : (ws : List ℕ) → AllByRecursion (λ b. b < 256) (octets_of ws)
words_octets [] = tt
words_octets (w ∷ ws) = (omega arith, (omega arith, (omega arith, (omega arith, words_octets ws))))

front_octets : (t u v : List ℕ) → AllByRecursion (λ b. b < 256) v → v ≡ t ++ u → AllByRecursion (λ b. b < 256) t
front_octets [] u v h e = tt
front_octets (x ∷ t) u [] h e = cc
front_octets (x ∷ t) u (y ∷ v) h e =
    let z : y ≡ x = cc in
    let f : v ≡ t ++ u = cc in
    let l = h.0 in
    (omega arith, front_octets t u v h.1 f)

pub text_octets : (k : ℕ) (sh : Shape) (o : Plain) (ws : List ℕ) (ss : List Slot) (t : List ℕ) → Takes k sh o ws ss
    → o ≡ Text t → (IsUtf8 t) × AllByRecursion (λ b. b < 256) t
text_octets k _ _ _ _ t (Takes.result_type x) e = cc
text_octets k _ _ _ _ t (Takes.result x) e = cc
text_octets k _ _ _ _ t (Takes.id x) e = cc
text_octets k _ _ _ _ t (Takes.word x) e = cc
text_octets k _ _ _ _ t (Takes.narrow w x n) e = cc
text_octets k _ _ _ _ t (Takes.wide w x y n) e = cc
text_octets k _ _ _ _ t (Takes.text s ws p h z v) e =
    let f : s ≡ t = cc in
    let g : IsUtf8 t = rw f at v in
    let i : AllByRecursion (λ b. b < 256) s = front_octets s (0 ∷ p) (octets_of ws) (words_octets ws) h.octets in
    let j : AllByRecursion (λ b. b < 256) t = rw f at i in
    (g, j)
text_octets k _ _ _ _ t (Takes.value es x ks n) e = cc
text_octets k _ _ _ _ t (Takes.mask es x ks n) e = cc

pub takes_text : (k : ℕ) (o : Plain) (ws : List ℕ) (ss : List Slot) (sh : Shape) → Takes k sh o ws ss → sh ≡ AsText
    → (t : List ℕ) × (o ≡ Text t) × AreWords ws
takes_text k _ _ _ _ (Takes.result_type x) e = cc
takes_text k _ _ _ _ (Takes.result x) e = cc
takes_text k _ _ _ _ (Takes.id x) e = cc
takes_text k _ _ _ _ (Takes.word x) e = cc
takes_text k _ _ _ _ (Takes.narrow w x n) e = cc
takes_text k _ _ _ _ (Takes.wide w x y n) e = cc
takes_text k _ _ _ _ (Takes.text s ws p h z v) e = (s, refl, h.words)
takes_text k _ _ _ _ (Takes.value es x ks n) e = cc
takes_text k _ _ _ _ (Takes.mask es x ks n) e = cc

no_text_place : (h : Bool) (sh : Shape) (P : Place) → sh ≡ AsText → place_of h sh ≡ Some P → ⊥
no_text_place h sh P e p = let p' : None ≡ Some P = rw e at p in cc

pub text_not_large : (G : Table) (c : Context) (s : Slot) (u : List ℕ) → shape_of G c s ≡ AsText
    → IsTooLarge G c s (32 ∷ u) → ⊥
text_not_large G c s u e l = no_text_place (is_float G c s) (shape_of G c s) l.place e l.placed

read_text : (G : Table) (hex : Bool) (o : Plain) (t a : List ℕ) → o ≡ Text t → IsRead G hex o a → a ≡ quoted t
read_text G hex o t a g h = let h' : IsRead G hex (Text t) a = rw g at h in h'

text_no_front : (sh : Shape) (c : Context) → sh ≡ AsText → is_front sh c ≡ false
text_no_front sh c e = rw e refl

pub text_stood : (G : Table) (r : Option ℕ) (c : Context) (s : Slot) (u : List ℕ) → shape_of G c s ≡ AsText
    → (o : Plain) (ss : List Slot) (rest : List ℕ) → StandsInLine G r c s o ss (32 ∷ u) rest
    → (t : List ℕ) × (o ≡ Text t) × (u ≡ quoted t ++ rest) × IsUtf8 t × AllByRecursion (λ b. b < 256) t
    × (is_without_zero t ≡ true)
text_stood G r c s u e o ss rest h =
    let f = text_no_front (shape_of G c s) c e in
    let n = not_result s.kind (shape_of G c s) o h.words ss c h.takes f in
    let b = piece_behind G r c s o h.piece h.written n in
    let i : 32 ∷ u ≡ 32 ∷ (b.token ++ rest) = h.all ∙ ap (λ p. p ++ rest) b.all in
    let j = (first_same 32 32 u (b.token ++ rest) i).second in
    let k = takes_text s.kind o h.words ss (shape_of G c s) h.takes e in
    let l = read_text G (is_float G c s) o k.0 b.token k.1 b.read in
    let m = text_octets s.kind (shape_of G c s) o h.words ss k.0 h.takes k.1 in
    let w : is_fit s.kind (shape_of G c s) o ≡ true = takes_fit s.kind (shape_of G c s) o h.words ss h.takes in
    let w' : is_fit s.kind AsText (Text k.0) ≡ true = sym (ap (λ z. is_fit s.kind z (Text k.0)) e)
    ∙ (sym (ap (λ z. is_fit s.kind (shape_of G c s) z) k.1) ∙ w) in
    (k.0, k.1, j ∙ ap (λ z. z ++ rest) l, m.0, m.1, w')

pub text_taken : (G : Table) (r : Option ℕ) (c : Context) (s : Slot) (u t rest : List ℕ) → shape_of G c s ≡ AsText
    → u ≡ quoted t ++ rest → IsBreak rest → IsUtf8 t → AllByRecursion (λ b. b < 256) t → is_without_zero t ≡ true
    → StandsInLine G r c s (Text t) [] (32 ∷ u) rest
text_taken G r c s u t rest e g b v o z =
    let x = fit_takes G s.kind c s.paired leaf.Text (shape_of G c s) (Text t) e (v, o)
    (ap (λ y. is_fit s.kind y (Text t)) e ∙ z) in
    let y = takes_text s.kind (Text t) (text_words t) [] (shape_of G c s) x e in
    record {
      words = text_words t;
      piece = 32 ∷ quoted t;
      takes = x;
      small = y.2;
      written = Piece.other (Text t) (quoted t) refl refl;
      broken = b;
      all = ap (λ p. 32 ∷ p) g;
    }

decide_text : (G : Table) (r : Option ℕ) (c : Context) (s : Slot) (u : List ℕ) → shape_of G c s ≡ AsText
    → is_front (shape_of G c s) c ≡ false → Quotes u → Decided G r c s (32 ∷ u)
decide_text G r c s u e f q = step q
  where
    not_large : IsTooLarge G c s (32 ∷ u) → ⊥
    not_large l = text_not_large G c s u e l

    stood : (o : Plain) (ss : List Slot) (rest : List ℕ) → StandsInLine G r c s o ss (32 ∷ u) rest
        → (t : List ℕ) × (o ≡ Text t) × (u ≡ quoted t ++ rest) × IsUtf8 t × AllByRecursion (λ b. b < 256) t
        × (is_without_zero t ≡ true)
    stood o ss rest h = text_stood G r c s u e o ss rest h

    again : (t rest : List ℕ) → u ≡ quoted t ++ rest → IsBreak rest ⊎ (IsBreak rest → ⊥)
        → (is_utf8 t ≡ true) ⊎ (is_utf8 t ≡ false)
        → AllByRecursion (λ b. b < 256) t ⊎ (AllByRecursion (λ b. b < 256) t → ⊥)
        → (is_without_zero t ≡ true) ⊎ (is_without_zero t ≡ false) → Decided G r c s (32 ∷ u)
    again t rest g (inl b) (inl v) (inl o) (inl z) =
        Decided.stands (Text t) [] rest (text_taken G r c s u t rest e g b (IsUtf8-from_is_utf8 t v) o z)
    again t rest g (inr b) v o z =
        Decided.refused S3 (SlotRefuses.wrong
        (λ q ss w h. let x = stood q ss w h in let y = quoted_same t x.0 rest w (sym g ∙ x.2) in let k = h.broken in
        b (rw y.second k)) not_large)
    again t rest g (inl b) (inr v) o z =
        Decided.refused S3 (SlotRefuses.wrong
        (λ q ss w h. let x = stood q ss w h in let y = quoted_same t x.0 rest w (sym g ∙ x.2) in let k = x.3 in
        true_not_false (is_utf8 t) (is_utf8-from_IsUtf8 t (rw y.first k)) v) not_large)
    again t rest g (inl b) (inl v) (inr o) z =
        Decided.refused S3 (SlotRefuses.wrong
        (λ q ss w h. let x = stood q ss w h in let y = quoted_same t x.0 rest w (sym g ∙ x.2) in let k = x.4 in
        o (rw y.first k)) not_large)
    again t rest g (inl b) (inl v) (inl o) (inr z) =
        Decided.refused S3 (SlotRefuses.wrong
        (λ q ss w h. let x = stood q ss w h in let y = quoted_same t x.0 rest w (sym g ∙ x.2) in let k = x.5 in
        true_not_false (is_without_zero t) (ap is_without_zero y.first ∙ k) z) not_large)

    step : Quotes u → Decided G r c s (32 ∷ u)
    step (Quotes.found t rest g) =
        again t rest g (break_or_not rest) (true_or_false (is_utf8 t)) (octets_or_not t)
        (true_or_false (is_without_zero t))
    step (Quotes.none n) =
        Decided.refused S3 (SlotRefuses.wrong (λ q ss w h. let x = stood q ss w h in n x.0 w x.2) not_large)

text_or_token : (sh : Shape) → IsLeaf sh → (sh ≡ AsText) ⊎ IsTokenShape sh
text_or_token AsType h = inr tt
text_or_token AsResult h = inr tt
text_or_token AsId h = inr tt
text_or_token AsWord h = inr tt
text_or_token (AsNumber w) h = inr tt
text_or_token AsText h = inl refl
text_or_token (AsValue es) h = inr tt
text_or_token (AsMask es) h = inr tt
text_or_token (AsParts ss) h = absurd h
text_or_token AsNothing h = inr tt

-- each slot but that of a Composite takes the front of the rest of a line, or refuses it
pub decide_slot : (G : Table) (r : Option ℕ) (c : Context) (s : Slot) (t : List ℕ)
    → ((x : ℕ) → r ≡ Some x → x < 4294967296) → IsBreak t → IsLeaf (shape_of G c s) → Decided G r c s t
decide_slot G r c s t small b l =
    step (true_or_false (is_front (shape_of G c s) c)) (text_or_token (shape_of G c s) l) t b
  where
    step : (is_front (shape_of G c s) c ≡ true) ⊎ (is_front (shape_of G c s) c ≡ false)
        → (shape_of G c s ≡ AsText) ⊎ IsTokenShape (shape_of G c s) → (t : List ℕ) → IsBreak t → Decided G r c s t
    step (inl f) k t b = let p = front_shape (shape_of G c s) c f in decide_front G r c s t small b p.0 p.1 f
    step (inr f) k _ at_end = decide_end G r c s f
    step (inr f) (inl e) _ (at_space u) = decide_text G r c s u e f (quotes u)
    step (inr f) (inr e) _ (at_space u) = decide_token G r c s u e f (token_of u)
