-- From a token to what a slot takes or refuses.
use Rattle.std.proofs.Common.{◌≡◌, ◌≢◌, ◌++◌, ◌∙◌, ◌⊎◌, inl, inr, ◌<◌, ◌^◌, ℕ, List, [], ◌∷◌, Option, Some, None, Bool}
use Rattle.std.proofs.Common.{true, false, ◌&&◌, not, is_some, nat_eq, map, option_and_then, refl, sym, ap, arith}
use Rattle.std.specs.Prelude.{Result as Answer, Err, if◌then◌else◌}
use Rattle.std.proofs.lemmas.Bool.Decides.{nat_tests}
use Rattle.spv_table.specs.declared.table.Enumerant.{Enumerant}
use Rattle.spv_table.specs.Table.{Table, kind_of}
use Rattle.spv_table.specs.declared.form.Leaf as declared
use Rattle.spv_table.specs.declared.form.Leaf.TheVariants as leaf
use Rattle.spv_table.specs.declared.form.Form.TheVariants.{Leaf}
use Rattle.spv_table.specs.inner.Form.{form_at}
use Rattle.spv_module.specs.declared.opcode.TheConstants.{SWITCH}
use Rattle.spv_module.specs.Operand.{Plain, Result, Text, Context, result_in, type_in}
use Rattle.spv_module.specs.Width.{width_of, type_of, first_id, context_width, switch_width}
use Rattle.spv_module.specs.Shape.{Slot, alone, Shape, AsResult, AsWord, AsNumber, AsText, AsNothing, shape_of}
use Rattle.spv_module.specs.Spelling.{Takes}
use Rattle.spv_inst.specs.Reading.{enumerants_at}
use Rattle.spv_inst.specs.Flat.{Due, OneOf}
use Rattle.spv_inst.specs.inner.Pending.{opened_kinds}
use Rattle.spv_inst.specs.inner.Written.{is_fit, is_without_zero, HasText, operand_words}
use Rattle.spv_inst.proofs.Fit.{fit_takes}
use Rattle.spv_inst.proofs.Shapes.{leaf_shape, shape_leaf}
use Rattle.spv_lines.specs.declared.asm_error.AsmCode.TheVariants.{S3}
use Rattle.spv_lines.specs.Operand.{quoted, is_float, is_float_type}
use Rattle.spv_lines.specs.Written.{Piece}
use Rattle.spv_lines.specs.Line.{before_space, from_space}
use Rattle.spv_lines.specs.Refusal.{IsBreak, at_end, at_space, is_front, SlotRefuses}
use Rattle.spv_lines.proofs.Marked.{NoSpace, Token}
use Rattle.spv_lines.proofs.Deciding.{IsTokenShape}
use Rattle.spv_lines.proofs.Slots.{front_shape, takes_result, takes_text, front_piece, not_result, piece_behind}
use Rattle.spv_lines.proofs.Slots.{token_large, token_none, text_stood, text_not_large}
use Rattle.spv_lines.specs.declared.misread.Misread.{Misread}
use Rattle.spv_lines.specs.declared.misread.Misread.TheVariants.{IllFormed, TooLarge}
use Rattle.spv_lines.specs.inner.Answer.{IsTaken, IsToken}
use Rattle.spv_parser.specs.declared.operands.Known.{Known}
use Rattle.spv_parser.specs.inner.Kept.{IsOfOperands}
use Rattle.spv_parser.specs.inner.Reading.{IsStep, HasQuoted, RefusesOr, told}
use Rattle.spv_lines.proofs.NumberTypes.{type_by_context, type_by_switch}

-- the token before a space
pub record Spaced (u : List ℕ) : Type 0 where
  pub all : u ≡ before_space u ++ from_space u
  pub spaceless : NoSpace (before_space u)
  pub broken : IsBreak (from_space u)

pub spaced : (u : List ℕ) → Spaced u
spaced [] = record { all = refl; spaceless = tt; broken = at_end }
spaced (b ∷ u) = step (nat_eq b 32) refl (spaced u)
  where
    is_space : nat_eq b 32 ≡ true → b ≡ 32
    is_space e = grind (arith, nat_tests)

    no_space : nat_eq b 32 ≡ false → b ≢ 32
    no_space e = grind (arith, nat_tests)

    step : (x : Bool) → nat_eq b 32 ≡ x → Spaced u → Spaced (b ∷ u)
    step true e k = record { all = rw e refl; spaceless = rw e tt; broken = rw (e, is_space e) (at_space u) }
    step false e k = record {
      all = rw e (ap (λ z. b ∷ z) k.all);
      spaceless = rw e (no_space e, k.spaceless);
      broken = rw e k.broken;
    }

abbrev token_by : (u token rest : List ℕ) → token ≡ before_space u → rest ≡ from_space u → Token u
token_by u token rest e f =
    let k = spaced u in
    let a : u ≡ token ++ rest = rw (e, f) k.all in
    let s : NoSpace token = rw e k.spaceless in
    let b : IsBreak rest = rw f k.broken in
    record { token = token; rest = rest; all = a; spaceless = s; broken = b }

pub token_step : (G : Table) (r : Option ℕ) (c : Context) (s : Slot) (u token rest : List ℕ) (o : Plain)
    (l : declared.Leaf) (known : Known) (old new : List ℕ) (ds later : List Due) → form_at (kind_of G s.kind) ≡ Leaf l
    → is_front (shape_of G c s) c ≡ false → token ≡ before_space u → rest ≡ from_space u
    → IsTaken G (is_float G c s) s.kind (shape_of G c s) token o → new ≡ old ++ operand_words o
    → later ≡ map OneOf (map alone (opened_kinds G o)) ++ ds → IsOfOperands known c.opcode (c.operands ++ (o ∷ []))
    → IsStep G r c s (32 ∷ u) rest known old new ds later
token_step G r c s u token rest o l known old new ds later e f g h k n d i =
    let t = fit_takes G s.kind c s.paired l (shape_of G c s) o (shape_leaf G c s l l e refl) k.text k.fit in
    let b = token_by u token rest g h in
    record {
      operand = o;
      stands = record {
        words = operand_words o;
        piece = 32 ∷ token;
        takes = t;
        small = k.small;
        written = Piece.other o token (not_result s.kind (shape_of G c s) o (operand_words o)
            (map alone (opened_kinds G o)) c t f) k.read;
        broken = b.broken;
        all = ap (λ z. 32 ∷ z) b.all;
      };
      words = n;
      due = d;
      known = i;
    }

number_or_word : (b : Bool) (w : Option ℕ) → IsTokenShape (if b then AsNumber w else AsWord)
number_or_word true w = tt
number_or_word false w = tt

token_shape : (c : Context) (p : Bool) (es : List Enumerant) (l : declared.Leaf) → l ≢ leaf.Text
    → IsTokenShape (leaf_shape c p es l)
token_shape c p es leaf.ResultType n = tt
token_shape c p es leaf.Result n = tt
token_shape c p es leaf.Id n = tt
token_shape c p es leaf.Integer n = number_or_word (p && nat_eq c.opcode SWITCH) (switch_width c)
token_shape c p es leaf.Word n = tt
token_shape c p es leaf.ContextNumber n = tt
token_shape c p es leaf.Text n = absurd (n refl)
token_shape c p es leaf.Value n = tt
token_shape c p es leaf.Mask n = tt
token_shape c p es leaf.Nothing n = tt

pub token_refused : (G : Table) (r : Option ℕ) (c : Context) (s : Slot) (u token rest : List ℕ) (why : Misread)
    (l : declared.Leaf) → form_at (kind_of G s.kind) ≡ Leaf l → l ≢ leaf.Text → is_front (shape_of G c s) c ≡ false
    → token ≡ before_space u → rest ≡ from_space u → IsToken G (is_float G c s) s.kind (shape_of G c s) token (Err why)
    → RefusesOr G r c s (32 ∷ u) (told why)
token_refused G r c s u token rest TooLarge l e n f g h k =
    token_large G r c s u f (token_by u token rest g h) k.place k.digits k.placed k.large k.all
token_refused G r c s u token rest IllFormed l e n f g h k =
    let t : IsTokenShape (shape_of G c s) = rw (shape_leaf G c s l l e refl)
    (token_shape c s.paired (enumerants_at (kind_of G s.kind)) l n) in
    token_none G r c s u t f (token_by u token rest g h) k.untaken
    (λ P ds p m a. k.not_over (record { place = P; digits = ds; placed = p; large = m; all = a }))

-- texts
pub text_step : (G : Table) (r : Option ℕ) (c : Context) (s : Slot) (u t rest : List ℕ) (known : Known)
    (old new : List ℕ) (ds later : List Due) → shape_of G c s ≡ AsText → HasQuoted u t rest → HasText (Text t)
    → new ≡ old ++ operand_words (Text t) → later ≡ map OneOf (map alone (opened_kinds G (Text t))) ++ ds
    → IsOfOperands known c.opcode (c.operands ++ (Text t ∷ []))
    → IsStep G r c s (32 ∷ u) rest known old new ds later
text_step G r c s u t rest known old new ds later e q h n d i =
    let x = fit_takes G s.kind c s.paired leaf.Text (shape_of G c s) (Text t) e h
    (ap (λ y. is_fit s.kind y (Text t)) e ∙ q.no_zero) in
    let y = takes_text s.kind (Text t) (operand_words (Text t)) [] (shape_of G c s) x e in
    record {
      operand = Text t;
      stands = record {
        words = operand_words (Text t);
        piece = 32 ∷ quoted t;
        takes = x;
        small = y.2;
        written = Piece.other (Text t) (quoted t) refl refl;
        broken = q.broken;
        all = ap (λ z. 32 ∷ z) q.all;
      };
      words = n;
      due = d;
      known = i;
    }

pub text_refused : (G : Table) (r : Option ℕ) (c : Context) (s : Slot) (u : List ℕ) → shape_of G c s ≡ AsText
    → ((t rest : List ℕ) → HasQuoted u t rest → ⊥) → SlotRefuses G r c s (32 ∷ u) S3
text_refused G r c s u e n = SlotRefuses.wrong
    (λ o ss rest h. let x = text_stood G r c s u e o ss rest h in
    n x.0 rest (record { all = x.2; no_zero = x.5; broken = h.broken }))
    (text_not_large G c s u e)

-- the line's result
pub front_step : (G : Table) (id : ℕ) (c : Context) (s : Slot) (t : List ℕ) (known : Known) (old new : List ℕ)
    (ds later : List Due) → id < 2 ^ 32 → shape_of G c s ≡ AsResult → result_in c.operands ≡ None → IsBreak t
    → new ≡ old ++ operand_words (Result id) → later ≡ map OneOf (map alone (opened_kinds G (Result id))) ++ ds
    → IsOfOperands known c.opcode (c.operands ++ (Result id ∷ []))
    → IsStep G (Some id) c s t t known old new ds later
front_step G id c s t known old new ds later l e n b w d i =
    let h : Takes s.kind (shape_of G c s) (Result id) (id ∷ []) [] = rw e (Takes.result id) in
    record {
      operand = Result id;
      stands = record {
        words = id ∷ [];
        piece = [];
        takes = h;
        small = (omega arith, tt);
        written = Piece.result id n refl;
        broken = b;
        all = refl;
      };
      words = w;
      due = d;
      known = i;
    }

pub front_refused : (G : Table) (c : Context) (s : Slot) (t : List ℕ) → is_front (shape_of G c s) c ≡ true
    → SlotRefuses G None c s t S3
front_refused G c s t f =
    let p = front_shape (shape_of G c s) c f in
    SlotRefuses.wrong
    (λ o ss rest h. let m = takes_result s.kind (shape_of G c s) o h.words ss h.takes p.0 in
    let i = front_piece G None c s o h.piece m.0 h.written m.1 p.1 in no_some m.0 i)
    (λ l. let i = l.behind in cc)
  where
    no_some : (x : ℕ) → None ≡ Some x → ⊥
    no_some x e = cc

pub front_is : (sh : Shape) (c : Context) → is_front sh c ≡ true → (sh ≡ AsResult) × (result_in c.operands ≡ None)
front_is = front_shape

-- nothing is left of the line
pub end_refused : (G : Table) (r : Option ℕ) (c : Context) (s : Slot) (t : List ℕ) → is_front (shape_of G c s) c ≡ false
    → IsBreak t → ((u : List ℕ) → t ≡ 32 ∷ u → ⊥) → SlotRefuses G r c s t S3
end_refused G r c s _ f at_end n = SlotRefuses.wrong
    (λ o ss rest h.
    let m = not_result s.kind (shape_of G c s) o h.words ss c h.takes f in
    let b = piece_behind G r c s o h.piece h.written m in
    no_cell b.token rest (h.all ∙ ap (λ p. p ++ rest) b.all))
    (λ l. no_octet (l.place.mark ++ (l.digits ++ l.rest)) l.all)
  where
    no_cell : (a u : List ℕ) → [] ≡ (32 ∷ a) ++ u → ⊥
    no_cell a u e = cc

    no_octet : (a : List ℕ) → [] ≡ 32 ∷ a → ⊥
    no_octet a e = cc
end_refused G r c s _ f (at_space u) n = absurd (n u refl)

-- the shape of a leaf
pub as_leaf : (G : Table) (c : Context) (s : Slot) (k l : declared.Leaf) (hex : Bool) (t : List ℕ)
    (r : Answer Rattle.spv_module.specs.declared.operand.Operand.Operand Misread) → form_at (kind_of G s.kind) ≡ Leaf k
    → k ≡ l
    → IsToken G hex s.kind (leaf_shape c s.paired (enumerants_at (kind_of G s.kind)) l) t r
    → IsToken G hex s.kind (shape_of G c s) t r
as_leaf G c s k l hex t r e f h = let g = shape_leaf G c s l l (e ∙ ap Leaf f) refl in rw g h

pub float_context : (G : Table) (c : Context) (s : Slot) → form_at (kind_of G s.kind) ≡ Leaf leaf.ContextNumber
    → is_float G c s ≡ is_float_type c.before (type_in c.operands)
float_context G c s e = ap (is_float_type c.before) (type_by_context c (kind_of G s.kind) e)

pub context_token : (G : Table) (c : Context) (s : Slot) (k : declared.Leaf) (x : Option ℕ) (t : List ℕ)
    (r : Answer Rattle.spv_module.specs.declared.operand.Operand.Operand Misread) → form_at (kind_of G s.kind) ≡ Leaf k
    → k ≡ leaf.ContextNumber
    → x ≡ type_in c.operands
    → IsToken G (is_float_type c.before x) s.kind (AsNumber (option_and_then (width_of c.before) x)) t r
    → IsToken G (is_float G c s) s.kind (shape_of G c s) t r
context_token G c s k x t r e f g h =
    let h' : IsToken G (is_float_type c.before (type_in c.operands)) s.kind
    (AsNumber (context_width c)) t r = rw g at h in
    let i = float_context G c s (e ∙ ap Leaf f) in
    as_leaf G c s k leaf.ContextNumber (is_float G c s) t r e f (rw i h')

pub switch_at : (c : Context) (p : Bool) (opcode : ℕ) → p ≡ true → c.opcode ≡ opcode → opcode ≡ SWITCH
    → (p && nat_eq c.opcode SWITCH) ≡ true
switch_at c p opcode e f g = let h : nat_eq c.opcode SWITCH ≡ true = rw (f, g) refl in rw (e, h) refl

pub switch_token : (G : Table) (c : Context) (s : Slot) (k : declared.Leaf) (opcode : ℕ) (x : Option ℕ) (t : List ℕ)
    (r : Answer Rattle.spv_module.specs.declared.operand.Operand.Operand Misread) → form_at (kind_of G s.kind) ≡ Leaf k
    → k ≡ leaf.Integer → s.paired ≡ true → c.opcode ≡ opcode → opcode ≡ SWITCH
    → x ≡ option_and_then (type_of c.before) (first_id c.operands)
    → IsToken G (is_float_type c.before x) s.kind (AsNumber (option_and_then (width_of c.before) x)) t r
    → IsToken G (is_float G c s) s.kind (shape_of G c s) t r
switch_token G c s k opcode x t r e f p q o g h =
    let h' : IsToken G (is_float_type c.before (option_and_then (type_of c.before) (first_id c.operands))) s.kind
    (AsNumber (switch_width c)) t r = rw g at h in
    let i : is_float G c s ≡ is_float_type c.before (option_and_then (type_of c.before) (first_id c.operands)) = ap
    (is_float_type c.before) (type_by_switch c (kind_of G s.kind) (e ∙ ap Leaf f)) in
    let b = switch_at c s.paired opcode p q o in
    let h'' : IsToken G (is_float G c s) s.kind (AsNumber (switch_width c)) t r = rw i h' in
    as_leaf G c s k leaf.Integer (is_float G c s) t r e f (rw b h'')

pub plain_integer : (G : Table) (c : Context) (s : Slot) (k : declared.Leaf) (opcode : ℕ) (t : List ℕ)
    (r : Answer Rattle.spv_module.specs.declared.operand.Operand.Operand Misread) → form_at (kind_of G s.kind) ≡ Leaf k
    → k ≡ leaf.Integer → c.opcode ≡ opcode → (s.paired && nat_eq opcode SWITCH) ≡ false
    → IsToken G (is_float G c s) s.kind AsWord t r → IsToken G (is_float G c s) s.kind (shape_of G c s) t r
plain_integer G c s k opcode t r e f q b h =
    let b' : (s.paired && nat_eq c.opcode SWITCH) ≡ false = rw q b in
    as_leaf G c s k leaf.Integer (is_float G c s) t r e f (rw b' h)

-- where a line breaks
pub break_empty : (t : List ℕ) → Rattle.std.proofs.Common.length t < 1 → IsBreak t
break_empty [] l = at_end
break_empty (b ∷ t) l = absurd (omega arith)

pub break_first : (t : List ℕ) → 0 < Rattle.std.proofs.Common.length t
    → nat_eq (Rattle.std.proofs.Common.get_or t 0 0) 32 ≡ true → IsBreak t
break_first [] l e = at_end
break_first (b ∷ t) l e = let f : b ≡ 32 = eq_by b 32 e in rw f (at_space t)
  where
    eq_by : (a b : ℕ) → nat_eq a b ≡ true → a ≡ b
    eq_by a b e = grind (arith, nat_tests)

pub no_break : (t : List ℕ) → 0 < Rattle.std.proofs.Common.length t
    → nat_eq (Rattle.std.proofs.Common.get_or t 0 0) 32 ≡ false → IsBreak t → ⊥
no_break _ l e at_end = omega arith
no_break _ l e (at_space t) = cc

-- the leaf of a result
if_front : (b : Bool) (w : Option ℕ) (c : Context) → is_front (if b then AsNumber w else AsWord) c ≡ false
if_front true w c = refl
if_front false w c = refl

leaf_no_front : (d : Context) (p : Bool) (es : List Enumerant) (l : declared.Leaf) (c : Context) → l ≢ leaf.Result
    → is_front (leaf_shape d p es l) c ≡ false
leaf_no_front d p es leaf.ResultType c n = refl
leaf_no_front d p es leaf.Result c n = absurd (n refl)
leaf_no_front d p es leaf.Id c n = refl
leaf_no_front d p es leaf.Integer c n = if_front (p && nat_eq d.opcode SWITCH) (switch_width d) c
leaf_no_front d p es leaf.Word c n = refl
leaf_no_front d p es leaf.ContextNumber c n = refl
leaf_no_front d p es leaf.Text c n = refl
leaf_no_front d p es leaf.Value c n = refl
leaf_no_front d p es leaf.Mask c n = refl
leaf_no_front d p es leaf.Nothing c n = refl

pub front_by : (G : Table) (c : Context) (s : Slot) (k : declared.Leaf) (b : Bool) (o : Option ℕ)
    → form_at (kind_of G s.kind) ≡ Leaf k → k ≡ leaf.Result → o ≡ result_in c.operands → b ≡ not (is_some o)
    → b ≡ is_front (shape_of G c s) c
front_by G c s k b o e f g h =
    let i : shape_of G c s ≡ AsResult = shape_leaf G c s leaf.Result leaf.Result (e ∙ ap Leaf f) refl in rw (i, ← g) h

pub front_not : (G : Table) (c : Context) (s : Slot) (k : declared.Leaf) → form_at (kind_of G s.kind) ≡ Leaf k
    → k ≢ leaf.Result → false ≡ is_front (shape_of G c s) c
front_not G c s k e n = let i = shape_leaf G c s k k e refl in
    rw i (sym (leaf_no_front c s.paired (enumerants_at (kind_of G s.kind)) k c n))

-- nothing spells a kind of no shape
pub nothing_token : (G : Table) (hex : Bool) (k : ℕ) (t : List ℕ)
    → Rattle.spv_lines.specs.inner.Answer.IsNone G hex k AsNothing t
nothing_token G hex k t =
    record {
      untaken = λ o ws ss h w r. none_taken k o ws ss h;
      not_over = λ v. Rattle.spv_lines.proofs.Large.no_place v.place v.placed;
    }
  where
    none_taken : (k : ℕ) (o : Plain) (ws : List ℕ) (ss : List Slot) → Takes k AsNothing o ws ss → ⊥
    none_taken k o ws ss h = elim h [ ]

-- a text in quotes that has a zero octet, or behind which the line goes on
pub no_quoted : (front s v : List ℕ) → front ≡ quoted s ++ v → (is_without_zero s ≡ false) ⊎ (IsBreak v → ⊥)
    → (t u : List ℕ) → HasQuoted front t u → ⊥
no_quoted front s v e n t u h = by n
  where
    same : Rattle.spv_lines.proofs.Tame.Both (t ≡ s) (u ≡ v)
    same = Rattle.spv_lines.proofs.Tokens.quoted_same t s u v (sym h.all ∙ e)

    by : (is_without_zero s ≡ false) ⊎ (IsBreak v → ⊥) → ⊥
    by (inl z) = let a : is_without_zero t ≡ false = ap is_without_zero same.first ∙ z in let b = h.no_zero in cc
    by (inr k) = let b = h.broken in let b' : IsBreak v = rw same.second at b in k b'

pub and_left : (a b : Bool) → a ≡ false → (a && b) ≡ false
and_left a b e = rw e refl

pub and_right : (a : Bool) (x y : ℕ) → (x ≡ y → ⊥) → (a && nat_eq x y) ≡ false
and_right true x y n = grind (arith, nat_tests)
and_right false x y n = refl
