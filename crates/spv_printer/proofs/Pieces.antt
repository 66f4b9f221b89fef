-- What operands have in a line that is put together in a buffer, and the whole line.
use Rattle.std.proofs.Common.{◌≡◌, ◌++◌, ◌∙◌, ◌⊎◌, inl, inr, ◌<◌, ◌≤◌, ◌+◌, ◌-◌, ◌^◌, ℕ, List, [], ◌∷◌, Option, Some}
use Rattle.std.proofs.Common.{None, Bool, true, false, not, is_some, length, map, take, drop, set, refl, sym, ap, arith}
use Rattle.std.proofs.Common.{append_assoc, length-drop, length-take-le, drop-drop, take_all}
use Rattle.std.specs.Prelude.{IsUtf8, decimal, if◌then◌else◌}
use Rattle.std.proofs.lemmas.Str.{IsUtf8-append, IsUtf8-from_ascii}
use Rattle.std.proofs.lemmas.Str.Ascii.{IsAscii-cons, IsAscii-nil}
use Rattle.std.proofs.Math.Seq.{drop-append_seam}
use Rattle.spv_table.specs.declared.table.Entry.{Entry}
use Rattle.spv_table.specs.Table.{Table, entry_of, pattern_of}
use Rattle.spv_module.specs.Operand.{Plain, OfType, Result, Id, Word, Number, Text, Value, Mask, Argument, Mention}
use Rattle.spv_module.specs.Operand.{PlainInst, Context, start, and_then, result_in}
use Rattle.spv_module.specs.Shape.{Slot}
use Rattle.spv_inst.specs.declared.definitions.Definitions.{Definitions}
use Rattle.spv_inst.specs.inner.Known.{Knows}
use Rattle.spv_inst.specs.Flat.{Due, OneOf, ManyOf, due}
use Rattle.spv_lines.specs.Operand.{Shown, shown_operand, is_float, is_result, quoted, escaped, id_text}
use Rattle.spv_lines.specs.Written.{Piece, Written}
use Rattle.spv_lines.specs.Line.{IsShownLine, shown_name, shown_result}
use Rattle.spv_printer.specs.declared.fast_operand.Draft.{Draft}
use Rattle.spv_printer.specs.inner.Fast.{AreShownAlike, IsLineOf, piece_of, pieces_of, results_of}
use Rattle.spv_printer.proofs.Digits.{marked, twice_marked, marks_room}

pub space_utf8 : IsUtf8 (32 ∷ [])
space_utf8 = IsUtf8-from_ascii (32 ∷ []) (IsAscii-cons 32 [] (omega arith) IsAscii-nil)

pub feed_utf8 : IsUtf8 (10 ∷ [])
feed_utf8 = IsUtf8-from_ascii (10 ∷ []) (IsAscii-cons 10 [] (omega arith) IsAscii-nil)

-- no result is among the operands, or the one that is stands in front
abbrev IsLone : Context → List Plain → Type 0
IsLone c os = (results_of os ≡ 0) ⊎ ((result_in c.operands ≡ None) × (results_of os ≡ 1))

none_more : (os : List Plain) (o : Plain) → result_in os ≡ None → result_in (o ∷ []) ≡ None
    → result_in (os ++ (o ∷ [])) ≡ None
none_more [] o e f = f
none_more (OfType x ∷ os) o e f = none_more os o e f
none_more (Result x ∷ os) o e f = cc
none_more (Id x ∷ os) o e f = none_more os o e f
none_more (Word x ∷ os) o e f = none_more os o e f
none_more (Argument x ∷ os) o e f = none_more os o e f
none_more (Mention x ∷ os) o e f = none_more os o e f
none_more (Number a b n ∷ os) o e f = none_more os o e f
none_more (Text t ∷ os) o e f = none_more os o e f
none_more (Value k x ∷ os) o e f = none_more os o e f
none_more (Mask k x ∷ os) o e f = none_more os o e f

no_result : (c : Context) (o : Plain) (os : List Plain) → result_in (o ∷ []) ≡ None
    → results_of (o ∷ os) ≡ results_of os → IsLone c (o ∷ os) → IsLone (and_then c o) os
no_result c o os e f (inl n) = inl (sym f ∙ n)
no_result c o os e f (inr n) = inr (none_more c.operands o n.0 e, sym f ∙ n.1)

lone_more : (c : Context) (o : Plain) (os : List Plain) → IsLone c (o ∷ os) → IsLone (and_then c o) os
lone_more c (OfType x) os l = no_result c (OfType x) os refl refl l
lone_more c (Result x) os (inl n) = absurd (omega arith)
lone_more c (Result x) os (inr n) = let m = n.1 in inl (omega arith)
lone_more c (Id x) os l = no_result c (Id x) os refl refl l
lone_more c (Word x) os l = no_result c (Word x) os refl refl l
lone_more c (Argument x) os l = no_result c (Argument x) os refl refl l
lone_more c (Mention x) os l = no_result c (Mention x) os refl refl l
lone_more c (Number a b n) os l = no_result c (Number a b n) os refl refl l
lone_more c (Text t) os l = no_result c (Text t) os refl refl l
lone_more c (Value k x) os l = no_result c (Value k x) os refl refl l
lone_more c (Mask k x) os l = no_result c (Mask k x) os refl refl l

no_front : (c : Context) (x : ℕ) (os : List Plain) → is_result c (Result x) ≡ false → IsLone c (Result x ∷ os) → ⊥
no_front c x os n (inl m) = omega arith
no_front c x os n (inr m) = let e : not (is_some (result_in c.operands)) ≡ true = rw m.0 refl in
    let f : true ≡ false = sym e ∙ n in cc

other_piece : (G : Table) (c : Context) (hex : Bool) (o : Plain) (os : List Plain) (t : List ℕ) → is_result c o ≡ false
    → t ≡ shown_operand G false o → IsLone c (o ∷ os) → 32 ∷ t ≡ piece_of G o
other_piece G c hex (OfType x) os t n e l = ap (λ z. 32 ∷ z) e
other_piece G c hex (Result x) os t n e l = absurd (no_front c x os n l)
other_piece G c hex (Id x) os t n e l = ap (λ z. 32 ∷ z) e
other_piece G c hex (Word x) os t n e l = ap (λ z. 32 ∷ z) e
other_piece G c hex (Argument x) os t n e l = ap (λ z. 32 ∷ z) e
other_piece G c hex (Mention x) os t n e l = ap (λ z. 32 ∷ z) e
other_piece G c hex (Number a b w) os t n e l = ap (λ z. 32 ∷ z) e
other_piece G c hex (Text u) os t n e l = ap (λ z. 32 ∷ z) e
other_piece G c hex (Value k x) os t n e l = ap (λ z. 32 ∷ z) e
other_piece G c hex (Mask k x) os t n e l = ap (λ z. 32 ∷ z) e

piece_alike : (G : Table) (r : Option ℕ) (c : Context) (s : Slot) (o : Plain) (os : List Plain) (p : List ℕ)
    → Piece (Shown G) G r c s o p → shown_operand G (is_float G c s) o ≡ shown_operand G false o → IsLone c (o ∷ os)
    → p ≡ piece_of G o
piece_alike G r c s _ os _ (Piece.result x n e) st l = refl
piece_alike G r c s _ os _ (Piece.other o t n e) st l = other_piece G c (is_float G c s) o os t n (e ∙ st) l

pub pieces_shown : (G : Table) (r : Option ℕ) (c : Context) (ds : List Due) (os : List Plain) (us t : List ℕ)
    → Written (Shown G) G r c ds os us t → AreShownAlike G c os → IsLone c os → t ≡ pieces_of G os
pieces_shown G r _ _ _ _ _ (Written.end c) st l = refl
pieces_shown G r _ _ _ _ _ (Written.take c s ds o ws ss p os us t x y m) st l =
    let e = piece_alike G r c s o os p y (st.0 s ws ss x) l in
    let f = pieces_shown G r (and_then c o) (map OneOf ss ++ ds) os us t m st.1 (lone_more c o os l) in
    ap (λ z. z ++ t) e ∙ ap (λ z. piece_of G o ++ z) f
pieces_shown G r _ _ _ _ _ (Written.parts c s ds ss os us t k m) st l =
    pieces_shown G r c (map OneOf ss ++ ds) os us t m st l
pieces_shown G r _ _ _ _ _ (Written.no_maybe c s ds os t m) st l = pieces_shown G r c ds os [] t m st l
pieces_shown G r _ _ _ _ _ (Written.maybe c s ds os u us t m) st l =
    pieces_shown G r c (OneOf s ∷ ds) os (u ∷ us) t m st l
pieces_shown G r _ _ _ _ _ (Written.no_many c s ds os t m) st l = pieces_shown G r c ds os [] t m st l
pieces_shown G r _ _ _ _ _ (Written.many c s ds os u us t m) st l =
    pieces_shown G r c (OneOf s ∷ ManyOf s ∷ ds) os (u ∷ us) t m st l

pub lone_by : (b : Bool) (c : Context) (os : List Plain) → result_in c.operands ≡ None
    → results_of os ≡ (if b then 1 else 0) → IsLone c os
lone_by true c os n e = inr (n, e)
lone_by false c os n e = inl e

same_some : (e f : Entry) (o : Option Entry) → o ≡ Some e → o ≡ Some f → f ≡ e
same_some e f o g h = let i : Some f ≡ Some e = sym h ∙ g in cc

-- what an operand that is no result has in its line
pub piece_by : (G : Table) (o : Plain) → result_in (o ∷ []) ≡ None → 32 ∷ shown_operand G false o ≡ piece_of G o
piece_by G (Result x) n = cc
piece_by G _ n = refl

pub octets_put : (old ys : List ℕ) (start end : ℕ) → start + length ys ≡ end → end ≤ length old
    → drop start (take start old ++ (ys ++ drop (end - start) (drop start old))) ≡ ys ++ drop end old
octets_put old ys start end e l =
    let k : length (take start old) ≡ start = length-take-le start old (omega arith) in
    let d : start + (end - start) ≡ end = omega arith in
    let x = ys ++ drop (end - start) (drop start old) in
    ap (λ i. drop i (take start old ++ x)) (sym k)
    ∙ (drop-append_seam (take start old) x
    ∙ ap (λ z. ys ++ z) (drop-drop (end - start) start old ∙ ap (λ i. drop i old) d))

pub quoted_utf8 : (t : List ℕ) → escaped t ≡ t → IsUtf8 t → IsUtf8 (32 ∷ quoted t)
quoted_utf8 t e u =
    let front : IsUtf8 (32 ∷ 34 ∷ []) = IsUtf8-from_ascii (32 ∷ 34 ∷ [])
    (IsAscii-cons 32 (34 ∷ []) (omega arith) (IsAscii-cons 34 [] (omega arith) IsAscii-nil)) in
    let back : IsUtf8 (34 ∷ []) = IsUtf8-from_ascii (34 ∷ []) (IsAscii-cons 34 [] (omega arith) IsAscii-nil) in
    let f : IsUtf8 ((32 ∷ 34 ∷ []) ++ (t ++ (34 ∷ []))) = IsUtf8-append (32 ∷ 34 ∷ []) (t ++ (34 ∷ [])) front
    (IsUtf8-append t (34 ∷ []) u back) in
    rw e f

-- what is put before a place
pub id_put : (old new : List ℕ) (n m r end : ℕ) → length new ≡ length old → end ≤ length old → 16 ≤ end → m ≡ n
    → n < 2 ^ 32 → r + length (decimal m) ≡ end → drop r new ≡ decimal m ++ drop end old
    → drop (r - 2) (set (set new (r - 1) 37) (r - 2) 32) ≡ (32 ∷ id_text n) ++ drop end old
id_put old new n m r end s w g e h l d =
    let k = marks_room n m r end e h (omega arith) l in
    let t = twice_marked new r 37 32 (decimal m ++ drop end old) (omega arith) (omega arith) d in
    t ∙ ap (λ z. 32 ∷ 37 ∷ (decimal z ++ drop end old)) e

pub word_put : (old new : List ℕ) (n m r end : ℕ) → length new ≡ length old → end ≤ length old → 16 ≤ end → m ≡ n
    → n < 2 ^ 32 → r + length (decimal m) ≡ end → drop r new ≡ decimal m ++ drop end old
    → drop (r - 1) (set new (r - 1) 32) ≡ (32 ∷ decimal n) ++ drop end old
word_put old new n m r end s w g e h l d =
    let k = marks_room n m r end e h (omega arith) l in
    let t = marked new r 32 (decimal m ++ drop end old) (omega arith) (omega arith) d in
    t ∙ ap (λ z. 32 ∷ (decimal z ++ drop end old)) e

-- a result without the space before it
pub behind_space : (buffer rest : List ℕ) (at n : ℕ) → drop at buffer ≡ (32 ∷ id_text n) ++ rest
    → drop (at + 1) buffer ≡ id_text n ++ rest
behind_space buffer rest at n e = sym (drop-drop 1 at buffer) ∙ ap (drop 1) e

pub rest_of : (xs : List ℕ) (at size : ℕ) → length xs ≡ size → at ≤ size → take (size - at) (drop at xs) ≡ drop at xs
rest_of xs at size e l = let k = length-drop at xs in take_all (size - at) (drop at xs) (omega arith)

-- the whole line
pub line_whole : (G : Table) (before : List PlainInst) (i : PlainInst) (further line name out : List ℕ) (e : Entry)
    (k : Definitions) (d : Draft) (buffer : List ℕ) → Knows k before → IsShownLine G before i further line
    → IsLineOf G k i d buffer → entry_of G i.opcode ≡ Some e
    → shown_name G i.opcode e ≡ e.name → name ≡ e.name
    → out ≡ shown_result d.result ++ (name ++ (drop 128 (take d.at buffer) ++ (10 ∷ []))) → out ≡ line ++ (10 ∷ [])
line_whole G before i further line name out e defined d buffer y h l k s n o =
    let f = same_some e h.entry (entry_of G i.opcode) k h.known in
    let c = l.text before (result_in i.operands) (map due (pattern_of h.entry)) further h.operands y h.written in
    let name' : shown_name G i.opcode h.entry ≡ name = ap (shown_name G i.opcode) f ∙ (s ∙ sym n) in
    let w : line ≡ shown_result d.result ++ (name ++ h.operands) = h.all
    ∙ (ap (λ z. shown_result z ++ (shown_name G i.opcode h.entry ++ h.operands)) l.result
    ∙ ap (λ z. shown_result d.result ++ (z ++ h.operands)) name') in
    let g : out ≡ shown_result d.result ++ (name ++ (h.operands ++ (10 ∷ []))) = o
    ∙ ap (λ z. shown_result d.result ++ (name ++ (z ++ (10 ∷ [])))) c in
    let m : (shown_result d.result ++ (name ++ h.operands)) ++ (10 ∷ []) ≡ shown_result d.result
    ++ (name ++ (h.operands ++ (10 ∷ []))) = simp append_assoc in
    g ∙ (sym m ∙ ap (λ z. z ++ (10 ∷ [])) (sym w))
