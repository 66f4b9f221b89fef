-- A text is read as at most one header and list of instructions.
use Rattle.std.proofs.Common.{◌≡◌, ◌++◌, ◌∙◌, ◌⊎◌, inl, inr, ◌<◌, ◌^◌, ℕ, List, [], ◌∷◌, Option, Some, None, map}
use Rattle.std.proofs.Common.{option_map, refl, sym, ap, arith, append_assoc}
use Rattle.std.specs.Prelude.{decimal, codes}
use Rattle.std.proofs.lemmas.Fmt.{decimal_injective}
use Rattle.std.proofs.lemmas.List.{append-nil, append_cancel_left}
use Rattle.spv_words.specs.declared.words.Header.{Header}
use Rattle.spv_table.specs.declared.table.Entry.{Entry}
use Rattle.spv_table.specs.Table.{Table, pattern_of}
use Rattle.spv_table.specs.Lookups.{opcode_named}
use Rattle.spv_module.specs.Operand.{Plain, Result, PlainInst, Context, and_then, start, result_in}
use Rattle.spv_module.specs.Shape.{Slot, Shape, shape_of}
use Rattle.spv_module.specs.Spelling.{Takes, result_type, result, id, word, narrow, wide, text, value, mask}
use Rattle.spv_inst.specs.Flat.{Due, OneOf, ManyOf, due}
use Rattle.spv_inst.specs.inner.Flat.{Matches}
use Rattle.spv_inst.specs.Limits.{HeaderFits}
use Rattle.spv_inst.proofs.Flat.{same_bases, no_words, no_operands}
use Rattle.spv_inst.proofs.Takes.{takes_back, takes_no_parts}
use Rattle.spv_lines.specs.Operand.{Form, IsRead, id_text}
use Rattle.spv_lines.specs.Written.{Piece, Written}
use Rattle.spv_lines.specs.Line.{AreWords, Parts, parts_of, IsInstName, IsReadLine}
use Rattle.spv_lines.specs.Text.{header_lines, ReadLines, IsReadText}
use Rattle.spv_lines.specs.Refusal.{IsBreak, at_end, at_space}
use Rattle.spv_lines.proofs.Tame.{Both}
use Rattle.spv_lines.proofs.Tokens.{first_same, names_same}
use Rattle.spv_lines.proofs.Once.{forget, entry_once}
use Rattle.spv_lines.proofs.Pieces.{piece_same}

-- operands of a line are nothing, or begin with a space
pub written_break : (form : Form) (G : Table) (r : Option ℕ) (c : Context) (ds : List Due) (os : List Plain)
    (us t : List ℕ) → Written form G r c ds os us t → IsBreak t
written_break form G r _ _ _ _ _ (Written.end c) = at_end
written_break form G r _ _ _ _ _ (Written.take c s ds _ ws ss _ os us t h (Piece.result x n e) m) =
    written_break form G r (and_then c (Result x)) (map OneOf ss ++ ds) os us t m
written_break form G r _ _ _ _ _ (Written.take c s ds _ ws ss _ os us t h (Piece.other o a f w) m) = at_space (a ++ t)
written_break form G r _ _ _ _ _ (Written.parts c s ds ss os us t h m) =
    written_break form G r c (map OneOf ss ++ ds) os us t m
written_break form G r _ _ _ _ _ (Written.no_maybe c s ds os t m) = written_break form G r c ds os [] t m
written_break form G r _ _ _ _ _ (Written.maybe c s ds os u us t m) =
    written_break form G r c (OneOf s ∷ ds) os (u ∷ us) t m
written_break form G r _ _ _ _ _ (Written.no_many c s ds os t m) = written_break form G r c ds os [] t m
written_break form G r _ _ _ _ _ (Written.many c s ds os u us t m) =
    written_break form G r c (OneOf s ∷ ManyOf s ∷ ds) os (u ∷ us) t m

-- no operands have no text
pub no_text : (form : Form) (G : Table) (r : Option ℕ) (c : Context) (ds : List Due) (os : List Plain) (us t : List ℕ)
    → Written form G r c ds os us t → os ≡ [] → t ≡ []
no_text form G r _ _ _ _ _ (Written.end c) e = refl
no_text form G r _ _ _ _ _ (Written.take c s ds o ws ss p os us t h q m) e = cc
no_text form G r _ _ _ _ _ (Written.parts c s ds ss os us t h m) e = no_text form G r c (map OneOf ss ++ ds) os us t m e
no_text form G r _ _ _ _ _ (Written.no_maybe c s ds os t m) e = no_text form G r c ds os [] t m e
no_text form G r _ _ _ _ _ (Written.maybe c s ds os u us t m) e = no_text form G r c (OneOf s ∷ ds) os (u ∷ us) t m e
no_text form G r _ _ _ _ _ (Written.no_many c s ds os t m) e = no_text form G r c ds os [] t m e
no_text form G r _ _ _ _ _ (Written.many c s ds os u us t m) e =
    no_text form G r c (OneOf s ∷ ManyOf s ∷ ds) os (u ∷ us) t m e

-- what has no text is nothing, or the line's result
pub only_front : (form : Form) (G : Table) (r : Option ℕ) (c : Context) (ds : List Due) (os : List Plain)
    (us t : List ℕ) → Written form G r c ds os us t → t ≡ []
    → (os ≡ []) ⊎ ((x : ℕ) × (result_in c.operands ≡ None) × (r ≡ Some x))
only_front form G r _ _ _ _ _ (Written.end c) e = inl refl
only_front form G r _ _ _ _ _ (Written.take c s ds _ ws ss _ os us t h (Piece.result x n f) m) e = inr (x, n, f)
only_front form G r _ _ _ _ _ (Written.take c s ds _ ws ss _ os us t h (Piece.other o a f w) m) e = cc
only_front form G r _ _ _ _ _ (Written.parts c s ds ss os us t h m) e =
    only_front form G r c (map OneOf ss ++ ds) os us t m e
only_front form G r _ _ _ _ _ (Written.no_maybe c s ds os t m) e = only_front form G r c ds os [] t m e
only_front form G r _ _ _ _ _ (Written.maybe c s ds os u us t m) e =
    only_front form G r c (OneOf s ∷ ds) os (u ∷ us) t m e
only_front form G r _ _ _ _ _ (Written.no_many c s ds os t m) e = only_front form G r c ds os [] t m e
only_front form G r _ _ _ _ _ (Written.many c s ds os u us t m) e =
    only_front form G r c (OneOf s ∷ ManyOf s ∷ ds) os (u ∷ us) t m e

-- an item that is absent on one side and there on the other
absent_or_not : (G : Table) (r : Option ℕ) (c : Context) (ds es : List Due) (os ps : List Plain) (v : ℕ)
    (vs t u : List ℕ)
    → Written (IsRead G) G r c ds os [] t → Written (IsRead G) G r c es ps (v ∷ vs) u → r ≡ result_in (c.operands ++ os)
    → t ≡ u → ⊥
absent_or_not G r c ds es os ps v vs t u m n i e =
    let a : os ≡ [] = no_operands G c ds os [] (forget (IsRead G) G r c ds os [] t m) refl in
    let b : t ≡ [] = no_text (IsRead G) G r c ds os [] t m a in
    let d : u ≡ [] = sym e ∙ b in
    let j : r ≡ result_in (c.operands ++ []) = rw a at i in
    let k : r ≡ result_in c.operands = j ∙ ap result_in (append-nil c.operands) in
    elim (only_front (IsRead G) G r c es ps (v ∷ vs) u n d) [
      | inl f ↦ let w : v ∷ vs ≡ [] = no_words G c es ps (v ∷ vs) (forget (IsRead G) G r c es ps (v ∷ vs) u n) f in cc
      | inr f ↦ let w : None ≡ Some f.0 = sym f.1 ∙ (sym k ∙ f.2) in cc
    ]

moved : (G : Table) (r : Option ℕ) (c : Context) (o p : Plain) (ss ts : List Slot) (ds : List Due) (os : List Plain)
    (us t : List ℕ) → o ≡ p → ss ≡ ts
    → Written (IsRead G) G r (and_then c p) (map OneOf ts ++ ds) os us t
    → Written (IsRead G) G r (and_then c o) (map OneOf ss ++ ds) os us t
moved G r c o p ss ts ds os us t e f m = rw (e, f) m

bases_moved : (G : Table) (r : Option ℕ) (c : Context) (ss ts : List Slot) (ds : List Due) (os : List Plain)
    (us t : List ℕ) → ss ≡ ts
    → Written (IsRead G) G r c (map OneOf ts ++ ds) os us t → Written (IsRead G) G r c (map OneOf ss ++ ds) os us t
bases_moved G r c ss ts ds os us t f m = rw f m

pub all_split : (us vs : List ℕ) → AreWords (us ++ vs) → Both (AreWords us) (AreWords vs)
all_split [] vs h = record { first = tt; second = h }
all_split (u ∷ us) vs h = let r = all_split us vs h.1 in record { first = (h.0, r.first); second = r.second }

pub result_moved : (r : Option ℕ) (xs : List Plain) (o : Plain) (os : List Plain) → r ≡ result_in (xs ++ (o ∷ os))
    → r ≡ result_in ((xs ++ (o ∷ [])) ++ os)
result_moved r xs o os e = rw (append_assoc xs (o ∷ []) os) e

pub result_changed : (r : Option ℕ) (xs : List Plain) (o p : Plain) (os : List Plain) → o ≡ p
    → r ≡ result_in (xs ++ (p ∷ os)) → r ≡ result_in ((xs ++ (o ∷ [])) ++ os)
result_changed r xs o p os f e = rw (append_assoc xs (o ∷ []) os, f) e

-- the text tells the operands
pub read_same : (G : Table) (r : Option ℕ) (c : Context) (ds : List Due) (os ps : List Plain) (us vs t u : List ℕ)
    → Written (IsRead G) G r c ds os us t → Written (IsRead G) G r c ds ps vs u → AreWords us → AreWords vs
    → r ≡ result_in (c.operands ++ os) → r ≡ result_in (c.operands ++ ps) → t ≡ u → os ≡ ps
read_same G r _ _ _ _ _ _ _ _ (Written.end c) (Written.end _) a b i j e = refl
read_same G r _ _ _ _ _ _ _ _ (Written.take c s ds o ws ss p os us t h x m)
    (Written.take _ _ _ q xs ts v ps vs u g y n) a b i j e =
    let k = all_split ws us a in
    let l = all_split xs vs b in
    let bt = written_break (IsRead G) G r (and_then c o) (map OneOf ss ++ ds) os us t m in
    let bu = written_break (IsRead G) G r (and_then c q) (map OneOf ts ++ ds) ps vs u n in
    let z = piece_same G r c s (shape_of G c s) o q ws xs ss ts p v t u h g k.first l.first x y bt bu e in
    let w = takes_back s.kind (shape_of G c s) o q ws xs ss ts h g z.operand in
    let f = read_same G r (and_then c o) (map OneOf ss ++ ds) os ps us vs t u m
    (moved G r c o q ss ts ds ps vs u z.operand w.slots n) k.second l.second
    (result_moved r c.operands o os i) (result_changed r c.operands o q ps z.operand j) z.rest in
    ap (λ d. d ∷ os) z.operand ∙ ap (λ d. q ∷ d) f
read_same G r _ _ _ _ _ _ _ _ (Written.take c s ds o ws ss p os us t h x m)
    (Written.parts _ _ _ ts ps vs u g n) a b i j e = absurd (takes_no_parts s.kind (shape_of G c s) o ws ss ts h g)
read_same G r _ _ _ _ _ _ _ _ (Written.parts c s ds ss os us t h m)
    (Written.take _ _ _ q xs ts v ps vs u g y n) a b i j e =
    absurd (takes_no_parts s.kind (shape_of G c s) q xs ts ss g h)
read_same G r _ _ _ _ _ _ _ _ (Written.parts c s ds ss os us t h m) (Written.parts _ _ _ ts ps vs u g n) a b i j e =
    read_same G r c (map OneOf ss ++ ds) os ps us vs t u m
    (bases_moved G r c ss ts ds ps vs u (same_bases (shape_of G c s) ss ts h g) n) a b i j e
read_same G r _ _ _ _ _ _ _ _ (Written.no_maybe c s ds os t m) (Written.no_maybe _ _ _ ps u n) a b i j e =
    read_same G r c ds os ps [] [] t u m n a b i j e
read_same G r _ _ _ _ _ _ _ _ (Written.no_maybe c s ds os t m) (Written.maybe _ _ _ ps v vs u n) a b i j e =
    absurd (absent_or_not G r c ds (OneOf s ∷ ds) os ps v vs t u m n i e)
read_same G r _ _ _ _ _ _ _ _ (Written.maybe c s ds os u us t m) (Written.no_maybe _ _ _ ps v n) a b i j e =
    absurd (absent_or_not G r c ds (OneOf s ∷ ds) ps os u us v t n m j (sym e))
read_same G r _ _ _ _ _ _ _ _ (Written.maybe c s ds os u us t m) (Written.maybe _ _ _ ps v vs w n) a b i j e =
    read_same G r c (OneOf s ∷ ds) os ps (u ∷ us) (v ∷ vs) t w m n a b i j e
read_same G r _ _ _ _ _ _ _ _ (Written.no_many c s ds os t m) (Written.no_many _ _ _ ps u n) a b i j e =
    read_same G r c ds os ps [] [] t u m n a b i j e
read_same G r _ _ _ _ _ _ _ _ (Written.no_many c s ds os t m) (Written.many _ _ _ ps v vs u n) a b i j e =
    absurd (absent_or_not G r c ds (OneOf s ∷ ManyOf s ∷ ds) os ps v vs t u m n i e)
read_same G r _ _ _ _ _ _ _ _ (Written.many c s ds os u us t m) (Written.no_many _ _ _ ps v n) a b i j e =
    absurd (absent_or_not G r c ds (OneOf s ∷ ManyOf s ∷ ds) ps os u us v t n m j (sym e))
read_same G r _ _ _ _ _ _ _ _ (Written.many c s ds os u us t m) (Written.many _ _ _ ps v vs w n) a b i j e =
    read_same G r c (OneOf s ∷ ManyOf s ∷ ds) os ps (u ∷ us) (v ∷ vs) t w m n a b i j e

-- a result is a word
result_first : (k : ℕ) (sh : Shape) (o : Plain) (ws : List ℕ) (ss : List Slot) (os : List Plain) (x : ℕ)
    → Takes k sh o ws ss → AreWords ws → result_in (o ∷ os) ≡ Some x
    → (x < 4294967296) ⊎ (result_in os ≡ Some x)
result_first k _ _ _ _ os x (result_type y) h e = inr e
result_first k _ _ _ _ os x (result y) h e = let f : y ≡ x = cc in let l = h.0 in inl (omega arith)
result_first k _ _ _ _ os x (id y) h e = inr e
result_first k _ _ _ _ os x (word y) h e = inr e
result_first k _ _ _ _ os x (narrow w y n) h e = inr e
result_first k _ _ _ _ os x (wide w y z n) h e = inr e
result_first k _ _ _ _ os x (text s ws p n z v) h e = inr e
result_first k _ _ _ _ os x (value es y ks n) h e = inr e
result_first k _ _ _ _ os x (mask es y ks n) h e = inr e

pub result_small : (G : Table) (c : Context) (ds : List Due) (os : List Plain) (us : List ℕ) (x : ℕ)
    → Matches G c ds os us → AreWords us → result_in os ≡ Some x → x < 4294967296
result_small G _ _ _ _ x (Matches.end c) h e = cc
result_small G _ _ _ _ x (Matches.take c s ds o ws ss os us t m) h e =
    let r = all_split ws us h in
    elim (result_first s.kind (shape_of G c s) o ws ss os x t r.first e) [
      | inl l ↦ l
      | inr f ↦ result_small G (and_then c o) (map OneOf ss ++ ds) os us x m r.second f
    ]
result_small G _ _ _ _ x (Matches.parts c s ds ss os us t m) h e = result_small G c (map OneOf ss ++ ds) os us x m h e
result_small G _ _ _ _ x (Matches.no_maybe c s ds os m) h e = result_small G c ds os [] x m h e
result_small G _ _ _ _ x (Matches.maybe c s ds os u us m) h e = result_small G c (OneOf s ∷ ds) os (u ∷ us) x m h e
result_small G _ _ _ _ x (Matches.no_many c s ds os m) h e = result_small G c ds os [] x m h e
result_small G _ _ _ _ x (Matches.many c s ds os u us m) h e =
    result_small G c (OneOf s ∷ ManyOf s ∷ ds) os (u ∷ us) x m h e

pub ids_tell : (a b : Option ℕ) → ((x : ℕ) → a ≡ Some x → x < 4294967296) → ((x : ℕ) → b ≡ Some x → x < 4294967296)
    → option_map id_text a ≡ option_map id_text b → a ≡ b
ids_tell None None h g e = refl
ids_tell None (Some y) h g e = cc
ids_tell (Some x) None h g e = cc
ids_tell (Some x) (Some y) h g e =
    let f : id_text x ≡ id_text y = some_same (id_text x) (id_text y) e in
    let l = h x refl in
    let k = g y refl in
    let d = (first_same 37 37 (decimal x) (decimal y) f).second in
    ap Some (decimal_injective x y (omega arith) (omega arith) d)
  where
    some_same : (t u : List ℕ) → Some t ≡ Some u → t ≡ u
    some_same t u e = cc

inst_same : (i j : PlainInst) → i.opcode ≡ j.opcode → i.operands ≡ j.operands → i ≡ j
inst_same i j e f = ap (λ p. let k : PlainInst = record { opcode = p; operands = i.operands } in k) e
    ∙ ap (λ os. let k : PlainInst = record { opcode = j.opcode; operands = os } in k) f

written_moved : (G : Table) (before : List PlainInst) (p q : ℕ) (r z : Option ℕ) (a b : Entry) (os : List Plain)
    (us t : List ℕ) → p ≡ q → r ≡ z → a ≡ b
    → Written (IsRead G) G z (start before q) (map due (pattern_of b)) os us t
    → Written (IsRead G) G r (start before p) (map due (pattern_of a)) os us t
written_moved G before p q r z a b os us t e f g m = rw (e, f, g) m

parts_once : (o : Option Parts) (P Q : Parts) → o ≡ Some P → o ≡ Some Q → P ≡ Q
parts_once o P Q e f = cc

pub parts_same : (l m : List ℕ) (P Q : Parts) → l ≡ m → parts_of l ≡ Some P → parts_of m ≡ Some Q → P ≡ Q
parts_same l m P Q e f g = parts_once (parts_of m) P Q (ap parts_of (sym e) ∙ f) g

pub inst_name_same : (G : Table) (t u : List ℕ) (p q : ℕ) (a b : Entry) → IsInstName G t p a → IsInstName G u q b
    → t ≡ u → Both (p ≡ q) (a ≡ b)
inst_name_same G t u p q a b n m e =
    let h = n.range in
    let g = m.range in
    let f = names_same (opcode_named G.entries) p q t u (omega arith) (omega arith) n.named m.named e in
    record { first = f; second = entry_once G p q a b f n.known m.known }

-- one line is read as one instruction, of the same words
pub line_same : (G : Table) (before : List PlainInst) (i j : PlainInst) (us vs l m : List ℕ)
    → IsReadLine G before i us l → IsReadLine G before j vs m → l ≡ m → i ≡ j
line_same G before i j us vs l m a b e =
    let p = parts_same l m a.parts b.parts e a.divided b.divided in
    let n = inst_name_same G a.parts.name b.parts.name i.opcode j.opcode a.entry b.entry a.name b.name
    (ap (λ z. z.name) p) in
    let f : option_map id_text (result_in i.operands) ≡ option_map id_text (result_in j.operands) = sym a.result
    ∙ (ap (λ z. z.result) p ∙ b.result) in
    let ma = forget (IsRead G) G (result_in i.operands) (start before i.opcode)
    (map due (pattern_of a.entry)) i.operands us a.parts.operands a.written in
    let mb = forget (IsRead G) G (result_in j.operands) (start before j.opcode)
    (map due (pattern_of b.entry)) j.operands vs b.parts.operands b.written in
    let r = ids_tell (result_in i.operands) (result_in j.operands)
    (λ x g. result_small G (start before i.opcode) (map due (pattern_of a.entry)) i.operands us x ma a.small g)
    (λ x g. result_small G (start before j.opcode) (map due (pattern_of b.entry)) j.operands vs x mb b.small g) f in
    let w = written_moved G before i.opcode j.opcode (result_in i.operands)
    (result_in j.operands) a.entry b.entry j.operands vs b.parts.operands n.first r n.second b.written in
    let o = read_same G (result_in i.operands) (start before i.opcode)
    (map due (pattern_of a.entry)) i.operands j.operands us vs a.parts.operands b.parts.operands a.written w a.small
    b.small refl r (ap (λ z. z.operands) p) in
    inst_same i j n.first o

pub read_moved : (G : Table) (before : List PlainInst) (i j : PlainInst) (is : List PlainInst) (ls : List (List ℕ))
    (ws : List ℕ) → i ≡ j
    → ReadLines G (before ++ (j ∷ [])) is ls ws → ReadLines G (before ++ (i ∷ [])) is ls ws
read_moved G before i j is ls ws e m = rw e m

pub lines_same : (G : Table) (before is js : List PlainInst) (ls ms : List (List ℕ)) (ws vs : List ℕ)
    → ReadLines G before is ls ws → ReadLines G before js ms vs → ls ≡ ms → is ≡ js
lines_same G _ _ _ _ _ _ _ (ReadLines.end before) (ReadLines.end _) e = refl
lines_same G _ _ _ _ _ _ _ (ReadLines.end before) (ReadLines.more _ j js vs m ws ms b h n) e = cc
lines_same G _ _ _ _ _ _ _ (ReadLines.more before i is us l ws ls a h m) (ReadLines.end _) e = cc
lines_same G _ _ _ _ _ _ _ (ReadLines.more before i is us l ws ls a h m) (ReadLines.more _ j js vs k xs ks b g n) e =
    let p : l ≡ k = cc in
    let q : ls ≡ ks = cc in
    let x = line_same G before i j us vs l k a b p in
    let y = lines_same G (before ++ (i ∷ [])) is js ls ks ws xs m (read_moved G before i j js ks xs x n) q in
    ap (λ z. z ∷ is) x ∙ ap (λ z. j ∷ z) y

abbrev header : ℕ → ℕ → ℕ → ℕ → Header
header a b c d = record { version = a; generator = b; bound = c; schema = d }

header_fields : (h k : Header) → h.version ≡ k.version → h.generator ≡ k.generator → h.bound ≡ k.bound
    → h.schema ≡ k.schema → h ≡ k
header_fields h k a b c d =
    ap (λ z. header z h.generator h.bound h.schema) a
    ∙ (ap (λ z. header k.version z h.bound h.schema) b
    ∙ (ap (λ z. header k.version k.generator z h.schema) c ∙ ap (λ z. header k.version k.generator k.bound z) d))

cells_same : (x y : List ℕ) (xs ys : List (List ℕ)) → x ∷ xs ≡ y ∷ ys → Both (x ≡ y) (xs ≡ ys)
cells_same x y xs ys e = record { first = cc; second = cc }

pub header_same : (h k : Header) (ls ms : List (List ℕ)) → HeaderFits h → HeaderFits k → h.generator < 2 ^ 32
    → k.generator < 2 ^ 32 → header_lines h ++ ls ≡ header_lines k ++ ms → Both (h ≡ k) (ls ≡ ms)
header_same h k ls ms f g a b e =
    let e1 = cells_same _ _ _ _ e in
    let e2 = cells_same _ _ _ _ e1.second in
    let e3 = cells_same _ _ _ _ e2.second in
    let e4 = cells_same _ _ _ _ e3.second in
    let e5 = cells_same _ _ _ _ e4.second in
    let x = append_cancel_left (codes "; Generator: ") (decimal h.generator) (decimal k.generator) e3.first in
    let y = append_cancel_left (codes "; Bound: ") (decimal h.bound) (decimal k.bound) e4.first in
    let hb = f.bound_most in
    let kb = g.bound_most in
    record {
      first = header_fields h k (f.version ∙ sym g.version)
          (decimal_injective h.generator k.generator (omega arith) (omega arith) x)
          (decimal_injective h.bound k.bound (omega arith) (omega arith) y) (f.schema ∙ sym g.schema);
      second = e5.second;
    }

pub reads_once : (G : Table) (h k : Header) (is js : List PlainInst) (ws vs t : List ℕ) → IsReadText G h is ws t
    → IsReadText G k js vs t → (h ≡ k) × (is ≡ js)
reads_once G h k is js ws vs t a b =
    let e : header_lines h ++ a.lines ≡ header_lines k ++ b.lines = sym a.all ∙ b.all in
    let r = header_same h k a.lines b.lines a.header b.header a.generator b.generator e in
    (r.first, lines_same G [] is js a.lines b.lines ws vs a.read b.read r.second)
