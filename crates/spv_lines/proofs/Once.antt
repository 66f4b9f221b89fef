-- A list of instructions has one shown text.
use Rattle.std.proofs.Common.{◌≡◌, ◌++◌, ◌∙◌, ℕ, List, [], ◌∷◌, Option, Some, None, true, false, map, refl, sym, ap}
use Rattle.spv_words.specs.declared.words.Header.{Header}
use Rattle.spv_table.specs.declared.table.Entry.{Entry}
use Rattle.spv_table.specs.Table.{Table, entry_of, pattern_of}
use Rattle.spv_module.specs.Operand.{Plain, Result, PlainInst, Context, and_then, start, result_in}
use Rattle.spv_module.specs.Shape.{Slot, shape_of}
use Rattle.spv_inst.specs.Flat.{Due, OneOf, ManyOf, due}
use Rattle.spv_inst.specs.inner.Flat.{Matches}
use Rattle.spv_inst.proofs.Flat.{spelled_once, same_bases}
use Rattle.spv_inst.proofs.Takes.{takes_back, takes_no_parts}
use Rattle.spv_lines.specs.Operand.{Form, Shown, shown_operand, is_result, is_float}
use Rattle.spv_lines.specs.Written.{Piece, Written, result, other, end, take, parts, no_maybe, maybe, no_many, many}
use Rattle.spv_lines.specs.Line.{IsShownLine, shown_name}
use Rattle.spv_lines.specs.Text.{header_lines, ended, ShownLines, IsShownText}

-- without the text, words match operands
pub forget : (form : Form) (G : Table) (r : Option ℕ) (c : Context) (ds : List Due) (os : List Plain) (us t : List ℕ)
    → Written form G r c ds os us t → Matches G c ds os us
forget form G r _ _ _ _ _ (end c) = Matches.end c
forget form G r _ _ _ _ _ (take c s ds o ws ss p os us t h q m) =
    Matches.take c s ds o ws ss os us h (forget form G r (and_then c o) (map OneOf ss ++ ds) os us t m)
forget form G r _ _ _ _ _ (parts c s ds ss os us t h m) =
    Matches.parts c s ds ss os us h (forget form G r c (map OneOf ss ++ ds) os us t m)
forget form G r _ _ _ _ _ (no_maybe c s ds os t m) = Matches.no_maybe c s ds os (forget form G r c ds os [] t m)
forget form G r _ _ _ _ _ (maybe c s ds os u us t m) =
    Matches.maybe c s ds os u us (forget form G r c (OneOf s ∷ ds) os (u ∷ us) t m)
forget form G r _ _ _ _ _ (no_many c s ds os t m) = Matches.no_many c s ds os (forget form G r c ds os [] t m)
forget form G r _ _ _ _ _ (many c s ds os u us t m) =
    Matches.many c s ds os u us (forget form G r c (OneOf s ∷ ManyOf s ∷ ds) os (u ∷ us) t m)

-- a result that has its place in front has no other
pub front_once : (c : Context) (x : ℕ) → result_in c.operands ≡ None → is_result c (Result x) ≡ false → ⊥
front_once c x e h =
    let a : true ≡ false = rw e at h in
    cc

piece_once : (G : Table) (r : Option ℕ) (c : Context) (s : Slot) (o q : Plain) (p u : List ℕ)
    → Piece (Shown G) G r c s o p → Piece (Shown G) G r c s q u → o ≡ q → p ≡ u
piece_once G r c s _ _ _ _ (result x h g) (result y i j) e = refl
piece_once G r c s _ _ _ _ (result x h g) (other o t i j) e = let k : is_result c (Result x) ≡ false = rw (← e) at i in
    absurd (front_once c x h k)
piece_once G r c s _ _ _ _ (other o t i j) (result x h g) e = let k : is_result c (Result x) ≡ false = rw e at i in
    absurd (front_once c x h k)
piece_once G r c s _ _ _ _ (other o t i j) (other q u k l) e =
    let a : shown_operand G (is_float G c s) o ≡ shown_operand G (is_float G c s) q = ap
    (shown_operand G (is_float G c s)) e in
    let b : t ≡ u = j ∙ (a ∙ sym l) in
    ap (λ x. 32 ∷ x) b

moved : (G : Table) (r : Option ℕ) (c : Context) (o p : Plain) (ss ts : List Slot) (ds : List Due) (os : List Plain)
    (us t : List ℕ) → o ≡ p → ss ≡ ts
    → Written (Shown G) G r (and_then c p) (map OneOf ts ++ ds) os us t
    → Written (Shown G) G r (and_then c o) (map OneOf ss ++ ds) os us t
moved G r c o p ss ts ds os us t e f m = rw (e, f) m

bases_moved : (G : Table) (r : Option ℕ) (c : Context) (ss ts : List Slot) (ds : List Due) (os : List Plain)
    (us t : List ℕ) → ss ≡ ts
    → Written (Shown G) G r c (map OneOf ts ++ ds) os us t → Written (Shown G) G r c (map OneOf ss ++ ds) os us t
bases_moved G r c ss ts ds os us t f m = rw f m

words_once : (G : Table) (r : Option ℕ) (c : Context) (ds es : List Due) (os ps : List Plain) (us vs t u : List ℕ)
    → Written (Shown G) G r c ds os us t → Written (Shown G) G r c es ps vs u → ds ≡ es → os ≡ ps → us ≡ vs
words_once G r c ds es os ps us vs t u m n d e =
    let a = forget (Shown G) G r c ds os us t m in
    let b = forget (Shown G) G r c es ps vs u n in
    let b' : Matches G c ds ps vs = rw d b in
    spelled_once G c ds os ps us vs a b' e

-- the operands tell their text
pub shown_once : (G : Table) (r : Option ℕ) (c : Context) (ds : List Due) (os ps : List Plain) (us vs t u : List ℕ)
    → Written (Shown G) G r c ds os us t → Written (Shown G) G r c ds ps vs u → os ≡ ps → us ≡ vs → t ≡ u
shown_once G r _ _ _ _ _ _ _ _ (end c) (end _) e f = refl
shown_once G r _ _ _ _ _ _ _ _ (take c s ds o ws ss p os us t h i m) (take _ _ _ q xs ts v ps vs u g j n) e f =
    let a : o ≡ q = cc in
    let b : os ≡ ps = cc in
    let k = takes_back s.kind (shape_of G c s) o q ws xs ss ts h g a in
    let n' = moved G r c o q ss ts ds ps vs u a k.slots n in
    let w = words_once G r (and_then c o) (map OneOf ss ++ ds) (map OneOf ss ++ ds) os ps us vs t u m n' refl b in
    let d = shown_once G r (and_then c o) (map OneOf ss ++ ds) os ps us vs t u m n' b w in
    let z = piece_once G r c s o q p v i j a in
    cc
shown_once G r _ _ _ _ _ _ _ _ (take c s ds o ws ss p os us t h i m) (parts _ _ _ ts ps vs u g n) e f =
    absurd (takes_no_parts s.kind (shape_of G c s) o ws ss ts h g)
shown_once G r _ _ _ _ _ _ _ _ (parts c s ds ss os us t h m) (take _ _ _ q xs ts v ps vs u g j n) e f =
    absurd (takes_no_parts s.kind (shape_of G c s) q xs ts ss g h)
shown_once G r _ _ _ _ _ _ _ _ (parts c s ds ss os us t h m) (parts _ _ _ ts ps vs u g n) e f =
    shown_once G r c (map OneOf ss ++ ds) os ps us vs t u m
    (bases_moved G r c ss ts ds ps vs u (same_bases (shape_of G c s) ss ts h g) n) e f
shown_once G r _ _ _ _ _ _ _ _ (no_maybe c s ds os t m) (no_maybe _ _ _ ps u n) e f =
    shown_once G r c ds os ps [] [] t u m n e f
shown_once G r _ _ _ _ _ _ _ _ (no_maybe c s ds os t m) (maybe _ _ _ ps v vs u n) e f = cc
shown_once G r _ _ _ _ _ _ _ _ (maybe c s ds os u us t m) (no_maybe _ _ _ ps v n) e f = cc
shown_once G r _ _ _ _ _ _ _ _ (maybe c s ds os u us t m) (maybe _ _ _ ps v vs w n) e f =
    shown_once G r c (OneOf s ∷ ds) os ps (u ∷ us) (v ∷ vs) t w m n e f
shown_once G r _ _ _ _ _ _ _ _ (no_many c s ds os t m) (no_many _ _ _ ps u n) e f =
    shown_once G r c ds os ps [] [] t u m n e f
shown_once G r _ _ _ _ _ _ _ _ (no_many c s ds os t m) (many _ _ _ ps v vs u n) e f = cc
shown_once G r _ _ _ _ _ _ _ _ (many c s ds os u us t m) (no_many _ _ _ ps v n) e f = cc
shown_once G r _ _ _ _ _ _ _ _ (many c s ds os u us t m) (many _ _ _ ps v vs w n) e f =
    shown_once G r c (OneOf s ∷ ManyOf s ∷ ds) os ps (u ∷ us) (v ∷ vs) t w m n e f

pub entry_once : (G : Table) (p q : ℕ) (a b : Entry) → p ≡ q → entry_of G p ≡ Some a → entry_of G q ≡ Some b → a ≡ b
entry_once G p q a b e h g = let h' : entry_of G q ≡ Some a = rw e at h in cc

pub line_once : (G : Table) (before : List PlainInst) (i : PlainInst) (us vs l m : List ℕ) → IsShownLine G before i us l
    → IsShownLine G before i vs m → l ≡ m
line_once G before i us vs l m a b =
    let e = entry_once G i.opcode i.opcode a.entry b.entry refl a.known b.known in
    let w = b.written in
    let w' : Written (Shown G) G (result_in i.operands) (start before i.opcode)
    (map due (pattern_of a.entry)) i.operands vs b.operands = rw e w in
    let x = words_once G (result_in i.operands) (start before i.opcode) (map due (pattern_of a.entry))
    (map due (pattern_of a.entry)) i.operands i.operands us vs a.operands b.operands a.written w' refl refl in
    let o : a.operands ≡ b.operands = shown_once G (result_in i.operands) (start before i.opcode)
    (map due (pattern_of a.entry)) i.operands i.operands us vs a.operands b.operands a.written w' refl x in
    let n : shown_name G i.opcode a.entry ≡ shown_name G i.opcode b.entry = ap (shown_name G i.opcode) e in
    let f = a.all in
    let g = b.all in
    cc

lines_once : (G : Table) (before is js : List PlainInst) (ls ms : List (List ℕ)) → ShownLines G before is ls
    → ShownLines G before js ms → is ≡ js → ls ≡ ms
lines_once G _ _ _ _ _ (ShownLines.end before) (ShownLines.end _) e = refl
lines_once G _ _ _ _ _ (ShownLines.end before) (ShownLines.more _ j js vs m ms b n) e = cc
lines_once G _ _ _ _ _ (ShownLines.more before i is us l ls a m) (ShownLines.end _) e = cc
lines_once G _ _ _ _ _ (ShownLines.more before i is us l ls a m) (ShownLines.more _ j js vs k ks b n) e =
    let p : i ≡ j = cc in
    let q : is ≡ js = cc in
    let x = line_once G before i us vs l k a (inst_moved G before i j vs k p b) in
    let y = lines_once G (before ++ (i ∷ [])) is js ls ks m (rest_moved G before i j js ks p n) q in
    cc
  where
    inst_moved : (G : Table) (before : List PlainInst) (i j : PlainInst) (vs k : List ℕ) → i ≡ j
        → IsShownLine G before j vs k → IsShownLine G before i vs k
    inst_moved G before i j vs k e b = rw e b

    rest_moved : (G : Table) (before : List PlainInst) (i j : PlainInst) (js : List PlainInst) (ks : List (List ℕ))
        → i ≡ j
        → ShownLines G (before ++ (j ∷ [])) js ks → ShownLines G (before ++ (i ∷ [])) js ks
    rest_moved G before i j js ks e m = rw e m

pub text_once : (G : Table) (h : Header) (is : List PlainInst) (t u : List ℕ) → IsShownText G h is t
    → IsShownText G h is u → t ≡ u
text_once G h is t u a b =
    let x = lines_once G [] is is a.lines b.lines a.shown b.shown refl in
    let y : ended (header_lines h ++ a.lines) ≡ ended (header_lines h ++ b.lines) = ap
    (λ ls. ended (header_lines h ++ ls)) x in
    a.all ∙ (y ∙ sym b.all)
