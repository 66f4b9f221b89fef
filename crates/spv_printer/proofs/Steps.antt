-- What is kept while the operands of an instruction are shown: the text so far, and that of what is due and left.
use Rattle.std.proofs.Common.{◌≡◌, ◌++◌, ◌∙◌, ◌<◌, ◌≤◌, ◌+◌, ℕ, List, [], ◌∷◌, Option, true, map, length, take, drop}
use Rattle.std.proofs.Common.{get_or, refl, sym, ap, append_assoc, append-nil}
use Rattle.std.proofs.lemmas.List.{drop_more, take_more}
use Rattle.std.proofs.Math.ListN.{drop_of_length-le}
use Rattle.spv_table.specs.Table.{Table, kind_of}
use Rattle.spv_table.specs.declared.form.Leaf as declared
use Rattle.spv_table.specs.declared.form.Form.TheVariants.{Leaf}
use Rattle.spv_module.specs.declared.operand.Operand.{Operand}
use Rattle.spv_table.specs.inner.Form.{form_at}
use Rattle.spv_module.specs.Operand.{Plain, PlainInst, Context, and_then, start}
use Rattle.spv_module.specs.Module.{plain_operand, plain_operands}
use Rattle.spv_module.specs.Shape.{Slot, alone, Shape, AsParts, shape_of}
use Rattle.spv_module.specs.Spelling.{Takes}
use Rattle.spv_module.specs.Refusal.{IsLeaf}
use Rattle.spv_inst.specs.Flat.{Due, OneOf, MaybeOf, ManyOf}
use Rattle.spv_inst.specs.inner.Pending.{settled, Opens, LeadsTo, opened_kinds}
use Rattle.spv_inst.proofs.Takes.{takes_no_parts}
use Rattle.spv_inst.proofs.Flat.{no_operands, same_bases}
use Rattle.spv_inst.proofs.Shapes.{shape_is_leaf}
use Rattle.spv_lines.specs.Operand.{Form}
use Rattle.spv_lines.specs.Written.{Piece, Written}
use Rattle.spv_lines.proofs.Once.{forget}
use Rattle.spv_lines.proofs.Reading.{no_text}
use Rattle.spv_printer.proofs.KindForms.{slots_opened}

-- where an operand is left, an item that may be absent is there
present : (form : Form) (G : Table) (r : Option ℕ) (d : Context) (es ds : List Due) (left : List Plain) (us t : List ℕ)
    (o : Plain) (os : List Plain) → Written form G r d es left us t
    → es ≡ ds → left ≡ o ∷ os → Written form G r d (settled true ds) (o ∷ os) us t
present form G r _ _ [] left us t o os m e f = rw (e, f) at m
present form G r _ _ (OneOf s ∷ ds) left us t o os m e f = rw (e, f) at m
present form G r _ _ (MaybeOf s ∷ ds) _ _ _ o os (Written.no_maybe c t es ps u m) e f =
    let g = no_operands G c es ps [] (forget form G r c es ps [] u m) refl in cc
present form G r _ _ (MaybeOf s ∷ ds) _ _ _ o os (Written.maybe c t es ps u us v m) e f =
    let g : t ≡ s = cc in
    let h : es ≡ ds = cc in
    rw (g, h, f) at m
present form G r _ _ (MaybeOf s ∷ ds) _ _ _ o os _ e f = cc
present form G r _ _ (ManyOf s ∷ ds) _ _ _ o os (Written.no_many c t es ps u m) e f =
    let g = no_operands G c es ps [] (forget form G r c es ps [] u m) refl in cc
present form G r _ _ (ManyOf s ∷ ds) _ _ _ o os (Written.many c t es ps u us v m) e f =
    let g : t ≡ s = cc in
    let h : es ≡ ds = cc in
    rw (g, h, f) at m
present form G r _ _ (ManyOf s ∷ ds) _ _ _ o os _ e f = cc

-- a Composite that is due: its bases are, in its place
bases_due : (form : Form) (G : Table) (r : Option ℕ) (d : Context) (es ds : List Due) (s : Slot) (ss : List Slot)
    (left : List Plain) (us t : List ℕ) → shape_of G d s ≡ AsParts ss
    → Written form G r d es left us t → es ≡ OneOf s ∷ ds → Written form G r d (map OneOf ss ++ ds) left us t
bases_due form G r _ _ ds s ss _ _ _ h (Written.take c t es p ws ts q ps us u x y m) e =
    let g : t ≡ s = cc in
    let h' : shape_of G c t ≡ AsParts ss = rw g h in
    absurd (takes_no_parts t.kind (shape_of G c t) p ws ts ss x h')
bases_due form G r _ _ ds s ss _ _ _ h (Written.parts c t es ts ps us u k m) e =
    let g : t ≡ s = cc in
    let f : es ≡ ds = cc in
    let k' : shape_of G c s ≡ AsParts ts = rw g at k in
    let q : ts ≡ ss = same_bases (shape_of G c s) ts ss k' h in
    rw (q, f) at m
bases_due form G r _ _ ds s ss _ _ _ h _ e = cc

opened : (form : Form) (G : Table) (r : Option ℕ) (s : Slot) (ds es : List Due) → Opens G s ds es
    → (d : Context) (left : List Plain) (us t : List ℕ) → Written form G r d (OneOf s ∷ ds) left us t
    → Written form G r d es left us t
opened form G r s ds _ Opens.leaf d left us t m = m
opened form G r s ds _ (Opens.parts ss h) d left us t m =
    bases_due form G r d (OneOf s ∷ ds) ds s ss left us t (h d) m refl

leads : (form : Form) (G : Table) (r : Option ℕ) (d : Context) (ds : List Due) (s : Slot) (rest : List Due)
    (left : List Plain) (us t : List ℕ) → LeadsTo G ds s rest → Written form G r d ds left us t
    → Written form G r d (OneOf s ∷ rest) left us t
leads form G r d ds s rest left us t l m =
    opened form G r l.slot l.rest (OneOf s ∷ rest) l.opened d left us t (rw l.first at m)

-- What a leaf that is due tells of the operand that is next, and of what is left behind it.
pub record Front (form : Form) (G : Table) (r : Option ℕ) (d : Context) (s : Slot) (ds : List Due) (o : Plain)
    (os : List Plain) (t : List ℕ) : Type 0 where
  pub words : List ℕ
  pub slots : List Slot
  pub piece : List ℕ
  pub rest : List ℕ
  pub behind : List ℕ
  pub text : t ≡ piece ++ behind
  pub takes : Takes s.kind (shape_of G d s) o words slots
  pub is_piece : Piece form G r d s o piece
  pub written : Written form G r (and_then d o) (map OneOf slots ++ ds) os rest behind

at_leaf : (form : Form) (G : Table) (r : Option ℕ) (d : Context) (es ds : List Due) (s : Slot) (left : List Plain)
    (us t : List ℕ) (o : Plain) (os : List Plain)
    → ((ss : List Slot) → shape_of G d s ≡ AsParts ss → ⊥) → Written form G r d es left us t → es ≡ OneOf s ∷ ds
    → left ≡ o ∷ os → Front form G r d s ds o os t
at_leaf form G r _ _ ds s _ _ _ o os h (Written.take c t es p ws ss q ps us u x y m) e f =
    let g : t ≡ s = cc in
    let k : es ≡ ds = cc in
    let i : p ≡ o = cc in
    let j : ps ≡ os = cc in
    record {
      words = ws;
      slots = ss;
      piece = q;
      rest = us;
      behind = u;
      text = refl;
      takes = rw (g, i) at x;
      is_piece = rw (g, i) at y;
      written = rw (k, i, j) at m;
    }
at_leaf form G r _ _ ds s _ _ _ o os h (Written.parts c t es ss ps us u k m) e f =
    let g : t ≡ s = cc in
    absurd (h ss (rw g at k))
at_leaf form G r _ _ ds s _ _ _ o os h _ e f = cc

leaf_no_parts : (sh : Shape) (ts : List Slot) → IsLeaf sh → sh ≡ AsParts ts → ⊥
leaf_no_parts sh ts h e = rw e at h

pub front : (form : Form) (G : Table) (r : Option ℕ) (d : Context) (ds : List Due) (s : Slot) (l : declared.Leaf)
    (rest : List Due) (o : Plain) (os : List Plain) (us t : List ℕ)
    → form_at (kind_of G s.kind) ≡ Leaf l → LeadsTo G (settled true ds) s rest → Written form G r d ds (o ∷ os) us t
    → Front form G r d s rest o os t
front form G r d ds s l rest o os us t e k m =
    let a = present form G r d ds ds (o ∷ os) us t o os m refl refl in
    let b = leads form G r d (settled true ds) s rest (o ∷ os) us t k a in
    at_leaf form G r d (OneOf s ∷ rest) rest s (o ∷ os) us t o os
    (λ ss f. leaf_no_parts (shape_of G d s) ss (shape_is_leaf G d s l e) f) b refl refl

-- where an operand is left, something is due
pub nothing_due : (form : Form) (G : Table) (r : Option ℕ) (d : Context) (ds : List Due) (o : Plain) (os : List Plain)
    (us t : List ℕ) → settled true ds ≡ [] → Written form G r d ds (o ∷ os) us t → ⊥
nothing_due form G r d ds o os us t e m =
    none (settled true ds) (o ∷ os) us t (present form G r d ds ds (o ∷ os) us t o os m refl refl) e refl
  where
    none : (es : List Due) (left : List Plain) (us t : List ℕ) → Written form G r d es left us t → es ≡ []
        → left ≡ o ∷ os → ⊥
    none _ _ _ _ (Written.end c) e f = cc
    none _ _ _ _ _ e f = cc

abbrev pub context_at : List PlainInst → ℕ → List Plain → Context
context_at before opcode os = record { before = before; opcode = opcode; operands = os }

-- Before the operand of that number: what is written, and what is due and left has the rest of the text.
pub record At (form : Form) (G : Table) (r : Option ℕ) (before : List PlainInst) (opcode : ℕ) (items : List Operand)
    (ds : List Due) (old out t : List ℕ) (i : ℕ) : Type 0 where
  pub words : List ℕ
  pub rest : List ℕ
  pub all : old ++ t ≡ out ++ rest
  pub written : Written form G r (context_at before opcode (plain_operands (take i items))) ds
      (plain_operands (drop i items)) words rest

pub at_first : (form : Form) (G : Table) (r : Option ℕ) (before : List PlainInst) (opcode : ℕ) (items : List Operand)
    (ds pattern : List Due) (old out us t : List ℕ) → ds ≡ pattern → out ≡ old
    → Written form G r (start before opcode) pattern (plain_operands items) us t
    → At form G r before opcode items ds old out t 0
at_first form G r before opcode items ds pattern old out us t e f m =
    rw (e, f) (record { words = us; rest = t; all = refl; written = m })

pub left_is : (items : List Operand) (i : ℕ) (o x : Operand) → i < length items → o ≡ get_or items i x
    → plain_operands (drop i items) ≡ plain_operand o ∷ plain_operands (drop (i + 1) items)
left_is items i o x h e = let f = drop_more items i x h in rw (f, ← e) refl

pub so_far : (items : List Operand) (i : ℕ) (o x : Operand) → i < length items → o ≡ get_or items i x
    → plain_operands (take (i + 1) items) ≡ plain_operands (take i items) ++ (plain_operand o ∷ [])
so_far items i o x h e = let f = take_more items i x h in rw (f, ← e) (map_snoc (take i items))
  where
    map_snoc : (xs : List Operand) → plain_operands (xs ++ (o ∷ [])) ≡ plain_operands xs ++ (plain_operand o ∷ [])
    map_snoc [] = refl
    map_snoc (y ∷ xs) = ap (λ zs. plain_operand y ∷ zs) (map_snoc xs)

-- the operand that is next
pub at_front : (form : Form) (G : Table) (r : Option ℕ) (before : List PlainInst) (opcode : ℕ) (items : List Operand)
    (ds rest : List Due) (old out t : List ℕ) (i : ℕ) (s : Slot) (l : declared.Leaf) (o x : Operand)
    → (a : At form G r before opcode items ds old out t i) → i < length items → o ≡ get_or items i x
    → form_at (kind_of G s.kind) ≡ Leaf l → LeadsTo G (settled true ds) s rest
    → Front form G r (context_at before opcode (plain_operands (take i items))) s rest (plain_operand o)
    (plain_operands (drop (i + 1) items)) a.rest
at_front form G r before opcode items ds rest old out t i s l o x a h e f k =
    let g = left_is items i o x h e in
    front form G r (context_at before opcode (plain_operands (take i items))) ds s l rest (plain_operand o)
    (plain_operands (drop (i + 1) items)) a.words a.rest f k (rw g at a.written)

pub at_none : (form : Form) (G : Table) (r : Option ℕ) (before : List PlainInst) (opcode : ℕ) (items : List Operand)
    (ds : List Due) (old out t : List ℕ) (i : ℕ) (o x : Operand)
    → At form G r before opcode items ds old out t i → i < length items → o ≡ get_or items i x → settled true ds ≡ []
    → ⊥
at_none form G r before opcode items ds old out t i o x a h e f =
    let g = left_is items i o x h e in
    nothing_due form G r (context_at before opcode (plain_operands (take i items))) ds (plain_operand o)
    (plain_operands (drop (i + 1) items)) a.words a.rest f (rw g at a.written)

-- one operand more
pub at_step : (form : Form) (G : Table) (r : Option ℕ) (before : List PlainInst) (opcode : ℕ) (items : List Operand)
    (ds es rest : List Due) (old out more t : List ℕ) (i : ℕ) (s : Slot) (l : declared.Leaf) (o x : Operand)
    → (a : At form G r before opcode items ds old out t i) → i < length items → o ≡ get_or items i x
    → form_at (kind_of G s.kind) ≡ Leaf l
    → (f : Front form G r (context_at before opcode (plain_operands (take i items))) s rest (plain_operand o)
    (plain_operands (drop (i + 1) items)) a.rest)
    → es ≡ map OneOf (map alone (opened_kinds G (plain_operand o))) ++ rest → more ≡ out ++ f.piece
    → At form G r before opcode items es old more t (i + 1)
at_step form G r before opcode items ds es rest old out more t i s l o x a h e k f d m =
    let c = context_at before opcode (plain_operands (take i items)) in
    let p = slots_opened G c s l (plain_operand o) f.words f.slots k f.takes in
    let n = so_far items i o x h e in
    let w : Written form G r (and_then c (plain_operand o))
    (map OneOf (map alone (opened_kinds G (plain_operand o))) ++ rest)
    (plain_operands (drop (i + 1) items)) f.rest f.behind = rw p at f.written in
    let v : Written form G r (and_then c (plain_operand o)) es
    (plain_operands (drop (i + 1) items)) f.rest f.behind = rw (sym d) at w in
    let g : old ++ t ≡ more ++ f.behind = a.all
    ∙ (ap (λ z. out ++ z) f.text ∙ (sym (append_assoc out f.piece f.behind) ∙ ap (λ z. z ++ f.behind) (sym m))) in
    record { words = f.rest; rest = f.behind; all = g; written = rw n v }

-- after the last operand
pub at_done : (form : Form) (G : Table) (r : Option ℕ) (before : List PlainInst) (opcode : ℕ) (items : List Operand)
    (ds : List Due) (old out t : List ℕ) (i : ℕ)
    → At form G r before opcode items ds old out t i → length items ≤ i → out ≡ old ++ t
at_done form G r before opcode items ds old out t i a h =
    let f : plain_operands (drop i items) ≡ [] = rw (drop_of_length-le items h) refl in
    let z = no_text form G r (context_at before opcode (plain_operands (take i items))) ds
    (plain_operands (drop i items)) a.words a.rest a.written f in
    sym (a.all ∙ (ap (λ x. out ++ x) z ∙ append-nil out))
