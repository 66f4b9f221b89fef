-- The operands of a line are read, or fail.
use Rattle.std.proofs.Common.{◌≡◌, ◌≢◌, ◌++◌, ◌∙◌, ◌⊎◌, inl, inr, ◌<◌, ◌≤◌, ◌+◌, ℕ, zero, suc, List, [], ◌∷◌, Option}
use Rattle.std.proofs.Common.{Some, None, Bool, true, length, map, refl, sym, ap, arith, append_assoc, length-append}
use Rattle.std.specs.List.{list_all}
use Rattle.std.proofs.lemmas.List.{append-nil}
use Rattle.spv_table.specs.declared.table.Category.{Category}
use Rattle.spv_table.specs.declared.table.Category.TheVariants as category
use Rattle.spv_table.specs.Table.{Table, Sort, kind_of, is_simple, is_simple_category, are_bases, is_sound}
use Rattle.spv_table.specs.Table.{is_sound_category, IsWhole}
use Rattle.spv_table.specs.declared.form.Form.{Form}
use Rattle.spv_table.specs.declared.form.Form.TheVariants.{Leaf, Parts}
use Rattle.spv_table.specs.inner.Form.{category_form, form_at}
use Rattle.spv_module.specs.Operand.{Plain, OfType, Result, Id, Word, Number, Text, Value, Mask, Argument, Mention}
use Rattle.spv_module.specs.Operand.{Context, and_then, result_in}
use Rattle.spv_module.specs.Shape.{Slot, AsParts, shape_of}
use Rattle.spv_module.specs.Refusal.{IsLeaf}
use Rattle.spv_inst.specs.Flat.{Due, OneOf, MaybeOf, ManyOf}
use Rattle.spv_inst.proofs.Bases.{passes_at, and_first}
use Rattle.spv_inst.proofs.Shapes.{bases_at, shape_parts, shape_is_leaf}
use Rattle.spv_inst.proofs.Flat.{no_words, no_operands}
use Rattle.spv_lines.specs.declared.asm_error.AsmCode.{AsmCode}
use Rattle.spv_lines.specs.declared.asm_error.AsmCode.TheVariants.{S3}
use Rattle.spv_lines.specs.Operand.{IsRead}
use Rattle.spv_lines.specs.Written.{Piece, Written}
use Rattle.spv_lines.specs.Line.{AreWords}
use Rattle.spv_lines.specs.Refusal.{IsBreak, Pends, StandsInLine, OperandsFail}
use Rattle.spv_lines.proofs.Once.{forget}
use Rattle.spv_lines.proofs.Back.{first_result}
use Rattle.spv_lines.proofs.Reading.{no_text, only_front}
use Rattle.spv_lines.proofs.Marked.{same_or_not}
use Rattle.spv_lines.proofs.Slots.{Decided, decide_slot}

-- a slot is a leaf, or a Composite whose first base is one
data Sound (G : Table) (s : Slot) : Type 0 where
  leaf : ((c : Context) → IsLeaf (shape_of G c s)) → Sound G s
  parts : (first : Slot) (ss : List Slot) → ((c : Context) → shape_of G c s ≡ AsParts (first ∷ ss))
      → ((c : Context) → IsLeaf (shape_of G c first)) → Sound G s

simple_leaf : (s : Sort) (cat : Category) → is_simple_category cat ≡ true → (p : Bool)
    → category_form s.kind.name cat ≡ Parts p → ⊥
simple_leaf s category.Id h p e = cc
simple_leaf s category.Literal h p e = cc
simple_leaf s category.ValueEnum h p e = cc
simple_leaf s category.BitEnum h p e = cc
simple_leaf s category.Composite h p e = cc

simple_at : (o : Option Sort) (p : Bool) → is_simple o ≡ true → form_at o ≡ Parts p → ⊥
simple_at None p h e = cc
simple_at (Some s) p h e = simple_leaf s s.kind.category h p e

parts_of_sort : (G : Table) (s : Sort) (cat : Category) (ks : List ℕ) (p : Bool)
    → category_form s.kind.name cat ≡ Parts p → is_sound_category G ks cat ≡ true → are_bases G ks ≡ true
parts_of_sort G s category.Id ks p e h = cc
parts_of_sort G s category.Literal ks p e h = cc
parts_of_sort G s category.ValueEnum ks p e h = cc
parts_of_sort G s category.BitEnum ks p e h = cc
parts_of_sort G s category.Composite ks p e h = h

leaf_at : (G : Table) (k : ℕ) (p : Bool) → is_simple (kind_of G k) ≡ true → (f : Form) → form_at (kind_of G k) ≡ f
    → (c : Context) → IsLeaf (shape_of G c (record { kind = k; paired = p }))
leaf_at G k p h (Leaf l) e c = shape_is_leaf G c (record { kind = k; paired = p }) l e
leaf_at G k p h (Parts q) e c = absurd (simple_at (kind_of G k) q h e)

sound_bases : (G : Table) → IsWhole G → (k : ℕ) (p : Bool) (o : Option Sort) → kind_of G k ≡ o → form_at o ≡ Parts p
    → are_bases G (bases_at o) ≡ true
sound_bases G w k p None e f = cc
sound_bases G w k p (Some s) e f =
    let g : is_sound G s ≡ true = passes_at (is_sound G) G.kinds k s w.sound e in
    parts_of_sort G s s.kind.category s.kind.bases p f g

sound : (G : Table) → IsWhole G → (s : Slot) → Sound G s
sound G w s = step (form_at (kind_of G s.kind)) refl
  where
    bases : (p : Bool) (ks : List ℕ) → are_bases G ks ≡ true
        → ((c : Context) → shape_of G c s ≡ AsParts (map (λ k. let t : Slot = record { kind = k; paired = p } in t) ks))
        → Sound G s
    bases p [] h e = cc
    bases p (k ∷ ks) h e =
        Sound.parts (record { kind = k; paired = p })
        (map (λ k. let t : Slot = record { kind = k; paired = p } in t) ks) e
        (λ c. leaf_at G k p (and_first (is_simple (kind_of G k)) (list_all (λ b. is_simple (kind_of G b)) ks) h)
        (form_at (kind_of G k)) refl c)

    step : (f : Form) → form_at (kind_of G s.kind) ≡ f → Sound G s
    step (Leaf l) e = Sound.leaf (λ c. shape_is_leaf G c s l e)
    step (Parts p) e = bases p (bases_at (kind_of G s.kind)) (sound_bases G w s.kind p (kind_of G s.kind) refl e)
        (λ c. shape_parts G c s p e)

pub data Outcome (G : Table) (r : Option ℕ) (c : Context) (ds : List Due) (t : List ℕ) : Type 0 where
  written : (os : List Plain) (us : List ℕ) → Written (IsRead G) G r c ds os us t → AreWords us
      → r ≡ result_in (c.operands ++ os) → Outcome G r c ds t
  failed : (code : AsmCode) → OperandsFail G r c ds t code → Outcome G r c ds t

-- how far it is to the end at most: an operand takes an octet, or it is the result
abbrev pub waiting : Option ℕ → ℕ
waiting None = 1
waiting (Some x) = 0

abbrev pub far : Context → List ℕ → ℕ
far c t = length t + waiting (result_in c.operands)

still : (xs ys : List Plain) (y : ℕ) → result_in xs ≡ Some y → result_in (xs ++ ys) ≡ Some y
still [] ys y e = cc
still (OfType x ∷ xs) ys y e = still xs ys y e
still (Result x ∷ xs) ys y e = e
still (Id x ∷ xs) ys y e = still xs ys y e
still (Word x ∷ xs) ys y e = still xs ys y e
still (Argument x ∷ xs) ys y e = still xs ys y e
still (Mention x ∷ xs) ys y e = still xs ys y e
still (Number a b d ∷ xs) ys y e = still xs ys y e
still (Text t ∷ xs) ys y e = still xs ys y e
still (Value k x ∷ xs) ys y e = still xs ys y e
still (Mask k x ∷ xs) ys y e = still xs ys y e

waits_less : (xs ys : List Plain) (o : Option ℕ) → result_in xs ≡ o → waiting (result_in (xs ++ ys)) ≤ waiting o
waits_less xs ys (Some y) e = rw (still xs ys y e) (omega arith)
waits_less xs ys None e = one_most (result_in (xs ++ ys))
  where
    one_most : (o : Option ℕ) → waiting o ≤ 1
    one_most None = omega arith
    one_most (Some x) = omega arith

pub nearer : (G : Table) (r : Option ℕ) (c : Context) (s : Slot) (o : Plain) (p t rest : List ℕ)
    → Piece (IsRead G) G r c s o p → t ≡ p ++ rest → far (and_then c o) rest < far c t
nearer G r c s _ _ t rest (Piece.result x n e) f =
    let a : result_in (c.operands ++ (Result x ∷ [])) ≡ Some x = first_result c.operands x [] n in
    let l : length t ≡ length rest = ap length f in
    rw (a, n) (omega arith)
nearer G r c s _ _ t rest (Piece.other o a n e) f =
    let w = waits_less c.operands (o ∷ []) (result_in c.operands) refl in
    let l : length t ≡ length (32 ∷ (a ++ rest)) = ap length f in
    let k = length-append a rest in
    omega arith

-- the result of the line is due still, or not
same_results : (r q : Option ℕ) → (r ≡ q) ⊎ (r ≢ q)
same_results None None = inl refl
same_results None (Some x) = inr (λ e. cc)
same_results (Some x) None = inr (λ e. cc)
same_results (Some x) (Some y) = step (same_or_not x y)
  where
    step : (x ≡ y) ⊎ (x ≢ y) → (Some x ≡ Some y) ⊎ (Some x ≢ Some y)
    step (inl e) = inl (ap Some e)
    step (inr n) = inr (λ e. let f : x ≡ y = cc in n f)

abbrev Next : Table → Option ℕ → ℕ → Type 0
Next G r n = (c : Context) (ds : List Due) (t : List ℕ) → far c t < n → IsBreak t → Outcome G r c ds t

abbrev IsSmall : Option ℕ → Type 0
IsSmall r = (x : ℕ) → r ≡ Some x → x < 4294967296

pub words_joined : (us vs : List ℕ) → AreWords us → AreWords vs → AreWords (us ++ vs)
words_joined [] vs h g = g
words_joined (u ∷ us) vs h g = (h.0, words_joined us vs h.1 g)

result_back : (r : Option ℕ) (xs : List Plain) (o : Plain) (os : List Plain) → r ≡ result_in ((xs ++ (o ∷ [])) ++ os)
    → r ≡ result_in (xs ++ (o ∷ os))
result_back r xs o os e = rw (sym (append_assoc xs (o ∷ []) os)) e

-- a leaf, and what is due behind it
one_leaf : (G : Table) (r : Option ℕ) (n : ℕ) → IsSmall r → Next G r n
    → (c : Context) (s : Slot) (ds : List Due) (t : List ℕ) → IsLeaf (shape_of G c s) → far c t < suc n → IsBreak t
    → Outcome G r c (OneOf s ∷ ds) t
one_leaf G r n small next c s ds t l h b = step (decide_slot G r c s t small b l)
  where
    behind : (o : Plain) (ss : List Slot) (rest : List ℕ) → StandsInLine G r c s o ss t rest
        → Outcome G r (and_then c o) (map OneOf ss ++ ds) rest → Outcome G r c (OneOf s ∷ ds) t
    behind o ss rest d (Outcome.written os us m w e) =
        let k : Written (IsRead G) G r c (OneOf s ∷ ds) (o ∷ os) (d.words ++ us)
        (d.piece ++ rest) = Written.take c s ds o d.words ss d.piece os us rest d.takes d.written m in
        Outcome.written (o ∷ os) (d.words ++ us) (rw d.all k) (words_joined d.words us d.small w)
        (result_back r c.operands o os e)
    behind o ss rest d (Outcome.failed code f) = Outcome.failed code (OperandsFail.after c s ds o ss t rest code d f)

    step : Decided G r c s t → Outcome G r c (OneOf s ∷ ds) t
    step (Decided.stands o ss rest d) =
        let k = nearer G r c s o d.piece t rest d.written d.all in
        behind o ss rest d (next (and_then c o) (map OneOf ss ++ ds) rest (omega arith) d.broken)
    step (Decided.refused code f) = Outcome.failed code (OperandsFail.refused c s ds t code l f)

one : (G : Table) (r : Option ℕ) (n : ℕ) → IsWhole G → IsSmall r → Next G r n
    → (c : Context) (s : Slot) (ds : List Due) (t : List ℕ) → far c t < suc n → IsBreak t
    → Outcome G r c (OneOf s ∷ ds) t
one G r n w small next c s ds t h b = step (sound G w s)
  where
    opened : (first : Slot) (ss : List Slot) → shape_of G c s ≡ AsParts (first ∷ ss)
        → Outcome G r c (OneOf first ∷ (map OneOf ss ++ ds)) t → Outcome G r c (OneOf s ∷ ds) t
    opened first ss e (Outcome.written os us m v f) =
        Outcome.written os us (Written.parts c s ds (first ∷ ss) os us t e m) v f
    opened first ss e (Outcome.failed code f) = Outcome.failed code (OperandsFail.parts c s ds (first ∷ ss) t code e f)

    step : Sound G s → Outcome G r c (OneOf s ∷ ds) t
    step (Sound.leaf l) = one_leaf G r n small next c s ds t (l c) h b
    step (Sound.parts first ss e l) =
        opened first ss (e c) (one_leaf G r n small next c first (map OneOf ss ++ ds) t (l c) h b)

-- where something of the line is left, an item has words
has_words : (G : Table) (r : Option ℕ) (c : Context) (ds : List Due) (os : List Plain) (us t : List ℕ)
    → Written (IsRead G) G r c ds os us t → r ≡ result_in (c.operands ++ os) → (t ≢ []) ⊎ Pends r c → us ≡ [] → ⊥
has_words G r c ds os us t m e p f =
    let a : os ≡ [] = no_operands G c ds os us (forget (IsRead G) G r c ds os us t m) f in
    let b : t ≡ [] = no_text (IsRead G) G r c ds os us t m a in
    let j : r ≡ result_in (c.operands ++ []) = rw a at e in
    elim p [ inl n ↦ n b | inr n ↦ n (j ∙ ap result_in (append-nil c.operands)) ]

-- and where nothing is, none
has_none : (G : Table) (r : Option ℕ) (c : Context) (ds : List Due) (os : List Plain) (us t : List ℕ)
    → Written (IsRead G) G r c ds os us t → t ≡ [] → r ≡ result_in c.operands → us ≡ []
has_none G r c ds os us t m e f =
    elim (only_front (IsRead G) G r c ds os us t m e) [
      | inl g ↦ no_words G c ds os us (forget (IsRead G) G r c ds os us t m) g
      | inr g ↦ let w : None ≡ Some g.0 = sym g.1 ∙ (sym f ∙ g.2) in absurd (no_some g.0 w)
    ]
  where
    no_some : (x : ℕ) → None ≡ Some x → ⊥
    no_some x e = cc

maybe_there : (G : Table) (r : Option ℕ) (c : Context) (s : Slot) (ds : List Due) (t : List ℕ) → (t ≢ []) ⊎ Pends r c
    → Outcome G r c (OneOf s ∷ ds) t → Outcome G r c (MaybeOf s ∷ ds) t
maybe_there G r c s ds t p (Outcome.written os [] m w e) = absurd (has_words G r c (OneOf s ∷ ds) os [] t m e p refl)
maybe_there G r c s ds t p (Outcome.written os (u ∷ us) m w e) =
    Outcome.written os (u ∷ us) (Written.maybe c s ds os u us t m) w e
maybe_there G r c s ds t p (Outcome.failed code f) = Outcome.failed code (OperandsFail.maybe c s ds t code p f)

many_there : (G : Table) (r : Option ℕ) (c : Context) (s : Slot) (ds : List Due) (t : List ℕ) → (t ≢ []) ⊎ Pends r c
    → Outcome G r c (OneOf s ∷ ManyOf s ∷ ds) t → Outcome G r c (ManyOf s ∷ ds) t
many_there G r c s ds t p (Outcome.written os [] m w e) =
    absurd (has_words G r c (OneOf s ∷ ManyOf s ∷ ds) os [] t m e p refl)
many_there G r c s ds t p (Outcome.written os (u ∷ us) m w e) =
    Outcome.written os (u ∷ us) (Written.many c s ds os u us t m) w e
many_there G r c s ds t p (Outcome.failed code f) = Outcome.failed code (OperandsFail.many c s ds t code p f)

maybe_absent : (G : Table) (r : Option ℕ) (c : Context) (s : Slot) (ds : List Due) → r ≡ result_in c.operands
    → Outcome G r c ds [] → Outcome G r c (MaybeOf s ∷ ds) []
maybe_absent G r c s ds p (Outcome.written os us m w e) =
    let z = has_none G r c ds os us [] m refl p in
    let m' : Written (IsRead G) G r c ds os [] [] = rw z at m in
    Outcome.written os [] (Written.no_maybe c s ds os [] m') tt e
maybe_absent G r c s ds p (Outcome.failed code f) = Outcome.failed code (OperandsFail.no_maybe c s ds code (λ n. n p) f)

many_absent : (G : Table) (r : Option ℕ) (c : Context) (s : Slot) (ds : List Due) → r ≡ result_in c.operands
    → Outcome G r c ds [] → Outcome G r c (ManyOf s ∷ ds) []
many_absent G r c s ds p (Outcome.written os us m w e) =
    let z = has_none G r c ds os us [] m refl p in
    let m' : Written (IsRead G) G r c ds os [] [] = rw z at m in
    Outcome.written os [] (Written.no_many c s ds os [] m') tt e
many_absent G r c s ds p (Outcome.failed code f) = Outcome.failed code (OperandsFail.no_many c s ds code (λ n. n p) f)

at_end_of : (G : Table) (r : Option ℕ) (c : Context) (t : List ℕ)
    → (r ≡ result_in c.operands) ⊎ (r ≢ result_in c.operands) → Outcome G r c [] t
at_end_of G r c [] (inl e) = Outcome.written [] [] (Written.end c) tt (e ∙ ap result_in (sym (append-nil c.operands)))
at_end_of G r c [] (inr n) = Outcome.failed S3 (OperandsFail.unused c n)
at_end_of G r c (b ∷ t) e = Outcome.failed S3 (OperandsFail.left c b t)

inner : (G : Table) (r : Option ℕ) (n : ℕ) → IsWhole G → IsSmall r → Next G r n
    → (c : Context) (ds : List Due) (t : List ℕ) → far c t < suc n → IsBreak t → Outcome G r c ds t
inner G r n w small next c [] t h b = at_end_of G r c t (same_results r (result_in c.operands))
inner G r n w small next c (OneOf s ∷ ds) t h b = one G r n w small next c s ds t h b
inner G r n w small next c (MaybeOf s ∷ ds) [] h b =
    maybe_or G r c s ds (same_results r (result_in c.operands)) (λ _. inner G r n w small next c ds [] h b)
    (λ _. one G r n w small next c s ds [] h b)
  where
    maybe_or : (G : Table) (r : Option ℕ) (c : Context) (s : Slot) (ds : List Due)
        → (r ≡ result_in c.operands) ⊎ (r ≢ result_in c.operands) → (Unit {0} → Outcome G r c ds [])
        → (Unit {0} → Outcome G r c (OneOf s ∷ ds) []) → Outcome G r c (MaybeOf s ∷ ds) []
    maybe_or G r c s ds (inl e) x y = maybe_absent G r c s ds e (x tt)
    maybe_or G r c s ds (inr m) x y = maybe_there G r c s ds [] (inr m) (y tt)
inner G r n w small next c (MaybeOf s ∷ ds) (x ∷ t) h b =
    maybe_there G r c s ds (x ∷ t) (inl (λ e. cc)) (one G r n w small next c s ds (x ∷ t) h b)
inner G r n w small next c (ManyOf s ∷ ds) [] h b =
    many_or G r c s ds (same_results r (result_in c.operands)) (λ _. inner G r n w small next c ds [] h b)
    (λ _. one G r n w small next c s (ManyOf s ∷ ds) [] h b)
  where
    many_or : (G : Table) (r : Option ℕ) (c : Context) (s : Slot) (ds : List Due)
        → (r ≡ result_in c.operands) ⊎ (r ≢ result_in c.operands) → (Unit {0} → Outcome G r c ds [])
        → (Unit {0} → Outcome G r c (OneOf s ∷ ManyOf s ∷ ds) []) → Outcome G r c (ManyOf s ∷ ds) []
    many_or G r c s ds (inl e) x y = many_absent G r c s ds e (x tt)
    many_or G r c s ds (inr m) x y = many_there G r c s ds [] (inr m) (y tt)
inner G r n w small next c (ManyOf s ∷ ds) (x ∷ t) h b =
    many_there G r c s ds (x ∷ t) (inl (λ e. cc)) (one G r n w small next c s (ManyOf s ∷ ds) (x ∷ t) h b)

walk : (G : Table) (r : Option ℕ) → IsWhole G → IsSmall r → (n : ℕ) (c : Context) (ds : List Due) (t : List ℕ)
    → far c t < n → IsBreak t → Outcome G r c ds t
walk G r w small zero c ds t h b = absurd (omega arith)
walk G r w small (suc n) c ds t h b = inner G r n w small (λ d es u g k. walk G r w small n d es u g k) c ds t h b

-- what is due is read of the rest of a line, or fails there
pub read_or_fail : (G : Table) (r : Option ℕ) → IsWhole G → ((x : ℕ) → r ≡ Some x → x < 4294967296)
    → (c : Context) (ds : List Due) (t : List ℕ) → IsBreak t → Outcome G r c ds t
read_or_fail G r w small c ds t b = walk G r w small (suc (far c t)) c ds t (omega arith) b
