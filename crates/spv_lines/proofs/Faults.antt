-- Operands that are read do not fail, and those that fail do so with one code.
use Rattle.std.proofs.Common.{◌≡◌, ◌≢◌, ◌++◌, ◌∙◌, ◌⊎◌, inl, inr, ℕ, List, [], ◌∷◌, Option, Some, None, map, refl, sym}
use Rattle.std.proofs.Common.{ap}
use Rattle.std.proofs.lemmas.List.{append-nil}
use Rattle.spv_table.specs.Table.{Table}
use Rattle.spv_module.specs.Operand.{Plain, Context, and_then, result_in}
use Rattle.spv_module.specs.Shape.{Slot, Shape, AsParts, shape_of}
use Rattle.spv_module.specs.Refusal.{IsLeaf}
use Rattle.spv_inst.specs.Flat.{Due, OneOf, ManyOf}
use Rattle.spv_inst.proofs.Flat.{same_bases, no_words, no_operands}
use Rattle.spv_inst.proofs.Takes.{takes_back, takes_no_parts}
use Rattle.spv_lines.specs.declared.asm_error.AsmCode.{AsmCode}
use Rattle.spv_lines.specs.Operand.{IsRead}
use Rattle.spv_lines.specs.Written.{Written}
use Rattle.spv_lines.specs.Line.{AreWords}
use Rattle.spv_lines.specs.Refusal.{Pends, StandsInLine, SlotRefuses, OperandsFail}
use Rattle.spv_lines.proofs.Once.{forget}
use Rattle.spv_lines.proofs.Pieces.{piece_same}
use Rattle.spv_lines.proofs.Reading.{written_break, no_text, only_front, all_split, result_changed}
use Rattle.spv_lines.proofs.Large.{stands_not_large}

-- what stands at the front stands there once
record SameFront (o q : Plain) (ss ts : List Slot) (t u : List ℕ) : Type 0 where
  pub operand : o ≡ q
  pub slots : ss ≡ ts
  pub rest : t ≡ u

stands_once : (G : Table) (r : Option ℕ) (c : Context) (s : Slot) (o q : Plain) (ss ts : List Slot) (t u v w : List ℕ)
    → StandsInLine G r c s o ss t v → StandsInLine G r c s q ts u w → t ≡ u
    → SameFront o q ss ts v w
stands_once G r c s o q ss ts t u v w a b e =
    let f : a.piece ++ v ≡ b.piece ++ w = sym a.all ∙ (e ∙ b.all) in
    let z = piece_same G r c s (shape_of G c s) o q a.words b.words ss ts a.piece b.piece v w a.takes b.takes a.small
    b.small a.written b.written a.broken b.broken f in
    let k = takes_back s.kind (shape_of G c s) o q a.words b.words ss ts a.takes b.takes z.operand in
    record { operand = z.operand; slots = k.slots; rest = z.rest }

refuse_same : (G : Table) (r : Option ℕ) (c : Context) (s : Slot) (t u : List ℕ) (a b : AsmCode)
    → SlotRefuses G r c s t a → SlotRefuses G r c s u b → t ≡ u → a ≡ b
refuse_same G r c s t u _ _ (SlotRefuses.large l) (SlotRefuses.large m) e = refl
refuse_same G r c s t u _ _ (SlotRefuses.large l) (SlotRefuses.wrong n m) e = absurd (m (rw (← e) l))
refuse_same G r c s t u _ _ (SlotRefuses.wrong n m) (SlotRefuses.large l) e = absurd (m (rw e l))
refuse_same G r c s t u _ _ (SlotRefuses.wrong n m) (SlotRefuses.wrong k l) e = refl

stands_refuses : (G : Table) (r : Option ℕ) (c : Context) (s : Slot) (o : Plain) (ss : List Slot) (t u v : List ℕ)
    (a : AsmCode) → StandsInLine G r c s o ss t v → SlotRefuses G r c s u a → t ≡ u → ⊥
stands_refuses G r c s o ss t u v _ h (SlotRefuses.large l) e = stands_not_large G r c s o ss t v h (rw e l)
stands_refuses G r c s o ss t u v _ h (SlotRefuses.wrong n m) e = let h' : StandsInLine G r c s o ss u v = rw e at h in
    n o ss v h'

leaf_parts : (sh : Shape) (ss : List Slot) → IsLeaf sh → sh ≡ AsParts ss → ⊥
leaf_parts sh ss l e = let m : IsLeaf (AsParts ss) = rw e at l in m

moved : (G : Table) (r : Option ℕ) (c : Context) (o p : Plain) (ss ts : List Slot) (ds : List Due) (t : List ℕ)
    (a : AsmCode) → o ≡ p → ss ≡ ts
    → OperandsFail G r (and_then c p) (map OneOf ts ++ ds) t a
    → OperandsFail G r (and_then c o) (map OneOf ss ++ ds) t a
moved G r c o p ss ts ds t a e f m = rw (e, f) m

bases_moved : (G : Table) (r : Option ℕ) (c : Context) (ss ts : List Slot) (ds : List Due) (t : List ℕ) (a : AsmCode)
    → ss ≡ ts
    → OperandsFail G r c (map OneOf ts ++ ds) t a → OperandsFail G r c (map OneOf ss ++ ds) t a
bases_moved G r c ss ts ds t a f m = rw f m

pub operands_fail_same : (G : Table) (r : Option ℕ) (c : Context) (ds : List Due) (t u : List ℕ) (a b : AsmCode)
    → OperandsFail G r c ds t a → OperandsFail G r c ds u b → t ≡ u → a ≡ b
operands_fail_same G r _ _ _ _ _ _ (OperandsFail.left c x t) (OperandsFail.left _ y u) e = refl
operands_fail_same G r _ _ _ _ _ _ (OperandsFail.left c x t) (OperandsFail.unused _ p) e = refl
operands_fail_same G r _ _ _ _ _ _ (OperandsFail.unused c p) (OperandsFail.left _ y u) e = refl
operands_fail_same G r _ _ _ _ _ _ (OperandsFail.unused c p) (OperandsFail.unused _ q) e = refl
operands_fail_same G r _ _ _ _ _ _ (OperandsFail.refused c s ds t a l f) (OperandsFail.refused _ _ _ u b m g) e =
    refuse_same G r c s t u a b f g e
operands_fail_same G r _ _ _ _ _ _ (OperandsFail.refused c s ds t a l f) (OperandsFail.after _ _ _ q ts u w b h g) e =
    absurd (stands_refuses G r c s q ts u t w a h f (sym e))
operands_fail_same G r _ _ _ _ _ _ (OperandsFail.refused c s ds t a l f) (OperandsFail.parts _ _ _ ts u b h g) e =
    absurd (leaf_parts (shape_of G c s) ts l h)
operands_fail_same G r _ _ _ _ _ _ (OperandsFail.after c s ds o ss t v a h f) (OperandsFail.refused _ _ _ u b m g) e =
    absurd (stands_refuses G r c s o ss t u v b h g e)
operands_fail_same G r _ _ _ _ _ _ (OperandsFail.after c s ds o ss t v a h f)
    (OperandsFail.after _ _ _ q ts u w b k g) e =
    let z = stands_once G r c s o q ss ts t u v w h k e in
    operands_fail_same G r (and_then c o) (map OneOf ss ++ ds) v w a b f
    (moved G r c o q ss ts ds w b z.operand z.slots g) z.rest
operands_fail_same G r _ _ _ _ _ _ (OperandsFail.after c s ds o ss t v a h f) (OperandsFail.parts _ _ _ ts u b k g) e =
    absurd (takes_no_parts s.kind (shape_of G c s) o h.words ss ts h.takes k)
operands_fail_same G r _ _ _ _ _ _ (OperandsFail.parts c s ds ss t a h f) (OperandsFail.refused _ _ _ u b m g) e =
    absurd (leaf_parts (shape_of G c s) ss m h)
operands_fail_same G r _ _ _ _ _ _ (OperandsFail.parts c s ds ss t a h f) (OperandsFail.after _ _ _ q ts u w b k g) e =
    absurd (takes_no_parts s.kind (shape_of G c s) q k.words ts ss k.takes h)
operands_fail_same G r _ _ _ _ _ _ (OperandsFail.parts c s ds ss t a h f) (OperandsFail.parts _ _ _ ts u b k g) e =
    operands_fail_same G r c (map OneOf ss ++ ds) t u a b f
    (bases_moved G r c ss ts ds u b (same_bases (shape_of G c s) ss ts h k) g) e
operands_fail_same G r _ _ _ _ _ _ (OperandsFail.no_maybe c s ds a n f) (OperandsFail.no_maybe _ _ _ b m g) e =
    operands_fail_same G r c ds [] [] a b f g e
operands_fail_same G r _ _ _ _ _ _ (OperandsFail.no_maybe c s ds a n f) (OperandsFail.maybe _ _ _ u b m g) e =
    absurd (elim m [ inl k ↦ k (sym e) | inr k ↦ n k ])
operands_fail_same G r _ _ _ _ _ _ (OperandsFail.maybe c s ds t a n f) (OperandsFail.no_maybe _ _ _ b m g) e =
    absurd (elim n [ inl k ↦ k e | inr k ↦ m k ])
operands_fail_same G r _ _ _ _ _ _ (OperandsFail.maybe c s ds t a n f) (OperandsFail.maybe _ _ _ u b m g) e =
    operands_fail_same G r c (OneOf s ∷ ds) t u a b f g e
operands_fail_same G r _ _ _ _ _ _ (OperandsFail.no_many c s ds a n f) (OperandsFail.no_many _ _ _ b m g) e =
    operands_fail_same G r c ds [] [] a b f g e
operands_fail_same G r _ _ _ _ _ _ (OperandsFail.no_many c s ds a n f) (OperandsFail.many _ _ _ u b m g) e =
    absurd (elim m [ inl k ↦ k (sym e) | inr k ↦ n k ])
operands_fail_same G r _ _ _ _ _ _ (OperandsFail.many c s ds t a n f) (OperandsFail.no_many _ _ _ b m g) e =
    absurd (elim n [ inl k ↦ k e | inr k ↦ m k ])
operands_fail_same G r _ _ _ _ _ _ (OperandsFail.many c s ds t a n f) (OperandsFail.many _ _ _ u b m g) e =
    operands_fail_same G r c (OneOf s ∷ ManyOf s ∷ ds) t u a b f g e

-- nothing of the line is left where no words are
nothing_left : (G : Table) (r : Option ℕ) (c : Context) (ds : List Due) (os : List Plain) (t u : List ℕ)
    → Written (IsRead G) G r c ds os [] t → r ≡ result_in (c.operands ++ os) → t ≡ u
    → (u ≢ []) ⊎ Pends r c → ⊥
nothing_left G r c ds os t u m i e p =
    let a : os ≡ [] = no_operands G c ds os [] (forget (IsRead G) G r c ds os [] t m) refl in
    let b : t ≡ [] = no_text (IsRead G) G r c ds os [] t m a in
    let j : r ≡ result_in (c.operands ++ []) = rw a at i in
    let k : r ≡ result_in c.operands = j ∙ ap result_in (append-nil c.operands) in
    elim p [ inl n ↦ n (sym e ∙ b) | inr n ↦ n k ]

something_left : (G : Table) (r : Option ℕ) (c : Context) (ds : List Due) (os : List Plain) (v : ℕ) (vs t : List ℕ)
    → Written (IsRead G) G r c ds os (v ∷ vs) t → t ≡ [] → ¬ (Pends r c) → ⊥
something_left G r c ds os v vs t m e p =
    elim (only_front (IsRead G) G r c ds os (v ∷ vs) t m e) [
      | inl f ↦ let w : v ∷ vs ≡ [] = no_words G c ds os (v ∷ vs) (forget (IsRead G) G r c ds os (v ∷ vs) t m) f in cc
      | inr f ↦ p (λ g. let w : None ≡ Some f.0 = sym f.1 ∙ (sym g ∙ f.2) in cc)
    ]

written_moved : (G : Table) (r : Option ℕ) (c : Context) (o p : Plain) (ss ts : List Slot) (ds : List Due)
    (os : List Plain) (us t : List ℕ) → o ≡ p → ss ≡ ts
    → Written (IsRead G) G r (and_then c p) (map OneOf ts ++ ds) os us t
    → Written (IsRead G) G r (and_then c o) (map OneOf ss ++ ds) os us t
written_moved G r c o p ss ts ds os us t e f m = rw (e, f) m

written_bases : (G : Table) (r : Option ℕ) (c : Context) (ss ts : List Slot) (ds : List Due) (os : List Plain)
    (us t : List ℕ) → ss ≡ ts
    → Written (IsRead G) G r c (map OneOf ts ++ ds) os us t → Written (IsRead G) G r c (map OneOf ss ++ ds) os us t
written_bases G r c ss ts ds os us t f m = rw f m

pub read_not_failed : (G : Table) (r : Option ℕ) (c : Context) (ds : List Due) (t u : List ℕ) (a : AsmCode)
    (os : List Plain) (us : List ℕ)
    → OperandsFail G r c ds t a → Written (IsRead G) G r c ds os us u → AreWords us → r ≡ result_in (c.operands ++ os)
    → t ≡ u → ⊥
read_not_failed G r _ _ _ _ _ _ _ (OperandsFail.left c x t) (Written.end _) w i e = cc
read_not_failed G r _ _ _ _ _ _ _ (OperandsFail.unused c p) (Written.end _) w i e =
    p (i ∙ ap result_in (append-nil c.operands))
read_not_failed G r _ _ _ _ _ _ _ (OperandsFail.refused c s ds t a l f)
    (Written.take _ _ _ q xs ts v ps vs u h y n) w i e =
    let k = all_split xs vs w in
    stands_refuses G r c s q ts (v ++ u) t u a
    (record {
      words = xs;
      piece = v;
      takes = h;
      small = k.first;
      written = y;
      broken = written_break (IsRead G) G r (and_then c q) (map OneOf ts ++ ds) ps vs u n;
      all = refl;
    }) f (sym e)
read_not_failed G r _ _ _ _ _ _ _ (OperandsFail.refused c s ds t a l f) (Written.parts _ _ _ ts ps vs u h n) w i e =
    leaf_parts (shape_of G c s) ts l h
read_not_failed G r _ _ _ _ _ _ _ (OperandsFail.after c s ds o ss t v a h f)
    (Written.take _ _ _ q xs ts p ps vs u g y n) w i e =
    let k = all_split xs vs w in
    let z = stands_once G r c s o q ss ts t (p ++ u) v u h
    (record {
      words = xs;
      piece = p;
      takes = g;
      small = k.first;
      written = y;
      broken = written_break (IsRead G) G r (and_then c q) (map OneOf ts ++ ds) ps vs u n;
      all = refl;
    }) e in
    read_not_failed G r (and_then c o) (map OneOf ss ++ ds) v u a ps vs f
    (written_moved G r c o q ss ts ds ps vs u z.operand z.slots n) k.second
    (result_changed r c.operands o q ps z.operand i) z.rest
read_not_failed G r _ _ _ _ _ _ _ (OperandsFail.after c s ds o ss t v a h f)
    (Written.parts _ _ _ ts ps vs u g n) w i e = takes_no_parts s.kind (shape_of G c s) o h.words ss ts h.takes g
read_not_failed G r _ _ _ _ _ _ _ (OperandsFail.parts c s ds ss t a h f)
    (Written.take _ _ _ q xs ts p ps vs u g y n) w i e = takes_no_parts s.kind (shape_of G c s) q xs ts ss g h
read_not_failed G r _ _ _ _ _ _ _ (OperandsFail.parts c s ds ss t a h f) (Written.parts _ _ _ ts ps vs u g n) w i e =
    read_not_failed G r c (map OneOf ss ++ ds) t u a ps vs f
    (written_bases G r c ss ts ds ps vs u (same_bases (shape_of G c s) ss ts h g) n) w i e
read_not_failed G r _ _ _ _ _ _ _ (OperandsFail.no_maybe c s ds a p f) (Written.no_maybe _ _ _ ps u n) w i e =
    read_not_failed G r c ds [] u a ps [] f n w i e
read_not_failed G r _ _ _ _ _ _ _ (OperandsFail.no_maybe c s ds a p f) (Written.maybe _ _ _ ps v vs u n) w i e =
    something_left G r c (OneOf s ∷ ds) ps v vs u n (sym e) p
read_not_failed G r _ _ _ _ _ _ _ (OperandsFail.maybe c s ds t a p f) (Written.no_maybe _ _ _ ps u n) w i e =
    nothing_left G r c ds ps u t n i (sym e) p
read_not_failed G r _ _ _ _ _ _ _ (OperandsFail.maybe c s ds t a p f) (Written.maybe _ _ _ ps v vs u n) w i e =
    read_not_failed G r c (OneOf s ∷ ds) t u a ps (v ∷ vs) f n w i e
read_not_failed G r _ _ _ _ _ _ _ (OperandsFail.no_many c s ds a p f) (Written.no_many _ _ _ ps u n) w i e =
    read_not_failed G r c ds [] u a ps [] f n w i e
read_not_failed G r _ _ _ _ _ _ _ (OperandsFail.no_many c s ds a p f) (Written.many _ _ _ ps v vs u n) w i e =
    something_left G r c (OneOf s ∷ ManyOf s ∷ ds) ps v vs u n (sym e) p
read_not_failed G r _ _ _ _ _ _ _ (OperandsFail.many c s ds t a p f) (Written.no_many _ _ _ ps u n) w i e =
    nothing_left G r c ds ps u t n i (sym e) p
read_not_failed G r _ _ _ _ _ _ _ (OperandsFail.many c s ds t a p f) (Written.many _ _ _ ps v vs u n) w i e =
    read_not_failed G r c (OneOf s ∷ ManyOf s ∷ ds) t u a ps (v ∷ vs) f n w i e
