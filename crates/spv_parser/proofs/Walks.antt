-- What is kept while the operands of a line are read: those so far, and that what is due goes on from there.
use Rattle.std.proofs.Common.{◌≡◌, ◌≢◌, ◌++◌, ◌∙◌, ◌⊎◌, inl, inr, ◌<◌, ◌+◌, ℕ, List, [], ◌∷◌, Option, Some, None, Bool}
use Rattle.std.proofs.Common.{true, false, not, length, map, refl, sym, ap, arith, append_assoc, append-nil}
use Rattle.std.specs.Prelude.{◌==◌}
use Rattle.std.proofs.lemmas.Bool.Decides.{nat_tests}
use Rattle.spv_table.specs.Table.{Table}
use Rattle.spv_module.specs.Operand.{Plain, PlainInst, Context, start, result_in}
use Rattle.spv_module.specs.Shape.{Slot, alone, Shape, shape_of}
use Rattle.spv_module.specs.Spelling.{Takes}
use Rattle.spv_module.specs.Refusal.{IsLeaf}
use Rattle.spv_inst.specs.Flat.{Due, OneOf, MaybeOf, ManyOf}
use Rattle.spv_inst.specs.inner.Pending.{settled, Opens, LeadsTo, opened_kinds}
use Rattle.spv_lines.specs.declared.asm_error.AsmCode.{AsmCode}
use Rattle.spv_lines.specs.declared.asm_error.AsmCode.TheVariants.{S1, S2, S3, S4, S5, S6}
use Rattle.spv_lines.specs.Operand.{IsRead}
use Rattle.spv_lines.specs.Written.{Piece, Written}
use Rattle.spv_lines.specs.Refusal.{IsBreak, Pends, SlotRefuses, OperandsFail}
use Rattle.spv_lines.proofs.Walking.{nearer, waiting, words_joined}
use Rattle.spv_parser.specs.declared.operands.Known.{Known}
use Rattle.spv_parser.specs.declared.operands.Line.{Line}
use Rattle.spv_parser.specs.inner.Kept.{IsOf, IsOfOperands}
use Rattle.spv_parser.specs.inner.Reading.{AreRead, IsStep, RefusesOr, OperandsFailOr, SoFar, context_of}

-- whether something is left: of the line, or its result
abbrev pub IsMore : Bool → Option ℕ → Context → List ℕ → Type 0
IsMore true r c t = (t ≢ []) ⊎ Pends r c
IsMore false r c t = (t ≡ []) × (r ≡ result_in c.operands)

pub so_far_first : (G : Table) (r : Option ℕ) (before : List PlainInst) (opcode : ℕ) (pattern ds : List Due)
    (line words : List ℕ) (known : Known) → ds ≡ pattern → words ≡ [] → IsBreak line → IsOfOperands known opcode []
    → SoFar G r before opcode pattern line known ds line words
so_far_first G r before opcode pattern ds line words known e f b i =
    rw (e, f) (record {
      operands = [];
      known = i;
      broken = b;
      small = tt;
      written = λ os us m. m;
      failed = λ code m. m;
    })

-- what is due where something is left
settled_written : (G : Table) (r : Option ℕ) (c : Context) (ds : List Due) (os : List Plain) (u : ℕ) (us t : List ℕ)
    → Written (IsRead G) G r c (settled true ds) os (u ∷ us) t → Written (IsRead G) G r c ds os (u ∷ us) t
settled_written G r c [] os u us t m = m
settled_written G r c (OneOf s ∷ ds) os u us t m = m
settled_written G r c (MaybeOf s ∷ ds) os u us t m = Written.maybe c s ds os u us t m
settled_written G r c (ManyOf s ∷ ds) os u us t m = Written.many c s ds os u us t m

settled_failed : (G : Table) (r : Option ℕ) (c : Context) (ds : List Due) (t : List ℕ) (code : AsmCode)
    → IsMore true r c t → OperandsFail G r c (settled true ds) t code → OperandsFail G r c ds t code
settled_failed G r c [] t code n m = m
settled_failed G r c (OneOf s ∷ ds) t code n m = m
settled_failed G r c (MaybeOf s ∷ ds) t code n m = OperandsFail.maybe c s ds t code n m
settled_failed G r c (ManyOf s ∷ ds) t code n m = OperandsFail.many c s ds t code n m

-- what is due where nothing is left
absent_failed : (G : Table) (r : Option ℕ) (c : Context) (ds : List Due) (code : AsmCode) → r ≡ result_in c.operands
    → OperandsFail G r c (settled false ds) [] code → OperandsFail G r c ds [] code
absent_failed G r c [] code n m = m
absent_failed G r c (OneOf s ∷ ds) code n m = m
absent_failed G r c (MaybeOf s ∷ ds) code n m =
    OperandsFail.no_maybe c s ds code (λ p. p n) (absent_failed G r c ds code n m)
absent_failed G r c (ManyOf s ∷ ds) code n m =
    OperandsFail.no_many c s ds code (λ p. p n) (absent_failed G r c ds code n m)

absent_written : (G : Table) (r : Option ℕ) (c : Context) (ds : List Due) → settled false ds ≡ []
    → Written (IsRead G) G r c ds [] [] []
absent_written G r c [] e = Written.end c
absent_written G r c (OneOf s ∷ ds) e = cc
absent_written G r c (MaybeOf s ∷ ds) e = Written.no_maybe c s ds [] [] (absent_written G r c ds e)
absent_written G r c (ManyOf s ∷ ds) e = Written.no_many c s ds [] [] (absent_written G r c ds e)

any_failed : (G : Table) (r : Option ℕ) (c : Context) (ds : List Due) (t : List ℕ) (code : AsmCode) (more : Bool)
    → IsMore more r c t → OperandsFail G r c (settled more ds) t code → OperandsFail G r c ds t code
any_failed G r c ds t code true n m = settled_failed G r c ds t code n m
any_failed G r c ds t code false n m =
    let m' : OperandsFail G r c (settled false ds) [] code = rw n.0 at m in
    rw n.0 (absent_failed G r c ds code n.1 m')

-- a leaf in the place of what is due
opened_written : (G : Table) (r : Option ℕ) (c : Context) (s : Slot) (ds es : List Due) → Opens G s ds es
    → (os : List Plain) (us t : List ℕ) → Written (IsRead G) G r c es os us t
    → Written (IsRead G) G r c (OneOf s ∷ ds) os us t
opened_written G r c s ds _ Opens.leaf os us t m = m
opened_written G r c s ds _ (Opens.parts ss e) os us t m = Written.parts c s ds ss os us t (e c) m

opened_failed : (G : Table) (r : Option ℕ) (c : Context) (s : Slot) (ds es : List Due) → Opens G s ds es
    → (t : List ℕ) (code : AsmCode) → OperandsFail G r c es t code → OperandsFail G r c (OneOf s ∷ ds) t code
opened_failed G r c s ds _ Opens.leaf t code m = m
opened_failed G r c s ds _ (Opens.parts ss e) t code m = OperandsFail.parts c s ds ss t code (e c) m

leads_written : (G : Table) (r : Option ℕ) (c : Context) (ds : List Due) (s : Slot) (es : List Due)
    → LeadsTo G (settled true ds) s es → (os : List Plain) (u : ℕ) (us t : List ℕ)
    → Written (IsRead G) G r c (OneOf s ∷ es) os (u ∷ us) t
    → Written (IsRead G) G r c ds os (u ∷ us) t
leads_written G r c ds s es l os u us t m =
    settled_written G r c ds os u us t (rw l.first
    (opened_written G r c l.slot l.rest (OneOf s ∷ es) l.opened os (u ∷ us) t m))

leads_failed : (G : Table) (r : Option ℕ) (c : Context) (ds : List Due) (s : Slot) (es : List Due) (more : Bool)
    (t : List ℕ) (code : AsmCode) → LeadsTo G (settled more ds) s es → IsMore more r c t
    → OperandsFail G r c (OneOf s ∷ es) t code
    → OperandsFail G r c ds t code
leads_failed G r c ds s es more t code l n m =
    any_failed G r c ds t code more n (rw l.first (opened_failed G r c l.slot l.rest (OneOf s ∷ es) l.opened t code m))

-- the words of an operand are some
some_words : (k : ℕ) (sh : Shape) (o : Plain) (ws : List ℕ) (ss : List Slot) → Takes k sh o ws ss
    → (u : ℕ) × (us : List ℕ) × (ws ≡ u ∷ us)
some_words k _ _ _ _ (Takes.result_type x) = (x, [], refl)
some_words k _ _ _ _ (Takes.result x) = (x, [], refl)
some_words k _ _ _ _ (Takes.id x) = (x, [], refl)
some_words k _ _ _ _ (Takes.word x) = (x, [], refl)
some_words k _ _ _ _ (Takes.narrow w x h) = (x, [], refl)
some_words k _ _ _ _ (Takes.wide w x y h) = (x, y ∷ [], refl)
some_words k _ _ _ _ (Takes.text t [] p h z v) = let e = h.octets in absurd (no_octets t p e)
  where
    no_octets : (t p : List ℕ) → [] ≡ t ++ (0 ∷ p) → ⊥
    no_octets [] p e = cc
    no_octets (x ∷ t) p e = cc
some_words k _ _ _ _ (Takes.text t (w ∷ ws) p h z v) = (w, ws, refl)
some_words k _ _ _ _ (Takes.value es x ks h) = (x, [], refl)
some_words k _ _ _ _ (Takes.mask es x ks h) = (x, [], refl)

-- an operand that stands there is more
pub step_more : (G : Table) (r : Option ℕ) (c : Context) (s : Slot) (o : Plain) (p t rest : List ℕ)
    → Piece (IsRead G) G r c s o p → t ≡ p ++ rest → IsMore true r c t
step_more G r c s _ _ t rest (Piece.result x n e) f = inr (λ g. let h : Some x ≡ None = sym e ∙ (g ∙ n) in cc)
step_more G r c s _ _ t rest (Piece.other o a n e) f = inl (λ g. let h : [] ≡ 32 ∷ (a ++ rest) = sym g ∙ f in cc)

not_less : (r : Option ℕ) (c : Context) (t : List ℕ) → IsMore true r c t → IsMore false r c t → ⊥
not_less r c t (inl n) m = n m.0
not_less r c t (inr n) m = n m.1

pub is_true : (more : Bool) (r : Option ℕ) (c : Context) (t : List ℕ) → IsMore more r c t → IsMore true r c t
    → more ≡ true
is_true true r c t h g = refl
is_true false r c t h g = absurd (not_less r c t g h)

pub so_far_more : (G : Table) (r : Option ℕ) (before : List PlainInst) (opcode : ℕ) (pattern ds es later : List Due)
    (line t rest words new : List ℕ) (known next : Known) (s : Slot) (more : Bool)
    → (a : SoFar G r before opcode pattern line known ds t words)
    → IsMore more r (context_of before opcode a.operands) t → LeadsTo G (settled more ds) s es
    → IsStep G r (context_of before opcode a.operands) s t rest next words new es later
    → SoFar G r before opcode pattern line next later rest new
so_far_more G r before opcode pattern ds es later line t rest words new known next s more a n l h =
    let c = context_of before opcode a.operands in
    let o = h.operand in
    let m = step_more G r c s o h.stands.piece t rest h.stands.written h.stands.all in
    let e = is_true more r c t n m in
    let l' : LeadsTo G (settled true ds) s es = rw e at l in
    let slots = map alone (opened_kinds G o) in
    let w = some_words s.kind (shape_of G c s) o h.stands.words slots h.stands.takes in
    rw (h.words, h.due) (record {
      operands = a.operands ++ (o ∷ []);
      known = h.known;
      broken = h.stands.broken;
      small = words_joined words h.stands.words a.small h.stands.small;
      written = λ os us k.
          let q : Written (IsRead G) G r c (OneOf s ∷ es) (o ∷ os) (h.stands.words ++ us)
          (h.stands.piece ++ rest) =
          Written.take c s es o h.stands.words slots h.stands.piece os us rest h.stands.takes h.stands.written k in
          let q' : Written (IsRead G) G r c (OneOf s ∷ es) (o ∷ os) (h.stands.words ++ us) t = rw h.stands.all q in
          let q'' : Written (IsRead G) G r c (OneOf s ∷ es) (o ∷ os) (w.0 ∷ (w.1 ++ us)) t = rw w.2 at q' in
          let x = leads_written G r c ds s es l' (o ∷ os) w.0 (w.1 ++ us) t q'' in
          let y = a.written (o ∷ os) (w.0 ∷ (w.1 ++ us)) x in
          let z : words ++ (w.0 ∷ (w.1 ++ us)) ≡ (words ++ h.stands.words)
          ++ us = ap (λ v. words ++ (v ++ us)) (sym w.2) ∙ sym (append_assoc words h.stands.words us) in
          rw (append_assoc a.operands (o ∷ []) os, ← z) y;
      failed = λ code k. a.failed code (leads_failed G r c ds s es true t code l' m
          (OperandsFail.after c s es o slots t rest code h.stands k));
    })

-- an operand for an item of the pattern that is due where something is left
pub so_far_plain : (G : Table) (r : Option ℕ) (before : List PlainInst) (opcode : ℕ) (pattern ds es : List Due)
    (line t rest words new : List ℕ) (known next : Known) (s : Slot)
    → (a : SoFar G r before opcode pattern line known ds t words) → settled true ds ≡ OneOf s ∷ es
    → IsStep G r (context_of before opcode a.operands) s t rest next words new es es
    → SoFar G r before opcode pattern line next es rest new
so_far_plain G r before opcode pattern ds es line t rest words new known next s a e h =
    let c = context_of before opcode a.operands in
    let n = step_more G r c s h.operand h.stands.piece t rest h.stands.written h.stands.all in
    let l : LeadsTo G (settled true ds) s es = record { slot = s; rest = es; first = e; opened = Opens.leaf } in
    so_far_more G r before opcode pattern ds es es line t rest words new known next s true a n l h

pub so_far_refused : (G : Table) (r : Option ℕ) (before : List PlainInst) (opcode : ℕ) (pattern ds es : List Due)
    (line t words : List ℕ) (known : Known) (s : Slot) (more : Bool) (code : AsmCode)
    → (a : SoFar G r before opcode pattern line known ds t words)
    → IsMore more r (context_of before opcode a.operands) t → LeadsTo G (settled more ds) s es
    → IsLeaf (shape_of G (context_of before opcode a.operands) s)
    → SlotRefuses G r (context_of before opcode a.operands) s t code
    → OperandsFail G r (start before opcode) pattern line code
so_far_refused G r before opcode pattern ds es line t words known s more code a n l f h =
    let c = context_of before opcode a.operands in
    a.failed code (leads_failed G r c ds s es more t code l n (OperandsFail.refused c s es t code f h))

pub none_due : (ds : List Due) → settled true ds ≡ [] → ds ≡ []
none_due [] e = refl
none_due (OneOf s ∷ ds) e = cc
none_due (MaybeOf s ∷ ds) e = cc
none_due (ManyOf s ∷ ds) e = cc

left_over : (G : Table) (r : Option ℕ) (c : Context) (t : List ℕ) → IsMore true r c t → OperandsFail G r c [] t S3
left_over G r c [] (inl n) = absurd (n refl)
left_over G r c [] (inr n) = OperandsFail.unused c n
left_over G r c (b ∷ t) n = OperandsFail.left c b t

pub so_far_left : (G : Table) (r : Option ℕ) (before : List PlainInst) (opcode : ℕ) (pattern ds : List Due)
    (line t words : List ℕ) (known : Known) (more : Bool)
    → (a : SoFar G r before opcode pattern line known ds t words)
    → IsMore more r (context_of before opcode a.operands) t → settled more ds ≡ [] → more ≡ true
    → OperandsFail G r (start before opcode) pattern line S3
so_far_left G r before opcode pattern ds line t words known more a n e f =
    let c = context_of before opcode a.operands in
    let n' : IsMore true r c t = rw f at n in
    let e' : settled true ds ≡ [] = rw f at e in
    let d = none_due ds e' in
    a.failed S3 (rw d (left_over G r c t n'))

pub so_far_done : (G : Table) (r : Option ℕ) (before : List PlainInst) (opcode : ℕ) (pattern ds : List Due)
    (line t words : List ℕ) (known : Known) (more : Bool) (kept : Line)
    → (a : SoFar G r before opcode pattern line known ds t words)
    → IsMore more r (context_of before opcode a.operands) t → settled more ds ≡ [] → more ≡ false
    → ((os : List Plain) → IsOfOperands known opcode os → IsOf kept (record { opcode = opcode; operands = os }))
    → AreRead G r before opcode pattern line words kept
so_far_done G r before opcode pattern ds line t words known more kept a n e f k =
    let c = context_of before opcode a.operands in
    let n' : IsMore false r c t = rw f at n in
    let e' : settled false ds ≡ [] = rw f at e in
    let m : Written (IsRead G) G r c ds [] [] t = rw n'.0 (absent_written G r c ds e') in
    let w = a.written [] [] m in
    record {
      operands = a.operands;
      written = rw (append-nil a.operands, append-nil words) at w;
      small = a.small;
      result = n'.1;
      kept = k a.operands a.known;
    }

-- the line gets shorter
pub so_far_nearer : (G : Table) (r : Option ℕ) (c : Context) (s : Slot) (t rest old new : List ℕ) (known next : Known)
    (es later : List Due) → IsOfOperands known c.opcode c.operands → IsStep G r c s t rest next old new es later
    → length rest + waiting next.result < length t + waiting known.result
so_far_nearer G r c s t rest old new known next es later i h =
    let k = nearer G r c s h.operand h.stands.piece t rest h.stands.written h.stands.all in
    rw (i.result, h.known.result) k

-- a refusal of a leaf, or memory ran out
pub so_far_stopped : (G : Table) (r : Option ℕ) (before : List PlainInst) (opcode : ℕ) (pattern ds es : List Due)
    (line t words : List ℕ) (known : Known) (s : Slot) (more : Bool) (code : AsmCode)
    → (a : SoFar G r before opcode pattern line known ds t words)
    → IsMore more r (context_of before opcode a.operands) t → LeadsTo G (settled more ds) s es
    → IsLeaf (shape_of G (context_of before opcode a.operands) s)
    → RefusesOr G r (context_of before opcode a.operands) s t code
    → OperandsFailOr G r (start before opcode) pattern line code
so_far_stopped G r before opcode pattern ds es line t words known s more S1 a n l f h =
    so_far_refused G r before opcode pattern ds es line t words known s more S1 a n l f h
so_far_stopped G r before opcode pattern ds es line t words known s more S2 a n l f h =
    so_far_refused G r before opcode pattern ds es line t words known s more S2 a n l f h
so_far_stopped G r before opcode pattern ds es line t words known s more S3 a n l f h =
    so_far_refused G r before opcode pattern ds es line t words known s more S3 a n l f h
so_far_stopped G r before opcode pattern ds es line t words known s more S4 a n l f h =
    so_far_refused G r before opcode pattern ds es line t words known s more S4 a n l f h
so_far_stopped G r before opcode pattern ds es line t words known s more S5 a n l f h =
    so_far_refused G r before opcode pattern ds es line t words known s more S5 a n l f h
so_far_stopped G r before opcode pattern ds es line t words known s more S6 a n l f h = tt

-- whether something is left, as the code tells
pub more_text : (r : Option ℕ) (c : Context) (t : List ℕ) → 0 < length t → IsMore true r c t
more_text r c [] l = absurd (omega arith)
more_text r c (b ∷ t) l = inl (λ e. cc)

pub more_result : (r q : Option ℕ) (c : Context) (t : List ℕ) → q ≡ result_in c.operands → r ≢ q → IsMore true r c t
more_result r q c t e n = inr (λ f. n (f ∙ sym e))

pub no_more : (r q : Option ℕ) (c : Context) (t : List ℕ) → q ≡ result_in c.operands → length t ≡ 0 → r ≡ q
    → IsMore false r c t
no_more r q c [] e l f = (refl, f ∙ e)
no_more r q c (b ∷ t) e l f = absurd (omega arith)

some_left : (b : Bool) (n : ℕ) → b ≡ (n == 0) → b ≡ false → 0 < n
some_left b n e f = grind (arith, nat_tests)

none_left : (b : Bool) (n : ℕ) → b ≡ (n == 0) → b ≡ true → n ≡ 0
none_left b n e f = grind (arith, nat_tests)

pub more_then : (b : Bool) (r : Option ℕ) (c : Context) (t : List ℕ) → b ≡ (length t == 0) → b ≡ false
    → IsMore (not b) r c t
more_then b r c t e f = let m = more_text r c t (some_left b (length t) e f) in rw f m

pub more_else : (b d : Bool) (r q : Option ℕ) (c : Context) (t : List ℕ) → b ≡ (length t == 0) → b ≡ true
    → q ≡ result_in c.operands → (d ≡ true → r ≢ q) × (d ≡ false → r ≡ q) → IsMore d r c t
more_else b true r q c t e f g h = more_result r q c t g (h.0 refl)
more_else b false r q c t e f g h = no_more r q c t g (none_left b (length t) e f) (h.1 refl)
