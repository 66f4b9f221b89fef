-- What an encoder keeps from one operand to the next: the words written, and what is due and the operands left.
use Rattle.std.proofs.Common.{◌≡◌, ◌++◌, ◌∙◌, ℕ, List, [], ◌∷◌, true, false, map, refl, sym, ap, append_assoc}
use Rattle.std.proofs.Common.{append-nil}
use Rattle.spv_table.specs.Table.{Table}
use Rattle.spv_module.specs.Operand.{Plain, Context, and_then}
use Rattle.spv_module.specs.Shape.{Slot, AsParts, shape_of}
use Rattle.spv_module.specs.Spelling.{Takes}
use Rattle.spv_inst.specs.Flat.{Due, OneOf, MaybeOf, ManyOf}
use Rattle.spv_inst.specs.inner.Flat.{Matches}
use Rattle.spv_inst.specs.inner.Pending.{settled, Opens}
use Rattle.spv_inst.proofs.Takes.{takes_back, takes_no_parts}
use Rattle.spv_inst.proofs.Flat.{no_words, no_operands, same_bases}

-- Of words that match the whole, what is left after those written matches what is due and the operands left.
pub record Rest (G : Table) (d : Context) (ds : List Due) (left : List Plain) (us written : List ℕ) : Type 0 where
  pub rest : List ℕ
  pub all : us ≡ written ++ rest
  pub matches : Matches G d ds left rest

-- From a context, a pattern and all the operands: the context now, what is due, the operands left, and the words
-- written.
pub record Walk (G : Table) (c : Context) (pattern : List Due) (all : List Plain) (d : Context) (ds : List Due)
    (left : List Plain) (written : List ℕ) : Type 0 where
  pub sound : (us : List ℕ) → Matches G d ds left us → Matches G c pattern all (written ++ us)
  pub complete : (us : List ℕ) → Matches G c pattern all us → Rest G d ds left us written

pub walk_start : (G : Table) (c : Context) (pattern : List Due) (all : List Plain)
    → Walk G c pattern all c pattern all []
walk_start G c pattern all =
    record { sound = λ us m. m; complete = λ us m. record { rest = us; all = refl; matches = m } }

-- what is due by another list that matches the same
pub walk_same : (G : Table) (c : Context) (pattern : List Due) (all : List Plain) (d : Context) (ds es : List Due)
    (left : List Plain) (written : List ℕ)
    → ((us : List ℕ) → Matches G d es left us → Matches G d ds left us)
    → ((us : List ℕ) → Matches G d ds left us → Matches G d es left us)
    → Walk G c pattern all d ds left written → Walk G c pattern all d es left written
walk_same G c pattern all d ds es left written there back w = record {
  sound = λ us m. w.sound us (there us m);
  complete = λ us m. let r = w.complete us m in record { rest = r.rest; all = r.all; matches = back r.rest r.matches };
}

-- where operands are left, an item that may be absent is there
maybe_present : (G : Table) (d : Context) (s : Slot) (ds : List Due) (o : Plain) (os : List Plain) (us : List ℕ)
    → Matches G d (OneOf s ∷ ds) (o ∷ os) us → Matches G d (MaybeOf s ∷ ds) (o ∷ os) us
maybe_present G d s ds o os [] m = let e = no_operands G d (OneOf s ∷ ds) (o ∷ os) [] m refl in cc
maybe_present G d s ds o os (u ∷ us) m = Matches.maybe d s ds (o ∷ os) u us m

many_present : (G : Table) (d : Context) (s : Slot) (ds : List Due) (o : Plain) (os : List Plain) (us : List ℕ)
    → Matches G d (OneOf s ∷ ManyOf s ∷ ds) (o ∷ os) us → Matches G d (ManyOf s ∷ ds) (o ∷ os) us
many_present G d s ds o os [] m = let e = no_operands G d (OneOf s ∷ ManyOf s ∷ ds) (o ∷ os) [] m refl in cc
many_present G d s ds o os (u ∷ us) m = Matches.many d s ds (o ∷ os) u us m

-- and where none is left it is absent
maybe_absent : (G : Table) (d : Context) (s : Slot) (ds : List Due) (us : List ℕ) → Matches G d ds [] us
    → Matches G d (MaybeOf s ∷ ds) [] us
maybe_absent G d s ds us m = let e = no_words G d ds [] us m refl in rw e (Matches.no_maybe d s ds [] (rw e at m))

many_absent : (G : Table) (d : Context) (s : Slot) (ds : List Due) (us : List ℕ) → Matches G d ds [] us
    → Matches G d (ManyOf s ∷ ds) [] us
many_absent G d s ds us m = let e = no_words G d ds [] us m refl in rw e (Matches.no_many d s ds [] (rw e at m))

pub settled_there : (G : Table) (d : Context) (ds : List Due) (o : Plain) (os : List Plain) (us : List ℕ)
    → Matches G d (settled true ds) (o ∷ os) us → Matches G d ds (o ∷ os) us
settled_there G d [] o os us m = m
settled_there G d (OneOf s ∷ ds) o os us m = m
settled_there G d (MaybeOf s ∷ ds) o os us m = maybe_present G d s ds o os us m
settled_there G d (ManyOf s ∷ ds) o os us m = many_present G d s ds o os us m

pub settled_none : (G : Table) (d : Context) (ds : List Due) (us : List ℕ) → Matches G d (settled false ds) [] us
    → Matches G d ds [] us
settled_none G d [] us m = m
settled_none G d (OneOf s ∷ ds) us m = m
settled_none G d (MaybeOf s ∷ ds) us m = maybe_absent G d s ds us (settled_none G d ds us m)
settled_none G d (ManyOf s ∷ ds) us m = many_absent G d s ds us (settled_none G d ds us m)

-- the other way round, by what matches
some_present : (G : Table) (d : Context) (es ds : List Due) (left : List Plain) (us : List ℕ) (o : Plain)
    (os : List Plain) → Matches G d es left us → es ≡ ds → left ≡ o ∷ os → Matches G d (settled true ds) (o ∷ os) us
some_present G _ _ [] left us o os m e f = rw (e, f) at m
some_present G _ _ (OneOf s ∷ ds) left us o os m e f = rw (e, f) at m
some_present G _ _ (MaybeOf s ∷ ds) _ _ o os (Matches.end c) e f = cc
some_present G _ _ (MaybeOf s ∷ ds) _ _ o os (Matches.take c t es p ws ss ps us x m) e f = cc
some_present G _ _ (MaybeOf s ∷ ds) _ _ o os (Matches.parts c t es ss ps us h m) e f = cc
some_present G _ _ (MaybeOf s ∷ ds) _ _ o os (Matches.no_maybe c t es ps m) e f =
    let g = no_operands G c es ps [] m refl in cc
some_present G _ _ (MaybeOf s ∷ ds) _ _ o os (Matches.maybe c t es ps u us m) e f =
    let g : t ≡ s = cc in
    let h : es ≡ ds = cc in
    rw (g, h, f) at m
some_present G _ _ (MaybeOf s ∷ ds) _ _ o os (Matches.no_many c t es ps m) e f = cc
some_present G _ _ (MaybeOf s ∷ ds) _ _ o os (Matches.many c t es ps u us m) e f = cc
some_present G _ _ (ManyOf s ∷ ds) _ _ o os (Matches.end c) e f = cc
some_present G _ _ (ManyOf s ∷ ds) _ _ o os (Matches.take c t es p ws ss ps us x m) e f = cc
some_present G _ _ (ManyOf s ∷ ds) _ _ o os (Matches.parts c t es ss ps us h m) e f = cc
some_present G _ _ (ManyOf s ∷ ds) _ _ o os (Matches.no_maybe c t es ps m) e f = cc
some_present G _ _ (ManyOf s ∷ ds) _ _ o os (Matches.maybe c t es ps u us m) e f = cc
some_present G _ _ (ManyOf s ∷ ds) _ _ o os (Matches.no_many c t es ps m) e f =
    let g = no_operands G c es ps [] m refl in cc
some_present G _ _ (ManyOf s ∷ ds) _ _ o os (Matches.many c t es ps u us m) e f =
    let g : t ≡ s = cc in
    let h : es ≡ ds = cc in
    rw (g, h, f) at m

pub there_settled : (G : Table) (d : Context) (ds : List Due) (o : Plain) (os : List Plain) (us : List ℕ)
    → Matches G d ds (o ∷ os) us → Matches G d (settled true ds) (o ∷ os) us
there_settled G d ds o os us m = some_present G d ds ds (o ∷ os) us o os m refl refl

-- an item that may be absent, with no operands left
none_present : (G : Table) (d : Context) (es ds : List Due) (s : Slot) (left : List Plain) (us : List ℕ)
    → Matches G d es left us → es ≡ MaybeOf s ∷ ds → left ≡ [] → Matches G d ds [] us
none_present G _ _ ds s _ _ (Matches.end c) e f = cc
none_present G _ _ ds s _ _ (Matches.take c t es p ws ss ps us x m) e f = cc
none_present G _ _ ds s _ _ (Matches.parts c t es ss ps us h m) e f = cc
none_present G _ _ ds s _ _ (Matches.no_maybe c t es ps m) e f = let h : es ≡ ds = cc in rw (h, f) at m
none_present G _ _ ds s _ _ (Matches.maybe c t es ps u us m) e f =
    let g = no_words G c (OneOf t ∷ es) ps (u ∷ us) m f in cc
none_present G _ _ ds s _ _ (Matches.no_many c t es ps m) e f = cc
none_present G _ _ ds s _ _ (Matches.many c t es ps u us m) e f = cc

several_present : (G : Table) (d : Context) (es ds : List Due) (s : Slot) (left : List Plain) (us : List ℕ)
    → Matches G d es left us → es ≡ ManyOf s ∷ ds → left ≡ [] → Matches G d ds [] us
several_present G _ _ ds s _ _ (Matches.end c) e f = cc
several_present G _ _ ds s _ _ (Matches.take c t es p ws ss ps us x m) e f = cc
several_present G _ _ ds s _ _ (Matches.parts c t es ss ps us h m) e f = cc
several_present G _ _ ds s _ _ (Matches.no_maybe c t es ps m) e f = cc
several_present G _ _ ds s _ _ (Matches.maybe c t es ps u us m) e f = cc
several_present G _ _ ds s _ _ (Matches.no_many c t es ps m) e f = let h : es ≡ ds = cc in rw (h, f) at m
several_present G _ _ ds s _ _ (Matches.many c t es ps u us m) e f =
    let g = no_words G c (OneOf t ∷ ManyOf t ∷ es) ps (u ∷ us) m f in cc

pub none_settled : (G : Table) (d : Context) (ds : List Due) (us : List ℕ) → Matches G d ds [] us
    → Matches G d (settled false ds) [] us
none_settled G d [] us m = m
none_settled G d (OneOf s ∷ ds) us m = m
none_settled G d (MaybeOf s ∷ ds) us m =
    none_settled G d ds us (none_present G d (MaybeOf s ∷ ds) ds s [] us m refl refl)
none_settled G d (ManyOf s ∷ ds) us m =
    none_settled G d ds us (several_present G d (ManyOf s ∷ ds) ds s [] us m refl refl)

-- what is due, as where operands are left or not
pub walk_settled : (G : Table) (c : Context) (pattern : List Due) (all : List Plain) (d : Context) (ds : List Due)
    (o : Plain) (os : List Plain) (written : List ℕ)
    → Walk G c pattern all d ds (o ∷ os) written → Walk G c pattern all d (settled true ds) (o ∷ os) written
walk_settled G c pattern all d ds o os written w =
    walk_same G c pattern all d ds (settled true ds) (o ∷ os) written (settled_there G d ds o os)
    (there_settled G d ds o os) w

pub walk_settled_none : (G : Table) (c : Context) (pattern : List Due) (all : List Plain) (d : Context) (ds : List Due)
    (written : List ℕ)
    → Walk G c pattern all d ds [] written → Walk G c pattern all d (settled false ds) [] written
walk_settled_none G c pattern all d ds written w =
    walk_same G c pattern all d ds (settled false ds) [] written (settled_none G d ds) (none_settled G d ds) w

-- A slot that is due: what it is matched by.
by_parts : (G : Table) (d : Context) (es ds : List Due) (s : Slot) (ss : List Slot) (left : List Plain) (us : List ℕ)
    → shape_of G d s ≡ AsParts ss
    → Matches G d es left us → es ≡ OneOf s ∷ ds → Matches G d (map OneOf ss ++ ds) left us
by_parts G _ _ ds s ss _ _ h (Matches.end c) e = cc
by_parts G _ _ ds s ss _ _ h (Matches.take c t es p ws ts ps us x m) e =
    let g : t ≡ s = cc in
    let h' : shape_of G c t ≡ AsParts ss = rw g h in
    absurd (takes_no_parts t.kind (shape_of G c t) p ws ts ss x h')
by_parts G _ _ ds s ss _ _ h (Matches.parts c t es ts ps us k m) e =
    let g : t ≡ s = cc in
    let f : es ≡ ds = cc in
    let k' : shape_of G c s ≡ AsParts ts = rw g at k in
    let q : ts ≡ ss = same_bases (shape_of G c s) ts ss k' h in
    rw (q, f) at m
by_parts G _ _ ds s ss _ _ h (Matches.no_maybe c t es ps m) e = cc
by_parts G _ _ ds s ss _ _ h (Matches.maybe c t es ps u us m) e = cc
by_parts G _ _ ds s ss _ _ h (Matches.no_many c t es ps m) e = cc
by_parts G _ _ ds s ss _ _ h (Matches.many c t es ps u us m) e = cc

opens_there : (G : Table) (s : Slot) (ds es : List Due) → Opens G s ds es
    → (d : Context) (left : List Plain) (us : List ℕ) → Matches G d es left us → Matches G d (OneOf s ∷ ds) left us
opens_there G s ds _ Opens.leaf d left us m = m
opens_there G s ds _ (Opens.parts ss h) d left us m = Matches.parts d s ds ss left us (h d) m

opens_back : (G : Table) (s : Slot) (ds es : List Due) → Opens G s ds es
    → (d : Context) (left : List Plain) (us : List ℕ) → Matches G d (OneOf s ∷ ds) left us → Matches G d es left us
opens_back G s ds _ Opens.leaf d left us m = m
opens_back G s ds _ (Opens.parts ss h) d left us m = by_parts G d (OneOf s ∷ ds) ds s ss left us (h d) m refl

pub walk_opened : (G : Table) (c : Context) (pattern : List Due) (all : List Plain) (d : Context) (s : Slot)
    (ds es : List Due) (left : List Plain) (written : List ℕ)
    → Opens G s ds es → Walk G c pattern all d (OneOf s ∷ ds) left written → Walk G c pattern all d es left written
walk_opened G c pattern all d s ds es left written o w =
    walk_same G c pattern all d (OneOf s ∷ ds) es left written (opens_there G s ds es o d left)
    (opens_back G s ds es o d left) w

-- What a leaf that is due tells of the operands and words.
pub record Front (G : Table) (d : Context) (s : Slot) (ds : List Due) (left : List Plain) (us : List ℕ) : Type 0 where
  pub operand : Plain
  pub words : List ℕ
  pub slots : List Slot
  pub operands : List Plain
  pub rest : List ℕ
  pub left_is : left ≡ operand ∷ operands
  pub all : us ≡ words ++ rest
  pub takes : Takes s.kind (shape_of G d s) operand words slots
  pub matches : Matches G (and_then d operand) (map OneOf slots ++ ds) operands rest

at_leaf : (G : Table) (d : Context) (es ds : List Due) (s : Slot) (left : List Plain) (us : List ℕ)
    → ((ss : List Slot) → shape_of G d s ≡ AsParts ss → ⊥)
    → Matches G d es left us → es ≡ OneOf s ∷ ds → Front G d s ds left us
at_leaf G _ _ ds s _ _ h (Matches.end c) e = cc
at_leaf G _ _ ds s _ _ h (Matches.take c t es o ws ss os us x m) e =
    let g : t ≡ s = cc in
    let f : es ≡ ds = cc in
    record {
      operand = o;
      words = ws;
      slots = ss;
      operands = os;
      rest = us;
      left_is = refl;
      all = refl;
      takes = rw g at x;
      matches = rw f at m;
    }
at_leaf G _ _ ds s _ _ h (Matches.parts c t es ss os us k m) e =
    let g : t ≡ s = cc in
    absurd (h ss (rw g at k))
at_leaf G _ _ ds s _ _ h (Matches.no_maybe c t es ps m) e = cc
at_leaf G _ _ ds s _ _ h (Matches.maybe c t es ps u us m) e = cc
at_leaf G _ _ ds s _ _ h (Matches.no_many c t es ps m) e = cc
at_leaf G _ _ ds s _ _ h (Matches.many c t es ps u us m) e = cc

-- an operand that fits
pub walk_operand : (G : Table) (c : Context) (pattern : List Due) (all : List Plain) (d : Context) (s : Slot)
    (ds : List Due) (o : Plain) (os : List Plain) (written ws : List ℕ) (ss : List Slot)
    → Walk G c pattern all d (OneOf s ∷ ds) (o ∷ os) written → Takes s.kind (shape_of G d s) o ws ss
    → Walk G c pattern all (and_then d o) (map OneOf ss ++ ds) os (written ++ ws)
walk_operand G c pattern all d s ds o os written ws ss w t = record {
  sound = λ us m. rw (append_assoc written ws us) (w.sound (ws ++ us) (Matches.take d s ds o ws ss os us t m));
  complete = λ us m.
      let r = w.complete us m in
      let f = at_leaf G d (OneOf s ∷ ds) ds s (o ∷ os) r.rest
      (λ ts h. takes_no_parts s.kind (shape_of G d s) o ws ss ts t h) r.matches refl in
      let i = f.left_is in
      let p : f.operand ≡ o = cc in
      let q : f.operands ≡ os = cc in
      let b = takes_back s.kind (shape_of G d s) f.operand o f.words ws f.slots ss f.takes t p in
      let a : us ≡ (written ++ ws) ++ f.rest = r.all
      ∙ (ap (λ zs. written ++ zs) (f.all ∙ ap (λ zs. zs ++ f.rest) b.words) ∙ sym (append_assoc written ws f.rest))
      in
      record { rest = f.rest; all = a; matches = rw (p, q, b.slots) at f.matches };
}

-- the end of what is due and of the operands: the words written, and no others
pub walk_end : (G : Table) (c : Context) (pattern : List Due) (all : List Plain) (d : Context) (ds : List Due)
    (written : List ℕ)
    → Walk G c pattern all d ds [] written → settled false ds ≡ [] → Matches G c pattern all written
walk_end G c pattern all d ds written w e =
    let m : Matches G d (settled false ds) [] [] = rw e (Matches.end d) in
    rw append-nil at ((walk_settled_none G c pattern all d ds written w).sound [] m)

-- Where no words spell the operands: an operand is left and none is due, one is due and none is left, or one is left
-- that does not fit.
nothing_due : (G : Table) (d : Context) (ds : List Due) (o : Plain) (os left : List Plain) (us : List ℕ)
    → Matches G d ds left us → ds ≡ [] → left ≡ o ∷ os → ⊥
nothing_due G _ _ o os _ _ (Matches.end c) e f = cc
nothing_due G _ _ o os _ _ (Matches.take c t es p ws ss ps us x m) e f = cc
nothing_due G _ _ o os _ _ (Matches.parts c t es ss ps us h m) e f = cc
nothing_due G _ _ o os _ _ (Matches.no_maybe c t es ps m) e f = cc
nothing_due G _ _ o os _ _ (Matches.maybe c t es ps u us m) e f = cc
nothing_due G _ _ o os _ _ (Matches.no_many c t es ps m) e f = cc
nothing_due G _ _ o os _ _ (Matches.many c t es ps u us m) e f = cc

pub walk_too_many : (G : Table) (c : Context) (pattern : List Due) (all : List Plain) (d : Context) (ds : List Due)
    (o : Plain) (os : List Plain) (written : List ℕ)
    → Walk G c pattern all d ds (o ∷ os) written → settled true ds ≡ [] → (us : List ℕ) → Matches G c pattern all us → ⊥
walk_too_many G c pattern all d ds o os written w e us m =
    let r = (walk_settled G c pattern all d ds o os written w).complete us m in
    nothing_due G d (settled true ds) o os (o ∷ os) r.rest r.matches e refl

pub walk_too_few : (G : Table) (c : Context) (pattern : List Due) (all : List Plain) (d : Context) (s : Slot)
    (ds : List Due) (written : List ℕ)
    → ((ss : List Slot) → shape_of G d s ≡ AsParts ss → ⊥) → Walk G c pattern all d (OneOf s ∷ ds) [] written
    → (us : List ℕ) → Matches G c pattern all us → ⊥
walk_too_few G c pattern all d s ds written h w us m =
    let r = w.complete us m in
    let f = at_leaf G d (OneOf s ∷ ds) ds s [] r.rest h r.matches refl in
    let i = f.left_is in
    cc

pub walk_unfit : (G : Table) (c : Context) (pattern : List Due) (all : List Plain) (d : Context) (s : Slot)
    (ds : List Due) (o : Plain) (os : List Plain) (written : List ℕ)
    → ((ss : List Slot) → shape_of G d s ≡ AsParts ss → ⊥)
    → ((ws : List ℕ) (ss : List Slot) → ¬ Takes s.kind (shape_of G d s) o ws ss)
    → Walk G c pattern all d (OneOf s ∷ ds) (o ∷ os) written → (us : List ℕ) → Matches G c pattern all us → ⊥
walk_unfit G c pattern all d s ds o os written h n w us m =
    let r = w.complete us m in
    let f = at_leaf G d (OneOf s ∷ ds) ds s (o ∷ os) r.rest h r.matches refl in
    let i = f.left_is in
    let p : f.operand ≡ o = cc in
    n f.words f.slots (rw p at f.takes)
