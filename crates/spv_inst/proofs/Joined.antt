-- The joined form says the same as the flat one.
use Rattle.std.proofs.Common.{◌≡◌, ◌≢◌, ◌++◌, ◌∙◌, ℕ, List, [], ◌∷◌, map, refl, sym, ap, append_assoc, append-nil}
use Rattle.spv_table.specs.Table.{Table, Item, One, Maybe, Many}
use Rattle.spv_module.specs.Operand.{Plain, Context, and_then, after}
use Rattle.spv_module.specs.Shape.{Slot, alone, AsParts, shape_of}
use Rattle.spv_module.specs.Spelling.{Takes, Spells, operand, parts, SpellsAll, none, more, Match}
use Rattle.spv_module.specs.Spelling as spelling
use Rattle.spv_inst.specs.Flat.{Due, OneOf, MaybeOf, ManyOf, due}
use Rattle.spv_inst.specs.inner.Flat.{Matches}
use Rattle.spv_inst.specs.inner.Flat as flat_inner

pub after-append : (c : Context) (os ps : List Plain) → after c (os ++ ps) ≡ after (after c os) ps
after-append c [] ps = refl
after-append c (o ∷ os) ps = after-append (and_then c o) os ps

mutual
  pub spells_flat : (G : Table) (c : Context) (s : Slot) (os : List Plain) (us : List ℕ) → Spells G c s os us
      → (ds : List Due) (ps : List Plain) (vs : List ℕ) → Matches G (after c os) ds ps vs
      → Matches G c (OneOf s ∷ ds) (os ++ ps) (us ++ vs)
  spells_flat G _ _ _ _ (operand c s o ws ss os us t a) ds ps vs m =
      rw (append_assoc ws us vs) (flat_inner.take c s ds o ws ss (os ++ ps) (us ++ vs) t
      (all_flat G (and_then c o) ss os us a ds ps vs m))
  spells_flat G _ _ _ _ (parts c s ss os us h a) ds ps vs m =
      flat_inner.parts c s ds ss (os ++ ps) (us ++ vs) h (all_flat G c ss os us a ds ps vs m)

  pub all_flat : (G : Table) (c : Context) (ss : List Slot) (os : List Plain) (us : List ℕ) → SpellsAll G c ss os us
      → (ds : List Due) (ps : List Plain) (vs : List ℕ) → Matches G (after c os) ds ps vs
      → Matches G c (map OneOf ss ++ ds) (os ++ ps) (us ++ vs)
  all_flat G _ _ _ _ (none c) ds ps vs m = m
  all_flat G _ _ _ _ (more c s ss os qs us ws a b) ds ps vs m =
      rw (append_assoc os qs ps, append_assoc us ws vs)
      (spells_flat G c s os us a (map OneOf ss ++ ds) (qs ++ ps) (ws ++ vs)
      (all_flat G (after c os) ss qs ws b ds ps vs (rw (after-append c os qs) at m)))

flat_maybe : (G : Table) (c : Context) (s : Slot) (ds : List Due) (os : List Plain) (us : List ℕ) → us ≢ []
    → Matches G c (OneOf s ∷ ds) os us → Matches G c (MaybeOf s ∷ ds) os us
flat_maybe G c s ds os [] h m = absurd (h refl)
flat_maybe G c s ds os (u ∷ us) h m = flat_inner.maybe c s ds os u us m

flat_many : (G : Table) (c : Context) (s : Slot) (ds : List Due) (os : List Plain) (us : List ℕ) → us ≢ []
    → Matches G c (OneOf s ∷ ManyOf s ∷ ds) os us → Matches G c (ManyOf s ∷ ds) os us
flat_many G c s ds os [] h m = absurd (h refl)
flat_many G c s ds os (u ∷ us) h m = flat_inner.many c s ds os u us m

pub match_flat : (G : Table) (c : Context) (is : List Item) (os : List Plain) (us : List ℕ) → Match G c is os us
    → Matches G c (map due is) os us
match_flat G _ _ _ _ (spelling.nothing c) = flat_inner.end c
match_flat G _ _ _ _ (spelling.one c k is os ps us vs a m) =
    spells_flat G c (alone k) os us a (map due is) ps vs (match_flat G (after c os) is ps vs m)
match_flat G _ _ _ _ (spelling.no_maybe c k is os m) =
    flat_inner.no_maybe c (alone k) (map due is) os (match_flat G c is os [] m)
match_flat G _ _ _ _ (spelling.maybe c k is os ps us vs h a m) =
    flat_maybe G c (alone k) (map due is) (os ++ ps) (us ++ vs) h
    (spells_flat G c (alone k) os us a (map due is) ps vs (match_flat G (after c os) is ps vs m))
match_flat G _ _ _ _ (spelling.no_many c k is os m) =
    flat_inner.no_many c (alone k) (map due is) os (match_flat G c is os [] m)
match_flat G _ _ _ _ (spelling.many c k is os ps us vs h a m) =
    flat_many G c (alone k) (map due is) (os ++ ps) (us ++ vs) h
    (spells_flat G c (alone k) os us a (ManyOf (alone k) ∷ map due is) ps vs
    (match_flat G (after c os) (Many k ∷ is) ps vs m))

-- kinds in order, in two parts
pub record Split (G : Table) (c : Context) (ss ts : List Slot) (os : List Plain) (us : List ℕ) : Type 0 where
  pub front : List Plain
  pub back : List Plain
  pub words : List ℕ
  pub rest : List ℕ
  pub operands : os ≡ front ++ back
  pub all : us ≡ words ++ rest
  pub first : SpellsAll G c ss front words
  pub second : SpellsAll G (after c front) ts back rest

pub split : (G : Table) (c : Context) (ss ts : List Slot) (os : List Plain) (us : List ℕ)
    → SpellsAll G c (ss ++ ts) os us → Split G c ss ts os us
split G c [] ts os us a =
    record { front = []; back = os; words = []; rest = us; operands = refl; all = refl; first = none c; second = a }
split G _ (s ∷ ss) ts _ _ (more c _ _ os ps us vs a b) =
    let r = split G (after c os) ss ts ps vs b in
    record {
      front = os ++ r.front;
      back = r.back;
      words = us ++ r.words;
      rest = r.rest;
      operands = ap (λ zs. os ++ zs) r.operands ∙ sym (append_assoc os r.front r.back);
      all = ap (λ zs. us ++ zs) r.all ∙ sym (append_assoc us r.words r.rest);
      first = more c s ss os r.front us r.words a r.first;
      second = rw (after-append c os r.front) r.second;
    }

-- kinds in order, and then a pattern
pub record Parted (G : Table) (c : Context) (ss : List Slot) (is : List Item) (os : List Plain)
    (us : List ℕ) : Type 0 where
  pub front : List Plain
  pub back : List Plain
  pub words : List ℕ
  pub rest : List ℕ
  pub operands : os ≡ front ++ back
  pub all : us ≡ words ++ rest
  pub spelled : SpellsAll G c ss front words
  pub matched : Match G (after c front) is back rest

-- one kind in order
pub only : (G : Table) (c : Context) (s : Slot) (os : List Plain) (us : List ℕ) → SpellsAll G c (s ∷ []) os us
    → Spells G c s os us
only G _ _ _ _ (more c s _ os _ us _ a (none _)) = rw (append-nil os, append-nil us) a

pub map_due : (ss ts : List Slot) (ds : List Due) → map OneOf ss ++ (map OneOf ts ++ ds) ≡ map OneOf (ss ++ ts) ++ ds
map_due [] ts ds = refl
map_due (s ∷ ss) ts ds = ap (λ zs. OneOf s ∷ zs) (map_due ss ts ds)

put_one : (G : Table) (c : Context) (s : Slot) (k : ℕ) (is : List Item) (o : Plain) (ws : List ℕ) (ss : List Slot)
    (os : List Plain) (us : List ℕ)
    → s ≡ alone k → Takes s.kind (shape_of G c s) o ws ss → Parted G (and_then c o) ss is os us
    → Match G c (One k ∷ is) (o ∷ os) (ws ++ us)
put_one G c s k is o ws ss os us e t r =
    let t' : Takes k (shape_of G c (alone k)) o ws ss = rw e at t in
    rw (r.operands, r.all, ← append_assoc ws r.words r.rest)
    (spelling.one c k is (o ∷ r.front) r.back (ws ++ r.words) r.rest
    (operand c (alone k) o ws ss r.front r.words t' r.spelled) r.matched)

put_one_parts : (G : Table) (c : Context) (s : Slot) (k : ℕ) (is : List Item) (ss : List Slot) (os : List Plain)
    (us : List ℕ)
    → s ≡ alone k → shape_of G c s ≡ AsParts ss → Parted G c ss is os us → Match G c (One k ∷ is) os us
put_one_parts G c s k is ss os us e h r =
    let h' : shape_of G c (alone k) ≡ AsParts ss = rw e at h in
    rw (r.operands, r.all) (spelling.one c k is r.front r.back r.words r.rest
    (parts c (alone k) ss r.front r.words h' r.spelled) r.matched)

put_more : (G : Table) (c : Context) (s s' : Slot) (ts : List Slot) (is : List Item) (o : Plain) (ws : List ℕ)
    (ss : List Slot) (os : List Plain) (us : List ℕ)
    → s ≡ s' → Takes s.kind (shape_of G c s) o ws ss → Parted G (and_then c o) (ss ++ ts) is os us
    → Parted G c (s' ∷ ts) is (o ∷ os) (ws ++ us)
put_more G c s s' ts is o ws ss os us e t r =
    let t' : Takes s'.kind (shape_of G c s') o ws ss = rw e at t in
    let q = split G (and_then c o) ss ts r.front r.words r.spelled in
    let g : ws ++ ((q.words ++ q.rest) ++ r.rest) ≡ ((ws ++ q.words) ++ q.rest) ++ r.rest = simp append_assoc in
    record {
      front = (o ∷ q.front) ++ q.back;
      back = r.back;
      words = (ws ++ q.words) ++ q.rest;
      rest = r.rest;
      operands = ap (λ zs. o ∷ zs) (r.operands ∙ ap (λ zs. zs ++ r.back) q.operands);
      all = ap (λ zs. ws ++ zs) (r.all ∙ ap (λ zs. zs ++ r.rest) q.all) ∙ g;
      spelled = more c s' ts (o ∷ q.front) q.back (ws ++ q.words) q.rest
          (operand c s' o ws ss q.front q.words t' q.first) q.second;
      matched = rw q.operands at r.matched;
    }

put_more_parts : (G : Table) (c : Context) (s s' : Slot) (ts : List Slot) (is : List Item) (ss : List Slot)
    (os : List Plain) (us : List ℕ)
    → s ≡ s' → shape_of G c s ≡ AsParts ss → Parted G c (ss ++ ts) is os us → Parted G c (s' ∷ ts) is os us
put_more_parts G c s s' ts is ss os us e h r =
    let h' : shape_of G c s' ≡ AsParts ss = rw e at h in
    let q = split G c ss ts r.front r.words r.spelled in
    record {
      front = q.front ++ q.back;
      back = r.back;
      words = q.words ++ q.rest;
      rest = r.rest;
      operands = r.operands ∙ ap (λ zs. zs ++ r.back) q.operands;
      all = r.all ∙ ap (λ zs. zs ++ r.rest) q.all;
      spelled = more c s' ts q.front q.back q.words q.rest (parts c s' ss q.front q.words h' q.first) q.second;
      matched = rw q.operands at r.matched;
    }

rest_only_by : (G : Table) (c : Context) (is : List Item) (os : List Plain) (us : List ℕ) (front back : List Plain)
    (words rest : List ℕ)
    → SpellsAll G c [] front words → os ≡ front ++ back → us ≡ words ++ rest → Match G (after c front) is back rest
    → Match G c is os us
rest_only_by G c is os us _ back _ rest (none _) e f m = rw (e, f) m

rest_only : (G : Table) (c : Context) (is : List Item) (os : List Plain) (us : List ℕ) → Parted G c [] is os us
    → Match G c is os us
rest_only G c is os us r = rest_only_by G c is os us r.front r.back r.words r.rest r.spelled r.operands r.all r.matched

put_maybe : (G : Table) (c : Context) (s : Slot) (k : ℕ) (is : List Item) (os : List Plain) (u : ℕ) (us : List ℕ)
    → s ≡ alone k → Parted G c (s ∷ []) is os (u ∷ us) → Match G c (Maybe k ∷ is) os (u ∷ us)
put_maybe G c s k is os u us e r =
    let a : Spells G c (alone k) r.front r.words = rw e at (only G c s r.front r.words r.spelled) in
    let f = r.all in
    rw (r.operands, r.all) (spelling.maybe c k is r.front r.back r.words r.rest (λ z. cc) a r.matched)

put_many : (G : Table) (c : Context) (s : Slot) (k : ℕ) (is : List Item) (os : List Plain) (u : ℕ) (us : List ℕ)
    → s ≡ alone k → Parted G c (s ∷ []) (Many k ∷ is) os (u ∷ us) → Match G c (Many k ∷ is) os (u ∷ us)
put_many G c s k is os u us e r =
    let a : Spells G c (alone k) r.front r.words = rw e at (only G c s r.front r.words r.spelled) in
    let f = r.all in
    rw (r.operands, r.all) (spelling.many c k is r.front r.back r.words r.rest (λ z. cc) a r.matched)

pattern_only : (G : Table) (c : Context) (is : List Item) (os : List Plain) (us : List ℕ) → Match G c is os us
    → Parted G c [] is os us
pattern_only G c is os us m =
    record { front = []; back = os; words = []; rest = us; operands = refl; all = refl; spelled = none c; matched = m }

-- kinds in order and a pattern, from the flat form
pub joined : (G : Table) (c : Context) (ds : List Due) (os : List Plain) (us : List ℕ) → Matches G c ds os us
    → (ss : List Slot) (is : List Item) → ds ≡ map OneOf ss ++ map due is → Parted G c ss is os us
joined G _ _ _ _ (flat_inner.end c) [] [] e = pattern_only G c [] [] [] (spelling.nothing c)
joined G _ _ _ _ (flat_inner.end c) [] (i ∷ is) e = cc
joined G _ _ _ _ (flat_inner.end c) (s ∷ ss) is e = cc
joined G _ _ _ _ (flat_inner.take c s ds o ws ts os us t m) [] [] e = cc
joined G _ _ _ _ (flat_inner.take c s ds o ws ts os us t m) [] (One k ∷ is) e =
    let a : s ≡ alone k = cc in
    let b : ds ≡ map due is = cc in
    let r = joined G (and_then c o) (map OneOf ts ++ ds) os us m ts is (ap (λ zs. map OneOf ts ++ zs) b) in
    pattern_only G c (One k ∷ is) (o ∷ os) (ws ++ us) (put_one G c s k is o ws ts os us a t r)
joined G _ _ _ _ (flat_inner.take c s ds o ws ts os us t m) [] (Maybe k ∷ is) e = cc
joined G _ _ _ _ (flat_inner.take c s ds o ws ts os us t m) [] (Many k ∷ is) e = cc
joined G _ _ _ _ (flat_inner.take c s ds o ws ts os us t m) (s' ∷ ss) is e =
    let a : s ≡ s' = cc in
    let b : ds ≡ map OneOf ss ++ map due is = cc in
    let r = joined G (and_then c o) (map OneOf ts ++ ds) os us m (ts ++ ss) is
    (ap (λ zs. map OneOf ts ++ zs) b ∙ map_due ts ss (map due is)) in
    put_more G c s s' ss is o ws ts os us a t r
joined G _ _ _ _ (flat_inner.parts c s ds ts os us h m) [] [] e = cc
joined G _ _ _ _ (flat_inner.parts c s ds ts os us h m) [] (One k ∷ is) e =
    let a : s ≡ alone k = cc in
    let b : ds ≡ map due is = cc in
    let r = joined G c (map OneOf ts ++ ds) os us m ts is (ap (λ zs. map OneOf ts ++ zs) b) in
    pattern_only G c (One k ∷ is) os us (put_one_parts G c s k is ts os us a h r)
joined G _ _ _ _ (flat_inner.parts c s ds ts os us h m) [] (Maybe k ∷ is) e = cc
joined G _ _ _ _ (flat_inner.parts c s ds ts os us h m) [] (Many k ∷ is) e = cc
joined G _ _ _ _ (flat_inner.parts c s ds ts os us h m) (s' ∷ ss) is e =
    let a : s ≡ s' = cc in
    let b : ds ≡ map OneOf ss ++ map due is = cc in
    let r = joined G c (map OneOf ts ++ ds) os us m (ts ++ ss) is
    (ap (λ zs. map OneOf ts ++ zs) b ∙ map_due ts ss (map due is)) in
    put_more_parts G c s s' ss is ts os us a h r
joined G _ _ _ _ (flat_inner.no_maybe c s ds os m) [] [] e = cc
joined G _ _ _ _ (flat_inner.no_maybe c s ds os m) [] (One k ∷ is) e = cc
joined G _ _ _ _ (flat_inner.no_maybe c s ds os m) [] (Maybe k ∷ is) e =
    let b : ds ≡ map due is = cc in
    pattern_only G c (Maybe k ∷ is) os [] (spelling.no_maybe c k is os
    (rest_only G c is os [] (joined G c ds os [] m [] is b)))
joined G _ _ _ _ (flat_inner.no_maybe c s ds os m) [] (Many k ∷ is) e = cc
joined G _ _ _ _ (flat_inner.no_maybe c s ds os m) (s' ∷ ss) is e = cc
joined G _ _ _ _ (flat_inner.maybe c s ds os u us m) [] [] e = cc
joined G _ _ _ _ (flat_inner.maybe c s ds os u us m) [] (One k ∷ is) e = cc
joined G _ _ _ _ (flat_inner.maybe c s ds os u us m) [] (Maybe k ∷ is) e =
    let a : s ≡ alone k = cc in
    let b : ds ≡ map due is = cc in
    let r = joined G c (OneOf s ∷ ds) os (u ∷ us) m (s ∷ []) is (ap (λ zs. OneOf s ∷ zs) b) in
    pattern_only G c (Maybe k ∷ is) os (u ∷ us) (put_maybe G c s k is os u us a r)
joined G _ _ _ _ (flat_inner.maybe c s ds os u us m) [] (Many k ∷ is) e = cc
joined G _ _ _ _ (flat_inner.maybe c s ds os u us m) (s' ∷ ss) is e = cc
joined G _ _ _ _ (flat_inner.no_many c s ds os m) [] [] e = cc
joined G _ _ _ _ (flat_inner.no_many c s ds os m) [] (One k ∷ is) e = cc
joined G _ _ _ _ (flat_inner.no_many c s ds os m) [] (Maybe k ∷ is) e = cc
joined G _ _ _ _ (flat_inner.no_many c s ds os m) [] (Many k ∷ is) e =
    let b : ds ≡ map due is = cc in
    pattern_only G c (Many k ∷ is) os [] (spelling.no_many c k is os
    (rest_only G c is os [] (joined G c ds os [] m [] is b)))
joined G _ _ _ _ (flat_inner.no_many c s ds os m) (s' ∷ ss) is e = cc
joined G _ _ _ _ (flat_inner.many c s ds os u us m) [] [] e = cc
joined G _ _ _ _ (flat_inner.many c s ds os u us m) [] (One k ∷ is) e = cc
joined G _ _ _ _ (flat_inner.many c s ds os u us m) [] (Maybe k ∷ is) e = cc
joined G _ _ _ _ (flat_inner.many c s ds os u us m) [] (Many k ∷ is) e =
    let a : s ≡ alone k = cc in
    let b : ManyOf s ∷ ds ≡ ManyOf (alone k) ∷ map due is = e in
    let r = joined G c (OneOf s ∷ ManyOf s ∷ ds) os (u ∷ us) m (s ∷ []) (Many k ∷ is) (ap (λ zs. OneOf s ∷ zs) b) in
    pattern_only G c (Many k ∷ is) os (u ∷ us) (put_many G c s k is os u us a r)
joined G _ _ _ _ (flat_inner.many c s ds os u us m) (s' ∷ ss) is e = cc

pub flat_match : (G : Table) (c : Context) (is : List Item) (os : List Plain) (us : List ℕ)
    → Matches G c (map due is) os us → Match G c is os us
flat_match G c is os us m = rest_only G c is os us (joined G c (map due is) os us m [] is refl)
