-- A failure of the flat form is a misfit of a pattern.
use Rattle.std.proofs.Common.{◌≡◌, ◌++◌, ◌∙◌, ◌+◌, ℕ, List, [], ◌∷◌, length, map, refl, sym, ap, arith, append_assoc}
use Rattle.std.proofs.Common.{length-append}
use Rattle.spv_table.specs.Table.{Table, Item, One, Maybe, Many}
use Rattle.spv_module.specs.Operand.{Plain, Context, and_then, after}
use Rattle.spv_module.specs.Shape.{Slot, alone, AsParts, shape_of}
use Rattle.spv_module.specs.Spelling.{Takes, Spells, SpellsAll}
use Rattle.spv_module.specs.declared.fault.Rule.{Rule}
use Rattle.spv_module.specs.Refusal.{ShapeRefuses, Stops, StopsAll, Misfit}
use Rattle.spv_inst.specs.Flat.{Due, OneOf, ManyOf, due}
use Rattle.spv_inst.specs.inner.Flat.{Fails}
use Rattle.spv_inst.proofs.Joined.{after-append, map_due, only, split}

-- the first of two lists of kinds stops, or it is spelled and the second stops
data Broken (G : Table) (c : Context) (ss ts : List Slot) : List ℕ → Rule → ℕ → Type 0 where
  in_first : (us : List ℕ) (a : Rule) (n : ℕ) → StopsAll G c ss us a n → Broken G c ss ts us a n
  in_second : (os : List Plain) (us vs : List ℕ) (a : Rule) (n : ℕ) → SpellsAll G c ss os us
      → StopsAll G (after c os) ts vs a n
      → Broken G c ss ts (us ++ vs) a (length us + n)

length_plus : (ws us : List ℕ) (n : ℕ) → length (ws ++ us) + n ≡ length ws + (length us + n)
length_plus ws us n = let e = length-append ws us in omega arith

zero_plus : (n : ℕ) → 0 + n ≡ n
zero_plus n = omega arith

broken_first : (G : Table) (c : Context) (ss ts : List Slot) (us : List ℕ) (a : Rule) (n : ℕ) → StopsAll G c ts us a n
    → Broken G c [] ts us a n
broken_first G c ss ts us a n f = rw (← zero_plus n) (Broken.in_second [] [] us a n (SpellsAll.none c) f)

broken_more : (G : Table) (c : Context) (s : Slot) (ss ts : List Slot) (os : List Plain) (us vs : List ℕ) (a : Rule)
    (n : ℕ)
    → Spells G c s os us → Broken G (after c os) ss ts vs a n → Broken G c (s ∷ ss) ts (us ++ vs) a (length us + n)
broken_more G c s ss ts os us _ _ _ p (Broken.in_first vs a n f) =
    Broken.in_first (us ++ vs) a (length us + n) (StopsAll.next c s ss os us vs a n p f)
broken_more G c s ss ts os us _ _ _ p (Broken.in_second ps vs ws a n q f) =
    let f' : StopsAll G (after c (os ++ ps)) ts ws a n = rw (after-append c os ps) f in
    rw (← append_assoc us vs ws, ← length_plus us vs n)
    (Broken.in_second (os ++ ps) (us ++ vs) ws a n (SpellsAll.more c s ss os ps us vs p q) f')

break : (G : Table) (c : Context) (ss ts : List Slot) (us : List ℕ) (a : Rule) (n : ℕ) → StopsAll G c (ss ++ ts) us a n
    → Broken G c ss ts us a n
break G c [] ts us a n f = broken_first G c [] ts us a n f
break G _ (s ∷ ss) ts _ _ _ (StopsAll.first c _ _ us a n f) = Broken.in_first us a n (StopsAll.first c s ss us a n f)
break G _ (s ∷ ss) ts _ _ _ (StopsAll.next c _ _ os us vs a n p f) =
    broken_more G c s ss ts os us vs a n p (break G (after c os) ss ts vs a n f)

-- kinds in order stop, or they are spelled and the pattern after them does not fit
pub data Ends (G : Table) (c : Context) (ss : List Slot) (is : List Item) : List ℕ → Rule → ℕ → Type 0 where
  within : (us : List ℕ) (a : Rule) (n : ℕ) → StopsAll G c ss us a n → Ends G c ss is us a n
  beyond : (os : List Plain) (us vs : List ℕ) (a : Rule) (n : ℕ) → SpellsAll G c ss os us
      → Misfit G (after c os) is vs a n
      → Ends G c ss is (us ++ vs) a (length us + n)

pattern_only : (G : Table) (c : Context) (is : List Item) (us : List ℕ) (a : Rule) (n : ℕ) → Misfit G c is us a n
    → Ends G c [] is us a n
pattern_only G c is us a n f = rw (← zero_plus n) (Ends.beyond [] [] us a n (SpellsAll.none c) f)

beyond_nothing : (G : Table) (c : Context) (is : List Item) (os : List Plain) (us vs : List ℕ) (a : Rule) (n : ℕ)
    → SpellsAll G c [] os us → Misfit G (after c os) is vs a n → Misfit G c is (us ++ vs) a (length us + n)
beyond_nothing G c is _ _ vs a n (SpellsAll.none _) f = rw (zero_plus n) f

rest_only : (G : Table) (c : Context) (is : List Item) (us : List ℕ) (a : Rule) (n : ℕ) → Ends G c [] is us a n
    → Misfit G c is us a n
rest_only G c is _ _ _ (Ends.within us a n f) = elim f [ ]
rest_only G c is _ _ _ (Ends.beyond os us vs a n p f) = beyond_nothing G c is os us vs a n p f

-- one operand in front of what ends so
put_operand : (G : Table) (c : Context) (s : Slot) (ss : List Slot) (ts : List Slot) (is : List Item) (o : Plain)
    (ws : List ℕ) (us : List ℕ) (a : Rule) (n : ℕ)
    → Takes s.kind (shape_of G c s) o ws ts → Ends G (and_then c o) (ts ++ ss) is us a n
    → Ends G c (s ∷ ss) is (ws ++ us) a (length ws + n)
put_operand G c s ss ts is o ws _ _ _ t (Ends.within us a n f) =
    by_broken us a n (break G (and_then c o) ts ss us a n f)
  where
    by_broken : (us : List ℕ) (a : Rule) (n : ℕ) → Broken G (and_then c o) ts ss us a n
        → Ends G c (s ∷ ss) is (ws ++ us) a (length ws + n)
    by_broken _ _ _ (Broken.in_first us a n f) =
        Ends.within (ws ++ us) a (length ws + n)
        (StopsAll.first c s ss (ws ++ us) a (length ws + n) (Stops.in_parameters c s o ws ts us a n t f))
    by_broken _ _ _ (Broken.in_second os us vs a n p f) =
        rw (← append_assoc ws us vs, ← length_plus ws us n)
        (Ends.within ((ws ++ us) ++ vs) a (length (ws ++ us) + n)
        (StopsAll.next c s ss (o ∷ os) (ws ++ us) vs a n (Spells.operand c s o ws ts os us t p) f))
put_operand G c s ss ts is o ws _ _ _ t (Ends.beyond os us vs a n p f) =
    let q = split G (and_then c o) ts ss os us p in
    let f' : Misfit G (after (and_then c o) (q.front ++ q.back)) is vs a n = rw q.operands at f in
    let all : us ≡ q.words ++ q.rest = q.all in
    let sp : SpellsAll G c (s ∷ ss) ((o ∷ q.front) ++ q.back) ((ws ++ q.words) ++ q.rest) =
    SpellsAll.more c s ss (o ∷ q.front) q.back (ws ++ q.words) q.rest
    (Spells.operand c s o ws ts q.front q.words t q.first) q.second in
    let e : (ws ++ q.words) ++ q.rest ≡ ws ++ us = append_assoc ws q.words q.rest ∙ ap (λ zs. ws ++ zs) (sym all) in
    let sp' : SpellsAll G c (s ∷ ss) ((o ∷ q.front) ++ q.back) (ws ++ us) = rw e at sp in
    rw (← append_assoc ws us vs, ← length_plus ws us n)
    (Ends.beyond ((o ∷ q.front) ++ q.back) (ws ++ us) vs a n sp' f')

-- bases in front of what ends so
put_parts : (G : Table) (c : Context) (s : Slot) (ss : List Slot) (ts : List Slot) (is : List Item) (us : List ℕ)
    (a : Rule) (n : ℕ)
    → shape_of G c s ≡ AsParts ts → Ends G c (ts ++ ss) is us a n → Ends G c (s ∷ ss) is us a n
put_parts G c s ss ts is _ _ _ h (Ends.within us a n f) = by_broken us a n (break G c ts ss us a n f)
  where
    by_broken : (us : List ℕ) (a : Rule) (n : ℕ) → Broken G c ts ss us a n → Ends G c (s ∷ ss) is us a n
    by_broken _ _ _ (Broken.in_first us a n f) =
        Ends.within us a n (StopsAll.first c s ss us a n (Stops.in_parts c s ts us a n h f))
    by_broken _ _ _ (Broken.in_second os us vs a n p f) =
        Ends.within (us ++ vs) a (length us + n) (StopsAll.next c s ss os us vs a n (Spells.parts c s ts os us h p) f)
put_parts G c s ss ts is _ _ _ h (Ends.beyond os us vs a n p f) =
    let q = split G c ts ss os us p in
    let f' : Misfit G (after c (q.front ++ q.back)) is vs a n = rw q.operands at f in
    let sp : SpellsAll G c (s ∷ ss) (q.front ++ q.back) (q.words ++ q.rest) =
    SpellsAll.more c s ss q.front q.back q.words q.rest (Spells.parts c s ts q.front q.words h q.first) q.second in
    let sp' : SpellsAll G c (s ∷ ss) (q.front ++ q.back) us = rw (← q.all) at sp in
    Ends.beyond (q.front ++ q.back) us vs a n sp' f'

-- one kind, then the pattern
one_stop : (G : Table) (c : Context) (s : Slot) (us : List ℕ) (a : Rule) (n : ℕ) → StopsAll G c (s ∷ []) us a n
    → Stops G c s us a n
one_stop G _ s _ _ _ (StopsAll.first c _ _ us a n f) = f
one_stop G _ s _ _ _ (StopsAll.next c _ _ os us vs a n p f) = elim f [ ]

one_ends : (G : Table) (c : Context) (s : Slot) (k : ℕ) (is : List Item) (us : List ℕ) (a : Rule) (n : ℕ) → s ≡ alone k
    → Ends G c (s ∷ []) is us a n → Misfit G c (One k ∷ is) us a n
one_ends G c s k is _ _ _ e (Ends.within us a n f) = Misfit.one c k is us a n (rw e at (one_stop G c s us a n f))
one_ends G c s k is _ _ _ e (Ends.beyond os us vs a n p f) =
    Misfit.after_one c k is os us vs a n (rw e at (only G c s os us p)) f

maybe_ends : (G : Table) (c : Context) (s : Slot) (k : ℕ) (is : List Item) (ws : List ℕ) (a : Rule) (n : ℕ) (u : ℕ)
    (us : List ℕ) → s ≡ alone k → ws ≡ u ∷ us
    → Ends G c (s ∷ []) is ws a n → Misfit G c (Maybe k ∷ is) ws a n
maybe_ends G c s k is _ _ _ u us e g (Ends.within ws a n f) =
    rw g (Misfit.maybe c k is u us a n (rw (e, g) at (one_stop G c s ws a n f)))
maybe_ends G c s k is _ _ _ u us e g (Ends.beyond os ws vs a n p f) =
    Misfit.after_maybe c k is os ws vs a n (λ z. cc) (rw e at (only G c s os ws p)) f

many_ends : (G : Table) (c : Context) (s : Slot) (k : ℕ) (is : List Item) (ws : List ℕ) (a : Rule) (n : ℕ) (u : ℕ)
    (us : List ℕ) → s ≡ alone k → ws ≡ u ∷ us
    → Ends G c (s ∷ []) (Many k ∷ is) ws a n → Misfit G c (Many k ∷ is) ws a n
many_ends G c s k is _ _ _ u us e g (Ends.within ws a n f) =
    rw g (Misfit.many c k is u us a n (rw (e, g) at (one_stop G c s ws a n f)))
many_ends G c s k is _ _ _ u us e g (Ends.beyond os ws vs a n p f) =
    Misfit.after_many c k is os ws vs a n (λ z. cc) (rw e at (only G c s os ws p)) f

stop_here : (G : Table) (c : Context) (s s' : Slot) (ss : List Slot) (is : List Item) (us : List ℕ) (a : Rule) (n : ℕ)
    → s ≡ s' → ShapeRefuses (shape_of G c s) us a n
    → Ends G c (s' ∷ ss) is us a n
stop_here G c s s' ss is us a n e r =
    let r' : ShapeRefuses (shape_of G c s') us a n = rw e at r in
    Ends.within us a n (StopsAll.first c s' ss us a n (Stops.here c s' us a n r'))

slot_ends : (G : Table) (c : Context) (s s' : Slot) (ss : List Slot) (is : List Item) (us : List ℕ) (a : Rule) (n : ℕ)
    → s ≡ s' → Ends G c (s ∷ ss) is us a n
    → Ends G c (s' ∷ ss) is us a n
slot_ends G c s s' ss is us a n e f = rw e at f

-- kinds in order and a pattern, from the flat form
pub fronts : (G : Table) (c : Context) (ds : List Due) (us : List ℕ) (a : Rule) (n : ℕ) → Fails G c ds us a n
    → (ss : List Slot) (is : List Item) → ds ≡ map OneOf ss ++ map due is → Ends G c ss is us a n
fronts G _ _ _ _ _ (Fails.left c u us) [] [] e = pattern_only G c [] (u ∷ us) _ 0 (Misfit.left c u us)
fronts G _ _ _ _ _ (Fails.left c u us) [] (i ∷ is) e = cc
fronts G _ _ _ _ _ (Fails.left c u us) (s ∷ ss) is e = cc
fronts G _ _ _ _ _ (Fails.refused c s ds us a n r) [] [] e = cc
fronts G _ _ _ _ _ (Fails.refused c s ds us a n r) [] (One k ∷ is) e =
    let b : s ≡ alone k = cc in
    pattern_only G c (One k ∷ is) us a n (one_ends G c s k is us a n b (stop_here G c s s [] is us a n refl r))
fronts G _ _ _ _ _ (Fails.refused c s ds us a n r) [] (Maybe k ∷ is) e = cc
fronts G _ _ _ _ _ (Fails.refused c s ds us a n r) [] (Many k ∷ is) e = cc
fronts G _ _ _ _ _ (Fails.refused c s ds us a n r) (s' ∷ ss) is e =
    let b : s ≡ s' = cc in stop_here G c s s' ss is us a n b r
fronts G _ _ _ _ _ (Fails.take c s ds o ws ts us a n t f) [] [] e = cc
fronts G _ _ _ _ _ (Fails.take c s ds o ws ts us a n t f) [] (One k ∷ is) e =
    let b : s ≡ alone k = cc in
    let d : ds ≡ map due is = cc in
    let r = fronts G (and_then c o) (map OneOf ts ++ ds) us a n f (ts ++ []) is
    (ap (λ zs. map OneOf ts ++ zs) d ∙ map_due ts [] (map due is)) in
    pattern_only G c (One k ∷ is) (ws ++ us) a (length ws + n)
    (one_ends G c s k is (ws ++ us) a (length ws + n) b (put_operand G c s [] ts is o ws us a n t r))
fronts G _ _ _ _ _ (Fails.take c s ds o ws ts us a n t f) [] (Maybe k ∷ is) e = cc
fronts G _ _ _ _ _ (Fails.take c s ds o ws ts us a n t f) [] (Many k ∷ is) e = cc
fronts G _ _ _ _ _ (Fails.take c s ds o ws ts us a n t f) (s' ∷ ss) is e =
    let b : s ≡ s' = cc in
    let d : ds ≡ map OneOf ss ++ map due is = cc in
    let r = fronts G (and_then c o) (map OneOf ts ++ ds) us a n f (ts ++ ss) is
    (ap (λ zs. map OneOf ts ++ zs) d ∙ map_due ts ss (map due is)) in
    slot_ends G c s s' ss is (ws ++ us) a (length ws + n) b (put_operand G c s ss ts is o ws us a n t r)
fronts G _ _ _ _ _ (Fails.parts c s ds ts us a n h f) [] [] e = cc
fronts G _ _ _ _ _ (Fails.parts c s ds ts us a n h f) [] (One k ∷ is) e =
    let b : s ≡ alone k = cc in
    let d : ds ≡ map due is = cc in
    let r = fronts G c (map OneOf ts ++ ds) us a n f (ts ++ []) is
    (ap (λ zs. map OneOf ts ++ zs) d ∙ map_due ts [] (map due is)) in
    pattern_only G c (One k ∷ is) us a n (one_ends G c s k is us a n b (put_parts G c s [] ts is us a n h r))
fronts G _ _ _ _ _ (Fails.parts c s ds ts us a n h f) [] (Maybe k ∷ is) e = cc
fronts G _ _ _ _ _ (Fails.parts c s ds ts us a n h f) [] (Many k ∷ is) e = cc
fronts G _ _ _ _ _ (Fails.parts c s ds ts us a n h f) (s' ∷ ss) is e =
    let b : s ≡ s' = cc in
    let d : ds ≡ map OneOf ss ++ map due is = cc in
    let r = fronts G c (map OneOf ts ++ ds) us a n f (ts ++ ss) is
    (ap (λ zs. map OneOf ts ++ zs) d ∙ map_due ts ss (map due is)) in
    slot_ends G c s s' ss is us a n b (put_parts G c s ss ts is us a n h r)
fronts G _ _ _ _ _ (Fails.no_maybe c s ds a n f) [] [] e = cc
fronts G _ _ _ _ _ (Fails.no_maybe c s ds a n f) [] (One k ∷ is) e = cc
fronts G _ _ _ _ _ (Fails.no_maybe c s ds a n f) [] (Maybe k ∷ is) e =
    let d : ds ≡ map due is = cc in
    pattern_only G c (Maybe k ∷ is) [] a n
    (Misfit.no_maybe c k is a n (rest_only G c is [] a n (fronts G c ds [] a n f [] is d)))
fronts G _ _ _ _ _ (Fails.no_maybe c s ds a n f) [] (Many k ∷ is) e = cc
fronts G _ _ _ _ _ (Fails.no_maybe c s ds a n f) (s' ∷ ss) is e = cc
fronts G _ _ _ _ _ (Fails.maybe c s ds u us a n f) [] [] e = cc
fronts G _ _ _ _ _ (Fails.maybe c s ds u us a n f) [] (One k ∷ is) e = cc
fronts G _ _ _ _ _ (Fails.maybe c s ds u us a n f) [] (Maybe k ∷ is) e =
    let b : s ≡ alone k = cc in
    let d : ds ≡ map due is = cc in
    let r = fronts G c (OneOf s ∷ ds) (u ∷ us) a n f (s ∷ []) is (ap (λ zs. OneOf s ∷ zs) d) in
    pattern_only G c (Maybe k ∷ is) (u ∷ us) a n (maybe_ends G c s k is (u ∷ us) a n u us b refl r)
fronts G _ _ _ _ _ (Fails.maybe c s ds u us a n f) [] (Many k ∷ is) e = cc
fronts G _ _ _ _ _ (Fails.maybe c s ds u us a n f) (s' ∷ ss) is e = cc
fronts G _ _ _ _ _ (Fails.no_many c s ds a n f) [] [] e = cc
fronts G _ _ _ _ _ (Fails.no_many c s ds a n f) [] (One k ∷ is) e = cc
fronts G _ _ _ _ _ (Fails.no_many c s ds a n f) [] (Maybe k ∷ is) e = cc
fronts G _ _ _ _ _ (Fails.no_many c s ds a n f) [] (Many k ∷ is) e =
    let d : ds ≡ map due is = cc in
    pattern_only G c (Many k ∷ is) [] a n (Misfit.no_many c k is a n
    (rest_only G c is [] a n (fronts G c ds [] a n f [] is d)))
fronts G _ _ _ _ _ (Fails.no_many c s ds a n f) (s' ∷ ss) is e = cc
fronts G _ _ _ _ _ (Fails.many c s ds u us a n f) [] [] e = cc
fronts G _ _ _ _ _ (Fails.many c s ds u us a n f) [] (One k ∷ is) e = cc
fronts G _ _ _ _ _ (Fails.many c s ds u us a n f) [] (Maybe k ∷ is) e = cc
fronts G _ _ _ _ _ (Fails.many c s ds u us a n f) [] (Many k ∷ is) e =
    let b : s ≡ alone k = cc in
    let r = fronts G c (OneOf s ∷ ManyOf s ∷ ds) (u ∷ us) a n f (s ∷ []) (Many k ∷ is) (ap (λ zs. OneOf s ∷ zs) e) in
    pattern_only G c (Many k ∷ is) (u ∷ us) a n (many_ends G c s k is (u ∷ us) a n u us b refl r)
fronts G _ _ _ _ _ (Fails.many c s ds u us a n f) (s' ∷ ss) is e = cc

pub fails_misfit : (G : Table) (c : Context) (is : List Item) (us : List ℕ) (a : Rule) (n : ℕ)
    → Fails G c (map due is) us a n → Misfit G c is us a n
fails_misfit G c is us a n f = rest_only G c is us a n (fronts G c (map due is) us a n f [] is refl)
