-- A misfit of a pattern is a failure of the flat form.
use Rattle.std.proofs.Common.{◌≡◌, ◌≢◌, ◌++◌, ◌+◌, ℕ, List, [], ◌∷◌, length, map, refl, arith, append_assoc}
use Rattle.std.proofs.Common.{length-append}
use Rattle.spv_table.specs.Table.{Table, Item, Many}
use Rattle.spv_module.specs.Operand.{Plain, Context, and_then, after}
use Rattle.spv_module.specs.Shape.{Slot, alone}
use Rattle.spv_module.specs.Spelling.{Spells, SpellsAll}
use Rattle.spv_module.specs.declared.fault.Rule.{Rule}
use Rattle.spv_module.specs.Refusal.{Stops, StopsAll, Misfit}
use Rattle.spv_inst.specs.Flat.{Due, OneOf, MaybeOf, ManyOf, due}
use Rattle.spv_inst.specs.inner.Flat.{Fails}
use Rattle.spv_inst.proofs.Joined.{after-append}

length_plus : (ws us : List ℕ) (n : ℕ) → length (ws ++ us) + n ≡ length ws + (length us + n)
length_plus ws us n = let e = length-append ws us in omega arith

zero_plus : (n : ℕ) → 0 + n ≡ n
zero_plus n = omega arith

mutual
  pub spells_fails : (G : Table) (c : Context) (s : Slot) (os : List Plain) (us : List ℕ) → Spells G c s os us
      → (ds : List Due) (vs : List ℕ) (a : Rule) (n : ℕ) → Fails G (after c os) ds vs a n
      → Fails G c (OneOf s ∷ ds) (us ++ vs) a (length us + n)
  spells_fails G _ _ _ _ (Spells.operand c s o ws ss os us t p) ds vs a n f =
      rw (append_assoc ws us vs, length_plus ws us n)
      (Fails.take c s ds o ws ss (us ++ vs) a (length us + n) t (all_fails G (and_then c o) ss os us p ds vs a n f))
  spells_fails G _ _ _ _ (Spells.parts c s ss os us h p) ds vs a n f =
      Fails.parts c s ds ss (us ++ vs) a (length us + n) h (all_fails G c ss os us p ds vs a n f)

  pub all_fails : (G : Table) (c : Context) (ss : List Slot) (os : List Plain) (us : List ℕ) → SpellsAll G c ss os us
      → (ds : List Due) (vs : List ℕ) (a : Rule) (n : ℕ) → Fails G (after c os) ds vs a n
      → Fails G c (map OneOf ss ++ ds) (us ++ vs) a (length us + n)
  all_fails G _ _ _ _ (SpellsAll.none c) ds vs a n f = rw (zero_plus n) f
  all_fails G _ _ _ _ (SpellsAll.more c s ss os ps us ws p q) ds vs a n f =
      rw (append_assoc us ws vs, length_plus us ws n)
      (spells_fails G c s os us p (map OneOf ss ++ ds) (ws ++ vs) a (length ws + n)
      (all_fails G (after c os) ss ps ws q ds vs a n (rw (after-append c os ps) at f)))

mutual
  pub stops_fails : (G : Table) (c : Context) (s : Slot) (us : List ℕ) (a : Rule) (n : ℕ) → Stops G c s us a n
      → (ds : List Due) → Fails G c (OneOf s ∷ ds) us a n
  stops_fails G _ _ _ _ _ (Stops.here c s us a n r) ds = Fails.refused c s ds us a n r
  stops_fails G _ _ _ _ _ (Stops.in_parameters c s o ws ss us a n t f) ds =
      Fails.take c s ds o ws ss us a n t (stops_all_fails G (and_then c o) ss us a n f ds)
  stops_fails G _ _ _ _ _ (Stops.in_parts c s ss us a n h f) ds =
      Fails.parts c s ds ss us a n h (stops_all_fails G c ss us a n f ds)

  pub stops_all_fails : (G : Table) (c : Context) (ss : List Slot) (us : List ℕ) (a : Rule) (n : ℕ)
      → StopsAll G c ss us a n → (ds : List Due)
      → Fails G c (map OneOf ss ++ ds) us a n
  stops_all_fails G _ _ _ _ _ (StopsAll.first c s ss us a n f) ds = stops_fails G c s us a n f (map OneOf ss ++ ds)
  stops_all_fails G _ _ _ _ _ (StopsAll.next c s ss os us vs a n p f) ds =
      spells_fails G c s os us p (map OneOf ss ++ ds) vs a n (stops_all_fails G (after c os) ss vs a n f ds)

fails_maybe : (G : Table) (c : Context) (s : Slot) (ds : List Due) (us : List ℕ) (a : Rule) (n : ℕ) → us ≢ []
    → Fails G c (OneOf s ∷ ds) us a n → Fails G c (MaybeOf s ∷ ds) us a n
fails_maybe G c s ds [] a n h f = absurd (h refl)
fails_maybe G c s ds (u ∷ us) a n h f = Fails.maybe c s ds u us a n f

fails_many : (G : Table) (c : Context) (s : Slot) (ds : List Due) (us : List ℕ) (a : Rule) (n : ℕ) → us ≢ []
    → Fails G c (OneOf s ∷ ManyOf s ∷ ds) us a n → Fails G c (ManyOf s ∷ ds) us a n
fails_many G c s ds [] a n h f = absurd (h refl)
fails_many G c s ds (u ∷ us) a n h f = Fails.many c s ds u us a n f

pub misfit_fails : (G : Table) (c : Context) (is : List Item) (us : List ℕ) (a : Rule) (n : ℕ) → Misfit G c is us a n
    → Fails G c (map due is) us a n
misfit_fails G _ _ _ _ _ (Misfit.left c u us) = Fails.left c u us
misfit_fails G _ _ _ _ _ (Misfit.one c k is us a n f) = stops_fails G c (alone k) us a n f (map due is)
misfit_fails G _ _ _ _ _ (Misfit.after_one c k is os us vs a n p f) =
    spells_fails G c (alone k) os us p (map due is) vs a n (misfit_fails G (after c os) is vs a n f)
misfit_fails G _ _ _ _ _ (Misfit.no_maybe c k is a n f) =
    Fails.no_maybe c (alone k) (map due is) a n (misfit_fails G c is [] a n f)
misfit_fails G _ _ _ _ _ (Misfit.maybe c k is u us a n f) =
    Fails.maybe c (alone k) (map due is) u us a n (stops_fails G c (alone k) (u ∷ us) a n f (map due is))
misfit_fails G _ _ _ _ _ (Misfit.after_maybe c k is os us vs a n h p f) =
    fails_maybe G c (alone k) (map due is) (us ++ vs) a (length us + n) h
    (spells_fails G c (alone k) os us p (map due is) vs a n (misfit_fails G (after c os) is vs a n f))
misfit_fails G _ _ _ _ _ (Misfit.no_many c k is a n f) =
    Fails.no_many c (alone k) (map due is) a n (misfit_fails G c is [] a n f)
misfit_fails G _ _ _ _ _ (Misfit.many c k is u us a n f) =
    Fails.many c (alone k) (map due is) u us a n
    (stops_fails G c (alone k) (u ∷ us) a n f (ManyOf (alone k) ∷ map due is))
misfit_fails G _ _ _ _ _ (Misfit.after_many c k is os us vs a n h p f) =
    fails_many G c (alone k) (map due is) (us ++ vs) a (length us + n) h
    (spells_fails G c (alone k) os us p (ManyOf (alone k) ∷ map due is) vs a n
    (misfit_fails G (after c os) (Many k ∷ is) vs a n f))
