-- The same words fail in one way, and do not match then.
use Rattle.std.proofs.Common.{◌≡◌, ◌++◌, ℕ, List, [], ◌∷◌, length, map, refl, sym, ap, arith}
use Rattle.spv_table.specs.Table.{Table}
use Rattle.spv_module.specs.Operand.{Plain, Context, and_then}
use Rattle.spv_module.specs.Shape.{Slot, shape_of}
use Rattle.spv_module.specs.declared.fault.Rule.{Rule}
use Rattle.spv_inst.specs.Flat.{Due, OneOf, ManyOf}
use Rattle.spv_inst.specs.inner.Flat.{Matches, Fails}
use Rattle.spv_inst.proofs.Flat.{same_bases}
use Rattle.spv_inst.proofs.Takes.{takes_same, takes_no_parts}
use Rattle.spv_inst.proofs.Refusals.{SameRefusal, refuse_same, takes_refuses, parts_refuse}

moved : (G : Table) (c : Context) (o p : Plain) (ss ts : List Slot) (ds : List Due) (us : List ℕ) (a : Rule) (n : ℕ)
    → o ≡ p → ss ≡ ts
    → Fails G (and_then c p) (map OneOf ts ++ ds) us a n → Fails G (and_then c o) (map OneOf ss ++ ds) us a n
moved G c o p ss ts ds us a n e f m = rw (e, f) m

bases_moved : (G : Table) (c : Context) (ss ts : List Slot) (ds : List Due) (us : List ℕ) (a : Rule) (n : ℕ) → ss ≡ ts
    → Fails G c (map OneOf ts ++ ds) us a n → Fails G c (map OneOf ss ++ ds) us a n
bases_moved G c ss ts ds us a n f m = rw f m

pub fails_same : (G : Table) (c : Context) (ds : List Due) (us vs : List ℕ) (a b : Rule) (n m : ℕ)
    → Fails G c ds us a n → Fails G c ds vs b m → us ≡ vs → SameRefusal a b n m
fails_same G _ _ _ _ _ _ _ _ (Fails.left c u us) (Fails.left _ v vs) e = record { code = refl; place = refl }
fails_same G _ _ _ _ _ _ _ _ (Fails.refused c s ds us a n r) (Fails.refused _ _ _ vs b m q) e =
    refuse_same (shape_of G c s) us vs a b n m r q e
fails_same G _ _ _ _ _ _ _ _ (Fails.refused c s ds us a n r) (Fails.take _ _ _ o ws ss vs b m t f) e =
    absurd (takes_refuses s.kind (shape_of G c s) o ws ss vs us a n t r (sym e))
fails_same G _ _ _ _ _ _ _ _ (Fails.refused c s ds us a n r) (Fails.parts _ _ _ ts vs b m h f) e =
    absurd (parts_refuse (shape_of G c s) us a n ts h r)
fails_same G _ _ _ _ _ _ _ _ (Fails.take c s ds o ws ss us a n t f) (Fails.refused _ _ _ vs b m r) e =
    absurd (takes_refuses s.kind (shape_of G c s) o ws ss us vs b m t r e)
fails_same G _ _ _ _ _ _ _ _ (Fails.take c s ds o ws ss us a n t f) (Fails.take _ _ _ p xs ts vs b m t' g) e =
    let r = takes_same s.kind (shape_of G c s) o p ws xs ss ts us vs t t' e in
    let q = fails_same G (and_then c o) (map OneOf ss ++ ds) us vs a b n m f
    (moved G c o p ss ts ds vs b m r.operand r.slots g) r.rest in
    let w : length ws ≡ length xs = ap length r.words in
    let k = q.place in
    record { code = q.code; place = omega arith }
fails_same G _ _ _ _ _ _ _ _ (Fails.take c s ds o ws ss us a n t f) (Fails.parts _ _ _ ts vs b m h g) e =
    absurd (takes_no_parts s.kind (shape_of G c s) o ws ss ts t h)
fails_same G _ _ _ _ _ _ _ _ (Fails.parts c s ds ss us a n h f) (Fails.refused _ _ _ vs b m r) e =
    absurd (parts_refuse (shape_of G c s) vs b m ss h r)
fails_same G _ _ _ _ _ _ _ _ (Fails.parts c s ds ss us a n h f) (Fails.take _ _ _ p xs ts vs b m t g) e =
    absurd (takes_no_parts s.kind (shape_of G c s) p xs ts ss t h)
fails_same G _ _ _ _ _ _ _ _ (Fails.parts c s ds ss us a n h f) (Fails.parts _ _ _ ts vs b m k g) e =
    fails_same G c (map OneOf ss ++ ds) us vs a b n m f
    (bases_moved G c ss ts ds vs b m (same_bases (shape_of G c s) ss ts h k) g) e
fails_same G _ _ _ _ _ _ _ _ (Fails.no_maybe c s ds a n f) (Fails.no_maybe _ _ _ b m g) e =
    fails_same G c ds [] [] a b n m f g e
fails_same G _ _ _ _ _ _ _ _ (Fails.no_maybe c s ds a n f) (Fails.maybe _ _ _ v vs b m g) e = cc
fails_same G _ _ _ _ _ _ _ _ (Fails.maybe c s ds u us a n f) (Fails.no_maybe _ _ _ b m g) e = cc
fails_same G _ _ _ _ _ _ _ _ (Fails.maybe c s ds u us a n f) (Fails.maybe _ _ _ v vs b m g) e =
    fails_same G c (OneOf s ∷ ds) (u ∷ us) (v ∷ vs) a b n m f g e
fails_same G _ _ _ _ _ _ _ _ (Fails.no_many c s ds a n f) (Fails.no_many _ _ _ b m g) e =
    fails_same G c ds [] [] a b n m f g e
fails_same G _ _ _ _ _ _ _ _ (Fails.no_many c s ds a n f) (Fails.many _ _ _ v vs b m g) e = cc
fails_same G _ _ _ _ _ _ _ _ (Fails.many c s ds u us a n f) (Fails.no_many _ _ _ b m g) e = cc
fails_same G _ _ _ _ _ _ _ _ (Fails.many c s ds u us a n f) (Fails.many _ _ _ v vs b m g) e =
    fails_same G c (OneOf s ∷ ManyOf s ∷ ds) (u ∷ us) (v ∷ vs) a b n m f g e

match_moved : (G : Table) (c : Context) (o p : Plain) (ss ts : List Slot) (ds : List Due) (os : List Plain)
    (us : List ℕ) → o ≡ p → ss ≡ ts
    → Matches G (and_then c p) (map OneOf ts ++ ds) os us → Matches G (and_then c o) (map OneOf ss ++ ds) os us
match_moved G c o p ss ts ds os us e f m = rw (e, f) m

match_bases_moved : (G : Table) (c : Context) (ss ts : List Slot) (ds : List Due) (os : List Plain) (us : List ℕ)
    → ss ≡ ts
    → Matches G c (map OneOf ts ++ ds) os us → Matches G c (map OneOf ss ++ ds) os us
match_bases_moved G c ss ts ds os us f m = rw f m

pub fails_not : (G : Table) (c : Context) (ds : List Due) (us vs : List ℕ) (a : Rule) (n : ℕ) (os : List Plain)
    → Fails G c ds us a n → Matches G c ds os vs → us ≡ vs → ⊥
fails_not G _ _ _ _ _ _ _ (Fails.left c u us) (Matches.end _) e = cc
fails_not G _ _ _ _ _ _ _ (Fails.refused c s ds us a n r) (Matches.take _ _ _ o ws ss os vs t m) e =
    takes_refuses s.kind (shape_of G c s) o ws ss vs us a n t r (sym e)
fails_not G _ _ _ _ _ _ _ (Fails.refused c s ds us a n r) (Matches.parts _ _ _ ts os vs h m) e =
    parts_refuse (shape_of G c s) us a n ts h r
fails_not G _ _ _ _ _ _ _ (Fails.take c s ds o ws ss us a n t f) (Matches.take _ _ _ p xs ts os vs t' m) e =
    let r = takes_same s.kind (shape_of G c s) o p ws xs ss ts us vs t t' e in
    fails_not G (and_then c o) (map OneOf ss ++ ds) us vs a n os f
    (match_moved G c o p ss ts ds os vs r.operand r.slots m) r.rest
fails_not G _ _ _ _ _ _ _ (Fails.take c s ds o ws ss us a n t f) (Matches.parts _ _ _ ts os vs h m) e =
    takes_no_parts s.kind (shape_of G c s) o ws ss ts t h
fails_not G _ _ _ _ _ _ _ (Fails.parts c s ds ss us a n h f) (Matches.take _ _ _ p xs ts os vs t m) e =
    takes_no_parts s.kind (shape_of G c s) p xs ts ss t h
fails_not G _ _ _ _ _ _ _ (Fails.parts c s ds ss us a n h f) (Matches.parts _ _ _ ts os vs k m) e =
    fails_not G c (map OneOf ss ++ ds) us vs a n os f
    (match_bases_moved G c ss ts ds os vs (same_bases (shape_of G c s) ss ts h k) m) e
fails_not G _ _ _ _ _ _ _ (Fails.no_maybe c s ds a n f) (Matches.no_maybe _ _ _ os m) e =
    fails_not G c ds [] [] a n os f m e
fails_not G _ _ _ _ _ _ _ (Fails.no_maybe c s ds a n f) (Matches.maybe _ _ _ os v vs m) e = cc
fails_not G _ _ _ _ _ _ _ (Fails.maybe c s ds u us a n f) (Matches.no_maybe _ _ _ os m) e = cc
fails_not G _ _ _ _ _ _ _ (Fails.maybe c s ds u us a n f) (Matches.maybe _ _ _ os v vs m) e =
    fails_not G c (OneOf s ∷ ds) (u ∷ us) (v ∷ vs) a n os f m e
fails_not G _ _ _ _ _ _ _ (Fails.no_many c s ds a n f) (Matches.no_many _ _ _ os m) e =
    fails_not G c ds [] [] a n os f m e
fails_not G _ _ _ _ _ _ _ (Fails.no_many c s ds a n f) (Matches.many _ _ _ os v vs m) e = cc
fails_not G _ _ _ _ _ _ _ (Fails.many c s ds u us a n f) (Matches.no_many _ _ _ os m) e = cc
fails_not G _ _ _ _ _ _ _ (Fails.many c s ds u us a n f) (Matches.many _ _ _ os v vs m) e =
    fails_not G c (OneOf s ∷ ManyOf s ∷ ds) (u ∷ us) (v ∷ vs) a n os f m e
