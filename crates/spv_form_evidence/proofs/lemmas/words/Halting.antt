-- Where the words of an instruction stop to spell operands: one place, and one kind.
use Rattle.std.proofs.Common.{◌≡◌, ◌++◌, ◌+◌, ℕ, suc, List, [], ◌∷◌, Option, Some, None, length, map, refl, sym}
use Rattle.std.proofs.Common.{ap, arith, length-append}
use Rattle.spv_table.specs.Table.{Table, Item}
use Rattle.spv_module.specs.Operand.{Plain, Context, and_then, after}
use Rattle.spv_module.specs.Shape.{Slot, AsParts, shape_of}
use Rattle.spv_module.specs.Spelling.{Takes}
use Rattle.spv_module.specs.Refusal.{ShapeRefuses}
use Rattle.spv_module.specs.declared.fault.Rule.{Rule}
use Rattle.spv_inst.specs.Flat.{Due, OneOf, MaybeOf, ManyOf, due}
use Rattle.spv_inst.proofs.Flat.{same_bases}
use Rattle.spv_inst.proofs.Joined.{after-append}
use Rattle.spv_inst.proofs.Takes.{takes_same, takes_no_parts}
use Rattle.spv_inst.proofs.Refusals.{takes_refuses, parts_refuse}
use Rattle.spv_form_evidence.specs.words.Front.{Reaches}

-- from what is due on: after so many operands the words left are refused where that kind is due, or none is
pub data Halts (G : Table) : Context → List Due → List ℕ → ℕ → Option ℕ → Type 0 where
  left : (c : Context) (u : ℕ) (us : List ℕ) → Halts G c [] (u ∷ us) 0 None
  refused : (c : Context) (s : Slot) (ds : List Due) (us : List ℕ) (code : Rule) (n : ℕ)
      → ShapeRefuses (shape_of G c s) us code n → Halts G c (OneOf s ∷ ds) us 0 (Some s.kind)
  take : (c : Context) (s : Slot) (ds : List Due) (o : Plain) (ws : List ℕ) (ss : List Slot) (us : List ℕ) (k : ℕ) (t
      : Option ℕ)
      → Takes s.kind (shape_of G c s) o ws ss → Halts G (and_then c o) (map OneOf ss ++ ds) us k t
      → Halts G c (OneOf s ∷ ds) (ws ++ us) (suc k) t
  parts : (c : Context) (s : Slot) (ds : List Due) (ss : List Slot) (us : List ℕ) (k : ℕ) (t : Option ℕ)
      → shape_of G c s ≡ AsParts ss → Halts G c (map OneOf ss ++ ds) us k t → Halts G c (OneOf s ∷ ds) us k t
  no_maybe : (c : Context) (s : Slot) (ds : List Due) (k : ℕ) (t : Option ℕ) → Halts G c ds [] k t
      → Halts G c (MaybeOf s ∷ ds) [] k t
  maybe : (c : Context) (s : Slot) (ds : List Due) (u : ℕ) (us : List ℕ) (k : ℕ) (t : Option ℕ)
      → Halts G c (OneOf s ∷ ds) (u ∷ us) k t → Halts G c (MaybeOf s ∷ ds) (u ∷ us) k t
  no_many : (c : Context) (s : Slot) (ds : List Due) (k : ℕ) (t : Option ℕ) → Halts G c ds [] k t
      → Halts G c (ManyOf s ∷ ds) [] k t
  many : (c : Context) (s : Slot) (ds : List Due) (u : ℕ) (us : List ℕ) (k : ℕ) (t : Option ℕ)
      → Halts G c (OneOf s ∷ ManyOf s ∷ ds) (u ∷ us) k t → Halts G c (ManyOf s ∷ ds) (u ∷ us) k t

pub record SameHalt (k l : ℕ) (t u : Option ℕ) : Type 0 where
  pub count : k ≡ l
  pub kind : t ≡ u

moved : (G : Table) (c : Context) (o p : Plain) (ss ts : List Slot) (ds : List Due) (us : List ℕ) (k : ℕ) (t : Option
    ℕ) → o ≡ p → ss ≡ ts
    → Halts G (and_then c p) (map OneOf ts ++ ds) us k t → Halts G (and_then c o) (map OneOf ss ++ ds) us k t
moved G c o p ss ts ds us k t e f m = rw (e, f) m

bases_moved : (G : Table) (c : Context) (ss ts : List Slot) (ds : List Due) (us : List ℕ) (k : ℕ) (t : Option ℕ)
    → ss ≡ ts
    → Halts G c (map OneOf ts ++ ds) us k t → Halts G c (map OneOf ss ++ ds) us k t
bases_moved G c ss ts ds us k t f m = rw f m

pub halts_same : (G : Table) (c : Context) (ds : List Due) (us vs : List ℕ) (k l : ℕ) (t u : Option ℕ)
    → Halts G c ds us k t → Halts G c ds vs l u → us ≡ vs → SameHalt k l t u
halts_same G _ _ _ _ _ _ _ _ (Halts.left c x us) (Halts.left _ v vs) e = record { count = refl; kind = refl }
halts_same G _ _ _ _ _ _ _ _ (Halts.refused c s ds us a n r) (Halts.refused _ _ _ vs b m q) e = record {
  count = refl;
  kind = refl;
}
halts_same G _ _ _ _ _ _ _ _ (Halts.refused c s ds us a n r) (Halts.take _ _ _ o ws ss vs l u t f) e =
    absurd (takes_refuses s.kind (shape_of G c s) o ws ss vs us a n t r (sym e))
halts_same G _ _ _ _ _ _ _ _ (Halts.refused c s ds us a n r) (Halts.parts _ _ _ ts vs l u h f) e = absurd
    (parts_refuse (shape_of G c s) us a n ts h r)
halts_same G _ _ _ _ _ _ _ _ (Halts.take c s ds o ws ss us k t x f) (Halts.refused _ _ _ vs b m r) e =
    absurd (takes_refuses s.kind (shape_of G c s) o ws ss us vs b m x r e)
halts_same G _ _ _ _ _ _ _ _ (Halts.take c s ds o ws ss us k t x f) (Halts.take _ _ _ p xs ts vs l u y g) e =
    let r = takes_same s.kind (shape_of G c s) o p ws xs ss ts us vs x y e in
    let q = halts_same G (and_then c o) (map OneOf ss ++ ds) us vs k l t u f (moved G c o p ss ts ds vs l u r.operand
    r.slots g) r.rest in
    record { count = ap suc q.count; kind = q.kind }
halts_same G _ _ _ _ _ _ _ _ (Halts.take c s ds o ws ss us k t x f) (Halts.parts _ _ _ ts vs l u h g) e = absurd
    (takes_no_parts s.kind (shape_of G c s) o ws ss ts x h)
halts_same G _ _ _ _ _ _ _ _ (Halts.parts c s ds ss us k t h f) (Halts.refused _ _ _ vs b m r) e = absurd
    (parts_refuse (shape_of G c s) vs b m ss h r)
halts_same G _ _ _ _ _ _ _ _ (Halts.parts c s ds ss us k t h f) (Halts.take _ _ _ p xs ts vs l u y g) e = absurd
    (takes_no_parts s.kind (shape_of G c s) p xs ts ss y h)
halts_same G _ _ _ _ _ _ _ _ (Halts.parts c s ds ss us k t h f) (Halts.parts _ _ _ ts vs l u g m) e =
    halts_same G c (map OneOf ss ++ ds) us vs k l t u f (bases_moved G c ss ts ds vs l u (same_bases (shape_of G c s)
    ss ts h g) m) e
halts_same G _ _ _ _ _ _ _ _ (Halts.no_maybe c s ds k t f) (Halts.no_maybe _ _ _ l u g) e = halts_same G c ds [] [] k
    l t u f g e
halts_same G _ _ _ _ _ _ _ _ (Halts.no_maybe c s ds k t f) (Halts.maybe _ _ _ v vs l u g) e = cc
halts_same G _ _ _ _ _ _ _ _ (Halts.maybe c s ds x us k t f) (Halts.no_maybe _ _ _ l u g) e = cc
halts_same G _ _ _ _ _ _ _ _ (Halts.maybe c s ds x us k t f) (Halts.maybe _ _ _ v vs l u g) e = halts_same G c (OneOf
    s ∷ ds) (x ∷ us) (v ∷ vs) k l t u f g e
halts_same G _ _ _ _ _ _ _ _ (Halts.no_many c s ds k t f) (Halts.no_many _ _ _ l u g) e = halts_same G c ds [] [] k l
    t u f g e
halts_same G _ _ _ _ _ _ _ _ (Halts.no_many c s ds k t f) (Halts.many _ _ _ v vs l u g) e = cc
halts_same G _ _ _ _ _ _ _ _ (Halts.many c s ds x us k t f) (Halts.no_many _ _ _ l u g) e = cc
halts_same G _ _ _ _ _ _ _ _ (Halts.many c s ds x us k t f) (Halts.many _ _ _ v vs l u g) e =
    halts_same G c (OneOf s ∷ ManyOf s ∷ ds) (x ∷ us) (v ∷ vs) k l t u f g e

one_more : (os : List Plain) (o : Plain) (k : ℕ) → length os + suc k ≡ length (os ++ o ∷ []) + k
one_more os o k = let l = length-append os (o ∷ []) in omega (arith, l)

-- the operands before are counted
pub reached_halts : (G : Table) (c : Context) (pattern : List Item) (words : List ℕ) (os : List Plain) (front : List
    ℕ) (ds : List Due) (rest : List ℕ) → Reaches G c pattern words os front ds rest
    → (k : ℕ) (t : Option ℕ) → Halts G (after c os) ds rest k t → Halts G c (map due pattern) words (length os + k) t
reached_halts G c pattern words _ _ _ _ Reaches.begin k t h = let e : 0 + k ≡ k = omega arith in rw e h
reached_halts G c pattern words _ _ _ _ (Reaches.operand os front s ds o ws rest ss r x) k t h =
    let h' : Halts G (and_then (after c os) o) (map OneOf ss ++ ds) rest k t = rw (after-append c os (o ∷ [])) at h in
    rw (one_more os o k) at (reached_halts G c pattern words os front (OneOf s ∷ ds) (ws ++ rest) r (suc k) t
    (Halts.take (after c os) s ds o ws ss rest k t x h'))
reached_halts G c pattern words _ _ _ _ (Reaches.parts os front s ds rest ss r e) k t h =
    reached_halts G c pattern words os front (OneOf s ∷ ds) rest r k t (Halts.parts (after c os) s ds ss rest k t e h)
reached_halts G c pattern words _ _ _ _ (Reaches.maybe os front s ds u rest r) k t h =
    reached_halts G c pattern words os front (MaybeOf s ∷ ds) (u ∷ rest) r k t (Halts.maybe (after c os) s ds u rest k
    t h)
reached_halts G c pattern words _ _ _ _ (Reaches.many os front s ds u rest r) k t h =
    reached_halts G c pattern words os front (ManyOf s ∷ ds) (u ∷ rest) r k t (Halts.many (after c os) s ds u rest k t
    h)
reached_halts G c pattern words _ _ _ _ (Reaches.no_maybe os front s ds r) k t h =
    reached_halts G c pattern words os front (MaybeOf s ∷ ds) [] r k t (Halts.no_maybe (after c os) s ds k t h)
reached_halts G c pattern words _ _ _ _ (Reaches.no_many os front s ds r) k t h =
    reached_halts G c pattern words os front (ManyOf s ∷ ds) [] r k t (Halts.no_many (after c os) s ds k t h)
