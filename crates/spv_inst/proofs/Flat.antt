-- What is due and the words left tell the operands; these and what is due tell the words.
use Rattle.std.proofs.Common.{◌≡◌, ◌≢◌, ◌++◌, ◌∙◌, ℕ, List, [], ◌∷◌, map, refl, sym}
use Rattle.spv_table.specs.Table.{Table}
use Rattle.spv_module.specs.Operand.{Plain, Context, and_then}
use Rattle.spv_module.specs.Shape.{Slot, Shape, AsParts, shape_of}
use Rattle.spv_inst.specs.Flat.{Due, OneOf, ManyOf}
use Rattle.spv_inst.specs.inner.Flat.{Matches, end, take, parts, no_maybe, maybe, no_many, many}
use Rattle.spv_inst.proofs.Takes.{takes_same, takes_back, takes_no_parts, takes_nonempty}

-- an append that has an element is not empty
pub nonempty-append : (ws us : List ℕ) → ws ≢ [] → ws ++ us ≢ []
nonempty-append [] us h e = h refl
nonempty-append (w ∷ ws) us h e = cc

-- what is due after an operand, by equal operands and slots
moved : (G : Table) (c : Context) (o p : Plain) (ss ts : List Slot) (ds : List Due) (os : List Plain) (us : List ℕ)
    → o ≡ p → ss ≡ ts
    → Matches G (and_then c p) (map OneOf ts ++ ds) os us → Matches G (and_then c o) (map OneOf ss ++ ds) os us
moved G c o p ss ts ds os us e f m = rw (e, f) m

bases_moved : (G : Table) (c : Context) (ss ts : List Slot) (ds : List Due) (os : List Plain) (us : List ℕ) → ss ≡ ts
    → Matches G c (map OneOf ts ++ ds) os us → Matches G c (map OneOf ss ++ ds) os us
bases_moved G c ss ts ds os us f m = rw f m

pub same_bases : (sh : Shape) (ss ts : List Slot) → sh ≡ AsParts ss → sh ≡ AsParts ts → ss ≡ ts
same_bases sh ss ts e f = cc

-- the words tell the operands
pub unique : (G : Table) (c : Context) (ds : List Due) (os ps : List Plain) (us vs : List ℕ)
    → Matches G c ds os us → Matches G c ds ps vs → us ≡ vs → os ≡ ps
unique G _ _ _ _ _ _ (end c) (end _) e = refl
unique G _ _ _ _ _ _ (take c s ds o ws ss os us t m) (take _ _ _ p xs ts ps vs t' n) e =
    let r = takes_same s.kind (shape_of G c s) o p ws xs ss ts us vs t t' e in
    let q = unique G (and_then c o) (map OneOf ss ++ ds) os ps us vs m
    (moved G c o p ss ts ds ps vs r.operand r.slots n) r.rest in
    let a = r.operand in
    cc
unique G _ _ _ _ _ _ (take c s ds o ws ss os us t m) (parts _ _ _ ts ps vs h n) e =
    absurd (takes_no_parts s.kind (shape_of G c s) o ws ss ts t h)
unique G _ _ _ _ _ _ (parts c s ds ss os us h m) (take _ _ _ p xs ts ps vs t' n) e =
    absurd (takes_no_parts s.kind (shape_of G c s) p xs ts ss t' h)
unique G _ _ _ _ _ _ (parts c s ds ss os us h m) (parts _ _ _ ts ps vs g n) e =
    unique G c (map OneOf ss ++ ds) os ps us vs m
    (bases_moved G c ss ts ds ps vs (same_bases (shape_of G c s) ss ts h g) n) e
unique G _ _ _ _ _ _ (no_maybe c s ds os m) (no_maybe _ _ _ ps n) e = unique G c ds os ps [] [] m n e
unique G _ _ _ _ _ _ (no_maybe c s ds os m) (maybe _ _ _ ps v vs n) e = cc
unique G _ _ _ _ _ _ (maybe c s ds os u us m) (no_maybe _ _ _ ps n) e = cc
unique G _ _ _ _ _ _ (maybe c s ds os u us m) (maybe _ _ _ ps v vs n) e =
    unique G c (OneOf s ∷ ds) os ps (u ∷ us) (v ∷ vs) m n e
unique G _ _ _ _ _ _ (no_many c s ds os m) (no_many _ _ _ ps n) e = unique G c ds os ps [] [] m n e
unique G _ _ _ _ _ _ (no_many c s ds os m) (many _ _ _ ps v vs n) e = cc
unique G _ _ _ _ _ _ (many c s ds os u us m) (no_many _ _ _ ps n) e = cc
unique G _ _ _ _ _ _ (many c s ds os u us m) (many _ _ _ ps v vs n) e =
    unique G c (OneOf s ∷ ManyOf s ∷ ds) os ps (u ∷ us) (v ∷ vs) m n e

-- no operands are spelled by no words
pub no_words : (G : Table) (c : Context) (ds : List Due) (os : List Plain) (us : List ℕ) → Matches G c ds os us
    → os ≡ [] → us ≡ []
no_words G _ _ _ _ (end c) e = refl
no_words G _ _ _ _ (take c s ds o ws ss os us t m) e = cc
no_words G _ _ _ _ (parts c s ds ss os us h m) e = no_words G c (map OneOf ss ++ ds) os us m e
no_words G _ _ _ _ (no_maybe c s ds os m) e = refl
no_words G _ _ _ _ (maybe c s ds os u us m) e = no_words G c (OneOf s ∷ ds) os (u ∷ us) m e
no_words G _ _ _ _ (no_many c s ds os m) e = refl
no_words G _ _ _ _ (many c s ds os u us m) e = no_words G c (OneOf s ∷ ManyOf s ∷ ds) os (u ∷ us) m e

-- no words spell no operands
pub no_operands : (G : Table) (c : Context) (ds : List Due) (os : List Plain) (us : List ℕ) → Matches G c ds os us
    → us ≡ [] → os ≡ []
no_operands G _ _ _ _ (end c) e = refl
no_operands G _ _ _ _ (take c s ds o ws ss os us t m) e =
    absurd (nonempty-append ws us (takes_nonempty s.kind (shape_of G c s) o ws ss t) e)
no_operands G _ _ _ _ (parts c s ds ss os us h m) e = no_operands G c (map OneOf ss ++ ds) os us m e
no_operands G _ _ _ _ (no_maybe c s ds os m) e = no_operands G c ds os [] m e
no_operands G _ _ _ _ (maybe c s ds os u us m) e = cc
no_operands G _ _ _ _ (no_many c s ds os m) e = no_operands G c ds os [] m e
no_operands G _ _ _ _ (many c s ds os u us m) e = cc

absent_or_not : (G : Table) (c : Context) (ds es : List Due) (os ps : List Plain) (v : ℕ) (vs : List ℕ)
    → Matches G c ds os [] → Matches G c es ps (v ∷ vs) → os ≡ ps → ⊥
absent_or_not G c ds es os ps v vs m n e =
    let a = no_operands G c ds os [] m refl in
    let b : v ∷ vs ≡ [] = no_words G c es ps (v ∷ vs) n (sym e ∙ a) in
    cc

-- the operands tell the words
pub spelled_once : (G : Table) (c : Context) (ds : List Due) (os ps : List Plain) (us vs : List ℕ)
    → Matches G c ds os us → Matches G c ds ps vs → os ≡ ps → us ≡ vs
spelled_once G _ _ _ _ _ _ (end c) (end _) e = refl
spelled_once G _ _ _ _ _ _ (take c s ds o ws ss os us t m) (take _ _ _ p xs ts ps vs t' n) e =
    let a : o ≡ p = cc in
    let b : os ≡ ps = cc in
    let r = takes_back s.kind (shape_of G c s) o p ws xs ss ts t t' a in
    let q = spelled_once G (and_then c o) (map OneOf ss ++ ds) os ps us vs m
    (moved G c o p ss ts ds ps vs a r.slots n) b in
    let x = r.words in
    cc
spelled_once G _ _ _ _ _ _ (take c s ds o ws ss os us t m) (parts _ _ _ ts ps vs h n) e =
    absurd (takes_no_parts s.kind (shape_of G c s) o ws ss ts t h)
spelled_once G _ _ _ _ _ _ (parts c s ds ss os us h m) (take _ _ _ p xs ts ps vs t' n) e =
    absurd (takes_no_parts s.kind (shape_of G c s) p xs ts ss t' h)
spelled_once G _ _ _ _ _ _ (parts c s ds ss os us h m) (parts _ _ _ ts ps vs g n) e =
    spelled_once G c (map OneOf ss ++ ds) os ps us vs m
    (bases_moved G c ss ts ds ps vs (same_bases (shape_of G c s) ss ts h g) n) e
spelled_once G _ _ _ _ _ _ (no_maybe c s ds os m) (no_maybe _ _ _ ps n) e = refl
spelled_once G _ _ _ _ _ _ (no_maybe c s ds os m) (maybe _ _ _ ps v vs n) e =
    absurd (absent_or_not G c ds (OneOf s ∷ ds) os ps v vs m n e)
spelled_once G _ _ _ _ _ _ (maybe c s ds os u us m) (no_maybe _ _ _ ps n) e =
    absurd (absent_or_not G c ds (OneOf s ∷ ds) ps os u us n m (sym e))
spelled_once G _ _ _ _ _ _ (maybe c s ds os u us m) (maybe _ _ _ ps v vs n) e =
    spelled_once G c (OneOf s ∷ ds) os ps (u ∷ us) (v ∷ vs) m n e
spelled_once G _ _ _ _ _ _ (no_many c s ds os m) (no_many _ _ _ ps n) e = refl
spelled_once G _ _ _ _ _ _ (no_many c s ds os m) (many _ _ _ ps v vs n) e =
    absurd (absent_or_not G c ds (OneOf s ∷ ManyOf s ∷ ds) os ps v vs m n e)
spelled_once G _ _ _ _ _ _ (many c s ds os u us m) (no_many _ _ _ ps n) e =
    absurd (absent_or_not G c ds (OneOf s ∷ ManyOf s ∷ ds) ps os u us n m (sym e))
spelled_once G _ _ _ _ _ _ (many c s ds os u us m) (many _ _ _ ps v vs n) e =
    spelled_once G c (OneOf s ∷ ManyOf s ∷ ds) os ps (u ∷ us) (v ∷ vs) m n e
