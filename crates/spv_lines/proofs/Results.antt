-- Where a pattern's operands have a result, and where not.
use Rattle.std.proofs.Common.{◌≡◌, ◌++◌, ◌∙◌, ℕ, List, [], ◌∷◌, Option, Some, None, Bool, true, false, ◌||◌, ◌&&◌}
use Rattle.std.proofs.Common.{nat_eq, if◌then◌else◌, map, refl, sym}
use Rattle.std.specs.Prelude.{bytes_eq, codes}
use Rattle.std.specs.List.{AllByRecursion, list_any}
use Rattle.spv_table.specs.declared.table.Category.{Category}
use Rattle.spv_table.specs.declared.table.Category.TheVariants as category
use Rattle.spv_table.specs.Table.{Table, Sort, Item, One, Maybe, Many, kind_of}
use Rattle.spv_module.specs.declared.opcode.TheConstants.{SWITCH}
use Rattle.spv_module.specs.Operand.{Plain, Context, and_then, result_in}
use Rattle.spv_module.specs.Shape.{Slot, alone, Shape, AsParts, AsNumber, AsWord, AsText, AsNothing, shape_of}
use Rattle.spv_module.specs.Shape.{kind_shape, category_shape, literal_shape, integer_shape}
use Rattle.spv_module.specs.Width.{switch_width, context_width}
use Rattle.spv_module.specs.Spelling.{Takes}
use Rattle.spv_inst.specs.Flat.{Due, OneOf, MaybeOf, ManyOf, due}
use Rattle.spv_inst.specs.inner.Flat.{Matches}
use Rattle.spv_lines.specs.Fault.{is_result_shape, must_have_result, may_have_result}
use Rattle.spv_lines.specs.Tidy.{IsTidy, AreNoResults}

integer_no : (c : Context) (p : Bool) → is_result_shape (integer_shape c p) ≡ false
integer_no c p = split (p && nat_eq c.opcode SWITCH)
  where
    split : (b : Bool) → is_result_shape (if b then AsNumber (switch_width c) else AsWord) ≡ false
    split true = refl
    split false = refl

pub literal_no : (c : Context) (p : Bool) (name : List ℕ) → is_result_shape (literal_shape c p name) ≡ false
literal_no c p name = first (bytes_eq name (codes "LiteralInteger"))
  where
    fourth : (b : Bool) → is_result_shape (if b then AsNumber (context_width c) else AsNothing) ≡ false
    fourth true = refl
    fourth false = refl

    third : (b : Bool) → is_result_shape (if b then AsText
        else (if bytes_eq name (codes "LiteralContextDependentNumber") then AsNumber
        (context_width c) else AsNothing)) ≡ false
    third true = refl
    third false = fourth (bytes_eq name (codes "LiteralContextDependentNumber"))

    second : (b : Bool) → is_result_shape (if b then AsWord else (if bytes_eq name (codes "LiteralString") then AsText
        else (if bytes_eq name (codes "LiteralContextDependentNumber") then AsNumber
        (context_width c) else AsNothing))) ≡ false
    second true = refl
    second false = third (bytes_eq name (codes "LiteralString"))

    first : (b : Bool) → is_result_shape (if b then integer_shape c p
        else (if bytes_eq name (codes "LiteralFloat") || bytes_eq name (codes "LiteralExtInstInteger") then AsWord
        else (if bytes_eq name (codes "LiteralString") then AsText
        else (if bytes_eq name (codes "LiteralContextDependentNumber") then AsNumber
        (context_width c) else AsNothing)))) ≡ false
    first true = integer_no c p
    first false = second (bytes_eq name (codes "LiteralFloat") || bytes_eq name (codes "LiteralExtInstInteger"))

category_result : (c d : Context) (p q : Bool) (s : Sort) (k : Category)
    → is_result_shape (category_shape c p s k) ≡ is_result_shape (category_shape d q s k)
category_result c d p q s category.Id = refl
category_result c d p q s category.Literal = literal_no c p s.kind.name ∙ sym (literal_no d q s.kind.name)
category_result c d p q s category.ValueEnum = refl
category_result c d p q s category.BitEnum = refl
category_result c d p q s category.Composite = refl

kind_result : (c d : Context) (p q : Bool) (k : Option Sort)
    → is_result_shape (kind_shape c p k) ≡ is_result_shape (kind_shape d q k)
kind_result c d p q None = refl
kind_result c d p q (Some s) = category_result c d p q s s.kind.category

-- whether a slot asks for a result does not depend on what is before it
pub slot_result : (G : Table) (c d : Context) (s : Slot)
    → is_result_shape (shape_of G c s) ≡ is_result_shape (shape_of G d s)
unfolding shape_of
slot_result G c d s = kind_result c d s.paired s.paired (kind_of G s.kind)

-- what takes an operand that is no result
pub no_result_next : (k : ℕ) (sh : Shape) (o : Plain) (ws : List ℕ) (ss : List Slot) (os : List Plain)
    → Takes k sh o ws ss → is_result_shape sh ≡ false → result_in (o ∷ os) ≡ result_in os
no_result_next k _ _ _ _ os (Takes.result_type x) e = refl
no_result_next k _ _ _ _ os (Takes.result x) e = cc
no_result_next k _ _ _ _ os (Takes.id x) e = refl
no_result_next k _ _ _ _ os (Takes.word x) e = refl
no_result_next k _ _ _ _ os (Takes.narrow w x n) e = refl
no_result_next k _ _ _ _ os (Takes.wide w x y n) e = refl
no_result_next k _ _ _ _ os (Takes.text s ws p n z v) e = refl
no_result_next k _ _ _ _ os (Takes.value es x ks n) e = refl
no_result_next k _ _ _ _ os (Takes.mask es x ks n) e = refl

-- and one that is
result_next : (k : ℕ) (sh : Shape) (o : Plain) (ws : List ℕ) (ss : List Slot) (os : List Plain) → Takes k sh o ws ss
    → is_result_shape sh ≡ true → result_in (o ∷ os) ≡ None → ⊥
result_next k _ _ _ _ os (Takes.result_type x) e f = cc
result_next k _ _ _ _ os (Takes.result x) e f = cc
result_next k _ _ _ _ os (Takes.id x) e f = cc
result_next k _ _ _ _ os (Takes.word x) e f = cc
result_next k _ _ _ _ os (Takes.narrow w x n) e f = cc
result_next k _ _ _ _ os (Takes.wide w x y n) e f = cc
result_next k _ _ _ _ os (Takes.text s ws p n z v) e f = cc
result_next k _ _ _ _ os (Takes.value es x ks n) e f = cc
result_next k _ _ _ _ os (Takes.mask es x ks n) e f = cc

rest_none : (o : Plain) (os : List Plain) → result_in (o ∷ os) ≡ None → result_in os ≡ None
rest_none (Plain.OfType x) os e = e
rest_none (Plain.Result x) os e = cc
rest_none (Plain.Id x) os e = e
rest_none (Plain.Word x) os e = e
rest_none (Plain.Argument x) os e = e
rest_none (Plain.Mention x) os e = e
rest_none (Plain.Number a b d) os e = e
rest_none (Plain.Text t) os e = e
rest_none (Plain.Value k x) os e = e
rest_none (Plain.Mask k x) os e = e

-- a result is due in any case
pub data HasDue (G : Table) : List Due → Type 0 where
  here : (s : Slot) (ds : List Due) → ((c : Context) → is_result_shape (shape_of G c s) ≡ true)
      → HasDue G (OneOf s ∷ ds)
  there : (d : Due) (ds : List Due) → HasDue G ds → HasDue G (d ∷ ds)

behind : (G : Table) (es ds : List Due) → HasDue G ds → HasDue G (es ++ ds)
behind G [] ds h = h
behind G (e ∷ es) ds h = HasDue.there e (es ++ ds) (behind G es ds h)

parts_no : (sh : Shape) (ss : List Slot) → sh ≡ AsParts ss → is_result_shape sh ≡ true → ⊥
parts_no sh ss e f = let g : false ≡ true = rw e at f in cc

pub has_result : (G : Table) (c : Context) (ds : List Due) (os : List Plain) (us : List ℕ) → Matches G c ds os us
    → HasDue G ds → result_in os ≡ None → ⊥
has_result G _ _ _ _ (Matches.end c) h e = elim h [ ]
has_result G _ _ _ _ (Matches.take c s ds o ws ss os us t m) (HasDue.here _ _ f) e =
    result_next s.kind (shape_of G c s) o ws ss os t (f c) e
has_result G _ _ _ _ (Matches.take c s ds o ws ss os us t m) (HasDue.there _ _ h) e =
    has_result G (and_then c o) (map OneOf ss ++ ds) os us m (behind G (map OneOf ss) ds h) (rest_none o os e)
has_result G _ _ _ _ (Matches.parts c s ds ss os us t m) (HasDue.here _ _ f) e = parts_no (shape_of G c s) ss t (f c)
has_result G _ _ _ _ (Matches.parts c s ds ss os us t m) (HasDue.there _ _ h) e =
    has_result G c (map OneOf ss ++ ds) os us m (behind G (map OneOf ss) ds h) e
has_result G _ _ _ _ (Matches.no_maybe c s ds os m) (HasDue.there _ _ h) e = has_result G c ds os [] m h e
has_result G _ _ _ _ (Matches.maybe c s ds os u us m) (HasDue.there _ _ h) e =
    has_result G c (OneOf s ∷ ds) os (u ∷ us) m (HasDue.there (OneOf s) ds h) e
has_result G _ _ _ _ (Matches.no_many c s ds os m) (HasDue.there _ _ h) e = has_result G c ds os [] m h e
has_result G _ _ _ _ (Matches.many c s ds os u us m) (HasDue.there _ _ h) e =
    has_result G c (OneOf s ∷ ManyOf s ∷ ds) os (u ∷ us) m
    (HasDue.there (OneOf s) (ManyOf s ∷ ds) (HasDue.there (ManyOf s) ds h)) e

pub due_by : (G : Table) (c : Context) (is : List Item) → list_any (must_have_result G c) is ≡ true
    → HasDue G (map due is)
due_by G c [] e = cc
due_by G c (One k ∷ is) e = split (is_result_shape (shape_of G c (alone k))) refl e (λ f. due_by G c is f)
  where
    split : (b : Bool) → is_result_shape (shape_of G c (alone k)) ≡ b → (b || list_any (must_have_result G c) is) ≡ true
        → (list_any (must_have_result G c) is ≡ true → HasDue G (map due is)) → HasDue G (map due (One k ∷ is))
    split true f e h = HasDue.here (alone k) (map due is) (λ d. slot_result G d c (alone k) ∙ f)
    split false f e h = HasDue.there (OneOf (alone k)) (map due is) (h e)
due_by G c (Maybe k ∷ is) e = HasDue.there (MaybeOf (alone k)) (map due is) (due_by G c is e)
due_by G c (Many k ∷ is) e = HasDue.there (ManyOf (alone k)) (map due is) (due_by G c is e)

-- no result is due
abbrev slot_of : Due → Slot
slot_of (OneOf s) = s
slot_of (MaybeOf s) = s
slot_of (ManyOf s) = s

abbrev NoneDue : Table → List Due → Type 0
NoneDue G ds = AllByRecursion (λ d. (c : Context) → is_result_shape (shape_of G c (slot_of d)) ≡ false) ds

none_due : (G : Table) (ss : List Slot) (ds : List Due) → AreNoResults G ss → NoneDue G ds
    → NoneDue G (map OneOf ss ++ ds)
none_due G [] ds h g = g
none_due G (s ∷ ss) ds h g = (h.0, none_due G ss ds h.1 g)

pub no_results : (G : Table) (tidy : IsTidy G) (c : Context) (ds : List Due) (os : List Plain) (us : List ℕ)
    → Matches G c ds os us → NoneDue G ds → result_in os ≡ None
no_results G tidy _ _ _ _ (Matches.end c) h = refl
no_results G tidy _ _ _ _ (Matches.take c s ds o ws ss os us t m) h =
    no_result_next s.kind (shape_of G c s) o ws ss os t (h.0 c)
    ∙ no_results G tidy (and_then c o) (map OneOf ss ++ ds) os us m
    (none_due G ss ds (tidy.parameters c s o ws ss t) h.1)
no_results G tidy _ _ _ _ (Matches.parts c s ds ss os us t m) h =
    no_results G tidy c (map OneOf ss ++ ds) os us m (none_due G ss ds (tidy.bases c s ss t) h.1)
no_results G tidy _ _ _ _ (Matches.no_maybe c s ds os m) h = no_results G tidy c ds os [] m h.1
no_results G tidy _ _ _ _ (Matches.maybe c s ds os u us m) h =
    no_results G tidy c (OneOf s ∷ ds) os (u ∷ us) m (h.0, h.1)
no_results G tidy _ _ _ _ (Matches.no_many c s ds os m) h = no_results G tidy c ds os [] m h.1
no_results G tidy _ _ _ _ (Matches.many c s ds os u us m) h =
    no_results G tidy c (OneOf s ∷ ManyOf s ∷ ds) os (u ∷ us) m (h.0, (h.0, h.1))

or_none : (a b : Bool) → (a || b) ≡ false → (a ≡ false) × (b ≡ false)
or_none true b e = cc
or_none false b e = (refl, e)

pub none_by : (G : Table) (c : Context) (is : List Item) → list_any (may_have_result G c) is ≡ false
    → NoneDue G (map due is)
none_by G c [] e = tt
none_by G c (One k ∷ is) e =
    let r = or_none (is_result_shape (shape_of G c (alone k))) (list_any (may_have_result G c) is) e in
    ((λ d. slot_result G d c (alone k) ∙ r.0), none_by G c is r.1)
none_by G c (Maybe k ∷ is) e =
    let r = or_none (is_result_shape (shape_of G c (alone k))) (list_any (may_have_result G c) is) e in
    ((λ d. slot_result G d c (alone k) ∙ r.0), none_by G c is r.1)
none_by G c (Many k ∷ is) e =
    let r = or_none (is_result_shape (shape_of G c (alone k))) (list_any (may_have_result G c) is) e in
    ((λ d. slot_result G d c (alone k) ∙ r.0), none_by G c is r.1)
