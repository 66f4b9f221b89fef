-- A table of whose kinds none has a result among its parameters or bases is tidy.
use Rattle.std.proofs.Common.{◌≡◌, ◌∙◌, ◌++◌, ℕ, zero, suc, nat_eq, Bool, true, false, not, ◌&&◌, ◌||◌, List, [], ◌∷◌}
use Rattle.std.proofs.Common.{Option, Some, None, option_map, option_and_then, slice_get, map, bytes_eq, codes}
use Rattle.std.proofs.Common.{if◌then◌else◌, refl, sym, ap, true≢false}
use Rattle.std.specs.Prelude.{unwrap_or}
use Rattle.std.specs.List.{list_all, AllByRecursion}
use Rattle.spv_table.specs.declared.table.Category.{Category}
use Rattle.spv_table.specs.declared.table.Category.TheVariants as category
use Rattle.spv_table.specs.declared.table.Enumerant.{Enumerant}
use Rattle.spv_table.specs.Table.{Table, Sort, kind_of, first_with}
use Rattle.spv_module.specs.declared.opcode.TheConstants.{SWITCH}
use Rattle.spv_module.specs.Operand.{Plain, Context}
use Rattle.spv_module.specs.Shape.{Slot, alone, Shape, AsType, AsResult, AsId, AsWord, AsNumber, AsText, AsValue}
use Rattle.spv_module.specs.Shape.{AsMask, AsParts, AsNothing, bases, integer_shape, shape_of, kind_shape}
use Rattle.spv_module.specs.Shape.{category_shape}
use Rattle.spv_module.specs.Width.{switch_width, context_width}
use Rattle.spv_module.specs.Spelling.{Takes, parameters_of, parameters_of_all, mask_parameters, set_bits}
use Rattle.spv_lines.specs.Fault.{is_result_shape}
use Rattle.spv_table.specs.Table.{is_id, is_other_sort, is_other, has_other_parts}
use Rattle.spv_lines.specs.Tidy.{IsTidy, AreNoResults}
use Rattle.spv_lines.proofs.Results.{literal_no}

-- ---- conjunctions and options

and_left : (a b : Bool) → (a && b) ≡ true → a ≡ true
and_left true b h = refl
and_left false b h = h

and_right : (a b : Bool) → (a && b) ≡ true → b ≡ true
and_right true b h = h
and_right false b h = absurd (true≢false (sym h))

some_same : {A : Type 0} {a b : A} → Some a ≡ Some b → a ≡ b
some_same {a = a} h = ap (λ o. unwrap_or o a) h

not_some : {A : Type 0} (a : A) {P : Type 0} → None ≡ Some a → P
not_some a h = cc

-- a test that passes where there is nothing to be tested
abbrev if_any : {A : Type 0} → (A → Bool) → Option A → Bool
if_any test None = true
if_any test (Some a) = test a

-- ---- the shapes of kinds

not_true : (b : Bool) → not b ≡ true → b ≡ false
not_true true h = absurd (true≢false (sym h))
not_true false h = refl

id_shaped : (name : List ℕ) (a b : Bool) → b ≡ false
    → is_result_shape (if a then AsType else (if b then AsResult else AsId)) ≡ false
id_shaped name true b h = refl
id_shaped name false true h = absurd (true≢false h)
id_shaped name false false h = refl

category_no : (c : Context) (p : Bool) (s : Sort) (k : Category)
    → not (is_id k && bytes_eq s.kind.name (codes "IdResult")) ≡ true → is_result_shape (category_shape c p s k) ≡ false
category_no c p s category.Id h =
    id_shaped s.kind.name (bytes_eq s.kind.name (codes "IdResultType")) (bytes_eq s.kind.name (codes "IdResult"))
    (not_true (bytes_eq s.kind.name (codes "IdResult")) h)
category_no c p s category.Literal h = literal_no c p s.kind.name
category_no c p s category.ValueEnum h = refl
category_no c p s category.BitEnum h = refl
category_no c p s category.Composite h = refl

kind_no : (c : Context) (p : Bool) (o : Option Sort) → is_other_sort o ≡ true
    → is_result_shape (kind_shape c p o) ≡ false
kind_no c p None h = refl
kind_no c p (Some s) h = category_no c p s s.kind.category h

free_shape : (G : Table) (c : Context) (s : Slot) → is_other G s.kind ≡ true → is_result_shape (shape_of G c s) ≡ false
unfolding shape_of
free_shape G c s h = kind_no c s.paired (kind_of G s.kind) h

free_alone : (G : Table) (ks : List ℕ) → list_all (is_other G) ks ≡ true → AreNoResults G (map alone ks)
free_alone G [] h = tt
free_alone G (k ∷ ks) h = (
  (λ c. free_shape G c (alone k) (and_left (is_other G k) (list_all (is_other G) ks) h)),
  free_alone G ks (and_right (is_other G k) (list_all (is_other G) ks) h),
)

free_bases : (G : Table) (name ks : List ℕ) → list_all (is_other G) ks ≡ true → AreNoResults G (bases name ks)
free_bases G name [] h = tt
free_bases G name (k ∷ ks) h = (
  (λ c. free_shape G c (record { kind = k; paired = bytes_eq name (codes "PairLiteralIntegerIdRef") })
      (and_left (is_other G k) (list_all (is_other G) ks) h)),
  free_bases G name ks (and_right (is_other G k) (list_all (is_other G) ks) h),
)

-- ---- parameters of enumerants

abbrev are_free : Table → Enumerant → Bool
are_free G e = list_all (is_other G) e.parameters

one_step : (G : Table) (a : Enumerant) (es : List Enumerant) (x : ℕ) (ks : List ℕ) (b : Bool)
    → list_all (is_other G) a.parameters ≡ true → (parameters_of es x ≡ Some ks → list_all (is_other G) ks ≡ true)
    → option_map (λ e. e.parameters) (if b then Some a else first_with (λ e. e.value) x es) ≡ Some ks
    → list_all (is_other G) ks ≡ true
one_step G a es x ks true h later e = ap (list_all (is_other G)) (sym (some_same e)) ∙ h
one_step G a es x ks false h later e = later e

one_free : (G : Table) (es : List Enumerant) (x : ℕ) (ks : List ℕ) → list_all (are_free G) es ≡ true
    → parameters_of es x ≡ Some ks → list_all (is_other G) ks ≡ true
one_free G [] x ks h e = not_some ks e
one_free G (a ∷ es) x ks h e =
    one_step G a es x ks (nat_eq a.value x) (and_left (are_free G a) (list_all (are_free G) es) h)
    (λ f. one_free G es x ks (and_right (are_free G a) (list_all (are_free G) es) h) f) e

free-append : (G : Table) (ks js : List ℕ) → list_all (is_other G) ks ≡ true → list_all (is_other G) js ≡ true
    → list_all (is_other G) (ks ++ js) ≡ true
free-append G [] js h g = g
free-append G (k ∷ ks) js h g =
    rw (and_left (is_other G k) (list_all (is_other G) ks) h)
    (free-append G ks js (and_right (is_other G k) (list_all (is_other G) ks) h) g)

all_step : (G : Table) (ks : List ℕ) (o r : Option (List ℕ))
    → ((js : List ℕ) → o ≡ Some js → list_all (is_other G) js ≡ true)
    → ((js : List ℕ) → r ≡ Some js → list_all (is_other G) js ≡ true)
    → option_and_then (λ is. option_map (λ js. is ++ js) r) o ≡ Some ks → list_all (is_other G) ks ≡ true
all_step G ks None r first later e = not_some ks e
all_step G ks (Some js) None first later e = not_some ks e
all_step G ks (Some js) (Some is) first later e =
    ap (list_all (is_other G)) (sym (some_same e)) ∙ free-append G js is (first js refl) (later is refl)

all_free : (G : Table) (es : List Enumerant) (bs ks : List ℕ) → list_all (are_free G) es ≡ true
    → parameters_of_all es bs ≡ Some ks → list_all (is_other G) ks ≡ true
all_free G es [] ks h e = ap (list_all (is_other G)) (sym (some_same e))
all_free G es (b ∷ bs) ks h e =
    all_step G ks (parameters_of es b) (parameters_of_all es bs) (λ js f. one_free G es b js h f)
    (λ js f. all_free G es bs js h f) e

mask_free : (G : Table) (es : List Enumerant) (x : ℕ) (ks : List ℕ) → list_all (are_free G) es ≡ true
    → mask_parameters es x ≡ Some ks → list_all (is_other G) ks ≡ true
unfolding mask_parameters
mask_free G es x ks h e = all_free G es (set_bits x) ks h e

-- ---- what is inside a shape

data Inner : Type 0 where
  plain : Inner
  enums : List Enumerant → Inner
  slots : List Slot → Inner

abbrev inner : Shape → Inner
inner (AsValue es) = Inner.enums es
inner (AsMask es) = Inner.enums es
inner (AsParts ss) = Inner.slots ss
inner _ = Inner.plain

abbrev IsFreeInner : Table → Inner → Type 0
IsFreeInner G Inner.plain = Unit {0}
IsFreeInner G (Inner.enums es) = list_all (are_free G) es ≡ true
IsFreeInner G (Inner.slots ss) = AreNoResults G ss

id_plain : (a b : Bool) → inner (if a then AsType else (if b then AsResult else AsId)) ≡ Inner.plain
id_plain true b = refl
id_plain false true = refl
id_plain false false = refl

integer_plain : (b : Bool) (w : Option ℕ) → inner (if b then AsNumber w else AsWord) ≡ Inner.plain
integer_plain true w = refl
integer_plain false w = refl

literal_plain : (a b d e : Bool) (first : Shape) (w : Option ℕ) → inner first ≡ Inner.plain
    → inner (if a then first else (if b then AsWord
    else (if d then AsText else (if e then AsNumber w else AsNothing)))) ≡ Inner.plain
literal_plain true b d e first w h = h
literal_plain false true d e first w h = refl
literal_plain false false true e first w h = refl
literal_plain false false false true first w h = refl
literal_plain false false false false first w h = refl

category_free : (G : Table) (c : Context) (p : Bool) (s : Sort) (k : Category) → has_other_parts G s ≡ true
    → IsFreeInner G (inner (category_shape c p s k))
category_free G c p s category.Id h =
    rw (id_plain (bytes_eq s.kind.name (codes "IdResultType")) (bytes_eq s.kind.name (codes "IdResult"))) tt
category_free G c p s category.Literal h =
    rw (literal_plain (bytes_eq s.kind.name (codes "LiteralInteger"))
    (bytes_eq s.kind.name (codes "LiteralFloat") || bytes_eq s.kind.name (codes "LiteralExtInstInteger"))
    (bytes_eq s.kind.name (codes "LiteralString"))
    (bytes_eq s.kind.name (codes "LiteralContextDependentNumber")) (integer_shape c p) (context_width c)
    (integer_plain (p && nat_eq c.opcode SWITCH) (switch_width c))) tt
category_free G c p s category.ValueEnum h =
    and_left (list_all (are_free G) s.enumerants) (list_all (is_other G) s.kind.bases) h
category_free G c p s category.BitEnum h =
    and_left (list_all (are_free G) s.enumerants) (list_all (is_other G) s.kind.bases) h
category_free G c p s category.Composite h =
    free_bases G s.kind.name s.kind.bases (and_right (list_all (are_free G) s.enumerants)
    (list_all (is_other G) s.kind.bases) h)

kind_free : (G : Table) (c : Context) (p : Bool) (o : Option Sort) → if_any (has_other_parts G) o ≡ true
    → IsFreeInner G (inner (kind_shape c p o))
kind_free G c p None h = tt
kind_free G c p (Some s) h = category_free G c p s s.kind.category h

any_at : (test : Sort → Bool) (ss : List Sort) (k : ℕ) → list_all test ss ≡ true → if_any test (slice_get ss k) ≡ true
any_at test [] k h = refl
any_at test (s ∷ ss) zero h = and_left (test s) (list_all test ss) h
any_at test (s ∷ ss) (suc k) h = any_at test ss k (and_right (test s) (list_all test ss) h)

slot_free : (G : Table) (c : Context) (s : Slot) → list_all (has_other_parts G) G.kinds ≡ true
    → IsFreeInner G (inner (shape_of G c s))
unfolding shape_of
slot_free G c s h = kind_free G c s.paired (kind_of G s.kind) (any_at (has_other_parts G) G.kinds s.kind h)

takes_free : (G : Table) (k : ℕ) (sh : Shape) (o : Plain) (ws : List ℕ) (ss : List Slot) → Takes k sh o ws ss
    → IsFreeInner G (inner sh) → AreNoResults G ss
takes_free G k _ _ _ _ (Takes.result_type x) h = tt
takes_free G k _ _ _ _ (Takes.result x) h = tt
takes_free G k _ _ _ _ (Takes.id x) h = tt
takes_free G k _ _ _ _ (Takes.word x) h = tt
takes_free G k _ _ _ _ (Takes.narrow w x n) h = tt
takes_free G k _ _ _ _ (Takes.wide w x y n) h = tt
takes_free G k _ _ _ _ (Takes.text s ws p n z v) h = tt
takes_free G k _ _ _ _ (Takes.value es x ks n) h = free_alone G ks (one_free G es x ks h n)
takes_free G k _ _ _ _ (Takes.mask es x ks n) h = free_alone G ks (mask_free G es x ks h n)

parts_free : (G : Table) (sh : Shape) (ss : List Slot) → sh ≡ AsParts ss → IsFreeInner G (inner sh) → AreNoResults G ss
parts_free G sh ss e h = rw e at h

pub free_tidy : (G : Table) → list_all (has_other_parts G) G.kinds ≡ true → IsTidy G
free_tidy G h = record {
  parameters = λ c s o ws ss t. takes_free G s.kind (shape_of G c s) o ws ss t (slot_free G c s h);
  bases = λ c s ss e. parts_free G (shape_of G c s) ss e (slot_free G c s h);
}
