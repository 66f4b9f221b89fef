-- What holds of the declared types of several ids, told by tests on each.
use Rattle.std.proofs.Common.{◌≡◌, ℕ, ◌+◌, List, [], ◌∷◌, Option, Some, None, Bool, true, false, nat_eq, ◌&&◌, length}
use Rattle.std.proofs.Common.{option_and_then, option_map, ◌↔◌, refl, sym, ◌∙◌, ap, arith}
use Rattle.std.specs.Prelude.{IsSomeAnd}
use Rattle.std.specs.List.{AllByRecursion, list_all}
use Rattle.std.proofs.lemmas.Bool.{eqb-true, eq-eqb}
use Rattle.std.proofs.lemmas.Option.{none-some}
use Rattle.spv_module.specs.Operand.{PlainInst}
use Rattle.spv_module.specs.Width.{type_of}
use Rattle.spv_type_forms.specs.declared.form.Form.{Form}
use Rattle.spv_type_forms.specs.declared.form.Form.TheVariants as form
use Rattle.spv_type_forms.specs.declared.form.Scalar.TheVariants as scalar
use Rattle.spv_type_forms.specs.Form.{form_of}
use Rattle.spv_type_forms.specs.Types.{IsSomeInt, PointsTo, pointee_in}
use Rattle.spv_type_forms.specs.Parts.{part_of, count_of, ArePartsFrom, AreParts}
use Rattle.spv_type_forms.specs.inner.Tests.{passes, are_same, are_parts_from, is_int_form, has_int, has_type}
use Rattle.spv_type_forms.specs.inner.Tests.{has_pointee}
use Rattle.spv_type_forms.specs.Values.{types_of}

pub both : (a b : Bool) → a && b ≡ true → (a ≡ true) × (b ≡ true)
both true b h = (refl, h)
both false b h = absurd (let no : false ≡ true = h in cc)

and_yes : (a b : Bool) → a ≡ true → b ≡ true → a && b ≡ true
and_yes a b e f = rw (e, f) refl

-- one id more: the test of its type, and what holds of the types of the others
one_more : (P : ℕ → Type 0) (p : ℕ → Bool) → ((t : ℕ) → (p t ≡ true) ↔ P t)
    → (o : Option ℕ) (os : Option (List ℕ)) (b : Bool) → (b ≡ true) ↔ IsSomeAnd os (AllByRecursion P)
    → (passes p o && b ≡ true) ↔ IsSomeAnd (option_and_then (λ t. option_map (λ ts. t ∷ ts) os) o) (AllByRecursion P)
one_more P p d None os b h = (λ e. cc, λ n. absurd n)
one_more P p d (Some t) None b h = (λ e. h.0 (both (p t) b e).1, λ n. absurd n)
one_more P p d (Some t) (Some ts) b h =
    (λ e. let two = both (p t) b e in ((d t).0 two.0, h.0 two.1), λ a. and_yes (p t) b ((d t).1 a.0) (h.1 a.1))

pub all_typed : (is : List PlainInst) (P : ℕ → Type 0) (p : ℕ → Bool) → ((t : ℕ) → (p t ≡ true) ↔ P t) → (xs : List ℕ)
    → (list_all (λ x. passes p (type_of is x)) xs ≡ true) ↔ IsSomeAnd (types_of is xs) (AllByRecursion P)
all_typed is P p d [] = (λ _. tt, λ _. refl)
all_typed is P p d (x ∷ xs) =
    one_more P p d (type_of is x) (types_of is xs) (list_all (λ y. passes p (type_of is y)) xs) (all_typed is P p d xs)

-- one part more
one_part : (is : List PlainInst) (r k : ℕ) (part o : Option ℕ) (os : Option (List ℕ)) (b : Bool) → part_of is r k ≡ part
    → (b ≡ true) ↔ IsSomeAnd os (ArePartsFrom is r (k + 1))
    → (are_same part o && b ≡ true) ↔ IsSomeAnd (option_and_then (λ t. option_map (λ ts. t ∷ ts) os) o)
    (ArePartsFrom is r k)
one_part is r k None None os b e h = (λ y. cc, λ n. absurd n)
one_part is r k None (Some t) None b e h = (λ y. cc, λ n. absurd n)
one_part is r k None (Some t) (Some ts) b e h =
    (λ y. absurd (let no : false ≡ true = y in cc), λ a. absurd (none-some t (sym e ∙ a.0)))
one_part is r k (Some n) None os b e h = (λ y. cc, λ n. absurd n)
one_part is r k (Some n) (Some t) None b e h = (λ y. h.0 (both (nat_eq t n) b y).1, λ n. absurd n)
one_part is r k (Some n) (Some t) (Some ts) b e h = (
  λ y. let two = both (nat_eq t n) b y in
      let same : t ≡ n = eqb-true t n two.0 in
      (e ∙ ap Some (sym same), h.0 two.1),
  λ a. let same : t ≡ n = cc (e, a.0) in
      and_yes (nat_eq t n) b (eq-eqb t n same) (h.1 a.1),
)

pub parts_typed : (is : List PlainInst) (r k : ℕ) (xs : List ℕ)
    → (are_parts_from is r k xs ≡ true) ↔ IsSomeAnd (types_of is xs) (ArePartsFrom is r k)
parts_typed is r k [] = (λ _. tt, λ _. refl)
parts_typed is r k (x ∷ xs) =
    one_part is r k (part_of is r k) (type_of is x) (types_of is xs) (are_parts_from is r (k + 1) xs) refl
    (parts_typed is r (k + 1) xs)

length_one : (o : Option ℕ) (os : Option (List ℕ)) (n : ℕ) (ts : List ℕ)
    → ((us : List ℕ) → os ≡ Some us → length us ≡ n)
    → option_and_then (λ t. option_map (λ us. t ∷ us) os) o ≡ Some ts → length ts ≡ 1 + n
length_one None os n ts h e = absurd (none-some ts e)
length_one (Some t) None n ts h e = absurd (none-some ts e)
length_one (Some t) (Some us) n ts h e =
    let same : t ∷ us ≡ ts = cc in
    rw (← same) (omega (arith, h us refl))

-- as many types as ids
pub length-types_of : (is : List PlainInst) (xs ts : List ℕ) → types_of is xs ≡ Some ts → length ts ≡ length xs
length-types_of is [] ts e = let same : [] ≡ ts = cc in rw (← same) refl
length-types_of is (x ∷ xs) ts e =
    length_one (type_of is x) (types_of is xs) (length xs) ts (length-types_of is xs) e ∙ omega arith

-- a fact of the types, and one of each list of types that there may be
pub and_each : {T : Type 0} (P Q : T → Type 0) (R : Type 0) (o : Option T) → ((t : T) → o ≡ Some t → (P t ↔ (R × Q t)))
    → (R × IsSomeAnd o Q) ↔ IsSomeAnd o P
and_each P Q R None h = (λ p. p.1, λ n. absurd n)
and_each P Q R (Some t) h = ((h t refl).1, (h t refl).0)

pub fills_typed : (is : List PlainInst) (r : ℕ) (xs : List ℕ)
    → ((are_parts_from is r 0 xs ≡ true) × (count_of is r ≡ Some (length xs)))
    ↔ IsSomeAnd (types_of is xs) (AreParts is r)
fills_typed is r xs =
    let d = parts_typed is r 0 xs in
    let e = and_each (AreParts is r) (ArePartsFrom is r 0) (count_of is r ≡ Some (length xs)) (types_of is xs)
    (λ ts t. let l = length-types_of is xs ts t in (λ a. (a.0 ∙ ap Some l, a.1), λ b. (b.0 ∙ ap Some (sym l), b.1))) in
    (λ p. e.0 (p.1, d.0 p.0), λ q. let both = e.1 q in (d.1 both.1, both.0))

-- is a type an int
int_in_form : (o : Option Form) → (is_int_form o ≡ true) ↔ ((w : ℕ) × (o ≡ Some (form.Scalar (scalar.Int w))))
int_in_form None = (λ y. cc, λ q. cc)
int_in_form (Some (form.Scalar (scalar.Int w))) = (λ y. (w, refl), λ q. refl)
int_in_form (Some (form.Scalar (scalar.Float w))) = (λ y. cc, λ q. cc)
int_in_form (Some (form.Scalar scalar.Bool)) = (λ y. cc, λ q. cc)
int_in_form (Some form.Void) = (λ y. cc, λ q. cc)
int_in_form (Some (form.Vector a b)) = (λ y. cc, λ q. cc)
int_in_form (Some (form.Array a b)) = (λ y. cc, λ q. cc)
int_in_form (Some form.Struct) = (λ y. cc, λ q. cc)
int_in_form (Some form.Opaque) = (λ y. cc, λ q. cc)
int_in_form (Some (form.Pointer a b)) = (λ y. cc, λ q. cc)
int_in_form (Some form.Function) = (λ y. cc, λ q. cc)
int_in_form (Some (form.Object o)) = (λ y. cc, λ q. cc)
int_in_form (Some (form.SampledImage i)) = (λ y. cc, λ q. cc)

pub ints_typed : (is : List PlainInst) (xs : List ℕ)
    → (list_all (has_int is) xs ≡ true) ↔ IsSomeAnd (types_of is xs) (AllByRecursion (IsSomeInt is))
ints_typed is xs = all_typed is (IsSomeInt is) (λ t. is_int_form (form_of is t)) (λ t. int_in_form (form_of is t)) xs

-- the same type for each
pub all_same : (is : List PlainInst) (r : ℕ) (xs : List ℕ)
    → (list_all (has_type is r) xs ≡ true) ↔ IsSomeAnd (types_of is xs) (AllByRecursion (λ t. t ≡ r))
all_same is r xs = all_typed is (λ t. t ≡ r) (λ t. nat_eq t r) (λ t. (eqb-true t r, eq-eqb t r)) xs

same_in : (o : Option ℕ) (t : ℕ) → (passes (λ u. nat_eq u t) o ≡ true) ↔ (o ≡ Some t)
same_in None t = (λ y. absurd (let no : false ≡ true = y in cc), λ e. absurd (none-some t e))
same_in (Some u) t = (λ y. ap Some (eqb-true u t y), λ e. eq-eqb u t (let same : u ≡ t = cc in same))

-- the type that a pointer type points to, for each
pub all_pointees_typed : (is : List PlainInst) (r : ℕ) (xs : List ℕ)
    → (list_all (has_pointee is r) xs ≡ true) ↔ IsSomeAnd (types_of is xs) (AllByRecursion (PointsTo is r))
all_pointees_typed is r xs =
    all_typed is (PointsTo is r) (λ t. passes (λ u. nat_eq u t) (pointee_in (form_of is r)))
    (λ t. same_in (pointee_in (form_of is r)) t) xs
