-- What the indexes of an access chain lead to, as a function, is the same.
use Rattle.std.proofs.Common.{◌≡◌, ◌≢◌, ◌⊎◌, inl, inr, ℕ, List, [], ◌∷◌, Option, Some, None, Bool, true, false, ◌&&◌}
use Rattle.std.proofs.Common.{if◌then◌else◌, ◌↔◌, refl, option_and_then}
use Rattle.std.specs.List.{list_all}
use Rattle.std.proofs.lemmas.Option.{option_and_then_some, none-some}
use Rattle.spv_module.specs.Operand.{PlainInst}
use Rattle.spv_type_forms.specs.declared.form.Form.{Form}
use Rattle.spv_type_forms.specs.declared.form.Form.TheVariants as form
use Rattle.spv_type_forms.specs.Form.{form_of}
use Rattle.spv_type_forms.specs.Parts.{part_in, part_of, constant_of}
use Rattle.spv_type_forms.specs.Reach.{ReachesType, ChoosesParts}
use Rattle.spv_type_forms.specs.inner.Reach.{LeadsToType}
use Rattle.spv_type_forms.specs.inner.Tests.{has_int}
use Rattle.spv_type_forms.specs.inner.Walk.{choice_in, choice, choices, int_choices}

-- one index: a member of a struct, or any part of another type
abbrev OneChoice : List PlainInst → ℕ → ℕ → ℕ → Type 0
OneChoice is t x v =
    ((k : ℕ) × (form_of is t ≡ Some form.Struct) × (constant_of is x ≡ Some k) × (part_of is t k ≡ Some v))
    ⊎ ((form_of is t ≢ Some form.Struct) × (part_of is t 0 ≡ Some v))

one_of : (is : List PlainInst) (t x v : ℕ) (f : Form) → form_of is t ≡ Some f → choice_in is t x f ≡ Some v
    → OneChoice is t x v
one_of is t x v form.Struct e h = option_and_then_some (part_of is t) (constant_of is x) v h (λ k c p. inl (k, e, c, p))
one_of is t x v form.Void e h = inr ((λ s. cc), h)
one_of is t x v (form.Scalar s) e h = inr ((λ s. cc), h)
one_of is t x v (form.Vector a b) e h = inr ((λ s. cc), h)
one_of is t x v (form.Array a b) e h = inr ((λ s. cc), h)
one_of is t x v form.Opaque e h = inr ((λ s. cc), h)
one_of is t x v (form.Pointer a b) e h = inr ((λ s. cc), h)
one_of is t x v form.Function e h = inr ((λ s. cc), h)
one_of is t x v (form.Object o) e h = inr ((λ s. cc), h)
one_of is t x v (form.SampledImage i) e h = inr ((λ s. cc), h)

led_to : (is : List PlainInst) (xs : List ℕ) (t u : ℕ) → choices is xs t ≡ Some u → LeadsToType is t xs u
led_to is [] t u e = ([], ChoosesParts.none t, rw (let s : t ≡ u = cc in s) (ReachesType.itself u))
led_to is (x ∷ xs) t u e =
    option_and_then_some (λ v. choices is xs v) (choice is t x) u e (λ v i w.
    let rest = led_to is xs v u w in
    option_and_then_some (choice_in is t x) (form_of is t) v i (λ f g h.
    elim (one_of is t x v f g h) as (λ _. LeadsToType is t (x ∷ xs) u) [
      | inl a ↦ (
        a.0 ∷ rest.0,
        ChoosesParts.member t x a.0 v xs rest.0 a.1 a.2 a.3 rest.1,
        ReachesType.by_part t a.0 v u rest.0 a.3 rest.2,
      )
      | inr b ↦ (
        0 ∷ rest.0,
        ChoosesParts.element t x 0 v xs rest.0 b.0 b.1 rest.1,
        ReachesType.by_part t 0 v u rest.0 b.1 rest.2,
      )
    ]))

-- at another type than a struct all parts have one type
any_part : (is : List PlainInst) (t x k u : ℕ) (f : Form) → form_of is t ≡ Some f → form_of is t ≢ Some form.Struct
    → part_in is t k f ≡ Some u → choice is t x ≡ Some u
any_part is t x k u form.Struct e n h = absurd (n e)
any_part is t x k u form.Void e n h = absurd (none-some u h)
any_part is t x k u (form.Scalar s) e n h = absurd (none-some u h)
any_part is t x k u (form.Vector a b) e n h = rw (e, e) h
any_part is t x k u (form.Array a b) e n h = rw (e, e) h
any_part is t x k u form.Opaque e n h = absurd (none-some u h)
any_part is t x k u (form.Pointer a b) e n h = absurd (none-some u h)
any_part is t x k u form.Function e n h = absurd (none-some u h)
any_part is t x k u (form.Object o) e n h = absurd (none-some u h)
any_part is t x k u (form.SampledImage i) e n h = absurd (none-some u h)

leading : (is : List PlainInst) (xs ks : List ℕ) (t u : ℕ) → ChoosesParts is t xs ks → ReachesType is t ks u
    → choices is xs t ≡ Some u
leading is [] [] t u (ChoosesParts.none _) (ReachesType.itself _) = refl
leading is [] (k ∷ ks) t u c _ = elim c [ ]
leading is (x ∷ xs) [] t u c _ = elim c [ ]
leading is (x ∷ xs) (k ∷ ks) t u (ChoosesParts.member _ _ _ v _ _ s c p rest) (ReachesType.by_part _ _ w _ _ q r) =
    let same : w ≡ v = cc in
    let e : choice is t x ≡ Some v = rw (s, c) p in
    rw e (leading is xs ks v u rest (rw (← same) r))
leading is (x ∷ xs) (k ∷ ks) t u (ChoosesParts.element _ _ _ v _ _ n p rest) (ReachesType.by_part _ _ w _ _ q r) =
    let same : w ≡ v = cc in
    let e : choice is t x ≡ Some v = option_and_then_some (part_in is t k) (form_of is t) v p
    (λ f g h. any_part is t x k v f g n h) in
    rw e (leading is xs ks v u rest (rw (← same) r))

-- the walk decides
pub choices_decide : (is : List PlainInst) (xs : List ℕ) (t u : ℕ) → (choices is xs t ≡ Some u) ↔ LeadsToType is t xs u
choices_decide is xs t u = (led_to is xs t u, λ l. leading is xs l.0 t u l.1 l.2)

-- one index more, which is an int
one_int : (b r : Bool) (o : Option ℕ) (f g : ℕ → Option ℕ) (u : ℕ)
    → ((v : ℕ) → (f v ≡ Some u) ↔ ((r ≡ true) × (g v ≡ Some u)))
    → ((if b then option_and_then f o else None) ≡ Some u) ↔ ((b && r ≡ true) × (option_and_then g o ≡ Some u))
one_int true r None f g u h = (λ e. absurd (none-some u e), λ p. absurd (none-some u p.1))
one_int true r (Some v) f g u h = h v
one_int false r o f g u h = (λ e. absurd (none-some u e), λ p. absurd (let no : false ≡ true = p.0 in cc))

-- indexes that all are ints lead as others do
pub ints_choose : (is : List PlainInst) (xs : List ℕ) (t u : ℕ)
    → (int_choices is xs t ≡ Some u) ↔ ((list_all (has_int is) xs ≡ true) × (choices is xs t ≡ Some u))
ints_choose is [] t u = (λ e. (refl, e), λ p. p.1)
ints_choose is (x ∷ xs) t u =
    one_int (has_int is x) (list_all (has_int is) xs) (choice is t x) (λ v. int_choices is xs v)
    (λ v. choices is xs v) u (λ v. ints_choose is xs v u)
