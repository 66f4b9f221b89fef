-- Uses that are not in order.
use Rattle.std.proofs.Common.{◌≡◌, ◌<◌, ◌≤◌, ◌⊎◌, ◌∙◌, ℕ, List, Bool, true, false, ◌&&◌, ◌||◌, Option, Some, None, refl}
use Rattle.std.proofs.Common.{sym, subst, inl, inr, length, arith, nat_eq, MatchBool}
use Rattle.std.specs.Prelude.{slice_get}
use Rattle.std.specs.Option.{is_some}
use Rattle.std.proofs.lemmas.Bool.Decides.{nat_tests}
use Rattle.std.proofs.lemmas.Option.{slice_get_within}
use Rattle.spv_table.specs.Table.{Table}
use Rattle.spv_module.specs.Operand.{PlainInst}
use Rattle.spv_module.specs.declared.fault.Rule.{Rule}
use Rattle.spv_module.specs.declared.fault.Rule.TheVariants.{D4}
use Rattle.spv_module.specs.declared.opcode.TheConstants as opcode
use Rattle.spv_layout.specs.declared.form.Role.{Role}
use Rattle.spv_layout.specs.First.{IsFirst}
use Rattle.spv_layout.specs.Place.{IsOfSection}
use Rattle.spv_layout.specs.Shape.{IsUse}
use Rattle.spv_layout.specs.Stage.{of_ids}
use Rattle.spv_layout.proofs.Places.{section_same}
use Rattle.spv_ids.specs.Definition.{IsDefinedAt, IsUsedAt}
use Rattle.spv_ids.specs.Order.{HasOpcode, Announces, IsInOrder, IsOrdered}
use Rattle.spv_ids.specs.Broken.{Broken}
use Rattle.spv_ids.specs.inner.Test.{early_test}
use Rattle.spv_evidence.specs.declared.evidence.Evidence.TheVariants.{Defined}
use Rattle.spv_form_evidence.specs.declared.ids.order.Site.{Site}
use Rattle.spv_form_evidence.specs.ids.Evidence.{IsEvidence}
use Rattle.spv_form_evidence.specs.declared.ids.kept.Kept.{Kept}
use Rattle.spv_form_evidence.specs.ids.inner.Known.{kept, IsFirstOne, IsFirstBefore, AreFirst}
use Rattle.spv_form_evidence.specs.ids.inner.Order.{IsAnnounced, IsAnnouncedBefore, AreAnnounced, IsSite, IsDisordered}
use Rattle.spv_form_evidence.specs.ids.inner.Uses.{HasUse}
use Rattle.spv_form_evidence.proofs.lemmas.ids.Using.{same_inst, used_within}
use Rattle.spv_form_evidence.proofs.lemmas.ids.Keeping.{kept_within}
use Rattle.spv_form_evidence.proofs.lemmas.ids.Telling.{in_range, not_undefined}

eq_tells : (a b : ℕ) → nat_eq a b ≡ true → a ≡ b
eq_tells a b h = grind (arith, nat_tests)

ne_tells : (a b : ℕ) → nat_eq a b ≡ false → a ≡ b → ⊥
ne_tells a b h e = grind (arith, nat_tests)

eq_yes : (a b : ℕ) → a ≡ b → nat_eq a b ≡ true
eq_yes a b h = grind (arith, nat_tests)

-- what the test of an early use says

test_yes : (a b c d : Bool) → a && (b || (c && d)) ≡ true → (a ≡ true) × ((b ≡ true) ⊎ ((c ≡ true) × (d ≡ true)))
test_yes true true c d h = (refl, inl refl)
test_yes true false true true h = (refl, inr (refl, refl))
test_yes true false true false h = cc
test_yes true false false d h = cc
test_yes false b c d h = cc

test_no : (a b c d : Bool) → a && (b || (c && d)) ≡ false → a ≡ true → (b ≡ false) × (c ≡ true → d ≡ false)
test_no true true c d h e = cc
test_no true false true d h e = (refl, λ g. h)
test_no true false false d h e = (refl, λ g. cc)
test_no false b c d h e = cc

announced_some : (is : List PlainInst) (n x : ℕ) (o : Option ℕ) → IsAnnouncedBefore is n x o → is_some o ≡ true
    → (m : ℕ) × IsAnnounced is n x m
announced_some is n x None f h = cc
announced_some is n x (Some m) f h = (m, f)

not_announced : (is : List PlainInst) (n x m : ℕ) (o : Option ℕ) → IsAnnouncedBefore is n x o → is_some o ≡ false
    → m < n → ¬ (Announces is m x)
not_announced is n x m None f e l = f m l
not_announced is n x m (Some k) f e l = cc

is_early : (is : List PlainInst) (bound n x : ℕ) (site : Site) (l : Kept) → IsSite is n site → AreAnnounced bound is n l
    → x < bound → early_test site.section site.opcode (kept l x) ≡ true → IsInOrder is n x
is_early is bound n x site l s a b h =
    let t = test_yes (nat_eq site.section 11) (nat_eq site.opcode opcode.TYPE_FORWARD_POINTER)
    (nat_eq site.opcode opcode.TYPE_STRUCT) (is_some (kept l x)) h in
    let c = subst (λ m. IsOfSection is n m) (eq_tells site.section 11 t.0) s.section in
    elim t.1 [
      | inl e ↦ IsInOrder.announced c (subst (λ m. HasOpcode is n m)
          (eq_tells site.opcode opcode.TYPE_FORWARD_POINTER e) s.opcode)
      | inr e ↦
          let m = announced_some is n x (kept l x) (a.each x b) e.1 in
          IsInOrder.member m.0 c (subst (λ o. HasOpcode is n o) (eq_tells site.opcode opcode.TYPE_STRUCT e.0) s.opcode)
          m.1.below m.1.there
    ]

opcode_same : (is : List PlainInst) (n a b : ℕ) → HasOpcode is n a → HasOpcode is n b → a ≡ b
opcode_same is n a b h g =
    let e : h.inst ≡ g.inst = same_inst is n h.inst g.inst h.there g.there in
    let r = rw e at h.same in
    sym r ∙ g.same

is_late : (is : List PlainInst) (bound n x : ℕ) (site : Site) (l : Kept) → IsSite is n site → AreAnnounced bound is n l
    → x < bound → ((m : ℕ) → m < n → ¬ (IsDefinedAt is x m))
    → early_test site.section site.opcode (kept l x) ≡ false → ¬ (IsInOrder is n x)
is_late is bound n x site l s a b f h (IsInOrder.lower m k d) = f m k d
is_late is bound n x site l s a b f h (IsInOrder.announced c o) =
    let e = section_same is n site.section 11 s.section c in
    let t = test_no (nat_eq site.section 11) (nat_eq site.opcode opcode.TYPE_FORWARD_POINTER)
    (nat_eq site.opcode opcode.TYPE_STRUCT) (is_some (kept l x)) h (eq_yes site.section 11 e) in
    ne_tells site.opcode opcode.TYPE_FORWARD_POINTER t.0
    (opcode_same is n site.opcode opcode.TYPE_FORWARD_POINTER s.opcode o)
is_late is bound n x site l s a b f h (IsInOrder.member m c o k d) =
    let e = section_same is n site.section 11 s.section c in
    let t = test_no (nat_eq site.section 11) (nat_eq site.opcode opcode.TYPE_FORWARD_POINTER)
    (nat_eq site.opcode opcode.TYPE_STRUCT) (is_some (kept l x)) h (eq_yes site.section 11 e) in
    not_announced is n x m (kept l x) (a.each x b)
    (t.1 (eq_yes site.opcode opcode.TYPE_STRUCT (opcode_same is n site.opcode opcode.TYPE_STRUCT s.opcode o))) k d

pub order_by : (is : List PlainInst) (bound n x m : ℕ) (site : Site) (l : Kept) (b : Bool) → IsSite is n site
    → AreAnnounced bound is n l → x < bound → IsFirstOne is (length is) x m → site.inst ≤ m
    → b ≡ early_test site.section site.opcode (kept l x) → MatchBool b (IsInOrder is n x) (¬ (IsInOrder is n x))
order_by is bound n x m site l true s a w f h e = is_early is bound n x site l s a w (sym e)
order_by is bound n x m site l false s a w f h e =
    is_late is bound n x site l s a w (λ k g d. let q = s.inst in f.first k (omega arith) d) (sym e)

pub order_lower : (is : List PlainInst) (n x m : ℕ) (site : Site) → IsSite is n site → IsFirstOne is (length is) x m
    → m < site.inst → IsInOrder is n x
order_lower is n x m site s f l = let q = s.inst in IsInOrder.lower m (omega arith) f.there

-- The first definition that is kept.

pub first_of : (bound : ℕ) (is : List PlainInst) (n x m : ℕ) (l : Kept) → AreFirst bound is n l → x < bound
    → kept l x ≡ Some m → IsFirstOne is n x m
first_of bound is n x m l a b e = subst (λ o. IsFirstBefore is n x o) e (a.each x b)

pub none_of : (bound : ℕ) (is : List PlainInst) (x : ℕ) (l : Kept) → AreFirst bound is (length is) l → x < bound
    → kept l x ≡ None → (m : ℕ) → ¬ (IsDefinedAt is x m)
none_of bound is x l a b e m d =
    let f : IsFirstBefore is (length is) x None = subst (λ o. IsFirstBefore is (length is) x o) e (a.each x b) in
    f m (slice_get_within is m d.inst d.there) d

pub disordered_here : (G : Table) (bound : ℕ) (is : List PlainInst) (n : ℕ) (i : PlainInst) (k x m : ℕ) (r : Role)
    (l : Kept) → IsUse G i k x r → AreFirst bound is (length is) l → kept l x ≡ Some m
    → (x < bound → IsFirstOne is (length is) x m → ¬ (IsInOrder is n x)) → HasUse G i (IsDisordered bound is n m) k
disordered_here G bound is n i k x m r l u a e h =
    let c = a.same in
    let w = kept_within l x m e in
    let b : x < bound = omega arith in
    let f = first_of bound is (length is) x m l a b e in
    record { id = x; role = r; used = u; holds = record { below = b; defined = f.there; not = h b f } }

-- What is shown, and that some operand shows it.

pub disordered_shows : (G : Table) (bound : ℕ) (is : List PlainInst) (n : ℕ) (i : PlainInst) (k m : ℕ)
    → slice_get is n ≡ Some i → IsOrdered is n → HasUse G i (IsDisordered bound is n m) k
    → IsEvidence G bound is D4 n (Defined k m)
disordered_shows G bound is n i k m t o u =
    IsEvidence.not_in_order n k u.id m u.role
    (record { inst = i; there = t; used = u.used }) o u.holds.not u.holds.defined

pub ordered : (G : Table) (bound : ℕ) (is : List PlainInst) (r : Rule) (n : ℕ) → r ≡ D4 → Broken G bound is r n
    → IsOrdered is n
ordered G bound is _ _ q (Broken.not_in_order n k y r u o h) = o
ordered G bound is _ _ q _ = cc

some_by : (G : Table) (bound : ℕ) (is : List PlainInst) (r : Rule) (n : ℕ) (i : PlainInst) → r ≡ D4
    → slice_get is n ≡ Some i → Broken G bound is r n
    → ((k x : ℕ) (q : Role) → IsUsedAt G is n k x q → x < bound)
    → ((k x : ℕ) (q : Role) → IsUsedAt G is n k x q → ((m : ℕ) → ¬ (IsDefinedAt is x m)) → ⊥)
    → ((k : ℕ) → k < length i.operands → (m : ℕ) → ¬ (HasUse G i (IsDisordered bound is n m) k)) → ⊥
some_by G bound is _ _ i q t (Broken.not_in_order n k x r u o h) w v none =
    let e : u.inst ≡ i = same_inst is n u.inst i u.there t in
    let p : IsUse G i k x r = subst (λ j. IsUse G j k x r) e u.used in
    v k x r u (λ m d. none k (used_within G i k x r p) m
    (record { id = x; role = r; used = p; holds = record { below = w k x r u; defined = d; not = h } }))
some_by G bound is _ _ i q t _ w v none = cc

pub some_disordered : (G : Table) (bound : ℕ) (is : List PlainInst) (n : ℕ) (i : PlainInst) → slice_get is n ≡ Some i
    → IsFirst (Broken G bound is) of_ids D4 n
    → ((k : ℕ) → k < length i.operands → (m : ℕ) → ¬ (HasUse G i (IsDisordered bound is n m) k)) → ⊥
some_disordered G bound is n i t f none =
    some_by G bound is D4 n i refl t f.broken (in_range G bound is D4 n f (omega arith))
    (not_undefined G bound is D4 n f (omega arith)) none
