-- Uses that are not in scope.
use Rattle.std.proofs.Common.{◌≡◌, ◌<◌, ◌+◌, ◌∙◌, ℕ, List, Option, Some, None, refl, sym, ap, subst, inl, inr, length}
use Rattle.std.proofs.Common.{arith}
use Rattle.std.specs.Prelude.{slice_get}
use Rattle.std.proofs.lemmas.Bool.{cases_eq}
use Rattle.std.proofs.lemmas.Option.{slice_get_within}
use Rattle.spv_table.specs.Table.{Table}
use Rattle.spv_module.specs.Operand.{PlainInst, result_in}
use Rattle.spv_module.specs.declared.fault.Rule.{Rule}
use Rattle.spv_module.specs.declared.fault.Rule.TheVariants.{D5}
use Rattle.spv_layout.specs.declared.form.Role.{Role}
use Rattle.spv_layout.specs.declared.place.Place.{Place}
use Rattle.spv_layout.specs.First.{IsFirst}
use Rattle.spv_layout.specs.Place.{IsOfFunction}
use Rattle.spv_layout.specs.Plan.{IsPlan}
use Rattle.spv_layout.specs.Shape.{IsUse}
use Rattle.spv_layout.specs.Stage.{of_ids}
use Rattle.spv_layout.proofs.Places.{function_same}
use Rattle.spv_ids.specs.Definition.{IsDefinedAt, IsUsedAt, IsLocalTo}
use Rattle.spv_ids.specs.Order.{IsInScope, IsScoped}
use Rattle.spv_ids.specs.Broken.{Broken}
use Rattle.spv_ids.specs.inner.Known.{IsHome, IsFunctionOf}
use Rattle.spv_evidence.specs.declared.evidence.Evidence.TheVariants.{Local}
use Rattle.spv_form_evidence.specs.ids.Evidence.{IsEvidence, IsLocalBy}
use Rattle.spv_form_evidence.specs.declared.ids.kept.Kept.{Kept}
use Rattle.spv_form_evidence.specs.ids.inner.Known.{kept, Puts}
use Rattle.spv_form_evidence.specs.ids.inner.Scope.{IsLocalOne, IsLocalBefore, AreLocal, IsUnscoped}
use Rattle.spv_form_evidence.specs.ids.inner.Uses.{HasUse}
use Rattle.spv_form_evidence.proofs.lemmas.ids.Using.{same_inst, used_within}
use Rattle.spv_form_evidence.proofs.lemmas.ids.Rules.{defined_here, result_here}
use Rattle.spv_form_evidence.proofs.lemmas.ids.Keeping.{below_or, kept_on, kept_put, kept_within}
use Rattle.spv_form_evidence.proofs.lemmas.ids.Telling.{in_range}
use Rattle.spv_form_evidence.proofs.lemmas.ids.Ending.{no_result_at_end}

-- Functions of instructions.

pub home_here : (G : Table) (is : List PlainInst) (places : List Place) (x m f : ℕ) → IsPlan G is places
    → IsDefinedAt is x m → IsOfFunction is m f → (f ≡ m → ⊥) → IsHome is m f
home_here G is places x m f p d o n =
    let u = o.begun.up_to in
    record { of = o; after = omega (arith, n); before = no_result_at_end G is m x d (p.fits m d.inst d.there) }

pub no_home : (is : List PlainInst) (m g f : ℕ) → g ≡ m → IsOfFunction is m g → ¬ (IsHome is m f)
no_home is m g f e o h = let q = function_same is m g f o h.of in let a = h.after in absurd (omega (arith, e, q))

home_same : (is : List PlainInst) (m f g : ℕ) → IsHome is m f → IsHome is m g → f ≡ g
home_same is m f g h k = function_same is m f g h.of k.of

-- Local definitions: one instruction more.

local_other : (is : List PlainInst) (here : Option ℕ) (n x : ℕ) (o : Option ℕ)
    → (IsDefinedAt is x n → (f : ℕ) → ¬ (IsHome is n f)) → IsLocalBefore is here n x o
    → IsLocalBefore is here (n + 1) x o
local_other is here n x None h p =
    λ k f l d g. below_or ⊥ k n l (λ b. p k f b d g)
    (λ e. h (subst (λ m. IsDefinedAt is x m) e d) f (subst (λ m. IsHome is m f) e g))
local_other is here n x (Some m) h p = record {
  there = p.there;
  function = p.function;
  home = p.home;
  same = λ k f l d g e. below_or (p.function ≡ f) k n l (λ b. p.same k f b d g e)
      (λ q. absurd (h (subst (λ m. IsDefinedAt is x m) q d) f (subst (λ m. IsHome is m f) q g)));
}

-- a definition of the function `here`
local_new : (is : List PlainInst) (here : Option ℕ) (n x f : ℕ) → IsDefinedAt is x n → IsHome is n f → here ≡ Some f
    → IsLocalBefore is here (n + 1) x (Some n)
local_new is here n x f d h e =
    record { there = d; function = f; home = h; same = λ k g l c q s. let r : Some f ≡ Some g = sym e ∙ s in cc }

-- the first one that is local
local_first : (is : List PlainInst) (here : Option ℕ) (n x f : ℕ) → IsDefinedAt is x n → IsHome is n f
    → IsLocalBefore is here n x None → IsLocalBefore is here (n + 1) x (Some n)
local_first is here n x f d h p = record {
  there = d;
  function = f;
  home = h;
  same = λ k g l c q s. below_or (f ≡ g) k n l (λ b. absurd (p k g b c q))
      (λ e. home_same is n f g h (subst (λ m. IsHome is m g) e q));
}

-- one that is local to another function, where one is kept already
local_more : (is : List PlainInst) (here : Option ℕ) (n x f : ℕ) (o : Option ℕ) → IsHome is n f → (here ≡ Some f → ⊥)
    → (o ≡ None → ⊥) → IsLocalBefore is here n x o → IsLocalBefore is here (n + 1) x o
local_more is here n x f None h e s p = absurd (s refl)
local_more is here n x f (Some m) h e s p = record {
  there = p.there;
  function = p.function;
  home = p.home;
  same = λ k g l d q r. below_or (p.function ≡ g) k n l (λ b. p.same k g b d q r)
      (λ c. let t = home_same is n f g h (subst (λ m. IsHome is m g) c q) in absurd (e (r ∙ ap Some (sym t))));
}

not_result : (is : List PlainInst) (n x id : ℕ) (i : PlainInst) → slice_get is n ≡ Some i
    → result_in i.operands ≡ Some id → (x ≡ id → ⊥) → ¬ (IsDefinedAt is x n)
not_result is n x id i t r e d = let q = result_here is n x i t d in let s : Some x ≡ Some id = sym q ∙ r in e cc

pub local_put : (bound : ℕ) (is : List PlainInst) (here : Option ℕ) (n id f : ℕ) (i : PlainInst) (l m : Kept)
    → slice_get is n ≡ Some i → result_in i.operands ≡ Some id → IsHome is n f
    → here ≡ Some f → Puts l m id n → AreLocal bound is here n l → AreLocal bound is here (n + 1) m
local_put bound is here n id f i l m t r h e u a =
    kept_put bound (IsLocalBefore is here n) (IsLocalBefore is here (n + 1)) l m id n u a
    (λ x c p. local_other is here n x (kept l x) (λ d. absurd (not_result is n x id i t r c d)) p)
    (local_new is here n id f (defined_here is n id i t r) h e)

pub local_put_first : (bound : ℕ) (is : List PlainInst) (here : Option ℕ) (n id f : ℕ) (i : PlainInst) (l m : Kept)
    → slice_get is n ≡ Some i → result_in i.operands ≡ Some id → IsHome is n f
    → (id < l.bound) × (kept l id ≡ None) → Puts l m id n → AreLocal bound is here n l
    → AreLocal bound is here (n + 1) m
local_put_first bound is here n id f i l m t r h s u a =
    let c = a.same in
    let w = s.0 in
    let p : IsLocalBefore is here n id None = subst (λ o. IsLocalBefore is here n id o) s.1 (a.each id (omega arith)) in
    kept_put bound (IsLocalBefore is here n) (IsLocalBefore is here (n + 1)) l m id n u a
    (λ x c p. local_other is here n x (kept l x) (λ d. absurd (not_result is n x id i t r c d)) p)
    (local_first is here n id f (defined_here is n id i t r) h p)

pub local_kept : (bound : ℕ) (is : List PlainInst) (here : Option ℕ) (n id f : ℕ) (i : PlainInst) (l : Kept)
    → slice_get is n ≡ Some i → result_in i.operands ≡ Some id → IsHome is n f
    → (here ≡ Some f → ⊥) → ((id < l.bound) × (kept l id ≡ None) → ⊥) → AreLocal bound is here n l
    → AreLocal bound is here (n + 1) l
local_kept bound is here n id f i l t r h e s a =
    let c = a.same in
    kept_on bound (IsLocalBefore is here n) (IsLocalBefore is here (n + 1)) l a
    (λ x b p. elim (cases_eq x id) [
      | inl q ↦ local_more is here n x f (kept l x) h e (λ z. s (omega arith, rw (← q) z)) p
      | inr q ↦ local_other is here n x (kept l x) (λ d. absurd (not_result is n x id i t r q d)) p
    ])

pub local_nothing : (bound : ℕ) (is : List PlainInst) (here : Option ℕ) (n : ℕ) (i : PlainInst) (l : Kept)
    → slice_get is n ≡ Some i → ((x : ℕ) → IsDefinedAt is x n → (f : ℕ) → ¬ (IsHome is n f))
    → AreLocal bound is here n l → AreLocal bound is here (n + 1) l
local_nothing bound is here n i l t h a =
    kept_on bound (IsLocalBefore is here n) (IsLocalBefore is here (n + 1)) l a
    (λ x b p. local_other is here n x (kept l x) (h x) p)

pub no_result : (is : List PlainInst) (n x : ℕ) (i : PlainInst) → slice_get is n ≡ Some i → result_in i.operands ≡ None
    → ¬ (IsDefinedAt is x n)
no_result is n x i t r d = let q = result_here is n x i t d in let s : Some x ≡ None = sym q ∙ r in cc

-- What is kept of the id that is used.

pub local_one : (bound : ℕ) (is : List PlainInst) (here : Option ℕ) (n x m : ℕ) (l : Kept) → AreLocal bound is here n l
    → kept l x ≡ Some m → IsLocalOne is here n x m
local_one bound is here n x m l a e =
    let c = a.same in
    let w = kept_within l x m e in
    subst (λ o. IsLocalBefore is here n x o) e (a.each x (omega arith))

pub home_of : (is : List PlainInst) (x f : ℕ) (l : IsLocalTo is x f) → IsHome is l.place f
home_of is x f l = record { of = l.of; after = l.after; before = l.before }

pub not_local : (bound : ℕ) (is : List PlainInst) (here : Option ℕ) (x m f : ℕ) (l : Kept)
    → AreLocal bound is here (length is) l → x < bound → kept l x ≡ None → ¬ (IsLocalBy is x m f)
not_local bound is here x m f l a b e p =
    let q : IsLocalBefore is here (length is) x None = subst (λ o. IsLocalBefore is here (length is) x o) e
    (a.each x b) in
    let d = p.local in
    q d.place f (slice_get_within is d.place d.defined.inst d.defined.there) d.defined (home_of is x f d)

pub local_by : (is : List PlainInst) (x m f : ℕ) → IsDefinedAt is x m → IsHome is m f → IsLocalBy is x m f
local_by is x m f d h =
    record { local = record { place = m; defined = d; of = h.of; after = h.after; before = h.before }; by = refl }

function_is : (is : List PlainInst) (n f : ℕ) (here : Option ℕ) → IsFunctionOf is n here → IsOfFunction is n f
    → here ≡ Some f
function_is is n f None h o = absurd (h f o)
function_is is n f (Some g) h o = ap Some (function_same is n g f h o)

pub is_of_function : (is : List PlainInst) (n f : ℕ) (here : Option ℕ) → IsFunctionOf is n here → here ≡ Some f
    → IsOfFunction is n f
is_of_function is n f here h e = subst (λ o. IsFunctionOf is n o) e h

pub in_scope : (is : List PlainInst) (n x m f : ℕ) → IsDefinedAt is x m → IsHome is m f → IsOfFunction is n f
    → IsInScope is n x
in_scope is n x m f d h o = record { function = f; of = o; local = (local_by is x m f d h).local }

pub not_in_scope : (bound : ℕ) (is : List PlainInst) (here : Option ℕ) (n x m f : ℕ) → IsFunctionOf is n here
    → IsLocalOne is here (length is) x m → IsHome is m f → (here ≡ Some f → ⊥) → ¬ (IsInScope is n x)
not_in_scope bound is here n x m f o p h e s =
    let d = s.local in
    let g = s.function in
    let q = function_is is n g here o s.of in
    let r = p.same d.place g (slice_get_within is d.place d.defined.inst d.defined.there) d.defined
    (home_of is x g d) q in
    let t = home_same is m f p.function h p.home in
    e (q ∙ ap Some (sym (t ∙ r)))

pub unscoped_here : (G : Table) (bound : ℕ) (is : List PlainInst) (here : Option ℕ) (n : ℕ) (i : PlainInst)
    (k x m f : ℕ) (r : Role) (l : Kept) → IsUse G i k x r → IsFunctionOf is n here
    → AreLocal bound is here (length is) l → kept l x ≡ Some m → IsHome is m f → (here ≡ Some f → ⊥)
    → HasUse G i (IsUnscoped bound is n m f) k
unscoped_here G bound is here n i k x m f r l u o a e h q =
    let c = a.same in
    let w = kept_within l x m e in
    let p = local_one bound is here (length is) x m l a e in
    record {
      id = x;
      role = r;
      used = u;
      holds = record
          { below = omega arith; local = local_by is x m f p.there h; not = not_in_scope bound is here n x m f o p h q };
    }

-- What is shown, and that some operand shows it.

pub unscoped_shows : (G : Table) (bound : ℕ) (is : List PlainInst) (n : ℕ) (i : PlainInst) (k m f : ℕ)
    → slice_get is n ≡ Some i → IsScoped is n → HasUse G i (IsUnscoped bound is n m f) k
    → IsEvidence G bound is D5 n (Local k m f)
unscoped_shows G bound is n i k m f t o u =
    IsEvidence.not_in_scope n k u.id m f u.role
    (record { inst = i; there = t; used = u.used }) o u.holds.local u.holds.not

pub scoped : (G : Table) (bound : ℕ) (is : List PlainInst) (r : Rule) (n : ℕ) → r ≡ D5 → Broken G bound is r n
    → IsScoped is n
scoped G bound is _ _ q (Broken.not_in_scope n k y r u s l h) = s
scoped G bound is _ _ q _ = cc

some_by : (G : Table) (bound : ℕ) (is : List PlainInst) (r : Rule) (n : ℕ) (i : PlainInst) → r ≡ D5
    → slice_get is n ≡ Some i → Broken G bound is r n
    → ((k x : ℕ) (q : Role) → IsUsedAt G is n k x q → x < bound)
    → ((k : ℕ) → k < length i.operands → (m f : ℕ) → ¬ (HasUse G i (IsUnscoped bound is n m f) k)) → ⊥
some_by G bound is _ _ i q t (Broken.not_in_scope n k x r u s (f, l) h) w none =
    let e : u.inst ≡ i = same_inst is n u.inst i u.there t in
    let p : IsUse G i k x r = subst (λ j. IsUse G j k x r) e u.used in
    none k (used_within G i k x r p) l.place f
    (record {
      id = x;
      role = r;
      used = p;
      holds = record { below = w k x r u; local = record { local = l; by = refl }; not = h };
    })
some_by G bound is _ _ i q t _ w none = cc

pub some_unscoped : (G : Table) (bound : ℕ) (is : List PlainInst) (n : ℕ) (i : PlainInst) → slice_get is n ≡ Some i
    → IsFirst (Broken G bound is) of_ids D5 n
    → ((k : ℕ) → k < length i.operands → (m f : ℕ) → ¬ (HasUse G i (IsUnscoped bound is n m f) k)) → ⊥
some_unscoped G bound is n i t f none =
    some_by G bound is D5 n i refl t f.broken (in_range G bound is D5 n f (omega arith)) none
