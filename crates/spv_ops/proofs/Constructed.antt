-- What OpCompositeConstruct asks, as a whole.
use Rattle.std.proofs.Common.{◌≡◌, ◌∙◌, ◌+◌, ◌<◌, ◌++◌, inl, inr, ℕ, zero, suc, List, [], ◌∷◌, Option, Some, None, Bool}
use Rattle.std.proofs.Common.{true, false, refl, sym, ap, subst, length, drop, nat_eq, if◌then◌else◌, option_and_then}
use Rattle.std.proofs.Common.{option_map}
use Rattle.std.specs.Prelude.{slice_get, IsSomeAnd}
use Rattle.std.specs.List.{AllByRecursion}
use Rattle.std.proofs.lemmas.Bool.{eqb-true}
use Rattle.std.proofs.lemmas.Option.{none-some}
use Rattle.spv_module.specs.Operand.{PlainInst}
use Rattle.spv_type_forms.specs.declared.form.Form.{Form}
use Rattle.spv_type_forms.specs.declared.form.Form.TheVariants as form
use Rattle.spv_type_forms.specs.Form.{form_of}
use Rattle.spv_type_forms.specs.Types.{IsVector}
use Rattle.spv_type_forms.specs.Parts.{part_of, count_of, ArePartsFrom}
use Rattle.spv_conditions.specs.declared.asked.Rest.TheVariants as rest
use Rattle.spv_conditions.specs.declared.asked.Asked.{Asked}
use Rattle.spv_conditions.specs.declared.asked.Asked.TheVariants as asked
use Rattle.spv_conditions.specs.declared.asked.Each.{Each}
use Rattle.spv_conditions.specs.declared.asked.Each.TheVariants as each
use Rattle.spv_conditions.specs.Rest.{RestHolds, share_in, shares_of, IsShare, AreSeveral, IsShareAt, AreFilling}
use Rattle.spv_conditions.specs.Rest.{AreCounted, IsPartAt, OfParts, OfVector}
use Rattle.spv_conditions.specs.Condition.{Holds, IsComposite}
use Rattle.spv_conditions.specs.Asks.{of_each, each_from, conditions_in}
use Rattle.spv_conditions.specs.inner.Shares.{share_of}
use Rattle.spv_ops.specs.inner.Composite.{Constructs}
use Rattle.spv_ops.proofs.Pointing.{at_front, joined, former, latter, construct_line}

-- Each value gives components.

eq_of : (t c : ℕ) → nat_eq t c ≡ true → t ≡ c
eq_of t c e = eqb-true t c e

gives_share : (is : List PlainInst) (c t m : ℕ) → share_of is c t ≡ Some m → IsShare is c t
gives_share is c t m e = one (nat_eq t c) refl e where
  other : (o : Option Form) → form_of is t ≡ o → share_in c o ≡ Some m → (n : ℕ) × IsVector is t c n
  other (Some (form.Vector d n)) f h = made (nat_eq d c) refl h where
    made : (b : Bool) → nat_eq d c ≡ b → (if b then Some n else None) ≡ Some m → (k : ℕ) × IsVector is t c k
    made true g q = (n, f ∙ ap (λ b. Some (form.Vector b n)) (eq_of d c g))
    made false g q = absurd (none-some m q)
  other _ f h = absurd (none-some m h)

  one : (b : Bool) → nat_eq t c ≡ b → (if b then Some 1 else share_in c (form_of is t)) ≡ Some m → IsShare is c t
  one true g q = inl (eq_of t c g)
  one false g q = inr (other (form_of is t) refl q)

first_share : (is : List PlainInst) (c n t : ℕ) (ts : List ℕ) → shares_of is c (t ∷ ts) ≡ Some n
    → IsShare is c t × ((m : ℕ) × (shares_of is c ts ≡ Some m))
first_share is c n t ts e = one (share_of is c t) (shares_of is c ts) refl refl e where
  one : (o p : Option ℕ) → share_of is c t ≡ o → shares_of is c ts ≡ p
      → option_and_then (λ m. option_map (λ k. m + k) p) o ≡ Some n
      → IsShare is c t × ((m : ℕ) × (shares_of is c ts ≡ Some m))
  one None p a b h = absurd (none-some n h)
  one (Some m) None a b h = absurd (none-some n h)
  one (Some m) (Some k) a b h = (gives_share is c t m a, (k, b))

-- Conditions of each value.

-- where nothing is asked of each
none_asked : (P : Asked → Type 0) (q : Each) (k n : ℕ) → ((j : ℕ) → P (of_each q j))
    → AllByRecursion P (each_from q k n)
none_asked P q k zero h = tt
none_asked P q k (suc n) h = (h k, none_asked P q (k + 1) n h)

some_at : (P : ℕ → Type 0) (o : Option ℕ) (t : ℕ) → o ≡ Some t → P t → IsSomeAnd o P
some_at P o t e p = rw e p

some_there : (P : ℕ → Type 0) (o : Option ℕ) (t : ℕ) → o ≡ Some t → IsSomeAnd o P → P t
some_there P o t e p = rw e at p

shares_there : (is : List PlainInst) (c n : ℕ) (P : Asked → Type 0) (all ts : List ℕ) (k : ℕ)
    → ((j : ℕ) → IsSomeAnd (slice_get all j) (IsShare is c) → P (asked.Rest (rest.Share j)))
    → drop k all ≡ ts → shares_of is c ts ≡ Some n → AllByRecursion P (each_from each.Share k (length ts))
shares_there is c n P all [] k f e h = tt
shares_there is c n P all (t ∷ ts) k f e h =
    let two = at_front all k t ts e in
    let s = first_share is c n t ts h in
    (f k (some_at (IsShare is c) (slice_get all k) t two.0 s.0), shares_there is c s.1.0 P all ts (k + 1) f two.1 s.1.1)

parts_there : (is : List PlainInst) (r : ℕ) (P : Asked → Type 0) (all ts : List ℕ) (k : ℕ)
    → ((j : ℕ) → IsSomeAnd (slice_get all j) (λ u. part_of is r j ≡ Some u) → P (asked.Rest (rest.Part j)))
    → drop k all ≡ ts → ArePartsFrom is r k ts → AllByRecursion P (each_from each.Part k (length ts))
parts_there is r P all [] k f e h = tt
parts_there is r P all (t ∷ ts) k f e h =
    let two = at_front all k t ts e in (
      f k (some_at (λ u. part_of is r k ≡ Some u) (slice_get all k) t two.0 h.0),
      parts_there is r P all ts (k + 1) f two.1 h.1,
    )

parts_back : (is : List PlainInst) (r : ℕ) (P : Asked → Type 0) (all ts : List ℕ) (k : ℕ)
    → ((j : ℕ) → P (asked.Rest (rest.Part j)) → IsSomeAnd (slice_get all j) (λ u. part_of is r j ≡ Some u))
    → drop k all ≡ ts → AllByRecursion P (each_from each.Part k (length ts)) → ArePartsFrom is r k ts
parts_back is r P all [] k f e h = tt
parts_back is r P all (t ∷ ts) k f e h =
    let two = at_front all k t ts e in (
      some_there (λ u. part_of is r k ≡ Some u) (slice_get all k) t two.0 (f k h.0),
      parts_back is r P all ts (k + 1) f two.1 h.1,
    )

-- The conditions, by the form of the result type.

composite_at : (o : Option Form) (f : Form) → o ≡ Some f → IsComposite f → IsSomeAnd o IsComposite
composite_at o f e h = rw e h

-- what the conditions ask
abbrev Kept : List PlainInst → ℕ → PlainInst → ℕ → List ℕ → Asked → Type 0
Kept is n i r ts = Holds is (RestHolds is n i (Some r) ts) (Some r) ts

abbrev last : ℕ → List Asked
last n = asked.Rest rest.Filled ∷ asked.Rest rest.Count ∷ (each_from each.Part 0 n ++ [])

made_parts : (is : List PlainInst) (n : ℕ) (i : PlainInst) (r : ℕ) (ts : List ℕ) (f : Form)
    → ((P : Type 0) → P → OfParts (Some f) P) → IsComposite f → ((P : ℕ → ℕ → Type 0) → OfVector (Some f) P)
    → form_of is r ≡ Some f → (count_of is r ≡ Some (length ts)) × ArePartsFrom is r 0 ts
    → AllByRecursion (Kept is n i r ts) (conditions_in construct_line (length ts))
made_parts is n i r ts f some_parts composite free e h =
    let P = Kept is n i r ts in
    let to = sym e in
    let parts : AllByRecursion P (each_from each.Part 0 (length ts)) = parts_there is r P ts ts 0
    (λ j s. subst (IsPartAt is r ts j) to
    (some_parts (IsSomeAnd (slice_get ts j) (λ u. part_of is r j ≡ Some u)) s)) refl h.1 in
    let ends : AllByRecursion P (last (length ts)) = (
      subst (AreFilling is ts) to (free (λ c m. shares_of is c ts ≡ Some m)),
      (
        subst (AreCounted is r ts) to (some_parts (count_of is r ≡ Some (length ts)) h.0),
        joined P (each_from each.Part 0 (length ts)) [] parts tt,
      ),
    ) in
    let shares = none_asked P each.Share 0 (length ts)
    (λ j. subst (IsShareAt is ts j) to (free (λ c m. IsSomeAnd (slice_get ts j) (IsShare is c)))) in (
      composite_at (form_of is r) f e composite,
      (
        subst (AreSeveral ts) to (free (λ c m. 1 < length ts)),
        joined P (each_from each.Share 0 (length ts)) (last (length ts)) shares ends,
      ),
    )

made_holds : (is : List PlainInst) (n : ℕ) (i : PlainInst) (r : ℕ) (ts : List ℕ) (f : Option Form) → form_of is r ≡ f
    → Constructs is r ts f → AllByRecursion (Kept is n i r ts) (conditions_in construct_line (length ts))
made_holds is n i r ts (Some (form.Vector c m)) e h =
    let P = Kept is n i r ts in
    let to = sym e in
    let parts = none_asked P each.Part 0 (length ts) (λ j. subst (IsPartAt is r ts j) to tt) in
    let ends : AllByRecursion P (last (length ts)) = (
      subst (AreFilling is ts) to h.1,
      (
        subst (AreCounted is r ts) to tt,
        joined P (each_from each.Part 0 (length ts)) [] parts tt,
      ),
    ) in
    let shares = shares_there is c m P ts ts 0 (λ j s. subst (IsShareAt is ts j) to s) refl h.1 in (
      composite_at (form_of is r) (form.Vector c m) e tt,
      (subst (AreSeveral ts) to h.0, joined P (each_from each.Share 0 (length ts)) (last (length ts)) shares ends),
    )
made_holds is n i r ts (Some form.Struct) e h = made_parts is n i r ts form.Struct (λ P p. p) tt (λ P. tt) e h
made_holds is n i r ts (Some (form.Array a l)) e h = made_parts is n i r ts (form.Array a l) (λ P p. p) tt (λ P. tt) e h
made_holds is n i r ts f e h = absurd h

ends_of : (is : List PlainInst) (n : ℕ) (i : PlainInst) (r : ℕ) (ts : List ℕ)
    → AllByRecursion (Kept is n i r ts) (conditions_in construct_line (length ts))
    → AllByRecursion (Kept is n i r ts) (last (length ts))
ends_of is n i r ts h = latter (Kept is n i r ts) (each_from each.Share 0 (length ts)) (last (length ts)) h.1.1

parts_made : (is : List PlainInst) (n : ℕ) (i : PlainInst) (r : ℕ) (ts : List ℕ) (f : Form)
    → ((P : Type 0) → OfParts (Some f) P → P) → form_of is r ≡ Some f
    → AllByRecursion (Kept is n i r ts) (conditions_in construct_line (length ts))
    → (count_of is r ≡ Some (length ts)) × ArePartsFrom is r 0 ts
parts_made is n i r ts f asked_parts e h =
    let ends = ends_of is n i r ts h in (
      asked_parts (count_of is r ≡ Some (length ts)) (subst (AreCounted is r ts) e ends.1.0),
      parts_back is r (Kept is n i r ts) ts ts 0
          (λ j p. asked_parts (IsSomeAnd (slice_get ts j) (λ u. part_of is r j ≡ Some u))
          (subst (IsPartAt is r ts j) e p)) refl
          (former (Kept is n i r ts) (each_from each.Part 0 (length ts)) [] ends.1.1),
    )

holds_made : (is : List PlainInst) (n : ℕ) (i : PlainInst) (r : ℕ) (ts : List ℕ) (f : Option Form) → form_of is r ≡ f
    → AllByRecursion (Kept is n i r ts) (conditions_in construct_line (length ts)) → Constructs is r ts f
holds_made is n i r ts (Some (form.Vector c m)) e h =
    (subst (AreSeveral ts) e h.1.0, subst (AreFilling is ts) e (ends_of is n i r ts h).0)
holds_made is n i r ts (Some form.Struct) e h = parts_made is n i r ts form.Struct (λ P p. p) e h
holds_made is n i r ts (Some (form.Array a l)) e h = parts_made is n i r ts (form.Array a l) (λ P p. p) e h
holds_made is n i r ts f e h = absurd (subst (λ o. IsSomeAnd o IsComposite) e h.0)

pub construct_holds : (is : List PlainInst) (n : ℕ) (i : PlainInst) (r : ℕ) (ts : List ℕ)
    → Constructs is r ts (form_of is r) → AllByRecursion (Kept is n i r ts) (conditions_in construct_line (length ts))
construct_holds is n i r ts h = made_holds is n i r ts (form_of is r) refl h

pub holds_construct : (is : List PlainInst) (n : ℕ) (i : PlainInst) (r : ℕ) (ts : List ℕ)
    → AllByRecursion (Kept is n i r ts) (conditions_in construct_line (length ts)) → Constructs is r ts (form_of is r)
holds_construct is n i r ts h = holds_made is n i r ts (form_of is r) refl h
