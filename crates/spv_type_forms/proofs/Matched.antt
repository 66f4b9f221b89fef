-- Numbers of types, as the code finds them.
use Rattle.std.proofs.Common.{◌≡◌, ◌≢◌, ◌<◌, ◌≤◌, ◌+◌, ◌∙◌, ◌↔◌, ℕ, zero, suc, List, [], ◌∷◌, ◌++◌, Option, Some}
use Rattle.std.proofs.Common.{None, Bool, true, false, cond, refl, sym, ap, subst, inl, inr, length, arith, take, get_or, option_map, option_and_then}
use Rattle.std.specs.Prelude.{IsTrue, MatchOption, Vec, slice_get, unwrap_or}
use Rattle.std.specs.Global.{Global}
use Rattle.std.specs.BTreeMap.{insert_entry}
use Rattle.std.specs.Cmp.Lexicographic.{slice_cmp}
use Rattle.std.specs.declared.cmp.Ordering.{Ordering}
use Rattle.std.specs.declared.cmp.Ordering.TheVariants.{Less, Equal, Greater}
use Rattle.std.specs.Ordering.{nat_cmp, is_eq, match_ordering, ordering_reverse}
use Rattle.std.proofs.lemmas.Cmp.{nat_list_cmp_total}
use Rattle.std.proofs.lemmas.Map.Lookups.{exact_bytes}
use Rattle.std.proofs.lemmas.List.{take_more}
use Rattle.std.proofs.lemmas.Option.{none-some, same_Some, slice_get-map, slice_get-get_or}
use Rattle.spv_module.specs.Module.{plain_operand, plain_operands}
use Rattle.spv_module.specs.declared.operand.Operand.{Operand}
use Rattle.spv_module.specs.Operand.{Plain, Id, PlainInst, result_in}
use Rattle.spv_ids.specs.Definition.{IsDefinedAt}
use Rattle.spv_ids.specs.Outcome.{IsOnly}
use Rattle.spv_type_forms.specs.declared.form.Form.TheVariants as form
use Rattle.spv_type_forms.specs.Form.{form_in, form_of}
use Rattle.spv_type_forms.specs.Parts.{members_of}
use Rattle.spv_type_forms.specs.Matches.{is_aggregate, Matches}
use Rattle.spv_type_forms.specs.inner.Matching.{IsNumbered, IsNumber, IsMemberNumber, AreNumbers, IsKey, KeepsKey, found_in}
use Rattle.spv_type_forms.specs.inner.Matching.{AreMatched}
use Rattle.spv_type_forms.proofs.Lookups.{finds}
use Rattle.spv_type_forms.proofs.Numbering.{both_ways, same_place, has_number, match_told}

-- What is found of an aggregate.

pub numbered_there : (is : List PlainInst) (cs : List ℕ) (u m c : ℕ) → is_aggregate (form_of is u) ≡ true
    → IsOnly is u m → m < length cs → slice_get cs m ≡ Some c → IsNumbered is cs (length cs) u c
numbered_there is cs u m c h one l at = record { aggregate = h; place = m; before = l; one = one; there = at }

pub never_numbered : (is : List PlainInst) (cs : List ℕ) (u : ℕ) → ((k : ℕ) → IsDefinedAt is u k → ⊥) → (c : ℕ)
    → IsNumbered is cs (length cs) u c → ⊥
never_numbered is cs u never c x = never x.place x.one.there

pub late_numbered : (is : List PlainInst) (cs : List ℕ) (u m : ℕ) → IsOnly is u m → length cs ≤ m → (c : ℕ)
    → IsNumbered is cs (length cs) u c → ⊥
late_numbered is cs u m one l c x =
    let same : x.place ≡ m = same_place is u x.place m x.one one in
    let b = x.before in
    absurd (omega arith)

-- What is found of any type, and of a member.

abbrev pub Finds : (ℕ → Type 0) → Option ℕ → Type 0
Finds P o = MatchOption o ((c : ℕ) → ¬ (P c)) P

pub of_aggregate : (is : List PlainInst) (cs : List ℕ) (n u : ℕ) (o : Option ℕ) → is_aggregate (form_of is u) ≡ true
    → Finds (IsNumbered is cs n u) o → Finds (IsNumber is cs n u) o
of_aggregate is cs n u None h f = λ c x. elim x [
  | inl a ↦ both_ways (is_aggregate (form_of is u)) h a.0
  | inr b ↦ f c b
]
of_aggregate is cs n u (Some c) h f = inr f

same_id : (a b : ℕ) → Id a ≡ Id b → a ≡ b
same_id a b e = cc

pub of_member : (is : List PlainInst) (cs : List ℕ) (n u : ℕ) (o : Option ℕ) → Finds (IsNumber is cs n u) o
    → Finds (IsMemberNumber is cs n (Id u)) o
of_member is cs n u None f = λ c x. f c (subst (λ v. IsNumber is cs n v c) (sym (same_id u x.0 x.1)) x.2)
of_member is cs n u (Some c) f = (u, refl, f)

-- The numbers of members.

pub numbers_more : (is : List PlainInst) (cs : List ℕ) (n : ℕ) (ms : List Plain) (ks : List ℕ) (o : Plain) (c : ℕ)
    → AreNumbers is cs n ms ks → IsMemberNumber is cs n o c → AreNumbers is cs n (ms ++ o ∷ []) (ks ++ c ∷ [])
numbers_more is cs n [] [] o c a x = (x, tt)
numbers_more is cs n [] (k ∷ ks) o c a x = absurd a
numbers_more is cs n (m ∷ ms) [] o c a x = absurd a
numbers_more is cs n (m ∷ ms) (k ∷ ks) o c a x = (a.0, numbers_more is cs n ms ks o c a.1 x)

pub numbers_at : (is : List PlainInst) (cs : List ℕ) (n : ℕ) (ms : List Plain) (ks : List ℕ) (i : ℕ) (o : Plain)
    → AreNumbers is cs n ms ks → slice_get ms i ≡ Some o → (c : ℕ) × IsMemberNumber is cs n o c
numbers_at is cs n [] ks zero o a e = absurd (none-some o e)
numbers_at is cs n [] ks (suc i) o a e = absurd (none-some o e)
numbers_at is cs n (m ∷ ms) [] i o a e = absurd a
numbers_at is cs n (m ∷ ms) (k ∷ ks) zero o a e =
    (k, subst (λ p. IsMemberNumber is cs n p k) (same_Some m o e) a.0)
numbers_at is cs n (m ∷ ms) (k ∷ ks) (suc i) o a e = numbers_at is cs n ms ks i o a.1 e

-- Keys.

same_array : (d l e m : ℕ) → form.Array d l ≡ form.Array e m → (d ≡ e) × (l ≡ m)
same_array d l e m s = (cc, cc)

no_struct : {P : Type 0} (d l : ℕ) → form.Array d l ≡ form.Struct → P
no_struct d l s = absurd (cc)

pub no_array_key : (is : List PlainInst) (cs : List ℕ) (n t e l : ℕ) → form_of is t ≡ Some (form.Array e l)
    → ((c : ℕ) → IsNumber is cs n e c → ⊥) → (k : List ℕ) → IsKey is cs n t k → ⊥
no_array_key is cs n t e l f none _ (IsKey.array d m c g x) =
    none c (subst (λ u. IsNumber is cs n u c) (same_array d m e l (same_Some _ _ (sym g ∙ f))).0 x)
no_array_key is cs n t e l f none _ (IsKey.struct ms ks g m x) = no_struct e l (same_Some _ _ (sym f ∙ g))

pub no_struct_key : (is : List PlainInst) (cs : List ℕ) (n t : ℕ) (ms : List Plain) → form_of is t ≡ Some form.Struct
    → members_of is t ≡ Some ms → ((ks : List ℕ) → AreNumbers is cs n ms ks → ⊥) → (k : List ℕ) → IsKey is cs n t k → ⊥
no_struct_key is cs n t ms f m none _ (IsKey.array d l c g x) = no_struct d l (same_Some _ _ (sym g ∙ f))
no_struct_key is cs n t ms f m none _ (IsKey.struct ns ks g k x) =
    none ks (subst (λ os. AreNumbers is cs n os ks) (same_Some ns ms (sym k ∙ m)) x)

pub no_members : (is : List PlainInst) (cs : List ℕ) (n t : ℕ) → form_of is t ≡ Some form.Struct
    → members_of is t ≡ None → (k : List ℕ) → IsKey is cs n t k → ⊥
no_members is cs n t f m _ (IsKey.array d l c g x) = no_struct d l (same_Some _ _ (sym g ∙ f))
no_members is cs n t f m _ (IsKey.struct ns ks g k x) = none-some ns (sym m ∙ k)

pub no_other_key : (is : List PlainInst) (cs : List ℕ) (n t : ℕ) → is_aggregate (form_of is t) ≡ false → (k : List ℕ)
    → IsKey is cs n t k → ⊥
no_other_key is cs n t h _ (IsKey.array d l c g x) =
    both_ways (is_aggregate (form_of is t)) (ap is_aggregate g) h
no_other_key is cs n t h _ (IsKey.struct ns ks g k x) =
    both_ways (is_aggregate (form_of is t)) (ap is_aggregate g) h

-- What is kept of keys.

abbrev cmp : Vec ℕ Global → Vec ℕ Global → Ordering
cmp x y = slice_cmp nat_cmp x.items y.items

itself : (o : Ordering) → o ≡ ordering_reverse o → o ≡ Equal
itself Equal e = refl
itself _ e = cc

same_list : (xs : List ℕ) → slice_cmp nat_cmp xs xs ≡ Equal
same_list xs = itself (slice_cmp nat_cmp xs xs) (nat_list_cmp_total.antisymm xs xs)

is_equal : (o : Ordering) → is_eq o ≡ true → o ≡ Equal
is_equal Equal e = refl
is_equal _ e = cc

alike : (k v : List ℕ) → is_eq (slice_cmp nat_cmp k v) ≡ true → k ≡ v
alike k v e = exact_bytes k v (is_equal (slice_cmp nat_cmp k v) e)

differs : (k v : List ℕ) → k ≢ v → is_eq (slice_cmp nat_cmp k v) ≡ false
differs k v n = by (is_eq (slice_cmp nat_cmp k v)) refl where
  by : (b : Bool) → is_eq (slice_cmp nat_cmp k v) ≡ b → b ≡ false
  by true e = absurd (n (alike k v e))
  by false e = refl

-- the key that is put in
here_placed : (key x : Vec ℕ Global) (c d : ℕ) (es es' : List (Vec ℕ Global × ℕ)) (o : Ordering) → cmp key x ≡ o
    → found_in es' key.items ≡ Some c
    → found_in (match_ordering o ((key, c) ∷ (x, d) ∷ es) ((x, c) ∷ es) ((x, d) ∷ es')) key.items ≡ Some c
here_placed key x c d es es' Less e h = rw (ap is_eq (same_list key.items)) refl
here_placed key x c d es es' Equal e h = rw (ap is_eq e) refl
here_placed key x c d es es' Greater e h = rw (ap is_eq e) h

pub put_here : (key : Vec ℕ Global) (c : ℕ) (es : List (Vec ℕ Global × ℕ))
    → found_in (insert_entry cmp es key c) key.items ≡ Some c
put_here key c [] = rw (ap is_eq (same_list key.items)) refl
put_here key c (e ∷ es) =
    here_placed key e.0 c e.1 es (insert_entry cmp es key c) (cmp key e.0) refl (put_here key c es)

-- other keys
other_placed : (key x : Vec ℕ Global) (c d : ℕ) (es es' : List (Vec ℕ Global × ℕ)) (k : List ℕ) (o : Ordering)
    → cmp key x ≡ o → k ≢ key.items → found_in es' k ≡ found_in es k
    → found_in (match_ordering o ((key, c) ∷ (x, d) ∷ es) ((x, c) ∷ es) ((x, d) ∷ es')) k ≡ found_in ((x, d) ∷ es) k
other_placed key x c d es es' k Less e n h = rw (differs k key.items n) refl
other_placed key x c d es es' k Equal e n h =
    let same : key.items ≡ x.items = exact_bytes key.items x.items e in
    let apart : is_eq (slice_cmp nat_cmp k x.items) ≡ false = differs k x.items (λ f. n (f ∙ sym same)) in
    rw apart refl
other_placed key x c d es es' k Greater e n h = ap (cond (is_eq (slice_cmp nat_cmp k x.items)) (Some d)) h

pub put_beside : (key : Vec ℕ Global) (c : ℕ) (es : List (Vec ℕ Global × ℕ)) (k : List ℕ) → k ≢ key.items
    → found_in (insert_entry cmp es key c) k ≡ found_in es k
put_beside key c [] k n = rw (differs k key.items n) refl
put_beside key c (e ∷ es) k n =
    other_placed key e.0 c e.1 es (insert_entry cmp es key c) k (cmp key e.0) refl n (put_beside key c es k n)

pub kept_before : (found : List ℕ → Option ℕ) (key : List ℕ) (own c : ℕ) → found key ≡ Some c
    → KeepsKey found found key own c
kept_before found key own c e =
    record { answer = sym (ap (λ o. unwrap_or o own) e); here = e; others = λ k n. refl }

pub kept_now : (key : Vec ℕ Global) (own : ℕ) (es fs : List (Vec ℕ Global × ℕ)) → found_in es key.items ≡ None
    → fs ≡ insert_entry cmp es key own → KeepsKey (found_in es) (found_in fs) key.items own own
kept_now key own es fs none e = record {
  answer = sym (ap (λ o. unwrap_or o own) none);
  here = ap (λ gs. found_in gs key.items) e ∙ put_here key own es;
  others = λ k n. ap (λ gs. found_in gs k) e ∙ put_beside key own es k n;
}

-- What an instruction defines.

pub not_there : (is : List PlainInst) (n : ℕ) (i : PlainInst) → slice_get is n ≡ Some i → result_in i.operands ≡ None
    → (t : ℕ) → IsOnly is t n → ⊥
not_there is n i at r t one =
    let same : i ≡ one.there.inst = same_Some i one.there.inst (sym at ∙ one.there.there) in
    none-some t (sym r ∙ rw same one.there.result)

pub another : (is : List PlainInst) (n : ℕ) (i : PlainInst) (u : ℕ) → slice_get is n ≡ Some i
    → result_in i.operands ≡ Some u → (IsOnly is u n → ⊥) → (t : ℕ) → IsOnly is t n → ⊥
another is n i u at r never t one =
    let same : i ≡ one.there.inst = same_Some i one.there.inst (sym at ∙ one.there.there) in
    let id : t ≡ u = same_Some t u (sym (rw same one.there.result) ∙ r) in
    never (subst (λ v. IsOnly is v n) id one)

pub other_place : (is : List PlainInst) (t m n : ℕ) → IsOnly is t m → IsOnly is t n → m ≡ n
other_place is t m n a b = same_place is t m n a b

-- The members of a struct, one after another.

plain_more : (ms : List Operand) (m : Operand) → plain_operands (ms ++ m ∷ []) ≡ plain_operands ms ++ plain_operand m ∷ []
plain_more [] m = refl
plain_more (n ∷ ms) m = ap (λ os. plain_operand n ∷ os) (plain_more ms m)

plain_at : (ms : List Operand) (i : ℕ) (d : Operand) → i < length ms
    → slice_get (plain_operands ms) i ≡ Some (plain_operand (get_or ms i d))
plain_at ms i d l = slice_get-map plain_operand ms i ∙ ap (option_map plain_operand) (slice_get-get_or ms i d l)

pub member_missing : (is : List PlainInst) (cs : List ℕ) (n : ℕ) (ms : List Operand) (i : ℕ) (d : Operand)
    → i < length ms → ((c : ℕ) → IsMemberNumber is cs n (plain_operand (get_or ms i d)) c → ⊥) → (ks : List ℕ)
    → AreNumbers is cs n (plain_operands ms) ks → ⊥
member_missing is cs n ms i d l none ks a =
    let at = numbers_at is cs n (plain_operands ms) ks i (plain_operand (get_or ms i d)) a (plain_at ms i d l) in
    none at.0 at.1

pub member_added : (is : List PlainInst) (cs : List ℕ) (n : ℕ) (ms : List Operand) (i : ℕ) (d : Operand) (c : ℕ)
    (key new : List ℕ) → i < length ms → IsMemberNumber is cs n (plain_operand (get_or ms i d)) c
    → new ≡ key ++ c ∷ [] → ((ks : List ℕ) × (key ≡ 1 ∷ ks) × AreNumbers is cs n (plain_operands (take i ms)) ks)
    → (ks : List ℕ) × (new ≡ 1 ∷ ks) × AreNumbers is cs n (plain_operands (take (i + 1) ms)) ks
member_added is cs n ms i d c key new l x e a =
    let all : plain_operands (take (i + 1) ms) ≡ plain_operands (take i ms) ++ plain_operand (get_or ms i d) ∷ [] =
    ap plain_operands (take_more ms i d l) ∙ plain_more (take i ms) (get_or ms i d) in (
      a.0 ++ c ∷ [],
      e ∙ ap (λ ks. ks ++ c ∷ []) a.1,
      subst (λ os. AreNumbers is cs n os (a.0 ++ c ∷ [])) (sym all)
          (numbers_more is cs n (plain_operands (take i ms)) a.0 (plain_operand (get_or ms i d)) c a.2 x),
    )

-- What is answered of keys.

abbrev pub AnswersKey : (List ℕ → Type 0) → Option (Vec ℕ Global) → Type 0
AnswersKey P o = MatchOption o ((k : List ℕ) → ¬ (P k)) (λ v. P v.items)

pub array_answered : (is : List PlainInst) (cs : List ℕ) (n t e l : ℕ) (o : Option (Vec ℕ Global))
    → form_of is t ≡ Some (form.Array e l)
    → MatchOption o ((c : ℕ) → ¬ (IsNumber is cs n e c))
    (λ key. (c : ℕ) × (key.items ≡ 0 ∷ l ∷ c ∷ []) × IsNumber is cs n e c) → AnswersKey (IsKey is cs n t) o
array_answered is cs n t e l None f h = no_array_key is cs n t e l f h
array_answered is cs n t e l (Some v) f h = subst (IsKey is cs n t) (sym h.1) (IsKey.array e l h.0 f h.2)

pub struct_answered : (is : List PlainInst) (cs : List ℕ) (n t : ℕ) (ms : List Plain) (o : Option (Vec ℕ Global))
    → form_of is t ≡ Some form.Struct → members_of is t ≡ Some ms
    → MatchOption o ((ks : List ℕ) → ¬ (AreNumbers is cs n ms ks))
    (λ key. (ks : List ℕ) × (key.items ≡ 1 ∷ ks) × AreNumbers is cs n ms ks) → AnswersKey (IsKey is cs n t) o
struct_answered is cs n t ms None f m h = no_struct_key is cs n t ms f m h
struct_answered is cs n t ms (Some v) f m h = subst (IsKey is cs n t) (sym h.1) (IsKey.struct ms h.0 f m h.2)

-- The answer.

-- there is no type without a definition
pub undefined_type : {P : Type 0} (is : List PlainInst) (t : ℕ) → ((k : ℕ) → IsDefinedAt is t k → ⊥)
    → is_aggregate (form_of is t) ≡ true → P
undefined_type is t never h =
    let none : form_of is t ≡ None = ap (option_and_then form_in) (finds is t None never) in
    both_ways (is_aggregate (form_of is t)) h (ap is_aggregate none)

pub answer_told : (is : List PlainInst) (cs : List ℕ) (found : List ℕ → Option ℕ) (t u : ℕ) (o p : Option ℕ) (b : Bool)
    → AreMatched is cs found
    → (is_aggregate (form_of is t) ≡ true → (m : ℕ) × IsOnly is t m × (m < length cs))
    → (is_aggregate (form_of is u) ≡ true → (m : ℕ) × IsOnly is u m × (m < length cs))
    → Finds (IsNumber is cs (length cs) t) o → Finds (IsNumber is cs (length cs) u) p
    → (IsTrue b ↔ ((c : ℕ) × (o ≡ Some c) × (p ≡ Some c))) → IsTrue b ↔ Matches is t u
answer_told is cs found t u None p b s x y f g e = let n = has_number is cs t x in absurd (f n.0 n.1)
answer_told is cs found t u (Some c) None b s x y f g e = let n = has_number is cs u y in absurd (g n.0 n.1)
answer_told is cs found t u (Some c) (Some d) b s x y f g e =
    let told = match_told is cs found t u c d s f g in (
      λ h. let a = e.0 h in told.0 (same_Some c a.0 a.1 ∙ sym (same_Some d a.0 a.2)),
      λ m. e.1 (d, ap Some (told.1 m), refl),
    )
