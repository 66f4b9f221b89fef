-- What is looked up of a walk and of names.
use Rattle.std.proofs.Common.{◌≡◌, ◌++◌, ◌<◌, ◌≤◌, ◌+◌, ◌-◌, ℕ, zero, suc, Bool, true, false, List, [], ◌∷◌, Option}
use Rattle.std.proofs.Common.{Some, None, map, length, take, drop, get_or, nat_eq, option_and_then, slice_get}
use Rattle.std.proofs.Common.{if◌then◌else◌, refl, sym, ap, ◌∙◌, arith}
use Rattle.std.specs.Prelude.{◌&&◌, ◌||◌, option_map}
use Rattle.std.specs.List.{list_any}
use Rattle.std.specs.Ordering.{nat_cmp, ordering_then, is_eq}
use Rattle.std.specs.declared.cmp.Ordering.{Ordering}
use Rattle.std.specs.declared.cmp.Ordering.TheVariants.{Less, Equal, Greater}
use Rattle.std.proofs.lemmas.Bool.Decides.{nat_tests}
use Rattle.std.proofs.lemmas.List.{drop_more, length-drop, take_more}
use Rattle.spv_module.specs.declared.module.Inst.{Inst}
use Rattle.spv_module.specs.Module.{plain_inst}
use Rattle.spv_pictures.specs.Blocks.{goes}
use Rattle.spv_names.specs.Names.{name_of, named_by, or_later}
use Rattle.spv_names.specs.declared.naming.Naming.{Naming}
use Rattle.spv_pictures.specs.inner.Marks.{pair_cmp}
use Rattle.spv_pictures.specs.inner.Names.{name_at}

same_number : (a b : ℕ) → is_eq (nat_cmp a b) ≡ nat_eq a b
same_number a b = grind (arith, nat_tests)

both_same : (o p : Ordering) → is_eq (ordering_then o p) ≡ (is_eq o && is_eq p)
both_same Less p = refl
both_same Equal p = refl
both_same Greater p = refl

same_pair : (x y a b : ℕ) → is_eq (pair_cmp (x, y) (a, b)) ≡ (nat_eq x a && nat_eq y b)
same_pair x y a b = both_same (nat_cmp x a) (nat_cmp y b)
    ∙ (ap (λ c. c && is_eq (nat_cmp y b)) (same_number x a) ∙ ap (λ c. nat_eq x a && c) (same_number y b))

any_more : (p : ℕ → Bool) (xs : List ℕ) (x : ℕ) → list_any p (xs ++ (x ∷ [])) ≡ (if p x then true else list_any p xs)
any_more p [] x = by (p x)
  where
    by : (b : Bool) → (b || false) ≡ (if b then true else false)
    by true = refl
    by false = refl
any_more p (y ∷ xs) x = ap (λ b. p y || b) (any_more p xs x) ∙ by (p y) (p x) (list_any p xs)
  where
    by : (a b c : Bool) → (a || (if b then true else c)) ≡ (if b then true else (a || c))
    by true true c = refl
    by true false c = refl
    by false true c = refl
    by false false c = refl

turned : (a b : ℕ) → nat_eq a b ≡ nat_eq b a
turned a b = grind (arith, nat_tests)

-- one block more of a walk
pub block_more : (walk : List ℕ) (i x : ℕ) (old new : Bool) → i < length walk → old ≡ list_any (nat_eq x) (take i walk)
    → new ≡ (if is_eq (nat_cmp (get_or walk i 0) x) then true else old)
    → new ≡ list_any (nat_eq x) (take (i + 1) walk)
block_more walk i x old new h e f =
    let k = get_or walk i 0 in
    let t : take (i + 1) walk ≡ take i walk ++ (k ∷ []) = take_more walk i 0 h in
    let g : (if is_eq (nat_cmp k x) then true else old) ≡
    (if nat_eq x k then true else list_any (nat_eq x) (take i walk)) =
    ap (λ b. if b then true else old) (same_number k x ∙ turned k x) ∙ ap (λ b. if nat_eq x k then true else b) e in
    f ∙ (g ∙ (sym (any_more (nat_eq x) (take i walk) k) ∙ ap (list_any (nat_eq x)) (sym t)))

-- one step more
goes_more : (walk : List ℕ) (i a b : ℕ) → suc i < length walk
    → goes (drop i walk) a b ≡ ((nat_eq (get_or walk i 0) a && nat_eq (get_or walk (suc i) 0) b)
    || goes (drop (suc i) walk) a b)
goes_more [] i a b h = absurd (omega arith)
goes_more (x ∷ []) i a b h = absurd (omega arith)
goes_more (x ∷ y ∷ walk) zero a b h = refl
goes_more (x ∷ y ∷ walk) (suc i) a b h = goes_more (y ∷ walk) i a b (omega arith)

joined : (s c g : Bool) → ((if s then true else c) || g) ≡ (c || (s || g))
joined true true g = refl
joined true false g = refl
joined false c g = refl

pub step_more : (walk : List ℕ) (i a b : ℕ) (old new : Bool) → 1 ≤ i → i < length walk
    → (old || goes (drop (i - 1) walk) a b) ≡ goes walk a b
    → new ≡ (if is_eq (pair_cmp (get_or walk (i - 1) 0, get_or walk i 0) (a, b)) then true else old)
    → (new || goes (drop (i + 1 - 1) walk) a b) ≡ goes walk a b
step_more walk zero a b old new o h e f = absurd (omega arith)
step_more walk (suc i) a b old new o h e f =
    let p : suc i - 1 ≡ i = omega arith in
    let q : suc i + 1 - 1 ≡ suc i = omega arith in
    let s = nat_eq (get_or walk i 0) a && nat_eq (get_or walk (suc i) 0) b in
    let e' : (old || goes (drop i walk) a b) ≡ goes walk a b = rw p at e in
    let f' : new ≡ (if is_eq (pair_cmp (get_or walk i 0, get_or walk (suc i) 0) (a, b)) then true else old) = rw p at f
    in
    let g : new ≡ (if s then true else old) = f'
    ∙ ap (λ c. if c then true else old) (same_pair (get_or walk i 0) (get_or walk (suc i) 0) a b) in
    rw q (ap (λ c. c || goes (drop (suc i) walk) a b) g
    ∙ (joined s old (goes (drop (suc i) walk) a b) ∙ (ap (λ c. old || c) (sym (goes_more walk i a b h)) ∙ e')))

no_step : (walk : List ℕ) (a b : ℕ) → length walk ≤ 1 → goes walk a b ≡ false
no_step [] a b h = refl
no_step (x ∷ []) a b h = refl
no_step (x ∷ y ∷ walk) a b h = absurd (omega arith)

left_over : (walk : List ℕ) (i : ℕ) → length walk ≤ i → length (drop (i - 1) walk) ≤ 1
left_over walk i h = let d = length-drop (i - 1) walk in omega (arith, d)

pub steps_end : (walk : List ℕ) (i a b : ℕ) (all : Bool) → length walk ≤ i
    → (all || goes (drop (i - 1) walk) a b) ≡ goes walk a b → all ≡ goes walk a b
steps_end walk i a b all h e =
    or_false all (goes (drop (i - 1) walk) a b) (no_step (drop (i - 1) walk) a b (left_over walk i h)) ∙ e
  where
    or_false : (c d : Bool) → d ≡ false → c ≡ (c || d)
    or_false true d f = refl
    or_false false d f = sym f

-- the name of an id, with one more instruction in front
front_at : (xs : List Inst) (i : ℕ) (x : Inst) → 0 < i → i ≤ length xs → x ≡ get_or xs (i - 1) x
    → drop (i - 1) xs ≡ x ∷ drop i xs
front_at xs i x some within is =
    let next : i - 1 + 1 ≡ i = omega arith in
    drop_more xs (i - 1) x (omega arith) ∙
    (ap (λ n. get_or xs (i - 1) x ∷ drop n xs) next ∙ ap (λ y. y ∷ drop i xs) (sym is))

got : (xs : List Inst) (n : ℕ) (x : Inst) → n < length xs → x ≡ get_or xs n x
    → slice_get (map plain_inst xs) n ≡ Some (plain_inst x)
got [] n x h e = absurd (omega arith)
got (y ∷ xs) zero x h e = ap (λ z. Some (plain_inst z)) (sym e)
got (y ∷ xs) (suc n) x h e = got xs n x (omega arith) e

pub name_more : (naming : Naming) (xs : List Inst) (i : ℕ) (x : Inst) (id : ℕ) (t : List ℕ) (old new : Option ℕ) (y : ℕ)
    → 0 < i → i ≤ length xs → x ≡ get_or xs (i - 1) x
    → Some (id, t) ≡ named_by naming (plain_inst x)
    → name_at naming (map plain_inst xs) old ≡ name_of naming (map plain_inst (drop i xs)) y
    → new ≡ (if is_eq (nat_cmp id y) then Some (i - 1) else old)
    → name_at naming (map plain_inst xs) new ≡ name_of naming (map plain_inst (drop (i - 1) xs)) y
name_more naming xs i x id t old new y some within is named before now =
    let f : name_of naming (map plain_inst (drop (i - 1) xs)) y ≡
    (if nat_eq id y then Some t else name_of naming (map plain_inst (drop i xs)) y)
    = ap (λ zs. name_of naming (map plain_inst zs) y) (front_at xs i x some within is)
    ∙ ap (λ o. or_later y o (name_of naming (map plain_inst (drop i xs)) y)) (sym named) in
    by (nat_eq id y) (now ∙ ap (λ b. if b then Some (i - 1) else old) (same_number id y)) f
  where
    by : (b : Bool) → new ≡ (if b then Some (i - 1) else old)
        → name_of naming (map plain_inst (drop (i - 1) xs)) y ≡
        (if b then Some t else name_of naming (map plain_inst (drop i xs)) y)
        → name_at naming (map plain_inst xs) new ≡ name_of naming (map plain_inst (drop (i - 1) xs)) y
    by true e f =
        (let g : slice_get (map plain_inst xs) (i - 1) ≡ Some (plain_inst x) = got xs (i - 1) x (omega arith) is in
        ap (name_at naming (map plain_inst xs)) e
        ∙ (ap (λ o. option_map (λ (p : ℕ × List ℕ). p.1) (option_and_then (named_by naming) o)) g
        ∙ (ap (option_map (λ (p : ℕ × List ℕ). p.1)) (sym named) ∙ sym f)))
    by false e f = ap (name_at naming (map plain_inst xs)) e ∙ (before ∙ sym f)

pub name_same : (naming : Naming) (xs : List Inst) (i : ℕ) (x : Inst) (at : Option ℕ) (y : ℕ) → 0 < i → i ≤ length xs
    → x ≡ get_or xs (i - 1) x → None ≡ named_by naming (plain_inst x)
    → name_at naming (map plain_inst xs) at ≡ name_of naming (map plain_inst (drop i xs)) y
    → name_at naming (map plain_inst xs) at ≡ name_of naming (map plain_inst (drop (i - 1) xs)) y
name_same naming xs i x at y some within is named before =
    before ∙ sym (ap (λ zs. name_of naming (map plain_inst zs) y) (front_at xs i x some within is)
    ∙ ap (λ o. or_later y o (name_of naming (map plain_inst (drop i xs)) y)) (sym named))
