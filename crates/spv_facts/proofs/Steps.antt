-- Steps through lists.
use Rattle.std.proofs.Common.{◌≡◌, ◌<◌, ◌≤◌, ◌+◌, ◌-◌, ◌++◌, ◌∙◌, ℕ, zero, suc, List, [], ◌∷◌, Option, Some, None}
use Rattle.std.proofs.Common.{length, drop, slice_get, flat_map, get_or, set, refl, sym, ap, arith, append_assoc}
use Rattle.std.proofs.Common.{Bool, true, false, nat_lt, length-set, drop-drop, get_or-set_other}
use Rattle.std.proofs.lemmas.Grind.{get_or-set_at}
use Rattle.std.proofs.lemmas.Bool.Decides.{nat_tests}
use Rattle.std.specs.Prelude.{if◌then◌else◌}
use Rattle.spv_table.specs.Lookups.{is_number}
use Rattle.spv_module.specs.Operand.{PlainInst, result_in}
use Rattle.spv_lines.proofs.Steps.{drop_step}
use Rattle.spv_facts.specs.declared.fact.Place.{Place}
use Rattle.spv_facts.specs.Place.{entered, left_by, open_from}
use Rattle.spv_facts.specs.Definition.{definition_from}
use Rattle.spv_facts.specs.Facts.{is_told, thing_at, thing_of, type_things}
use Rattle.spv_facts.specs.Texts.{result_of}
use Rattle.spv_facts.specs.inner.Parts.{kept}
use Rattle.spv_facts.specs.declared.fact.Thing.{Thing}
use Rattle.spv_facts.specs.declared.fact.Thing.TheVariants as thing

pub drop_none : {A : Type 0} (xs : List A) (k : ℕ) → slice_get xs k ≡ None → drop k xs ≡ []
drop_none [] zero e = refl
drop_none [] (suc k) e = refl
drop_none (y ∷ xs) zero e = absurd cc
drop_none (y ∷ xs) (suc k) e = drop_none xs k e

-- one piece more
pub piece_step : {A B : Type 0} (f : A → List B) (xs : List A) (k : ℕ) (x : A) (out more goal : List B)
    → slice_get xs k ≡ Some x
    → more ≡ out ++ f x → out ++ flat_map f (drop k xs) ≡ goal → more ++ flat_map f (drop (k + 1) xs) ≡ goal
piece_step f xs k x out more goal e m g =
    let d = ap (λ z. out ++ flat_map f z) (drop_step xs k x e) in
    ap (λ z. z ++ flat_map f (drop (k + 1) xs)) m
    ∙ (append_assoc out (f x) (flat_map f (drop (k + 1) xs)) ∙ (sym d ∙ g))

-- what is open before an instruction, from those before it
pub open_step : (is : List PlainInst) (n at : ℕ) (p : Place) (i : PlainInst) → slice_get is at ≡ Some i → at < n
    → open_from at p (drop at is) (n - at) ≡ open_from (at + 1) (left_by i.opcode (entered at i.opcode p))
    (drop (at + 1) is) (n - (at + 1))
open_step is n at p i e l =
    let s : n - at ≡ suc (n - (at + 1)) = omega (arith, l) in
    ap (λ z. open_from at p z (n - at)) (drop_step is at i e) ∙ ap (λ z. open_from at p (i ∷ drop (at + 1) is) z) s

pub open_none : (is : List PlainInst) (n at : ℕ) (p : Place) → slice_get is at ≡ None
    → open_from at p (drop at is) (n - at) ≡ p
open_none is n at p e = ap (λ z. open_from at p z (n - at)) (drop_none is at e)

-- nothing is left to go
stays : (at : ℕ) (p : Place) (is : List PlainInst) → open_from at p is 0 ≡ p
stays at p [] = refl
stays at p (i ∷ is) = refl

pub open_last : (is : List PlainInst) (n at : ℕ) (p : Place) → n ≤ at → open_from at p (drop at is) (n - at) ≡ p
open_last is n at p l = let s : n - at ≡ 0 = omega (arith, l) in
    ap (λ z. open_from at p (drop at is) z) s ∙ stays at p (drop at is)

-- a definition, from one instruction on
pub definition_step : (x at : ℕ) (is : List PlainInst) (i : PlainInst) → slice_get is at ≡ Some i
    → definition_from x at (drop at is) ≡ (if is_number x (result_in i.operands) then Some at else definition_from x
    (at + 1) (drop (at + 1) is))
definition_step x at is i e = ap (λ z. definition_from x at z) (drop_step is at i e)

pub definition_end : (x at : ℕ) (is : List PlainInst) → length is ≤ at → definition_from x at (drop at is) ≡ None
definition_end x at is l = ap (λ z. definition_from x at z) (drop_past is at l)
  where
    drop_past : (is : List PlainInst) (at : ℕ) → length is ≤ at → drop at is ≡ []
    drop_past [] zero l = refl
    drop_past [] (suc k) l = refl
    drop_past (i ∷ is) zero l = absurd (omega (arith, l))
    drop_past (i ∷ is) (suc k) l = drop_past is k (omega (arith, l))

pub some_within : {A : Type 0} (xs : List A) (k : ℕ) (x : A) → slice_get xs k ≡ Some x → k < length xs
some_within [] k x e = absurd cc
some_within (y ∷ xs) zero x e = omega arith
some_within (y ∷ xs) (suc k) x e = let h = some_within xs k x e in omega (arith, h)

pub none_beyond : {A : Type 0} (xs : List A) (k : ℕ) → slice_get xs k ≡ None → length xs ≤ k
none_beyond [] k e = omega arith
none_beyond (y ∷ xs) zero e = absurd cc
none_beyond (y ∷ xs) (suc k) e = let h = none_beyond xs k e in omega (arith, h)

-- there is an instruction within the list
there : {A : Type 0} (xs : List A) (k : ℕ) → k < length xs → (x : A) × (slice_get xs k ≡ Some x)
there [] k l = absurd (omega (arith, l))
there (y ∷ xs) zero l = (y, refl)
there (y ∷ xs) (suc k) l = there xs k (omega (arith, l))

-- the definitions from one instruction on, by those from the next one on
pub kept_length : (found : List (Option ℕ)) (r : Option ℕ) (n : ℕ) → length (kept found r n) ≡ length found
kept_length found None n = refl
kept_length found (Some y) n = by (nat_lt y (length found))
  where
    by : (b : Bool) → length (if b then set found y (Some n) else found) ≡ length found
    by true = length-set found y (Some n)
    by false = refl

kept_at : (found : List (Option ℕ)) (r : Option ℕ) (n x : ℕ) → x < length found
    → get_or (kept found r n) x None ≡ (if is_number x r then Some n else get_or found x None)
kept_at found None n x l = refl
kept_at found (Some y) n x l = grind (arith, nat_tests, get_or-set_at, get_or-set_other, length-set)

pub kept_step : (is : List PlainInst) (found : List (Option ℕ)) (room at x : ℕ) → at < length is → length found ≡ room
    → x < room
    → get_or found x None ≡ definition_from x (at + 1) (drop (at + 1) is)
    → get_or (kept found (result_of is at) at) x None ≡ definition_from x at (drop at is)
kept_step is found room at x a r l h =
    let t = there is at a in
    let i = t.0 in
    let e : result_of is at ≡ result_in i.operands = rw t.1 refl in
    let s = definition_step x at is i t.1 in
    let k = kept_at found (result_in i.operands) at x (omega (arith, r, l)) in
    ap (λ z. get_or (kept found z at) x None) e
    ∙ (k ∙ (ap (λ z. if is_number x (result_in i.operands) then Some at else z) h ∙ sym s))

-- a type more is told
told_thing : (b : Bool) (d : Option ℕ) (x : ℕ)
    → thing_at (if b then None else d) x ≡ (if b then thing.Id x else thing_at d x)
told_thing true d x = refl
told_thing false d x = refl

pub type_step : (is : List PlainInst) (told ids : List ℕ) (k x : ℕ) (left : List (Option ℕ)) (old new goal : List Thing)
    → slice_get ids k ≡ Some x
    → x < length left → ((y : ℕ) → y < length left
    → get_or left y None ≡ (if is_told told y then None else definition_from y 0 is))
    → new ≡ old ++ (thing_at (get_or left x None) x ∷ []) → old ++ type_things is told (drop k ids) ≡ goal
    → new ++ type_things is (x ∷ told) (drop (k + 1) ids) ≡ goal
type_step is told ids k x left old new goal e l h n g =
    let rest = type_things is (x ∷ told) (drop (k + 1) ids) in
    let t : thing_at (get_or left x None) x ≡ (if is_told told x then thing.Id x else thing_of is x) =
    ap (λ z. thing_at z x) (h x l) ∙ told_thing (is_told told x) (definition_from x 0 is) x in
    let d = ap (λ z. old ++ type_things is told z) (drop_step ids k x e) in
    let m : new ≡ old ++ ((if is_told told x then thing.Id x else thing_of is x) ∷ []) = n
    ∙ ap (λ z. old ++ (z ∷ [])) t in
    ap (λ z. z ++ rest) m ∙ (append_assoc old _ rest ∙ (sym d ∙ g))

pub left_step : (is : List PlainInst) (told : List ℕ) (left : List (Option ℕ)) (x : ℕ) → x < length left
    → ((y : ℕ) → y < length left → get_or left y None ≡ (if is_told told y then None else definition_from y 0 is))
    → (y : ℕ) → y < length left
    → get_or (set left x None) y None ≡ (if is_told (x ∷ told) y then None else definition_from y 0 is)
left_step is told left x l h y m = let e = h y m in grind (arith, nat_tests, get_or-set_at, get_or-set_other, e)

-- words from a place on, counted from word 5
pub words_same : (ws : List ℕ) (at from : ℕ) → 5 ≤ at → drop (at + from) ws ≡ drop ((at - 5) + from) (drop 5 ws)
words_same ws at from l = let e : at + from ≡ 5 + ((at - 5) + from) = omega (arith, l) in
    ap (λ z. drop z ws) e ∙ dropped 5 ((at - 5) + from) ws
  where
    dropped : (a b : ℕ) (xs : List ℕ) → drop (a + b) xs ≡ drop b (drop a xs)
    dropped a b xs = grind (arith, drop-drop)
