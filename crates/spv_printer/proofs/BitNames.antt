-- The names of a mask, bit by bit.
use Rattle.std.proofs.Common.{◌≡◌, ◌≢◌, ◌++◌, ◌∙◌, ◌<◌, ◌≤◌, ◌+◌, ◌-◌, ◌*◌, ◌/◌, ◌%◌, ◌^◌, ℕ, zero, suc, List, [], ◌∷◌}
use Rattle.std.proofs.Common.{Option, Some, None, Bool, true, false, ◌&&◌, nat_eq, option_map, option_and_then, is_some}
use Rattle.std.proofs.Common.{refl, sym, ap, arith, append_assoc, append-nil}
use Rattle.std.specs.Prelude.{Result, OnOk, unwrap_or, if◌then◌else◌}
use Rattle.std.specs.List.{filter, list_all}
use Rattle.std.proofs.Math.Nat.{pow-succ', div-div-eq-div-mul}
use Rattle.std.proofs.lemmas.Nat.{one_shl}
use Rattle.std.proofs.lemmas.Bool.Decides.{nat_tests}
use Rattle.spv_table.specs.declared.table.Enumerant.{Enumerant}
use Rattle.spv_table.specs.Table.{enumerant_of}
use Rattle.spv_table.specs.Lookups.{value_named, is_number}
use Rattle.spv_module.specs.Spelling.{bits_from, set_bits}
use Rattle.spv_lines.specs.Name.{is_plain, is_name_octet, joined, by_number, mask_values, first_name, first_names}
use Rattle.spv_lines.specs.Name.{if_plain, names_from, shown_value, shown_mask}

pub plain_by : (t : List ℕ) → 0 < Rattle.std.proofs.Common.length t → list_all is_name_octet t ≡ is_plain t
plain_by [] h = absurd (omega arith)
plain_by (b ∷ t) h = refl

is_set_by : (m : ℕ) → m % 2 ≡ 1 → nat_eq (m % 2) 1 ≡ true
is_set_by m h = grind (arith, nat_tests)

is_clear_by : (m : ℕ) → m % 2 ≢ 1 → nat_eq (m % 2) 1 ≡ false
is_clear_by m h = grind (arith, nat_tests)

halved : (mask b : ℕ) → mask / b ≡ 0 → mask / (2 * b) ≡ 0
halved mask b h =
    let e = div-div-eq-div-mul mask b 2 in
    let f : mask / b / 2 ≡ 0 = rw h refl in
    let g : b * 2 ≡ 2 * b = omega arith in
    rw (← g) (sym e ∙ f)

none_left : (mask n b : ℕ) → mask / b ≡ 0 → filter (λ b. nat_eq (mask / b % 2) 1) (bits_from n b) ≡ []
none_left mask zero b h = refl
none_left mask (suc n) b h =
    let e : nat_eq (mask / b % 2) 1 ≡ false = rw h refl in
    rw e (none_left mask n (2 * b) (halved mask b h))

pub no_names : (es : List Enumerant) (mask p : ℕ) → mask / 2 ^ p ≡ 0 → names_from es mask p ≡ Some []
unfolding names_from
no_names es mask p h = ap (first_names es) (none_left mask (32 - p) (2 ^ p) h)

pub past_names : (es : List Enumerant) (mask p : ℕ) → 32 ≤ p → names_from es mask p ≡ Some []
unfolding names_from
past_names es mask p h = let e : 32 - p ≡ 0 = omega arith in rw e refl

next_power : (p : ℕ) → 2 ^ (p + 1) ≡ 2 * 2 ^ p
next_power p = let e : p + 1 ≡ suc p = omega arith in rw e (pow-succ' 2 p)

next_count : (p : ℕ) → p < 32 → 32 - p ≡ suc (32 - (p + 1))
next_count p h = omega arith

-- a name and those behind it, if all are there
abbrev pub and_names : Option (List ℕ) → Option (List (List ℕ)) → Option (List (List ℕ))
and_names o r = option_and_then (λ t. option_map (λ ts. t ∷ ts) r) o

set_names : (es : List Enumerant) (mask p : ℕ) → p < 32 → mask / 2 ^ p % 2 ≡ 1
    → names_from es mask p ≡ and_names (first_name es (2 ^ p)) (names_from es mask (p + 1))
unfolding names_from
set_names es mask p h g =
    let e = is_set_by (mask / 2 ^ p) g in
    rw (next_count p h, next_power p, e) refl

pub clear_names : (es : List Enumerant) (mask p : ℕ) → p < 32 → mask / 2 ^ p % 2 ≢ 1
    → names_from es mask p ≡ names_from es mask (p + 1)
unfolding names_from
clear_names es mask p h g =
    let e = is_clear_by (mask / 2 ^ p) g in
    rw (next_count p h, next_power p, e) refl

all_names : (es : List Enumerant) (mask : ℕ) → names_from es mask 0 ≡ first_names es (set_bits mask)
unfolding names_from
all_names es mask = refl

-- the bit as the code makes it
the_bit : (p : ℕ) → p < 32 → (1 * 2 ^ p) % 2 ^ 32 ≡ 2 ^ p
the_bit p h = one_shl p 32 h

some_more : (o : Option (List ℕ)) (r : Option (List (List ℕ))) → is_some o ≡ true → is_some (and_names o r) ≡ is_some r
some_more None r h = cc
some_more (Some t) None h = refl
some_more (Some t) (Some ts) h = refl

some_less : (o : Option (List ℕ)) (r : Option (List (List ℕ))) → is_some o ≡ false → is_some (and_names o r) ≡ false
some_less None r h = refl
some_less (Some t) r h = cc

pub named_bit : (es : List Enumerant) (mask p : ℕ) → p < 32 → mask / 2 ^ p % 2 ≡ 1
    → is_some (first_name es ((1 * 2 ^ p) % 2 ^ 32)) ≡ true
    → is_some (names_from es mask p) ≡ is_some (names_from es mask (p + 1))
named_bit es mask p h g n =
    let b : is_some (first_name es (2 ^ p)) ≡ true = ap (λ b. is_some (first_name es b)) (sym (the_bit p h)) ∙ n in
    ap is_some (set_names es mask p h g) ∙ some_more (first_name es (2 ^ p)) (names_from es mask (p + 1)) b

pub nameless_bit : (es : List Enumerant) (mask p : ℕ) → p < 32 → mask / 2 ^ p % 2 ≡ 1
    → is_some (first_name es ((1 * 2 ^ p) % 2 ^ 32)) ≡ false → is_some (names_from es mask p) ≡ false
nameless_bit es mask p h g n =
    let b : is_some (first_name es (2 ^ p)) ≡ false = ap (λ b. is_some (first_name es b)) (sym (the_bit p h)) ∙ n in
    ap is_some (set_names es mask p h g) ∙ some_less (first_name es (2 ^ p)) (names_from es mask (p + 1)) b

-- what is left of names behind others, or of all
abbrev pub tail : Bool → List (List ℕ) → List ℕ
tail true ts = joined ts
tail false [] = []
tail false (t ∷ ts) = 124 ∷ joined (t ∷ ts)

joined_tail : (t : List ℕ) (ts : List (List ℕ)) → joined (t ∷ ts) ≡ t ++ tail false ts
joined_tail t [] = sym (append-nil t)
joined_tail t (u ∷ ts) = refl

tail_more : (is_first : Bool) (t : List ℕ) (ts : List (List ℕ))
    → tail is_first (t ∷ ts) ≡ (if is_first then [] else 124 ∷ []) ++ (t ++ tail false ts)
tail_more true t ts = joined_tail t ts
tail_more false t ts = ap (λ z. 124 ∷ z) (joined_tail t ts)

tail_end : (is_first : Bool) → tail is_first [] ≡ []
tail_end true = refl
tail_end false = refl

-- Before the bit of a position: the names of the bits from there up are left.
pub record Left (es : List Enumerant) (mask : ℕ) (goal out : List ℕ) (is_first : Bool) (p : ℕ) : Type 0 where
  pub names : List (List ℕ)
  pub found : names_from es mask p ≡ Some names
  pub all : out ++ tail is_first names ≡ goal

pub left_first : (es : List Enumerant) (mask : ℕ) (ts : List (List ℕ)) (out : List ℕ) → names_from es mask 0 ≡ Some ts
    → Left es mask (out ++ joined ts) out true 0
left_first es mask ts out e = record { names = ts; found = e; all = refl }

record Both (o : Option (List ℕ)) (r : Option (List (List ℕ))) (ts : List (List ℕ)) : Type 0 where
  pub first : List ℕ
  pub rest : List (List ℕ)
  pub first_is : o ≡ Some first
  pub rest_is : r ≡ Some rest
  pub all : ts ≡ first ∷ rest

both : (o : Option (List ℕ)) (r : Option (List (List ℕ))) (ts : List (List ℕ))
    → option_and_then (λ t. option_map (λ us. t ∷ us) r) o ≡ Some ts → Both o r ts
both None r ts e = cc
both (Some t) None ts e = cc
both (Some t) (Some us) ts e = record { first = t; rest = us; first_is = refl; rest_is = refl; all = cc }

pub left_set : (es : List Enumerant) (mask : ℕ) (goal out barred more : List ℕ) (is_first : Bool) (p : ℕ)
    → Left es mask goal out is_first p → p < 32 → mask / 2 ^ p % 2 ≡ 1
    → barred ≡ out ++ (if is_first then [] else 124 ∷ []) → more ≡ barred ++ shown_value es ((1 * 2 ^ p) % 2 ^ 32)
    → Left es mask goal more false (p + 1)
left_set es mask goal out barred more is_first p l h g e f =
    let n : and_names (first_name es (2 ^ p)) (names_from es mask (p + 1)) ≡ Some l.names = sym
    (set_names es mask p h g) ∙ l.found in
    let b = both (first_name es (2 ^ p)) (names_from es mask (p + 1)) l.names n in
    let v : shown_value es ((1 * 2 ^ p) % 2 ^ 32) ≡ b.first = ap (shown_value es) (the_bit p h)
    ∙ ap (λ o. unwrap_or o (by_number (2 ^ p))) b.first_is in
    let bar : List ℕ = if is_first then [] else 124 ∷ [] in
    let m : more ≡ (out ++ bar) ++ b.first = f
    ∙ (ap (λ z. z ++ shown_value es ((1 * 2 ^ p) % 2 ^ 32)) e ∙ ap (λ z. (out ++ bar) ++ z) v) in
    let k : more ++ tail false b.rest ≡ out
    ++ (bar ++ (b.first ++ tail false b.rest)) = ap (λ z. z ++ tail false b.rest) m ∙ simp append_assoc in
    let j : out ++ tail is_first l.names ≡ out
    ++ (bar ++ (b.first ++ tail false b.rest)) =
    ap (λ z. out ++ tail is_first z) b.all ∙ ap (λ z. out ++ z) (tail_more is_first b.first b.rest) in
    record { names = b.rest; found = b.rest_is; all = k ∙ (sym j ∙ l.all) }

-- what is shown of a value whose enumerant's name is shown
named_by : (es : List Enumerant) (x : ℕ) (e : Enumerant) (b : Bool) → is_some (if b then Some e.name else None) ≡ true
    → unwrap_or (if b then Some e.name else None) (by_number x) ≡ e.name
named_by es x e true h = refl
named_by es x e false h = cc

pub named_shown : (es : List Enumerant) (x : ℕ) (e : Enumerant) → enumerant_of es x ≡ Some e
    → is_some (first_name es x) ≡ true → shown_value es x ≡ e.name
named_shown es x e f h =
    let first : first_name es x ≡ if_plain (value_named es) x e.name = ap
    (λ o. option_and_then (λ (a : Enumerant). if_plain (value_named es) x a.name) o) f in
    ap (λ o. unwrap_or o (by_number x)) first
    ∙ named_by es x e (is_plain e.name && is_number x (value_named es e.name)) (sym (ap is_some first) ∙ h)

-- a value without an enumerant has no name
pub unnamed : (es : List Enumerant) (x : ℕ) → enumerant_of es x ≡ None → is_some (first_name es x) ≡ true → ⊥
unnamed es x f h = let e : is_some (first_name es x) ≡ false = ap
    (λ o. is_some (option_and_then (λ (a : Enumerant). if_plain (value_named es) x a.name) o)) f in cc

pub left_clear : (es : List Enumerant) (mask : ℕ) (goal out : List ℕ) (is_first : Bool) (p : ℕ)
    → Left es mask goal out is_first p → p < 32 → mask / 2 ^ p % 2 ≢ 1 → Left es mask goal out is_first (p + 1)
left_clear es mask goal out is_first p l h g =
    record { names = l.names; found = sym (clear_names es mask p h g) ∙ l.found; all = l.all }

pub left_none : (es : List Enumerant) (mask : ℕ) (goal out : List ℕ) (is_first : Bool) (p : ℕ)
    → Left es mask goal out is_first p → names_from es mask p ≡ Some [] → out ≡ goal
left_none es mask goal out is_first p l e =
    let f : Some [] ≡ Some l.names = sym e ∙ l.found in
    let g : [] ≡ l.names = cc in
    let h : tail is_first l.names ≡ [] = rw (← g) (tail_end is_first) in
    sym (append-nil out) ∙ (ap (λ z. out ++ z) (sym h) ∙ l.all)

-- 0 is shown as a value
zero_by : (o : Option (List ℕ)) (t : List ℕ)
    → unwrap_or (option_map joined (option_and_then (λ t. option_map (λ ts. t ∷ ts) (Some [])) o)) t ≡ unwrap_or o t
zero_by None t = refl
zero_by (Some u) t = refl

pub zero_mask : (es : List Enumerant) → shown_value es 0 ≡ shown_mask es 0
zero_mask es = sym (zero_by (first_name es 0) (by_number 0))

bits_of : (x : ℕ) → x ≢ 0 → mask_values x ≡ set_bits x
bits_of x n = let e : nat_eq x 0 ≡ false = grind (arith, nat_tests) in rw e refl

pub nameless_mask : (es : List Enumerant) (x : ℕ) → x ≢ 0 → false ≡ is_some (names_from es x 0)
    → by_number x ≡ shown_mask es x
nameless_mask es x n e = step (first_names es (set_bits x)) refl (e ∙ ap is_some (all_names es x))
  where
    step : (o : Option (List (List ℕ))) → first_names es (set_bits x) ≡ o → false ≡ is_some o
        → by_number x ≡ shown_mask es x
    step None f g = sym (ap (λ bs. unwrap_or (option_map joined (first_names es bs)) (by_number x)) (bits_of x n)
        ∙ ap (λ o. unwrap_or (option_map joined o) (by_number x)) f)
    step (Some ts) f g = cc

pub named_mask : (es : List Enumerant) (x : ℕ) (ts : List (List ℕ)) → x ≢ 0 → first_names es (set_bits x) ≡ Some ts
    → joined ts ≡ shown_mask es x
named_mask es x ts n f =
    sym (ap (λ bs. unwrap_or (option_map joined (first_names es bs)) (by_number x)) (bits_of x n)
    ∙ ap (λ o. unwrap_or (option_map joined o) (by_number x)) f)

pub mask_shown : {T E : Type 0} (r : Result T E) (es : List Enumerant) (x : ℕ) (old out : List ℕ) → x ≢ 0
    → true ≡ is_some (names_from es x 0)
    → ((ts : List (List ℕ)) → names_from es x 0 ≡ Some ts → OnOk r (out ≡ old ++ joined ts))
    → OnOk r (out ≡ old ++ shown_mask es x)
mask_shown r es x old out n e h = step (first_names es (set_bits x)) refl (e ∙ ap is_some (all_names es x))
  where
    step : (o : Option (List (List ℕ))) → first_names es (set_bits x) ≡ o → true ≡ is_some o
        → OnOk r (out ≡ old ++ shown_mask es x)
    step None f g = cc
    step (Some ts) f g = rw (← named_mask es x ts n f) (h ts (all_names es x ∙ f))
