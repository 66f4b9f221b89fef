-- Values and masks, and the enumerants that they need.
use Rattle.std.proofs.Common.{◌≡◌, ◌<◌, ◌+◌, ◌-◌, ◌*◌, ◌/◌, ◌%◌, ◌^◌, ℕ, zero, suc, List, [], ◌∷◌, ◌++◌, Option, Some}
use Rattle.std.proofs.Common.{None, Bool, true, false, refl, arith, map}
use Rattle.std.specs.Prelude.{is_some, option_map, option_and_then, unwrap_or, filter, nat_eq}
use Rattle.std.proofs.lemmas.Grind.{common_steps}
use Rattle.std.proofs.lemmas.Nat.{pow_pos}
use Rattle.std.proofs.Math.Pow.{pow-lt}
use Rattle.std.proofs.Math.Nat.{div-eq_of_lt, lt-div-mul-add, mod-eq_of_lt}
use Rattle.spv_table.specs.declared.table.Enumerant.{Enumerant}
use Rattle.spv_table.specs.Table.{Table, Sort, kind_of, enumerant_of}
use Rattle.spv_module.specs.Operand.{Value, Mask}
use Rattle.spv_module.specs.Shape.{alone, AsValue, AsMask}
use Rattle.spv_module.specs.Spelling.{bits_from, parameters_of, parameters_of_all, mask_parameters, Takes}
use Rattle.spv_module.specs.declared.fault.Rule.TheVariants.{I6, I7}
use Rattle.spv_module.specs.Refusal.{ShapeRefuses}
use Rattle.spv_inst.specs.Reading.{enumerants_at}
use Rattle.spv_inst.specs.inner.Reading.{parameter_kinds}

none_from : {A : Type 0} (o : Option A) → is_some o ≡ false → o ≡ None
none_from None e = refl
none_from (Some a) e = cc

some_from : (o : Option (List ℕ)) → is_some o ≡ true → o ≡ Some (unwrap_or o [])
some_from None e = cc
some_from (Some ks) e = refl

-- an enumerant is found exactly where it has parameters
pub found : {A : Type 0} (now : A → Enumerant) (r : Option A) (o : Option Sort) (x : ℕ)
    → option_map now r ≡ option_and_then (λ s. enumerant_of s.enumerants x) o
    → is_some r ≡ is_some (parameters_of (enumerants_at o) x)
found now None None x e = refl
found now (Some a) None x e = cc
found now r (Some s) x e = found_in now r (enumerant_of s.enumerants x) e
  where
    found_in : {A : Type 0} (now : A → Enumerant) (r : Option A) (o : Option Enumerant) → option_map now r ≡ o
        → is_some r ≡ is_some (option_map (λ e. e.parameters) o)
    found_in now None None e = refl
    found_in now None (Some a) e = cc
    found_in now (Some a) None e = cc
    found_in now (Some a) (Some b) e = refl

pub value_taken : (G : Table) (k x : ℕ) → is_some (parameters_of (enumerants_at (kind_of G k)) x) ≡ true
    → Takes k (AsValue (enumerants_at (kind_of G k))) (Value k x) (x ∷ []) (map alone (parameter_kinds G (Value k x)))
value_taken G k x h =
    Takes.value (enumerants_at (kind_of G k)) x _ (some_from (parameters_of (enumerants_at (kind_of G k)) x) h)

pub value_refused : (es : List Enumerant) (x : ℕ) (us : List ℕ) → is_some (parameters_of es x) ≡ false
    → ShapeRefuses (AsValue es) (x ∷ us) I6 0
value_refused es x us h = ShapeRefuses.unknown_value es x us (none_from (parameters_of es x) h)

pub mask_taken : (G : Table) (k x : ℕ) → is_some (mask_parameters (enumerants_at (kind_of G k)) x) ≡ true
    → Takes k (AsMask (enumerants_at (kind_of G k))) (Mask k x) (x ∷ []) (map alone (parameter_kinds G (Mask k x)))
mask_taken G k x h = Takes.mask (enumerants_at (kind_of G k)) x _
    (some_from (mask_parameters (enumerants_at (kind_of G k)) x) h)

pub mask_refused : (es : List Enumerant) (x : ℕ) (us : List ℕ) → is_some (mask_parameters es x) ≡ false
    → ShapeRefuses (AsMask es) (x ∷ us) I7 0
mask_refused es x us h = ShapeRefuses.unknown_bit es x us (none_from (mask_parameters es x) h)

-- whether the set bits from bit `b` up, of `n` bits, are known
unfoldable pub knows_from : List Enumerant → ℕ → ℕ → ℕ → Bool
knows_from es mask n b = is_some (parameters_of_all es (filter (λ b. nat_eq (mask / b % 2) 1) (bits_from n b)))

pub knows_all : (es : List Enumerant) (mask : ℕ) → is_some (mask_parameters es mask) ≡ knows_from es mask 32 1
unfolding knows_from mask_parameters
knows_all es mask = refl

pub knows_end : (es : List Enumerant) (mask b : ℕ) → knows_from es mask 0 b ≡ true
unfolding knows_from
knows_end es mask b = refl

some_joined : (ks : List ℕ) (o : Option (List ℕ)) → is_some (option_map (λ js. ks ++ js) o) ≡ is_some o
some_joined ks None = refl
some_joined ks (Some js) = refl

front_known : (es : List Enumerant) (b : ℕ) (bs : List ℕ) (o : Option (List ℕ)) → parameters_of es b ≡ o
    → is_some o ≡ true → is_some (parameters_of_all es (b ∷ bs)) ≡ is_some (parameters_of_all es bs)
front_known es b bs None e h = cc
front_known es b bs (Some ks) e h = rw e (some_joined ks (parameters_of_all es bs))

-- a set bit that is known
pub knows_set : (es : List Enumerant) (mask n b : ℕ) → mask / b % 2 ≡ 1 → is_some (parameters_of es b) ≡ true
    → knows_from es mask (suc n) b ≡ knows_from es mask n (2 * b)
unfolding knows_from
knows_set es mask n b e h = rw e (front_known es b _ (parameters_of es b) refl h)

-- a set bit that is not known
pub knows_not : (es : List Enumerant) (mask n b : ℕ) → mask / b % 2 ≡ 1 → is_some (parameters_of es b) ≡ false
    → knows_from es mask (suc n) b ≡ false
unfolding knows_from
knows_not es mask n b e h = let none = none_from (parameters_of es b) h in rw (e, none) refl

-- a bit that is not set
pub knows_unset : (es : List Enumerant) (mask n b : ℕ) → mask / b % 2 ≡ 0
    → knows_from es mask (suc n) b ≡ knows_from es mask n (2 * b)
unfolding knows_from
knows_unset es mask n b e = rw e refl

-- no bit is left
pub knows_rest : (es : List Enumerant) (mask n b : ℕ) → mask < b → knows_from es mask n b ≡ true
knows_rest es mask zero b h = knows_end es mask b
knows_rest es mask (suc n) b h =
    let d : mask / b ≡ 0 = div-eq_of_lt h in
    let e : mask / b % 2 ≡ 0 = rw d refl in
    rw (knows_unset es mask n b e) (knows_rest es mask n (2 * b) (omega arith))

-- from bit `2 ^ i` to the next
pub step : (i : ℕ) → 2 * 2 ^ i ≡ 2 ^ (i + 1)
step i = grind (arith, common_steps)

pub knows_set_at : (es : List Enumerant) (mask i : ℕ) → i < 32 → mask / 2 ^ i % 2 ≡ 1
    → is_some (parameters_of es (2 ^ i)) ≡ true
    → knows_from es mask (32 - i) (2 ^ i) ≡ knows_from es mask (32 - (i + 1)) (2 ^ (i + 1))
knows_set_at es mask i l e h =
    let n : 32 - i ≡ suc (32 - (i + 1)) = omega arith in
    rw (n, ← step i) (knows_set es mask (32 - (i + 1)) (2 ^ i) e h)

pub knows_unset_at : (es : List Enumerant) (mask i : ℕ) → i < 32 → mask / 2 ^ i % 2 ≡ 0
    → knows_from es mask (32 - i) (2 ^ i) ≡ knows_from es mask (32 - (i + 1)) (2 ^ (i + 1))
knows_unset_at es mask i l e =
    let n : 32 - i ≡ suc (32 - (i + 1)) = omega arith in
    rw (n, ← step i) (knows_unset es mask (32 - (i + 1)) (2 ^ i) e)

pub knows_not_at : (es : List Enumerant) (mask i : ℕ) → i < 32 → mask / 2 ^ i % 2 ≡ 1
    → is_some (parameters_of es (2 ^ i)) ≡ false
    → knows_from es mask (32 - i) (2 ^ i) ≡ false
knows_not_at es mask i l e h =
    let n : 32 - i ≡ suc (32 - (i + 1)) = omega arith in
    rw n (knows_not es mask (32 - (i + 1)) (2 ^ i) e h)

pub lt_from_div : (n b : ℕ) → 0 < b → n / b ≡ 0 → n < b
lt_from_div n b h e = let l : n < n / b * b + b = lt-div-mul-add h in let m : n < 0 * b + b = rw e at l in omega arith

pub knows_rest_at : (es : List Enumerant) (mask i : ℕ) → mask / 2 ^ i ≡ 0 → knows_from es mask (32 - i) (2 ^ i) ≡ true
knows_rest_at es mask i e = knows_rest es mask (32 - i) (2 ^ i) (lt_from_div mask (2 ^ i) (pow_pos i) e)

-- the bit at a position, as the code computes it
pub shifted : (i : ℕ) → i < 32 → 1 * 2 ^ i % 4294967296 ≡ 2 ^ i
shifted i h =
    let l : 2 ^ i < 2 ^ 32 = pow-lt h in
    let e : 1 * 2 ^ i ≡ 2 ^ i = omega arith in
    rw e (mod-eq_of_lt l)
