-- The parameters of a mask, bit by bit.
use Rattle.std.proofs.Common.{◌≡◌, ◌≢◌, ◌++◌, ◌∙◌, ◌<◌, ◌≤◌, ◌+◌, ◌-◌, ◌*◌, ◌/◌, ◌%◌, ◌^◌, ℕ, zero, suc, List, [], ◌∷◌}
use Rattle.std.proofs.Common.{Option, Some, None, Bool, true, false, nat_eq, option_map, option_and_then, unwrap_or}
use Rattle.std.proofs.Common.{refl, sym, arith}
use Rattle.std.specs.List.{filter}
use Rattle.std.proofs.Math.Nat.{pow-succ', div-div-eq-div-mul}
use Rattle.std.proofs.lemmas.Nat.{one_shl}
use Rattle.std.proofs.lemmas.Bool.Decides.{nat_tests}
use Rattle.spv_table.specs.declared.table.Enumerant.{Enumerant}
use Rattle.spv_table.specs.Table.{Table, Sort, kind_of, enumerant_of}
use Rattle.spv_module.specs.Spelling.{bits_from, set_bits, parameters_of, parameters_of_all, mask_parameters}
use Rattle.spv_inst.specs.Reading.{enumerants_at}
use Rattle.spv_inst.specs.inner.Pending.{parameters_of_known, parameters_from}

-- is a bit of that value set in a mask
abbrev is_set : ℕ → ℕ → Bool
is_set mask b = nat_eq (mask / b % 2) 1

is_set_by : (mask b : ℕ) → mask / b % 2 ≡ 1 → is_set mask b ≡ true
is_set_by mask b h = grind (arith, nat_tests)

is_clear_by : (mask b : ℕ) → mask / b % 2 ≢ 1 → is_set mask b ≡ false
is_clear_by mask b h = grind (arith, nat_tests)

halved : (mask b : ℕ) → mask / b ≡ 0 → mask / (2 * b) ≡ 0
halved mask b h =
    let e = div-div-eq-div-mul mask b 2 in
    let f : mask / b / 2 ≡ 0 = rw h refl in
    let g : b * 2 ≡ 2 * b = omega arith in
    rw (← g) (sym e ∙ f)

-- no bit is left
none_left : (es : List Enumerant) (mask n b : ℕ) → mask / b ≡ 0
    → parameters_of_known es (filter (is_set mask) (bits_from n b)) ≡ []
none_left es mask zero b h = refl
none_left es mask (suc n) b h =
    let e : is_set mask b ≡ false = rw h refl in
    rw e (none_left es mask n (2 * b) (halved mask b h))

pub past_bits : (G : Table) (kind mask p : ℕ) → 32 ≤ p → parameters_from G kind mask p ≡ []
unfolding parameters_from
past_bits G kind mask p h = let e : 32 - p ≡ 0 = omega arith in rw e refl

pub no_bits : (G : Table) (kind mask p : ℕ) → mask / 2 ^ p ≡ 0 → parameters_from G kind mask p ≡ []
unfolding parameters_from
no_bits G kind mask p h = none_left (enumerants_at (kind_of G kind)) mask (32 - p) (2 ^ p) h

next_power : (p : ℕ) → 2 ^ (p + 1) ≡ 2 * 2 ^ p
next_power p = let e : p + 1 ≡ suc p = omega arith in rw e (pow-succ' 2 p)

next_count : (p : ℕ) → p < 32 → 32 - p ≡ suc (32 - (p + 1))
next_count p h = omega arith

pub set_bit : (G : Table) (kind mask p : ℕ) → p < 32 → mask / 2 ^ p % 2 ≡ 1
    → parameters_from G kind mask p ≡ unwrap_or (parameters_of (enumerants_at (kind_of G kind)) (2 ^ p)) []
    ++ parameters_from G kind mask (p + 1)
unfolding parameters_from
set_bit G kind mask p h g =
    let e = is_set_by mask (2 ^ p) g in
    rw (next_count p h, next_power p, e) refl

pub clear_bit : (G : Table) (kind mask p : ℕ) → p < 32 → mask / 2 ^ p % 2 ≢ 1
    → parameters_from G kind mask p ≡ parameters_from G kind mask (p + 1)
unfolding parameters_from
clear_bit G kind mask p h g =
    let e = is_clear_by mask (2 ^ p) g in
    rw (next_count p h, next_power p, e) refl

-- what two lists of parameters make, if both are there
record BothKnown (a r : Option (List ℕ)) (ks : List ℕ) : Type 0 where
  pub first : List ℕ
  pub rest : List ℕ
  pub first_is : a ≡ Some first
  pub rest_is : r ≡ Some rest
  pub all : ks ≡ first ++ rest

both_known : (a r : Option (List ℕ)) (ks : List ℕ) → option_and_then (λ xs. option_map (λ ys. xs ++ ys) r) a ≡ Some ks
    → BothKnown a r ks
both_known None r ks h = cc
both_known (Some xs) None ks h = cc
both_known (Some xs) (Some ys) ks h = record { first = xs; rest = ys; first_is = refl; rest_is = refl; all = cc }

pub all_known : (es : List Enumerant) (bs ks : List ℕ) → parameters_of_all es bs ≡ Some ks
    → parameters_of_known es bs ≡ ks
all_known es [] ks h = cc
all_known es (b ∷ bs) ks h =
    let k = both_known (parameters_of es b) (parameters_of_all es bs) ks h in
    let ih = all_known es bs k.rest k.rest_is in
    rw (k.first_is, ih) (sym k.all)

pub whole_mask : (G : Table) (kind mask : ℕ) (ks : List ℕ)
    → mask_parameters (enumerants_at (kind_of G kind)) mask ≡ Some ks → parameters_from G kind mask 0 ≡ ks
unfolding parameters_from mask_parameters
whole_mask G kind mask ks h = all_known (enumerants_at (kind_of G kind)) (set_bits mask) ks h

-- what a look-up of an enumerant tells
pub looked_up : (o : Option Sort) (x : ℕ) (r : Option Enumerant)
    → r ≡ option_and_then (λ s. enumerant_of s.enumerants x) o
    → parameters_of (enumerants_at o) x ≡ option_map (λ e. e.parameters) r
looked_up None x r h = rw h refl
looked_up (Some s) x r h = rw h refl

-- what a look-up of parameters tells
pub parameters_found : (G : Table) (kind value : ℕ) (e : Enumerant)
    → Some e ≡ option_and_then (λ s. enumerant_of s.enumerants value) (kind_of G kind)
    → unwrap_or (parameters_of (enumerants_at (kind_of G kind)) value) [] ≡ e.parameters
parameters_found G kind value e h = rw (looked_up (kind_of G kind) value (Some e) h) refl

pub parameters_missing : (G : Table) (kind value : ℕ)
    → None ≡ option_and_then (λ s. enumerant_of s.enumerants value) (kind_of G kind)
    → unwrap_or (parameters_of (enumerants_at (kind_of G kind)) value) [] ≡ []
parameters_missing G kind value h = rw (looked_up (kind_of G kind) value None h) refl

-- the parameters of a bit, as the code makes the bit
pub bit_parameters : (G : Table) (kind p : ℕ) (ks : List ℕ) → p < 32
    → ks ≡ unwrap_or (parameters_of (enumerants_at (kind_of G kind)) ((1 * 2 ^ p) % 2 ^ 32)) []
    → unwrap_or (parameters_of (enumerants_at (kind_of G kind)) (2 ^ p)) [] ≡ ks
bit_parameters G kind p ks h e = let b = one_shl p 32 h in rw (← b) (sym e)

-- a set bit with its parameters, and without any
pub bit_opened : (G : Table) (kind mask p : ℕ) (ks : List ℕ) → p < 32 → mask / 2 ^ p % 2 ≡ 1
    → unwrap_or (parameters_of (enumerants_at (kind_of G kind)) (2 ^ p)) [] ≡ ks
    → parameters_from G kind mask p ≡ ks ++ parameters_from G kind mask (p + 1)
bit_opened G kind mask p ks h g e = rw (← e) (set_bit G kind mask p h g)

pub bit_without : (G : Table) (kind mask p : ℕ) (ks : List ℕ) → p < 32 → mask / 2 ^ p % 2 ≡ 1
    → unwrap_or (parameters_of (enumerants_at (kind_of G kind)) (2 ^ p)) [] ≡ ks → ks ≡ []
    → parameters_from G kind mask p ≡ parameters_from G kind mask (p + 1)
bit_without G kind mask p ks h g e z = rw (e, z) at (set_bit G kind mask p h g)
