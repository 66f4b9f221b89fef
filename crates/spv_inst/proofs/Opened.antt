-- The parameters of a mask, as they are put together bit by bit.
use Rattle.std.proofs.Common.{◌≡◌, ◌∙◌, ◌<◌, ◌+◌, ◌-◌, ◌*◌, ◌/◌, ◌%◌, ◌^◌, ℕ, zero, suc, List, [], ◌∷◌, ◌++◌, Option}
use Rattle.std.proofs.Common.{Some, None, refl, sym, ap, arith, map, Bor, append_assoc, append-nil}
use Rattle.std.specs.Prelude.{option_map, filter, nat_eq, IfSome}
use Rattle.std.proofs.lemmas.Nat.{pow_pos, div-mul-add}
use Rattle.std.proofs.Math.Nat.{div-eq_of_lt, pow-succ', mul-one}
use Rattle.spv_table.specs.declared.table.Enumerant.{Enumerant}
use Rattle.spv_inst.specs.Flat.{Due, OneOf}
use Rattle.spv_module.specs.Shape.{alone}
use Rattle.spv_module.specs.Spelling.{bits_from, parameters_of, parameters_of_all, mask_parameters}
use Rattle.spv_inst.proofs.Enumerants.{step, lt_from_div, shifted}

-- the parameters of the set bits from bit `b` up, of `n` bits
unfoldable pub kinds_from : List Enumerant → ℕ → ℕ → ℕ → Option (List ℕ)
kinds_from es mask n b = parameters_of_all es (filter (λ b. nat_eq (mask / b % 2) 1) (bits_from n b))

-- kinds in front of those that may be there
abbrev pub with_kinds : List ℕ → Option (List ℕ) → Option (List ℕ)
with_kinds ks o = option_map (λ js. ks ++ js) o

with_none : (o : Option (List ℕ)) → o ≡ with_kinds [] o
with_none None = refl
with_none (Some ks) = refl

with_both : (ks js : List ℕ) (o : Option (List ℕ)) → with_kinds ks (with_kinds js o) ≡ with_kinds (ks ++ js) o
with_both ks js None = refl
with_both ks js (Some ls) = ap (λ zs. Some zs) (sym (append_assoc ks js ls))

pub kinds_begin : (es : List Enumerant) (mask : ℕ) → mask_parameters es mask ≡ with_kinds [] (kinds_from es mask 32 1)
unfolding mask_parameters kinds_from
kinds_begin es mask = with_none (mask_parameters es mask)

kinds_set : (es : List Enumerant) (mask n b : ℕ) (ks : List ℕ) → mask / b % 2 ≡ 1 → parameters_of es b ≡ Some ks
    → kinds_from es mask (suc n) b ≡ with_kinds ks (kinds_from es mask n (2 * b))
unfolding kinds_from
kinds_set es mask n b ks e h = rw (e, h) refl

kinds_unset : (es : List Enumerant) (mask n b : ℕ) → mask / b % 2 ≡ 0
    → kinds_from es mask (suc n) b ≡ kinds_from es mask n (2 * b)
unfolding kinds_from
kinds_unset es mask n b e = rw e refl

kinds_end : (es : List Enumerant) (mask b : ℕ) → kinds_from es mask 0 b ≡ Some []
unfolding kinds_from
kinds_end es mask b = refl

kinds_rest : (es : List Enumerant) (mask n b : ℕ) → mask < b → kinds_from es mask n b ≡ Some []
kinds_rest es mask zero b h = kinds_end es mask b
kinds_rest es mask (suc n) b h =
    let d : mask / b ≡ 0 = div-eq_of_lt h in
    let e : mask / b % 2 ≡ 0 = rw d refl in
    rw (kinds_unset es mask n b e) (kinds_rest es mask n (2 * b) (omega arith))

-- a set bit that is known
pub kinds_set_at : (es : List Enumerant) (mask i : ℕ) (found ks all : List ℕ) → i < 32 → mask / 2 ^ i % 2 ≡ 1
    → parameters_of es (2 ^ i) ≡ Some ks → all ≡ found ++ ks
    → with_kinds found (kinds_from es mask (32 - i) (2 ^ i)) ≡ with_kinds all
    (kinds_from es mask (32 - (i + 1)) (2 ^ (i + 1)))
kinds_set_at es mask i found ks all l e h j =
    let n : 32 - i ≡ suc (32 - (i + 1)) = omega arith in
    rw (n, ← step i, j, kinds_set es mask (32 - (i + 1)) (2 ^ i) ks e h)
    (with_both found ks (kinds_from es mask (32 - (i + 1)) (2 * 2 ^ i)))

-- a bit that is not set
pub kinds_unset_at : (es : List Enumerant) (mask i : ℕ) (found all : List ℕ) → i < 32 → mask / 2 ^ i % 2 ≡ 0
    → all ≡ found
    → with_kinds found (kinds_from es mask (32 - i) (2 ^ i)) ≡ with_kinds all
    (kinds_from es mask (32 - (i + 1)) (2 ^ (i + 1)))
kinds_unset_at es mask i found all l e j =
    let n : 32 - i ≡ suc (32 - (i + 1)) = omega arith in
    rw (n, ← step i, j, kinds_unset es mask (32 - (i + 1)) (2 ^ i) e) refl

-- no bit is left
pub kinds_rest_at : (es : List Enumerant) (mask i : ℕ) (found : List ℕ) → mask / 2 ^ i ≡ 0
    → with_kinds found (kinds_from es mask (32 - i) (2 ^ i)) ≡ Some found
kinds_rest_at es mask i found e =
    rw (kinds_rest es mask (32 - i) (2 ^ i) (lt_from_div mask (2 ^ i) (pow_pos i) e))
    (ap (λ zs. Some zs) (append-nil found))

pub kinds_end_at : (es : List Enumerant) (mask b : ℕ) (found : List ℕ)
    → with_kinds found (kinds_from es mask 0 b) ≡ Some found
kinds_end_at es mask b found = rw (kinds_end es mask b) (ap (λ zs. Some zs) (append-nil found))

-- kinds that come due before others
pub due_joined : (ks js all : List ℕ) (ds : List Due) → all ≡ ks ++ js
    → map OneOf (map alone all) ++ ds ≡ map OneOf (map alone ks) ++ (map OneOf (map alone js) ++ ds)
due_joined ks js all ds e = rw e (in_front ks)
  where
    in_front : (ks : List ℕ)
        → map OneOf (map alone (ks ++ js)) ++ ds ≡ map OneOf (map alone ks) ++ (map OneOf (map alone js) ++ ds)
    in_front [] = refl
    in_front (k ∷ ks) = ap (λ zs. OneOf (alone k) ∷ zs) (in_front ks)

-- a power of two by the least bit, and by one of its smaller bits
one_self : (b : ℕ) → 0 < b → b / b % 2 ≡ 1
one_self b h =
    let d : (1 * b + 0) / b ≡ 1 = div-mul-add 1 b 0 h in
    let e : 1 * b + 0 ≡ b = omega arith in
    let f : b / b ≡ 1 = rw e at d in
    rw f refl

above_even : (b d : ℕ) → 0 < b → (b * 2 ^ suc d) / b % 2 ≡ 0
above_even b d h =
    let p : 2 ^ suc d ≡ 2 * 2 ^ d = pow-succ' 2 d in
    let q : (2 ^ suc d * b + 0) / b ≡ 2 ^ suc d = div-mul-add (2 ^ suc d) b 0 h in
    let e : 2 ^ suc d * b + 0 ≡ b * 2 ^ suc d = grind arith in
    let f : (b * 2 ^ suc d) / b ≡ 2 ^ suc d = rw e at q in
    rw f (omega (arith, p))

-- the parameters of a mask of one bit are those of its enumerant
one_bit : (es : List Enumerant) (d n b m : ℕ) (ks : List ℕ) → 0 < b → d < n → m ≡ b * 2 ^ d
    → parameters_of es m ≡ Some ks → kinds_from es m n b ≡ Some ks
one_bit es d zero b m ks h l e k = absurd (omega arith)
one_bit es zero (suc n) b m ks h l e k =
    let f : m ≡ b = e ∙ mul-one b in
    let g : m / b % 2 ≡ 1 = rw f (one_self b h) in
    let k' : parameters_of es b ≡ Some ks = rw f at k in
    let s = kinds_set es m n b ks g k' in
    let r : kinds_from es m n (2 * b) ≡ Some [] = kinds_rest es m n (2 * b) (omega arith) in
    s ∙ rw r (ap (λ zs. Some zs) (append-nil ks))
one_bit es (suc d) (suc n) b m ks h l e k =
    let g : m / b % 2 ≡ 0 = rw e (above_even b d h) in
    let p : 2 ^ suc d ≡ 2 * 2 ^ d = pow-succ' 2 d in
    let f : m ≡ (2 * b) * 2 ^ d = e ∙ twice b (2 ^ d) (2 ^ suc d) p in
    kinds_unset es m n b g ∙ one_bit es d n (2 * b) m ks (omega arith) (omega arith) f k
  where
    twice : (b x y : ℕ) → y ≡ 2 * x → b * y ≡ (2 * b) * x
    twice b x y e = rw e (grind arith)

pub one_bit_kinds : (es : List Enumerant) (mask i : ℕ) (r : Option (Bor (List ℕ))) → i < 32
    → 1 * 2 ^ i % 4294967296 ≡ mask → option_map (λ ks. ks.now) r ≡ parameters_of es mask
    → IfSome r (λ ks. mask_parameters es mask ≡ Some ks.now)
one_bit_kinds es mask i None l e k = tt
one_bit_kinds es mask i (Some ks) l e k =
    let m : mask ≡ 1 * 2 ^ i = sym e ∙ (shifted i l ∙ omega arith) in
    kinds_begin es mask ∙ (sym (with_none (kinds_from es mask 32 1))
    ∙ one_bit es i 32 1 mask ks.now (omega arith) l m (sym k))

pub no_bit_kinds : (es : List Enumerant) → mask_parameters es 0 ≡ Some []
no_bit_kinds es = kinds_begin es 0 ∙ (sym (with_none (kinds_from es 0 32 1)) ∙ kinds_rest es 0 32 1 (omega arith))
