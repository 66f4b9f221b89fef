-- Where literal indexes lead, and whether each is that of a part.
use Rattle.std.proofs.Common.{◌≡◌, ◌<◌, ◌+◌, ℕ, List, [], ◌∷◌, Option, Some, None, Bool, true, false, refl}
use Rattle.std.proofs.Common.{if◌then◌else◌, nat_lt}
use Rattle.std.specs.Prelude.{option_map, unwrap_or}
use Rattle.std.proofs.lemmas.Bool.{ltb-true, lt-ltb}
use Rattle.std.proofs.lemmas.Option.{option_and_then_some, none-some}
use Rattle.spv_module.specs.Operand.{Plain, PlainInst}
use Rattle.spv_module.specs.Operand as operand
use Rattle.spv_type_kinds.specs.Operands.{words_in}
use Rattle.spv_type_forms.specs.Parts.{part_of, count_of}
use Rattle.spv_type_forms.specs.Reach.{ReachesType, AreWithin}
use Rattle.spv_conditions.specs.Path.{part_within, reached_by, stop_at}

guarded : (b : Bool) (k n u : ℕ) (p : Option ℕ) → nat_lt k n ≡ b → (if b then p else None) ≡ Some u
    → (k < n) × (p ≡ Some u)
guarded true k n u p e h = (ltb-true k n e, h)
guarded false k n u p e h = absurd (none-some u h)

-- a part of a type
more_within : (is : List PlainInst) (t k u : ℕ) (ks : List ℕ) → part_within is t k ≡ Some u → AreWithin is u ks
    → AreWithin is t (k ∷ ks)
more_within is t k u ks e w =
    option_and_then_some (λ n. if nat_lt k n then part_of is t k else None) (count_of is t) u e (λ n c g.
    let p = guarded (nat_lt k n) k n u (part_of is t k) refl g in
    AreWithin.more t k u n ks c p.0 p.1 w)

first_within : (is : List PlainInst) (t k : ℕ) (ks : List ℕ) → AreWithin is t (k ∷ ks)
    → (u : ℕ) × (part_within is t k ≡ Some u) × (part_of is t k ≡ Some u) × AreWithin is u ks
first_within is t k ks (AreWithin.more _ _ u n _ c l p w) =
    let b : nat_lt k n ≡ true = lt-ltb k n l in
    let e : part_within is t k ≡ Some u = rw (c, b) p in
    (u, e, p, w)

-- each index is that of a part exactly where none stops
pub never_stops : (is : List PlainInst) (os : List Plain) (j t : ℕ) → AreWithin is t (words_in os)
    → stop_at is j os t ≡ None
never_stops is [] j t w = refl
never_stops is (operand.Word k ∷ os) j t w = let f = first_within is t k (words_in os) w in
    rw f.1 (never_stops is os (j + 1) f.0 f.3)
never_stops is (o ∷ os) j t w = never_stops is os (j + 1) t w

-- the first index is that of a part, and the rest are
stepped : (is : List PlainInst) (j t k : ℕ) (os : List Plain)
    → ((u : ℕ) → stop_at is (j + 1) os u ≡ None → AreWithin is u (words_in os)) → (p : Option ℕ)
    → part_within is t k ≡ p
    → unwrap_or (option_map (λ u. stop_at is (j + 1) os u) p) (Some j) ≡ None → AreWithin is t (k ∷ words_in os)
stepped is j t k os f None q h = cc
stepped is j t k os f (Some u) q h = more_within is t k u (words_in os) q (f u h)

pub all_within : (is : List PlainInst) (os : List Plain) (j t : ℕ) → stop_at is j os t ≡ None
    → AreWithin is t (words_in os)
all_within is [] j t e = AreWithin.none t
all_within is (operand.Word k ∷ os) j t e =
    stepped is j t k os (λ u h. all_within is os (j + 1) u h) (part_within is t k) refl e
all_within is (o ∷ os) j t e = all_within is os (j + 1) t e

-- the type that is reached
pub reaches : (is : List PlainInst) (ks : List ℕ) (t u : ℕ) → AreWithin is t ks → ReachesType is t ks u
    → reached_by is ks t ≡ u
reaches is [] t u w (ReachesType.itself _) = refl
reaches is (k ∷ ks) t u w (ReachesType.by_part _ _ v _ _ p r) =
    let f = first_within is t k ks w in
    let same : f.0 ≡ v = cc in
    rw f.1 (reaches is ks f.0 u f.3 (rw same r))

pub is_reached : (is : List PlainInst) (ks : List ℕ) (t u : ℕ) → AreWithin is t ks → reached_by is ks t ≡ u
    → ReachesType is t ks u
is_reached is [] t u w e = rw e (ReachesType.itself u)
is_reached is (k ∷ ks) t u w e =
    let f = first_within is t k ks w in
    let there : reached_by is ks f.0 ≡ u = rw f.1 at e in
    ReachesType.by_part t k f.0 u ks f.2 (is_reached is ks f.0 u f.3 there)
