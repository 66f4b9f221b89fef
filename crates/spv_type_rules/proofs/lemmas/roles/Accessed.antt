-- A result of one id before a memory access of one literal: what is asked of its operands.
use Rattle.std.proofs.Common.{◌≡◌, ◌≤◌, ◌<◌, ◌⊎◌, inl, inr, ⊎_elim, ℕ, List, [], ◌∷◌, Bool, true, false, length, get_or}
use Rattle.std.proofs.Common.{refl, arith, MatchBool}
use Rattle.spv_module.specs.declared.operand.Operand.{Operand}
use Rattle.spv_module.specs.Module.{plain_operand, plain_operands}
use Rattle.spv_module.specs.Operand.{Plain, OfType, Result, Id, Word, Mask, PlainInst}
use Rattle.spv_layout.specs.declared.form.Role.{Role}
use Rattle.spv_layout.specs.declared.form.Role.TheVariants as role
use Rattle.spv_type_rules.specs.roles.inner.Asked.{ArePlayed, IsOneMiscast}
use Rattle.spv_type_rules.specs.roles.Role.{Plays}

abbrev pub is_result : Plain → Bool
is_result (Result x) = true
is_result _ = false

abbrev pub is_mask : Plain → Bool
is_mask (Mask k m) = true
is_mask _ = false

abbrev pub is_word : Plain → Bool
is_word (Word w) = true
is_word _ = false

five_of : (os : List Operand) (d : Operand) → 5 ≤ length os → length os < 6
    → os ≡ get_or os 0 d ∷ get_or os 1 d ∷ get_or os 2 d ∷ get_or os 3 d ∷ get_or os 4 d ∷ []
five_of [] d l m = absurd (omega (arith, l))
five_of (a ∷ []) d l m = absurd (omega (arith, l))
five_of (a ∷ b ∷ []) d l m = absurd (omega (arith, l))
five_of (a ∷ b ∷ c ∷ []) d l m = absurd (omega (arith, l))
five_of (a ∷ b ∷ c ∷ e ∷ []) d l m = absurd (omega (arith, l))
five_of (a ∷ b ∷ c ∷ e ∷ f ∷ []) d l m = refl
five_of (a ∷ b ∷ c ∷ e ∷ f ∷ g ∷ os) d l m = absurd (omega (arith, m))

five_played : (is : List PlainInst) (d r l : Role) (b : Bool) (p q u v w : Plain) (t a : ℕ) → p ≡ OfType t
    → is_result q ≡ true → u ≡ Id a → is_mask v ≡ true → is_word w ≡ true
    → MatchBool b (Plays is role.OfType t × Plays is d a) ((¬ (Plays is role.OfType t)) ⊎ (¬ (Plays is d a)))
    → MatchBool b (ArePlayed is d r l (p ∷ q ∷ u ∷ v ∷ w ∷ [])) (IsOneMiscast is d r l (p ∷ q ∷ u ∷ v ∷ w ∷ []))
five_played is d r l true p (Result x) u (Mask k m) (Word y) t a e f g h i n =
    rw (e, g) (n.0, (tt, (n.1, (tt, (tt, tt)))))
five_played is d r l false p (Result x) u (Mask k m) (Word y) t a e f g h i n =
    rw (e, g)
    (⊎_elim
    (λ (z : ¬ (Plays is role.OfType t)). inl z)
    (λ (z : ¬ (Plays is d a)). inr (inr (inl z)))
    n)
five_played is d r l b p q u v w t a e f g h i n = cc

pub accessed_played : (is : List PlainInst) (d r l : Role) (b : Bool) (os : List Operand) (o : Operand) (t a : ℕ)
    → 5 ≤ length os → length os < 6
    → plain_operand (get_or os 0 o) ≡ OfType t → is_result (plain_operand (get_or os 1 o)) ≡ true
    → plain_operand (get_or os 2 o) ≡ Id a → is_mask (plain_operand (get_or os 3 o)) ≡ true
    → is_word (plain_operand (get_or os 4 o)) ≡ true
    → MatchBool b (Plays is role.OfType t × Plays is d a) ((¬ (Plays is role.OfType t)) ⊎ (¬ (Plays is d a)))
    → MatchBool b (ArePlayed is d r l (plain_operands os)) (IsOneMiscast is d r l (plain_operands os))
accessed_played is d r l b os o t a low high e f g h i n =
    rw (five_of os o low high) (five_played is d r l b _ _ _ _ _ t a e f g h i n)
