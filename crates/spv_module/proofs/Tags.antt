-- Two variants without fields that have one place are the same.
use Rattle.std.proofs.Common.{◌≡◌, List, [], ◌∷◌, Bool, true, false, refl, ap, inl, inr, arith}
use denote.RattleType.{RattleType}
use denote.Enum.Declared.{Declared, tag_of, variants}
use denote.Enum.Enum.{Sum, tag}

-- whether no variant has a field
abbrev pub are_bare : List (List RattleType) → Bool
are_bare [] = true
are_bare ([] ∷ Tss) = are_bare Tss
are_bare ((T ∷ Ts) ∷ Tss) = false

one_place : (Tss : List (List RattleType)) → are_bare Tss ≡ true → (x y : Sum Tss) → tag Tss x ≡ tag Tss y → x ≡ y
one_place [] e x y p = absurd x
one_place ([] ∷ Tss) e (inl x) (inl y) p = refl
one_place ([] ∷ Tss) e (inl x) (inr y) p = absurd (omega arith)
one_place ([] ∷ Tss) e (inr x) (inl y) p = absurd (omega arith)
one_place ([] ∷ Tss) e (inr x) (inr y) p = ap inr (one_place Tss e x y (omega arith))
one_place ((T ∷ Ts) ∷ Tss) e x y p = absurd (let h : false ≡ true = e in cc)

pub one_variant : (T : Declared) → are_bare (variants T) ≡ true → (x y : T.D) → tag_of T x ≡ tag_of T y → x ≡ y
one_variant T e x y p = T.to_one x y (one_place (variants T) e (T.to x) (T.to y) p)
