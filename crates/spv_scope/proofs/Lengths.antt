-- Another version takes no byte away and adds none.
use Rattle.std.proofs.Common.{◌≡◌, ◌≤◌, ◌<◌, ◌∙◌, ◌++◌, ◌+◌, ◌-◌, ℕ, List, Option, Some, None, Bool, true, false, ap, refl, subst, arith, inl, inr, length, drop, length-append, length-drop}
use Rattle.std.proofs.lemmas.Bool.{cases_Bool}
use Rattle.std.proofs.lemmas.List.{length-set}
use Rattle.std.specs.Prelude.{slice_set}
use Rattle.spv_words.specs.Header.{BytesKeep, IsFirstBroken, greatest_size, place_of}
use Rattle.spv_words.specs.declared.words.Order.{Order}
use Rattle.spv_words.specs.declared.words.Order.TheVariants.{Little, Big}
use Rattle.spv_words.specs.declared.words.WordError.{WordError}
use Rattle.spv_words.specs.declared.words.WordError.TheVariants as word
use Rattle.spv_words.specs.Version.{as_1_6, has_version, version_front}
use Rattle.spv_words.proofs.Replacing.{as-big, as-little, as-other, long}
use Rattle.spv_scope.specs.Minor.{minor_place, put_at, with_minor}
use Rattle.spv_scope.specs.Scope.{taken}
use Rattle.spv_scope.specs.declared.scope.Scope.{Scope}
use Rattle.spv_scope.specs.declared.scope.Scope.TheVariants.{Own, Extended, OpenCl}

length_put_at : (place : Option ℕ) (n : ℕ) (xs : List ℕ) → length (put_at place n xs) ≡ length xs
length_put_at None n xs = refl
length_put_at (Some at) n xs = length-set xs at n

pub length_with_minor : (minor : ℕ) (bytes : List ℕ) → length (with_minor minor bytes) ≡ length bytes
length_with_minor minor bytes = length_put_at (minor_place bytes) minor bytes

as_long : (o : Order) (bytes : List ℕ) → has_version o bytes ≡ true → length (version_front o 6 ++ drop 8 bytes) ≡ length bytes
as_long Little bytes h =
    let l = long Little bytes h in
    let d = length-drop 8 bytes in
    let a : length (version_front Little 6 ++ drop 8 bytes) ≡ 8 + length (drop 8 bytes) = length-append (version_front Little 6) (drop 8 bytes) in
    omega (arith, l, d, a)
as_long Big bytes h =
    let l = long Big bytes h in
    let d = length-drop 8 bytes in
    let a : length (version_front Big 6 ++ drop 8 bytes) ≡ 8 + length (drop 8 bytes) = length-append (version_front Big 6) (drop 8 bytes) in
    omega (arith, l, d, a)

pub length_as_1_6 : (bytes : List ℕ) → length (as_1_6 bytes) ≡ length bytes
length_as_1_6 bytes = elim (cases_Bool (has_version Little bytes)) [
  | inl e ↦ ap length (as-little bytes e) ∙ as_long Little bytes e
  | inr e ↦ elim (cases_Bool (has_version Big bytes)) [
    | inl f ↦ ap length (as-big bytes e f) ∙ as_long Big bytes f
    | inr f ↦ ap length (as-other bytes e f)
  ]
]

pub length_taken : (scope : Scope) (bytes : List ℕ) → length (taken scope bytes) ≡ length bytes
length_taken (Own true) bytes = length_as_1_6 bytes
length_taken (Own false) bytes = refl
length_taken (Extended true) bytes = length_as_1_6 bytes
length_taken (Extended false) bytes = refl
length_taken OpenCl bytes = length_as_1_6 bytes

-- bytes that are too many stay so
pub long_taken : (scope : Scope) (bytes : List ℕ) → IsFirstBroken word.W8 bytes → IsFirstBroken word.W8 (taken scope bytes)
long_taken scope bytes h = record {
  broken = λ k. h.broken (subst (λ (n : ℕ). n ≤ greatest_size) (length_taken scope bytes) k);
  before = before;
}
  where
    before : (d : WordError) → place_of d < 1 → BytesKeep d (taken scope bytes)
    before word.W1 k = tt
    before word.W2 k = absurd (omega (arith, k))
    before word.W3 k = absurd (omega (arith, k))
    before word.W4 k = absurd (omega (arith, k))
    before word.W5 k = absurd (omega (arith, k))
    before word.W6 k = absurd (omega (arith, k))
    before word.W7 k = absurd (omega (arith, k))
    before word.W8 k = absurd (omega (arith, k))
    before word.W9 k = tt
