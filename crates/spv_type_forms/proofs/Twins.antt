-- Types that match, and that do not, in a small module.
use Rattle.std.proofs.Common.{◌≡◌, ◌<◌, ◌∙◌, ℕ, zero, suc, List, [], ◌∷◌, Some, subst, true, false, refl, sym, inl, inr, arith}
use Rattle.std.specs.Prelude.{slice_get}
use Rattle.std.proofs.lemmas.Option.{same_Some}
use Rattle.spv_module.specs.Operand.{Plain, Id, PlainInst, result_in}
use Rattle.spv_ids.specs.Definition.{IsDefinedAt}
use Rattle.spv_ids.specs.Outcome.{IsOnly}
use Rattle.spv_type_forms.specs.declared.form.Form.TheVariants as form
use Rattle.spv_type_forms.specs.Null.{IsEarlier}
use Rattle.spv_type_forms.specs.Matches.{IsDeclaredFor, Matches, AreMatching}
use Rattle.spv_type_forms.specs.Example.{twins}
use Rattle.spv_type_forms.proofs.Numbering.{one_or_aggregates}
use Rattle.spv_type_forms.proofs.MatchesDecided.{by_cases, never_left, split}

-- where the types are declared

other_result : (n x y : ℕ) (i : PlainInst) (d : IsDefinedAt twins x n) → slice_get twins n ≡ Some i
    → result_in i.operands ≡ Some y → x ≡ y
other_result n x y i d at r =
    let same : i ≡ d.inst = same_Some i d.inst (sym at ∙ d.there) in
    same_Some x y (sym d.result ∙ rw (← same) r)

defines : (n x : ℕ) → IsDefinedAt twins x n → x ≡ suc n
defines zero x d = other_result 0 x 1 _ d refl refl
defines (suc zero) x d = other_result 1 x 2 _ d refl refl
defines (suc (suc zero)) x d = other_result 2 x 3 _ d refl refl
defines (suc (suc (suc zero))) x d = other_result 3 x 4 _ d refl refl
defines (suc (suc (suc (suc zero)))) x d = other_result 4 x 5 _ d refl refl
defines (suc (suc (suc (suc (suc zero))))) x d = other_result 5 x 6 _ d refl refl
defines (suc (suc (suc (suc (suc (suc n)))))) x d = let e = d.there in cc

only : (x p : ℕ) → IsDefinedAt twins x p → IsOnly twins x p
only x p d = record {
  there = d;
  only = λ k e. (let here = defines p x d in let there = defines k x e in omega arith);
}

before : (a p t q : ℕ) → IsDefinedAt twins a p → IsDefinedAt twins t q → p < q → IsEarlier twins a t
before a p t q d e l = record { place = p; later = q; before = l; one = only a p d; next = only t q e }

-- those that match

int_told : (t : ℕ) → IsDeclaredFor twins 1 t
int_told t h = absurd (let no : false ≡ true = h in cc)

pub one_matches : Matches twins 1 1
one_matches = Matches.same 1

pub structs_match : Matches twins 2 3
structs_match =
    Matches.structs 2 3 (Id 1 ∷ []) (Id 1 ∷ []) refl refl refl refl
    (AreMatching.more 2 3 1 1 [] [] (int_told 2) (int_told 3) (Matches.same 1) (AreMatching.none 2 3))

two_told : IsDeclaredFor twins 2 4
two_told h =
    before 2 1 4 3 (record { inst = _; there = refl; result = refl }) (record { inst = _; there = refl; result = refl })
    (omega arith)

three_told : IsDeclaredFor twins 3 5
three_told h =
    before 3 2 5 4 (record { inst = _; there = refl; result = refl }) (record { inst = _; there = refl; result = refl })
    (omega arith)

pub arrays_match : Matches twins 4 5
arrays_match = Matches.arrays 4 5 2 3 9 refl refl two_told three_told structs_match

-- those that do not

pub no_member : Matches twins 1 2 → ⊥
no_member m = elim (one_or_aggregates twins 1 2 m) [
  | inl e ↦ (let never_so : ◌≡◌ {A = ℕ} 1 2 = e in cc)
  | inr two ↦ (let no : false ≡ true = two.0 in cc)
]

pub no_struct : Matches twins 4 6 → ⊥
no_struct m = elim (by_cases twins 4 6 m) [
  | inl e ↦ (let never_so : ◌≡◌ {A = ℕ} 4 6 = e in cc)
  | inr two ↦ elim two [
    | inl a ↦ (let no : form.Struct ≡ form.Array a.e a.l = same_Some _ _ a.second in cc)
    | inr s ↦ (let no : form.Array 2 9 ≡ form.Struct = same_Some _ _ s.first in cc)
  ]
]

fewer : (ms ns : List Plain) → Id 1 ∷ [] ≡ ms → Id 1 ∷ Id 1 ∷ [] ≡ ns → AreMatching twins 2 6 ms ns → ⊥
fewer ms ns e f a =
    let b = subst (λ os. AreMatching twins 2 6 (Id 1 ∷ []) os) (sym f)
    (subst (λ os. AreMatching twins 2 6 os ns) (sym e) a) in
    never_left twins 2 6 (Id 1) [] (split twins 2 6 (Id 1) (Id 1) [] (Id 1 ∷ []) b).rest

pub no_more : Matches twins 2 6 → ⊥
no_more m = elim (by_cases twins 2 6 m) [
  | inl e ↦ (let never_so : ◌≡◌ {A = ℕ} 2 6 = e in cc)
  | inr two ↦ elim two [
    | inl a ↦ (let no : form.Struct ≡ form.Array a.d a.l = same_Some _ _ a.first in cc)
    | inr s ↦ fewer s.ms s.ns (same_Some _ _ s.of_first) (same_Some _ _ s.of_second) s.all
  ]
]
