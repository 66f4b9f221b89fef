-- Types that match in a list match in an alike one.
use Rattle.std.proofs.Common.{◌∙◌, ℕ, List, sym, ap}
use Rattle.spv_module.specs.Operand.{Plain, PlainInst}
use Rattle.spv_ids.specs.Definition.{IsDefinedAt}
use Rattle.spv_ids.specs.Outcome.{IsOnly}
use Rattle.spv_type_forms.specs.Matches.{is_aggregate, IsDeclaredFor, Matches, AreMatching}
use Rattle.spv_type_forms.specs.Null.{IsEarlier}
use Rattle.spv_opening.proofs.Alike.{Alike, back, other_at}
use Rattle.spv_opening.proofs.Types.{forms, members}

-- Where ids are defined.

defined_alike : (is js : List PlainInst) → Alike is js → (x n : ℕ) → IsDefinedAt is x n → IsDefinedAt js x n
defined_alike is js a x n d =
    let o = other_at is js a n d.inst d.there in
    record { inst = o.inst; there = o.there; result = sym o.looks.result ∙ d.result }

one_alike : (is js : List PlainInst) → Alike is js → (x n : ℕ) → IsOnly is x n → IsOnly js x n
one_alike is js a x n o = record {
  there = defined_alike is js a x n o.there;
  only = λ k d. o.only k (defined_alike js is (back is js a) x k d);
}

pub earlier_alike : (is js : List PlainInst) → Alike is js → (u t : ℕ) → IsEarlier is u t → IsEarlier js u t
earlier_alike is js a u t e = record {
  place = e.place;
  later = e.later;
  before = e.before;
  one = one_alike is js a u e.place e.one;
  next = one_alike is js a t e.later e.next;
}

-- An aggregate is declared before another type.
declared_alike : (is js : List PlainInst) → Alike is js → (u t : ℕ) → IsDeclaredFor is u t → IsDeclaredFor js u t
declared_alike is js a u t d h =
    earlier_alike is js a u t (d (ap is_aggregate (forms is js a u) ∙ h))

mutual
  pub matches_alike : (is js : List PlainInst) → Alike is js → (t u : ℕ) → Matches is t u → Matches js t u
  matches_alike is js a _ _ (Matches.same t) = Matches.same t
  matches_alike is js a _ _ (Matches.arrays t u d e l f g x y m) =
      Matches.arrays t u d e l (sym (forms is js a t) ∙ f) (sym (forms is js a u) ∙ g) (declared_alike is js a d t x)
      (declared_alike is js a e u y) (matches_alike is js a d e m)
  matches_alike is js a _ _ (Matches.structs t u ms ns f g m n r) =
      Matches.structs t u ms ns (sym (forms is js a t) ∙ f) (sym (forms is js a u) ∙ g) (sym (members is js a t) ∙ m)
      (sym (members is js a u) ∙ n) (all_alike is js a t u ms ns r)

  all_alike : (is js : List PlainInst) → Alike is js → (t u : ℕ) (ms ns : List Plain) → AreMatching is t u ms ns
      → AreMatching js t u ms ns
  all_alike is js a _ _ _ _ (AreMatching.none t u) = AreMatching.none t u
  all_alike is js a _ _ _ _ (AreMatching.more t u b c ms ns x y m r) =
      AreMatching.more t u b c ms ns (declared_alike is js a b t x) (declared_alike is js a c u y)
      (matches_alike is js a b c m) (all_alike is js a t u ms ns r)
