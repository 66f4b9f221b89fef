-- Where the instructions of the examples stand, by a list of their classes: then the table of rows is read once for
-- each.
use Rattle.std.proofs.Common.{◌≡◌, ◌<◌, ◌≤◌, ◌&&◌, ℕ, zero, suc, List, [], ◌∷◌, Bool, true, false, not, length, subst}
use Rattle.std.proofs.Common.{sym, ap, arith}
use Rattle.std.specs.Prelude.{IsTrue, IsSomeAnd, slice_get}
use Rattle.std.proofs.lemmas.List.{length-map}
use Rattle.spv_module.specs.Operand.{PlainInst}
use Rattle.spv_layout.specs.declared.class.Class.{Class}
use Rattle.spv_layout.specs.Class.{is_among}
use Rattle.spv_layout.specs.Layout.{classes}
use Rattle.spv_layout.specs.Place.{IsAt, IsWithin}
use Rattle.spv_layout.specs.Rows.{class_of}

abbrev pub StandsAt : List Class → ℕ → List Class → Type 0
StandsAt laid k cs = IsSomeAnd (slice_get laid k) (λ c. IsTrue (is_among c cs))

-- from one place to before another none of the classes stands
abbrev pub lacks : List Class → List Class → ℕ → ℕ → Bool
lacks _ cs _ zero = true
lacks [] cs from (suc to) = true
lacks (c ∷ laid) cs zero (suc to) = not (is_among c cs) && lacks laid cs zero to
lacks (c ∷ laid) cs (suc from) (suc to) = lacks laid cs from to

first : (b rest : Bool) → not b && rest ≡ true → b ≡ true → ⊥
first true rest h e = cc
first false rest h e = cc

second : (a b : Bool) → a && b ≡ true → b ≡ true
second true b h = h
second false b h = cc

lacking : (laid cs : List Class) (from to k : ℕ) → lacks laid cs from to ≡ true → from ≤ k → k < to
    → ¬ (StandsAt laid k cs)
lacking laid cs from zero k h a b s = absurd (omega (arith, b))
lacking [] cs from (suc to) zero h a b s = s
lacking [] cs from (suc to) (suc k) h a b s = s
lacking (c ∷ laid) cs zero (suc to) zero h a b s = first (is_among c cs) (lacks laid cs zero to) h s
lacking (c ∷ laid) cs zero (suc to) (suc k) h a b s =
    lacking laid cs zero to k (second (not (is_among c cs)) (lacks laid cs zero to) h) (omega arith)
    (omega (arith, b)) s
lacking (c ∷ laid) cs (suc from) (suc to) zero h a b s = absurd (omega (arith, a))
lacking (c ∷ laid) cs (suc from) (suc to) (suc k) h a b s =
    lacking laid cs from to k h (omega (arith, a)) (omega (arith, b)) s

pub not_at : (is : List PlainInst) (laid cs : List Class) (from to k : ℕ) → classes is ≡ laid
    → lacks laid cs from to ≡ true → from ≤ k → k < to → ¬ (IsAt is k cs)
not_at is laid cs from to k e h a b s =
    lacking laid cs from to k h a b (subst (λ (l : List Class). StandsAt l k cs) e s)

-- what stands within a function or a block
pub within_by : (is : List PlainInst) (laid : List Class) (c : Class) (others : List Class) (n f to past : ℕ)
    → classes is ≡ laid → n < to → to ≤ length laid → n ≤ past → f ≤ n
    → StandsAt laid f (c ∷ []) → lacks laid (c ∷ []) (suc f) to ≡ true → lacks laid others f past ≡ true
    → IsWithin is c others n f
within_by is laid c others n f to past e within long ended begun there last end = record {
  begun = record {
    within = omega (arith, within, long, ap length e, length-map is (λ (i : PlainInst). class_of i.opcode));
    up_to = begun;
    there = subst (λ (l : List Class). StandsAt l f (c ∷ [])) (sym e) there;
    last = λ k a b. not_at is laid (c ∷ []) (suc f) to k e last (omega (arith, a)) (omega (arith, b, within));
  };
  not_ended = λ k a b. not_at is laid others f past k e end a (omega (arith, b, ended));
}
