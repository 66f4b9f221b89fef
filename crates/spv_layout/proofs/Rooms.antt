-- Which instructions are of sections 1 to 8.
use Rattle.std.proofs.Common.{◌≡◌, ◌+◌, ◌⊎◌, ℕ, List, Bool, true, false, refl, inl, inr, length, Option, Some, None, arith}
use Rattle.std.specs.Prelude.{slice_get, is_none, is_some, not}
use Rattle.std.proofs.lemmas.Bool.{cases_lt}
use Rattle.spv_module.specs.Operand.{PlainInst}
use Rattle.spv_module.specs.declared.profile.Profile.{Profile}
use Rattle.spv_layout.specs.declared.class.Class.{Class}
use Rattle.spv_layout.specs.declared.class.Class.TheVariants.{Function, FunctionEnd, Label, Branch, BranchConditional, Switch, Return}
use Rattle.spv_layout.specs.declared.place.Early.{Early}
use Rattle.spv_layout.specs.declared.place.Standing.{Standing}
use Rattle.spv_layout.specs.declared.span.Spans.{Spans}
use Rattle.spv_layout.specs.declared.state.State.{State}
use Rattle.spv_layout.specs.Layout.{classes, seen}
use Rattle.spv_layout.specs.Place.{section_of}
use Rattle.spv_layout.specs.inner.Kept.{AreSectioned, IsUnsectioned}
use Rattle.spv_layout.specs.inner.Span.{entered_in, left_in}
use Rattle.spv_layout.specs.inner.State.{is_first, next_of}
use Rattle.spv_layout.proofs.Following.{implies, fine_seen}
use Rattle.spv_layout.specs.inner.Pass.{Kept}

pub none_sectioned : (is : List PlainInst) → AreSectioned is 0
none_sectioned is = record { each = λ k c l h. absurd (omega (arith, l)) }

pub one_sectioned : (is : List PlainInst) (n : ℕ) (c : Class) (s : ℕ) → slice_get (classes is) n ≡ Some c → section_of c ≡ Some s → AreSectioned is n → AreSectioned is (n + 1)
one_sectioned is n c s h e a = record {
  each = λ k d l g. elim (cases_lt k n) [
    | inl b ↦ a.each k d b g
    | inr b ↦ λ z.
        let q : k ≡ n = omega (arith, l, b) in
        let g' : slice_get (classes is) n ≡ Some d = rw q at g in
        let r : c ≡ d = cc in
        let z' : section_of c ≡ None = rw (← r) at z in
        cc
  ];
}

pub some_section : (o : Option ℕ) (b : Bool) → is_some o ≡ not b → b ≡ false → (s : ℕ) × (o ≡ Some s)
some_section None b e h = let f = rw h at e in cc
some_section (Some s) b e h = (s, refl)

pub none_section : (o : Option ℕ) → is_some o ≡ false → o ≡ None
none_section None h = refl
none_section (Some s) h = cc

pub section_by : (is : List PlainInst) (n : ℕ) (c d : Class) → slice_get (classes is) n ≡ Some c → section_of c ≡ None → slice_get (classes is) n ≡ Some d → section_of d ≡ None
section_by is n c d h z g = let r : c ≡ d = cc in rw r at z

none_by : (o : Option ℕ) → implies (not false) (is_none o) ≡ true → o ≡ None
none_by None h = refl
none_by (Some k) h = cc

-- an instruction is of none of them where they end, and after any other
pub unsectioned : (p : Profile) (is : List PlainInst) (first n : ℕ) (s t : State) (c : Class) → IsUnsectioned is first → next_of s (seen p c) ≡ Some t → slice_get (classes is) n ≡ Some c
    → (n ≡ first) ⊎ (is_first s ≡ false) → section_of c ≡ None
unsectioned p is first n s t c u e h (inl q) = u c (rw q at h)
unsectioned p is first n s t c u e h (inr f) = let g = (fine_seen p s c t e).early in none_by (section_of c) (rw f at g)

-- one of them begins and ends nothing
pub still : (c : Class) (x : Spans) (n k : ℕ) → section_of c ≡ Some k → left_in (entered_in x c n) c ≡ x
still Function x n k h = cc
still Label x n k h = cc
still FunctionEnd x n k h = cc
still Branch x n k h = cc
still BranchConditional x n k h = cc
still Switch x n k h = cc
still Return x n k h = cc
still c x n k h = refl

pub is_split : (is : List PlainInst) (n first : ℕ) (s : State) (early : List Early) (late : List Standing) → length early ≡ first → Kept is n s early late → (n ≡ first) ⊎ (is_first s ≡ false)
is_split is n first s early late e k = elim k.split [ inl l ↦ let a = k.count in let z : length late ≡ 0 = rw l refl in inl (omega arith) | inr f ↦ inr f ]
