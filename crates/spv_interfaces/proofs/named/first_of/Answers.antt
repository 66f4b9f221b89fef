use Rattle.std.proofs.Common.{◌≡◌, ◌∙◌, ℕ, inl, inr, sym, subst, false, true, arith}
use Rattle.std.proofs.lemmas.Bool.{cases_lt}
use Rattle.std.proofs.lemmas.Option.{slice_get-get_or, slice_get_within}
use Rattle.spv_interfaces.specs.inner.Marks.{HasBit}
use Rattle.spv_interfaces.proofs.named.first_of.Goals as goal

pub has_bit-requires : goal.has_bit-requires
has_bit-requires c = let t = c.loop-k-test.true in let f = c.requires in omega (arith, t, f)

pub returns-then-has_bit : goal.returns-then-has_bit
returns-then-has_bit c = (
  c.loop-k.k,
  slice_get-get_or c.args.few.now c.loop-k.k 0 c.loop-k-test.true,
  c.has_bit.ensures.0 c.if-has_bit.true,
  c.loop-k.invariant,
)

pub loop-k-preserved : goal.loop-k-preserved
loop-k-preserved c = λ j l h. elim (cases_lt j c.loop-k.k) [
  | inl less ↦ c.loop-k.invariant j less h
  | inr last ↦
      let e : j ≡ c.loop-k.k = omega (arith, l, last) in
      let t = c.has_bit.ensures.1 (subst (λ (i : ℕ). HasBit c.args.bits i) e h) in
      let no : false ≡ true = sym c.if-has_bit.false ∙ t in
      cc
]

pub returns : goal.returns
returns c = λ k n at h.
    let w = slice_get_within c.args.few.now k n at in
    let t = c.loop-k-test.false in
    c.loop-k.invariant k (omega (arith, w, t)) h
