use Rattle.std.proofs.Common.{◌≡◌, ◌++◌, ◌∷◌, ◌+◌, ◌-◌, ◌≤◌, ℕ, List, length, slice_index, [], ◌∙◌, sym, ap, arith}
use Rattle.std.proofs.Common.{append_assoc, append-nil}
use Rattle.spv_module.specs.declared.operand.Operand as declared
use Rattle.spv_module.specs.declared.operand.Operand.TheVariants as code
use Rattle.spv_inst.specs.inner.Front.{id_operands}
use Rattle.spv_inst.specs.inner.Reading.{between}
use Rattle.spv_inst.proofs.Between.{front, nothing, two}
use Rattle.spv_inst.proofs.front.push_ids.Goals as goal

-- two words as ids
two_ids : (os xs ys : List declared.Operand) (ws : List ℕ) (first end v w : ℕ) → end - first ≡ 2 → end ≤ length ws
    → v ≡ slice_index ws first
    → w ≡ slice_index ws (first + 1) → xs ≡ os ++ (code.Id v ∷ []) → ys ≡ xs ++ (code.Id w ∷ [])
    → ys ≡ os ++ id_operands (between ws first end)
two_ids os xs ys ws first end v w e l a b p q =
    rw (q, p, a, b, two ws first end (omega (arith, e)) l, nothing ws (first + 1 + 1) end (omega (arith, e)))
    (append_assoc os (code.Id (slice_index ws first) ∷ []) (code.Id (slice_index ws (first + 1)) ∷ []))

pub returns-then-end-first-eq2 : goal.returns-then-end-first-eq2
returns-then-end-first-eq2 c =
    two_ids c.args.operands.now.items c.push_reserved.new.self.items c.push_reserved-then-end-first-eq2.new.self.items
    c.args.image.now c.args.first c.args.end c.word.result c.word-then-end-first-eq2.result
    c.if-end-first-eq2.true c.requires.fits c.word.ensures c.word-then-end-first-eq2.ensures
    c.push_reserved.ensures.items c.push_reserved-then-end-first-eq2.ensures.items

pub loop-at-preserved : goal.loop-at-preserved
loop-at-preserved c =
    let ws = c.args.image.now in
    let at = c.loop-at.at in
    let end = c.args.end in
    let os = c.loop-at.operands.items in
    let w = c.word-in-loop-at.result in
    let t = c.loop-at-test.true in
    let f = c.loop-at.invariant.from in
    let s = c.loop-at.invariant.spare in
    let n = c.push_reserved-in-loop-at.ensures.len in
    let k = c.push_reserved-in-loop-at.ensures.capacity in
    let e : between ws at end ≡ w ∷ between ws (at + 1) end = rw c.word-in-loop-at.ensures
    (front ws at end t c.requires.fits) in
    record {
      from = omega arith;
      upto = omega arith;
      spare = omega arith;
      items = rw c.push_reserved-in-loop-at.ensures.items
          (append_assoc os (code.Id w ∷ []) (id_operands (between ws (at + 1) end))
          ∙ (ap (λ zs. os ++ id_operands zs) (sym e) ∙ c.loop-at.invariant.items));
    }

pub returns : goal.returns
returns c =
    let os = c.loop-at.operands.items in
    let e = nothing c.args.image.now c.loop-at.at c.args.end c.loop-at-test.false in
    sym (append-nil os) ∙ (ap (λ zs. os ++ id_operands zs) (sym e) ∙ c.loop-at.invariant.items)
