use Rattle.std.proofs.Common.{◌≡◌, ◌∙◌, ◌↔◌, ◌<◌, ◌+◌, ℕ, List, ◌∷◌, drop, subst, sym, arith}
use Rattle.std.proofs.lemmas.Grind.{common_steps}
use Rattle.std.specs.List.{AllByRecursion}
use Rattle.spv_module.specs.Module.{plain_operands}
use Rattle.spv_type_kinds.specs.Operands.{ids_in}
use Rattle.spv_ops.specs.inner.Enqueue.{IsOfLocalSize}
use Rattle.spv_ops.proofs.Enqueued.{past_one}
use Rattle.spv_ops.proofs.enqueue.are_local_sizes.Goals.{then-left-gt0, else-left-gt0+else-not-is_of_local_size}
use Rattle.spv_ops.proofs.enqueue.are_local_sizes.Goals as goal

pub loop-operand-preserved : goal.loop-operand-preserved
loop-operand-preserved c =
    let P = IsOfLocalSize c.args.definitions.now in
    let all = c.args.operands.now in
    let k = c.loop-operand.operand-index in
    let left = c.loop-operand.left in
    let xs = ids_in (plain_operands (drop (k + 1) all)) in
    let x = c.in-Id.x in
    let whole = AllByRecursion P (drop c.args.before (ids_in (plain_operands all))) in
    let front : ids_in (plain_operands (drop k all)) ≡ x ∷ xs = grind (arith, common_steps) in
    let here : AllByRecursion P (drop left (x ∷ xs)) ↔ whole = subst
    (λ (ys : List ℕ). AllByRecursion P (drop left ys) ↔ whole) front c.loop-operand.invariant in
    elim c.if-left-gt0.branch [
      | then-left-gt0 w ↦
          let some : 0 < left = let t = w.if-left-gt0.true in omega arith in
          let next = subst (λ (ys : List ℕ). AllByRecursion P ys ↔ whole) (past_one left x xs some) here in
          subst (λ (m : ℕ). AllByRecursion P (drop m xs) ↔ whole) (sym w.left-is) next
      | else-left-gt0+else-not-is_of_local_size w ↦
          let none : left ≡ 0 = let t = w.if-left-gt0.false in omega arith in
          let now : AllByRecursion P (x ∷ xs) ↔ whole = subst
          (λ (m : ℕ). AllByRecursion P (drop m (x ∷ xs)) ↔ whole) none here in
          let one : P x = w.is_of_local_size.ensures.0 w.if-not-is_of_local_size.false in
          let rest : AllByRecursion P (drop 0 xs) ↔ whole = (λ a. now.0 (one, a), λ b. (now.1 b).1) in
          subst (λ (m : ℕ). AllByRecursion P (drop m xs) ↔ whole) (sym none ∙ sym w.left-is) rest
    ]
