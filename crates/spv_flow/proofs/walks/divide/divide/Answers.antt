use Rattle.std.proofs.lemmas.Grind.{common_steps}
use Rattle.std.proofs.Common.{◌≡◌, ◌+◌, ◌++◌, ◌∙◌, ℕ, List, [], ◌∷◌, length, set, sym, subst, arith}
use Rattle.std.proofs.lemmas.List.{length-set, length-map}
use Rattle.spv_module.specs.Module.{plain_inst}
use Rattle.spv_flow.specs.walks.inner.Code.{insts_of}
use Rattle.spv_flow.specs.walks.inner.Starts.{AreStarts, IsLaid}
use Rattle.spv_flow.proofs.lemmas.walks.Starting.{few_starts, starts_first, starts_more, starts_other, starts_all}
use Rattle.spv_flow.proofs.walks.divide.divide.Goals as goal
use Rattle.spv_flow.proofs.walks.divide.divide.Goals.{then-begins+in_ok-push-2, else-begins}

pub overflow_cast-numbers-then-begins : goal.overflow_cast-numbers-then-begins
overflow_cast-numbers-then-begins c =
    let s = c.loop-at.invariant.starts in
    let h = few_starts (insts_of c.args.code.now) c.args.function c.loop-at.at c.loop-at.starts.items c.loop-at.numbers
    s in
    let e = c.len.ensures in
    let lt = c.loop-at-test.true in
    let r = c.ranges.end in
    omega (arith, h, e, lt, r)

pub loop-at-preserved : goal.loop-at-preserved
loop-at-preserved c =
    let is = insts_of c.args.code.now in
    let f = c.args.function in
    let at = c.loop-at.at in
    let starts = c.loop-at.starts.items in
    let numbers = c.loop-at.numbers in
    let s = c.loop-at.invariant.starts in
    let count = c.loop-at.invariant.count in
    let to = c.loop-at-test.true in
    let within = c.requires.extent.within in
    let l = length-map c.args.code.now.insts.now plain_inst in
    elim c.if-begins.branch [
      | then-begins+in_ok-push-2 w ↦ (
          let more = starts_more is f at starts numbers s (omega (arith, count, to, within, l)) w.if-begins.ensures in
          let n : length starts ≡ w.len.result =
          (let o = c.loop-at.starts.ok.0 in let e = w.len.ensures in omega (arith, o, e)) in
          let numbered = subst (λ (k : ℕ). AreStarts is f (at + 1) (starts ++ at ∷ []) (set numbers at k)) n more in
          let pushed = subst (λ (xs : List ℕ). AreStarts is f (at + 1) xs (set numbers at w.len.result))
          (sym w.in_ok-push-2.ensures.items) numbered in
          rw (w.starts-is, w.numbers-is) (record
          { count = length-set numbers at w.len.result ∙ count; starts = pushed }))
      | else-begins w ↦ (rw (w.starts-is, w.numbers-is)
          (record { count = count; starts = starts_other is f at starts numbers s w.if-begins.ensures }))
    ]

pub returns : goal.returns
returns c =
    let is = insts_of c.args.code.now in
    let f = c.args.function in
    let x = c.requires.extent in
    let some = x.some in
    let last = c.loop-at-test.false in
    let to = c.loop-at.auto.at-end (omega (arith, some)) in
    let e : c.loop-at.at ≡ c.args.end = omega (arith, last, to) in
    let s = subst (λ (n : ℕ). AreStarts is f n c.loop-at.starts.items c.loop-at.numbers) e c.loop-at.invariant.starts in
    subst (λ (xs : List ℕ). IsLaid is f c.args.end xs c.loop-at.numbers) (sym c.in_ok-push-3.ensures.items)
    (starts_all is f c.args.end c.loop-at.starts.items c.loop-at.numbers x s)

pub bounds-numbers-function : goal.bounds-numbers-function
bounds-numbers-function c = grind (arith, common_steps)

pub begins-requires-clause-at : goal.begins-requires-clause-at
begins-requires-clause-at c = grind (arith, common_steps)

pub bounds-numbers-at : goal.bounds-numbers-at
bounds-numbers-at c = grind (arith, common_steps)

pub loop-at-init : goal.loop-at-init
loop-at-init c =
    let numbers = c.args.numbers.now in
    let some = c.requires.extent.some in
    let within = c.requires.extent.within in
    let count = c.requires.count in
    let l = length-map c.args.code.now.insts.now plain_inst in
    record {
      count = length-set numbers c.args.function 0 ∙ count;
      starts = rw (c.in_ok-push.ensures.items, c.clear.ensures.items)
          (starts_first (insts_of c.args.code.now) c.args.function numbers (omega (arith, some, within, count, l)));
    }
