use Rattle.std.proofs.Common.{◌≡◌, ◌∙◌, ◌<◌, ◌≤◌, ◌+◌, ◌-◌, ◌++◌, ℕ, zero, suc, List, [], ◌∷◌, refl, sym, ap, length, map, Some, None, arith}
use Rattle.std.specs.Prelude.{slice_get}
use Rattle.std.proofs.lemmas.List.{length-map}
use Rattle.std.proofs.lemmas.Option.{slice_get_read, slice_get_past}
use Rattle.spv_layout.specs.Row.{PlainRow}
use Rattle.spv_layout.specs.inner.Row.{plain_row}
use Rattle.spv_layout.proofs.rows.row_at.Goals as goal

among_first : (xs ys : List PlainRow) (k : ℕ) → k < length xs → slice_get (xs ++ ys) k ≡ slice_get xs k
among_first [] ys k l = absurd (omega arith)
among_first (x ∷ xs) ys zero l = refl
among_first (x ∷ xs) ys (suc k) l = among_first xs ys k (omega arith)

among_others : (xs ys : List PlainRow) (k : ℕ) → length xs ≤ k → slice_get (xs ++ ys) k ≡ slice_get ys (k - length xs)
among_others [] ys k l = let e : k - 0 ≡ k = omega arith in rw e refl
among_others (x ∷ xs) ys zero l = absurd (omega arith)
among_others (x ∷ xs) ys (suc k) l = let e : suc k - suc (length xs) ≡ k - length xs = omega arith in rw e (among_others xs ys k (omega arith))

pub returns-then-place-rows-clause-row : goal.returns-then-place-rows-clause-row
returns-then-place-rows-clause-row c =
    let h = c.in-Some.ensures.lookup in
    let e : slice_get c.args.numbers.now c.from.result ≡ Some c.in-Some.number.now =
    slice_get_read c.args.numbers.now (length c.args.numbers.now) c.from.result c.in-Some.number.now refl h.3.0 h.1 in
    let e' : slice_get c.args.numbers.now c.args.opcode ≡ Some c.in-Some.number.now = rw c.from.ensures at e in
    let n = length-map c.args.rows.now plain_row in
    let t = c.if-place-rows.true in
    let i = c.from-place.ensures in
    let own = map plain_row c.args.rows.now in
    let others = map plain_row c.args.others.now in
    let p : slice_get (own ++ others) c.in-Some.number.now ≡ slice_get own c.from-place.result =
    among_first own others c.in-Some.number.now (omega arith) ∙ ap (slice_get own) (sym i) in
    rw (e', p) c.row_of_number.ensures.row

pub returns-else-place-rows-clause-row : goal.returns-else-place-rows-clause-row
returns-else-place-rows-clause-row c =
    let h = c.in-Some.ensures.lookup in
    let e : slice_get c.args.numbers.now c.from.result ≡ Some c.in-Some.number.now =
    slice_get_read c.args.numbers.now (length c.args.numbers.now) c.from.result c.in-Some.number.now refl h.3.0 h.1 in
    let e' : slice_get c.args.numbers.now c.args.opcode ≡ Some c.in-Some.number.now = rw c.from.ensures at e in
    let n = length-map c.args.rows.now plain_row in
    let g = c.if-place-rows.false in
    let i = c.from-place.ensures in
    let own = map plain_row c.args.rows.now in
    let others = map plain_row c.args.others.now in
    let k : c.in-Some.number.now - length own ≡ c.from-place.result - length c.args.rows.now = omega arith in
    let p : slice_get (own ++ others) c.in-Some.number.now ≡ slice_get others (c.from-place.result - length c.args.rows.now) =
    among_others own others c.in-Some.number.now (omega arith) ∙ ap (slice_get others) k in
    rw (e', p) c.row_of_number-else-place-rows.ensures.row

pub returns-in-None-clause-row : goal.returns-in-None-clause-row
returns-in-None-clause-row c =
    let f = c.in-None.ensures.lookup in
    let l = f.3 in
    let g = c.from.ensures in
    rw (slice_get_past c.args.numbers.now c.args.opcode (omega arith)) refl
