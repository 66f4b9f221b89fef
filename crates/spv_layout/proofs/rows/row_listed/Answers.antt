use Rattle.std.proofs.Common.{◌≡◌, ◌∙◌, ◌+◌, ◌++◌, ℕ, zero, suc, List, [], ◌∷◌, true, false, length, drop, map, nat_lt, sym, ap, arith}
use Rattle.std.proofs.lemmas.Bool.{lt-leb}
use Rattle.std.proofs.lemmas.List.{drop-map, length-map, take_rest}
use Rattle.std.proofs.Math.Seq.{drop-append-add}
use Rattle.spv_layout.specs.declared.form.Row as declared
use Rattle.spv_layout.specs.Row.{row_in}
use Rattle.spv_layout.specs.inner.Row.{plain_row}
use Rattle.spv_layout.specs.inner.Single.{is_flagged, are_flagged}
use Rattle.spv_layout.proofs.Derivatives.{both_hold}
use Rattle.spv_layout.proofs.rows.row_listed.Goals as goal

flagged_behind : (k : ℕ) (rs : List declared.Row) → are_flagged rs ≡ true → are_flagged (drop k rs) ≡ true
flagged_behind zero rs h = h
flagged_behind (suc k) [] h = h
flagged_behind (suc k) (r ∷ rs) h =
    let p = both_hold (is_flagged r) (are_flagged rs) h in
    flagged_behind k rs p.1

pub row_among-requires : goal.row_among-requires
row_among-requires c =
    rw (take_rest c.args.others.now c.args.numbered)
    (flagged_behind c.args.numbered c.args.others.now c.requires.others)

pub returns-else-from-numbers-clause-row : goal.returns-else-from-numbers-clause-row
returns-else-from-numbers-clause-row c =
    let e = c.from.ensures in
    let t = c.if-from-numbers.false in
    let past : nat_lt c.args.opcode (length c.args.numbers.now) ≡ false =
    lt-leb (suc c.args.opcode) (length c.args.numbers.now) (omega arith) in
    let own = map plain_row c.args.rows.now in
    let others = map plain_row c.args.others.now in
    let n = length-map c.args.rows.now plain_row in
    let behind : drop (length c.args.rows.now + c.args.numbered) (own ++ others) ≡ drop c.args.numbered others =
    ap (λ k. drop (k + c.args.numbered) (own ++ others)) (sym n) ∙ drop-append-add own others c.args.numbered in
    let found = rw (take_rest c.args.others.now c.args.numbered, ← drop-map plain_row c.args.numbered c.args.others.now) at c.row_among.ensures.row in
    rw (past, behind) found
