use Rattle.std.proofs.Common.{◌≡◌, ◌∙◌, ◌<◌, ap, refl, sym, map, length, Some, None, Option, ℕ, arith}
use Rattle.std.specs.Prelude.{slice_get, option_map, unwrap_or}
use Rattle.std.proofs.lemmas.Bool.{ltb-true}
use Rattle.std.proofs.lemmas.Option.{slice_get-map, slice_get_read, slice_get_within}
use Rattle.spv_ops.specs.declared.table.Found.{Found}
use Rattle.spv_ops.specs.declared.table.TheConstants.{NUMBERS, FIRSTS, FURTHER_FROM, TABLE}
use Rattle.spv_ops.specs.Table.{Line, lines}
use Rattle.spv_ops.specs.inner.Table.{first_from, found_by}
use Rattle.spv_ops.proofs.Parting.{first_part}
use Rattle.spv_ops.proofs.Rows.{count, found}
use Rattle.spv_ops.proofs.table.first_opcode.Goals as goal

-- what the line of a number begins with, by the list of first opcodes
firsts_of : map (λ (l : Line). first_from l.0.now) TABLE ≡ FIRSTS
firsts_of = refl

told : (o : Option Line) (k : ℕ) → option_map (λ (l : Line). first_from l.0.now) o ≡ Some k → (found_by o).first ≡ k
told (Some l) k e = cc
told None k e = cc

first_at : (n k : ℕ) → slice_get FIRSTS n ≡ Some k → (found_by (slice_get lines n)).first ≡ k
first_at n k e =
    let within = slice_get_within FIRSTS n k e in
    let count : length FIRSTS ≡ FURTHER_FROM = refl in
    let low : n < FURTHER_FROM = omega (arith, within, count) in
    let here =
    sym (slice_get-map (λ (l : Line). first_from l.0.now) TABLE n) ∙ ap (λ ks. slice_get ks n) firsts_of ∙ e in
    ap (λ o. (found_by o).first) (first_part n low) ∙ told (slice_get TABLE n) k here

pub returns-in-Some : goal.returns-in-Some
unfolding count lines
returns-in-Some c =
    let l = c.in-Some.ensures.lookup in
    let n = c.number_of-number.result in
    let there =
    slice_get_read FIRSTS (length FIRSTS) n c.in-Some.first.now refl (ltb-true n (length FIRSTS) (sym l.0)) l.1 in
    sym (first_at n c.in-Some.first.now there)
    ∙ ap (λ k. (found_by (slice_get lines k)).first) c.number_of-number.ensures
    ∙ found (λ o. (found_by (slice_get lines (unwrap_or o 255))).first) (λ (l : Line). first_from l.0.now) NUMBERS
    c.args.opcode refl refl refl

pub returns-in-None : goal.returns-in-None
unfolding count lines
returns-in-None c =
    ap (λ (f : Found). f.first) c.found_at.ensures
    ∙ ap (λ k. (found_by (slice_get lines k)).first) c.number_of-number.ensures
    ∙ found (λ o. (found_by (slice_get lines (unwrap_or o 255))).first) (λ (l : Line). first_from l.0.now) NUMBERS
    c.args.opcode refl refl refl
