-- A parameter, by the type at its place.
use Rattle.std.proofs.Common.{◌≡◌, ◌≢◌, ◌∙◌, ◌<◌, ◌+◌, ◌-◌, ℕ, List, Option, Some, sym, ap, map, take, drop, arith}
use Rattle.std.specs.Prelude.{IsSomeAnd}
use Rattle.std.proofs.lemmas.List.{drop-take, drop-map, take-map}
use Rattle.spv_table.specs.Table.{Table}
use Rattle.spv_module.specs.Operand.{PlainInst, type_in}
use Rattle.spv_module.specs.Module.{plain_inst}
use Rattle.spv_module.specs.declared.module.Inst.{Inst}
use Rattle.spv_module.specs.declared.fault.Rule.TheVariants.{Y6}
use Rattle.spv_module.specs.declared.opcode.TheConstants as opcode
use Rattle.spv_type_rules.specs.inner.Found.{IsOfOne}
use Rattle.spv_type_rules.specs.Function.{function_type_in, parameter_count, parameters_between, parameter_type_of}
use Rattle.spv_type_rules.specs.inner.Function.{IsSoundParameter}
use Rattle.spv_evidence.specs.declared.evidence.Evidence.TheVariants as evidence
use Rattle.spv_evidence.specs.declared.evidence.Side.TheVariants as side
use Rattle.spv_type_evidence.specs.types.Evidence.{Shows}
use Rattle.spv_type_evidence.specs.types.Function.{IsParameter}
use Rattle.spv_type_evidence.specs.types.inner.Known.{IsTypedParameter}

pub between : (is : List PlainInst) (xs : List Inst) (f n k : ℕ) → map plain_inst xs ≡ is → f < n
    → k ≡ parameter_count (map plain_inst (take (n - (f + 1)) (drop (f + 1) xs)))
    → parameters_between is f n ≡ k
between is xs f n k e l q =
    let m = n - (f + 1) in
    let whole : n ≡ (f + 1) + m = omega arith in
    let a : drop (f + 1) (take n is) ≡ take m (drop (f + 1) is) = ap (λ w. drop (f + 1) (take w is)) whole
    ∙ drop-take (f + 1) m is in
    let b : take m (drop (f + 1) is) ≡ take m (drop (f + 1) (map plain_inst xs)) = ap (λ js. take m (drop (f + 1) js))
    (sym e) in
    let c : take m (drop (f + 1) (map plain_inst xs)) ≡ map plain_inst (take m (drop (f + 1) xs)) = ap (take m)
    (drop-map plain_inst (f + 1) xs) ∙ take-map plain_inst m (drop (f + 1) xs) in
    ap parameter_count (a ∙ b ∙ c) ∙ sym q

pub parameter_shows : (G : Table) (is : List PlainInst) (n f k : ℕ) (i d : PlainInst) (o p : Option ℕ)
    → i.opcode ≡ opcode.FUNCTION_PARAMETER → (t : IsTypedParameter is n i) → IsOfOne is n f d
    → parameters_between is f n ≡ k
    → o ≡ parameter_type_of is d k → p ≡ type_in i.operands → ¬ (IsSoundParameter is n i)
    → Shows G is n i Y6 (evidence.Mismatch (side.Parameter k) o p (function_type_in d))
parameter_shows G is n f k i d o p op t one place due found never =
    let e : p ≡ Some t.found = found ∙ t.typed in
    let it : IsParameter is n i k o t.found = record {
      number = f;
      function = d;
      of = record { of = one.of; there = one.there };
      place = place;
      wanted = sym due;
      found = t.typed;
    } in
    let other : o ≢ Some t.found = λ q.
    let right : parameter_type_of is d (parameters_between is f n) ≡ Some t.found = ap (parameter_type_of is d) place
    ∙ sym due ∙ q in
    let sound : IsSomeAnd (type_in i.operands)
    (λ u. parameter_type_of is d (parameters_between is f n) ≡ Some u) = rw t.typed right in
    never (f, one.of, rw one.there sound)
    in
    rw e (Shows.parameter k t.found o op it other)
