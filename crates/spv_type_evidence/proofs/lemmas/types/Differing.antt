-- The type of a function, and what differs from it.
use Rattle.std.proofs.Common.{◌≡◌, ◌≢◌, ◌∙◌, ℕ, List, ◌∷◌, Option, Some, None, sym, ap, subst, length, map, arith}
use Rattle.std.specs.Prelude.{IsSomeAnd}
use Rattle.std.proofs.lemmas.List.{length-map}
use Rattle.spv_table.specs.Table.{Table}
use Rattle.spv_module.specs.Operand.{Plain, Id, PlainInst, type_in}
use Rattle.spv_module.specs.Module.{plain_operand, plain_operands}
use Rattle.spv_module.specs.declared.operand.Operand.{Operand}
use Rattle.spv_module.specs.declared.fault.Rule.TheVariants.{Y6}
use Rattle.spv_module.specs.declared.opcode.TheConstants as opcode
use Rattle.spv_layout.specs.Place.{AreFew}
use Rattle.spv_type_rules.specs.Function.{function_type_in, signature_of, parameters_after, ReturnsAfter}
use Rattle.spv_evidence.specs.declared.evidence.Evidence.TheVariants as evidence
use Rattle.spv_evidence.specs.declared.evidence.Side.{Side}
use Rattle.spv_evidence.specs.declared.evidence.Side.TheVariants as side
use Rattle.spv_type_evidence.specs.types.Function.{Differs}
use Rattle.spv_type_evidence.specs.types.Evidence.{Shows}
use Rattle.spv_type_evidence.specs.types.inner.Known.{IsFunction}

pub not_typed : (is : List PlainInst) (d : PlainInst) (r count : ℕ) (o : Option ℕ) → IsFunction is d
    → o ≡ function_type_in d → None ≡ signature_of is d → Differs is d r count side.Function None o
not_typed is d r count o f e none = rw (e ∙ f.names) (Differs.function f.id f.names (sym none))

pub other_returned : (is : List PlainInst) (d : PlainInst) (r count t : ℕ) (os ps : List Plain)
    → Some os ≡ signature_of is d → os ≡ Id t ∷ ps → t ≢ r
    → Differs is d r count side.Return (Some t) (Some r)
other_returned is d r count t os ps e f ne = Differs.returned t ps (sym e ∙ ap Some f) ne

pub other_number : (is : List PlainInst) (d : PlainInst) (r count t : ℕ) (os : List Plain) (xs : List Operand)
    → Some os ≡ signature_of is d → os ≡ Id t ∷ plain_operands xs → length xs ≢ count
    → Differs is d r count side.Number (Some (length xs)) (Some count)
other_number is d r count t os xs e f ne =
    let long : length (plain_operands xs) ≡ length xs = length-map xs plain_operand in
    subst (λ m. Differs is d r count side.Number (Some m) (Some count)) long
    (Differs.number (Id t) (plain_operands xs) (sym e ∙ ap Some f) (λ g. ne (sym long ∙ g)))

pub few_parameters : (is : List PlainInst) (d : PlainInst) (t : ℕ) (os : List Plain) (xs : List Operand)
    → IsFunction is d → Some os ≡ signature_of is d → os ≡ Id t ∷ plain_operands xs → AreFew xs
few_parameters is d t os xs f e g =
    let s = f.signature os (sym e) in
    let same : Id t ∷ plain_operands xs ≡ Id s.returned ∷ map Id s.taken = sym g ∙ s.all in
    let rest : plain_operands xs ≡ map Id s.taken = cc in
    let long : length xs ≡ length s.taken = sym (length-map xs plain_operand) ∙ ap length rest
    ∙ length-map s.taken Id in
    let few : AreFew s.taken = s.few in
    omega (arith, long)

pub function_shows : (G : Table) (is : List PlainInst) (n r : ℕ) (i : PlainInst) (s : Side) (wanted found : Option ℕ)
    (count : ℕ) → i.opcode ≡ opcode.FUNCTION → Some r ≡ type_in i.operands → parameters_after is n ≡ count
    → Differs is i r count s wanted found → Shows G is n i Y6 (evidence.Mismatch s wanted found (function_type_in i))
function_shows G is n r i s wanted found count o t e f =
    Shows.function r s wanted found o (sym t) (subst (λ m. Differs is i r m s wanted found) (sym e) f)

pub no_difference : (is : List PlainInst) (d : PlainInst) (r count t : ℕ) (os : List Plain) (xs : List Operand)
    → Some os ≡ signature_of is d → os ≡ Id t ∷ plain_operands xs → t ≡ r → length xs ≡ count
    → IsSomeAnd (signature_of is d) (ReturnsAfter (Some r) count)
no_difference is d r count t os xs e f same long =
    let all : Some (Id t ∷ plain_operands xs) ≡ signature_of is d = ap Some (sym f) ∙ e in
    let h : ReturnsAfter (Some r) count (Id t ∷ plain_operands xs) =
    (ap Some (sym same), length-map xs plain_operand ∙ long) in
    subst (λ o. IsSomeAnd o (ReturnsAfter (Some r) count)) all h
