-- Evidence at the last instruction of small modules.
use Rattle.std.proofs.Common.{◌≡◌, ◌∙◌, ◌<◌, ℕ, zero, suc, List, [], ◌∷◌, Option, Some, None, refl, sym, ap, subst, inl}
use Rattle.std.proofs.Common.{inr, length, arith, lit<}
use Rattle.std.specs.Prelude.{slice_get}
use Rattle.spv_table.specs.Table.{Table}
use Rattle.spv_module.specs.Operand.{Id, PlainInst}
use Rattle.spv_module.specs.declared.fault.Rule.{Rule}
use Rattle.spv_module.specs.declared.fault.Rule.TheVariants as rule
use Rattle.spv_module.specs.declared.opcode.TheConstants as opcode
use Rattle.spv_type_kinds.specs.Operands.{ids_in, after_head}
use Rattle.spv_type_rules.specs.declared.declaration.Declaration.TheVariants as kind
use Rattle.spv_type_rules.specs.Declaration.{declaration_of}
use Rattle.spv_type_rules.specs.Asked.{IsVectorCount}
use Rattle.spv_type_rules.specs.Repeat.{Repeats}
use Rattle.spv_type_rules.specs.Function.{function_type_in}
use Rattle.spv_type_rules.specs.Example.{again, short_call, function}
use Rattle.spv_evidence.specs.declared.evidence.Evidence.{Evidence}
use Rattle.spv_evidence.specs.declared.evidence.Evidence.TheVariants as evidence
use Rattle.spv_evidence.specs.declared.evidence.Side.{Side}
use Rattle.spv_evidence.specs.declared.evidence.Side.TheVariants as side
use Rattle.spv_evidence.specs.declared.condition.Condition.{Condition}
use Rattle.spv_evidence.specs.declared.condition.Condition.TheVariants as condition
use Rattle.spv_type_evidence.specs.types.Declaration.{Asks, condition_at}
use Rattle.spv_type_evidence.specs.types.Function.{Differs, Calls}
use Rattle.spv_type_evidence.specs.types.Evidence.{Shows, IsEvidence}
use Rattle.spv_type_evidence.specs.types.Example.{with_vector, with_again, with_short_call}
use Rattle.spv_readings.specs.Example.{vector}

not_five : ¬ (IsVectorCount 5)
not_five (inl e) = absurd (omega (arith, e))
not_five (inr (inl e)) = absurd (omega (arith, e))
not_five (inr (inr (inl e))) = absurd (omega (arith, e))
not_five (inr (inr (inr (inl e)))) = absurd (omega (arith, e))
not_five (inr (inr (inr (inr e)))) = absurd (omega (arith, e))

-- The count of the vector.

component_asked : Asks with_vector 7 kind.Vector vector.operands 1
component_asked = (λ e. (_, refl), λ e. absurd (omega (arith, e)))

before_count : (j : ℕ) → j < 2 → Asks with_vector 7 kind.Vector vector.operands j
before_count zero l = (λ e. absurd (omega (arith, e)), λ e. absurd (omega (arith, e)))
before_count (suc zero) l = component_asked
before_count (suc (suc j)) l = absurd (omega arith)

pub count : (G : Table)
    → IsEvidence G with_vector rule.Y2 7 (evidence.Condition condition.VectorCount (Some 2) None None None [])
count G = record {
  inst = vector;
  there = refl;
  shows = Shows.declaration 2 None (record
      { kind = kind.Vector; declares = refl; fails = λ a. not_five (a.1 refl); before = before_count }) refl;
}

operand_of : (c d : Condition) (o p m n w v f g : Option ℕ) (ts us : List ℕ)
    → evidence.Condition c o m w f ts ≡ evidence.Condition d p n v g us → o ≡ p
operand_of c d o p m n w v f g ts us e = cc

no_component : (G : Table) (i : PlainInst) (r : Rule) (e : Evidence) → Shows G with_vector 7 i r e → r ≡ rule.Y2
    → e ≡ evidence.Condition condition.Scalar (Some 1) (Some 0) None None [] → i ≡ vector → ⊥
no_component G i _ _ (Shows.declaration k m f by) p q same =
    let at : Some k ≡ Some 1 = operand_of (condition_at f.kind k) condition.Scalar (Some k) (Some 1) m
    (Some 0) None None None None [] [] q in
    let one : k ≡ 1 = cc in
    let declares : Some kind.Vector ≡ Some f.kind = sym (ap (λ (j : PlainInst). declaration_of j.opcode) same)
    ∙ f.declares in
    let it : kind.Vector ≡ f.kind = cc in
    let asked : Asks with_vector 7 f.kind vector.operands 1 = subst
    (λ d. Asks with_vector 7 d vector.operands 1) it component_asked in
    let here : Asks with_vector 7 f.kind i.operands k = rw (same, one) asked in
    f.fails here
no_component G i _ _ _ p q same = cc

pub component : (G : Table)
    → ¬ (IsEvidence G with_vector rule.Y2 7 (evidence.Condition condition.Scalar (Some 1) (Some 0) None None []))
component G v =
    no_component G v.inst rule.Y2 (evidence.Condition condition.Scalar (Some 1) (Some 0) None None []) v.shows refl refl
    (let e : Some vector ≡ Some v.inst = v.there in cc)

-- The first instruction, which declares the same type.

abbrev repeated : Repeats with_again 7 again
repeated = record { once = refl; place = 0; earlier = lit< tt; other = _; there = refl; alike = (refl, refl) }

pub first : (G : Table) → IsEvidence G with_again rule.Y3 7 (evidence.Earlier 0)
first G = record { inst = again; there = refl; shows = Shows.again repeated }

earlier_of : (k m : ℕ) → evidence.Earlier k ≡ evidence.Earlier m → k ≡ m
earlier_of k m e = cc

no_second : (G : Table) (i : PlainInst) (r : Rule) (e : Evidence) → Shows G with_again 7 i r e → r ≡ rule.Y3
    → e ≡ evidence.Earlier 1 → i ≡ again → ⊥
no_second G i _ _ (Shows.again r) p q same =
    let one : r.place ≡ 1 = earlier_of r.place 1 q in
    let there : slice_get with_again 1 ≡ Some r.other = ap (slice_get with_again) (sym one) ∙ r.there in
    let other : Some 19 ≡ Some r.other.opcode = ap (λ (o : Option PlainInst). opcode_of o) there in
    let alike : opcode.TYPE_INT ≡ r.other.opcode = ap (λ (j : PlainInst). j.opcode) (sym same) ∙ r.alike.0 in
    let o : opcode.TYPE_VOID ≡ r.other.opcode = cc in
    absurd (omega arith)
  where
    opcode_of : Option PlainInst → Option ℕ
    opcode_of None = None
    opcode_of (Some j) = Some j.opcode
no_second G i _ _ _ p q same = cc

pub second : (G : Table) → ¬ (IsEvidence G with_again rule.Y3 7 (evidence.Earlier 1))
second G v = no_second G v.inst rule.Y3 (evidence.Earlier 1) v.shows refl refl
    (let e : Some again ≡ Some v.inst = v.there in cc)

-- The number of arguments.

called : Calls with_short_call short_call function 1 []
called = record { callee = 4; rest = []; result = refl; operands = refl; defined = refl; arguments = refl }

pub number : (G : Table)
    → IsEvidence G with_short_call rule.Y8 7 (evidence.Mismatch side.Number (Some 1) (Some 0) (Some 3))
number G = record {
  inst = short_call;
  there = refl;
  shows = Shows.call function 1 [] side.Number (Some 1) (Some 0) refl called
      (Differs.number (Id 1) (Id 1 ∷ []) refl (λ e. absurd (omega (arith, e))));
}

-- what is found where counts differ
found_count : (d : PlainInst) (r m : ℕ) (s : Side) (wanted found : Option ℕ)
    → Differs with_short_call d r m s wanted found → s ≡ side.Number → found ≡ Some m
found_count d r m _ _ _ (Differs.number o ps a b) e = refl
found_count d r m _ _ _ _ e = cc

no_arguments : (i d : PlainInst) (r : ℕ) (xs : List ℕ) → Calls with_short_call i d r xs → i ≡ short_call → [] ≡ xs
no_arguments i d r xs c same =
    let one : Id 4 ∷ [] ≡ Id c.callee ∷ c.rest = ap (λ (j : PlainInst). after_head j.operands) (sym same)
    ∙ c.operands in
    let rest : [] ≡ c.rest = cc in
    ap ids_in rest ∙ c.arguments

mismatch_side : (s t : Side) (a b c d x y : Option ℕ) → evidence.Mismatch s a b x ≡ evidence.Mismatch t c d y → s ≡ t
mismatch_side s t a b c d x y e = cc

mismatch_found : (s t : Side) (a b c d x y : Option ℕ) → evidence.Mismatch s a b x ≡ evidence.Mismatch t c d y → b ≡ d
mismatch_found s t a b c d x y e = cc

not_one : (G : Table) (i : PlainInst) (r : Rule) (e : Evidence) → Shows G with_short_call 7 i r e → r ≡ rule.Y8
    → e ≡ evidence.Mismatch side.Number (Some 0) (Some 1) (Some 3) → i ≡ short_call → ⊥
not_one G i _ _ (Shows.call d r xs s wanted found o c f) p q same =
    let number = mismatch_side s side.Number wanted found (Some 0) (Some 1) (function_type_in d) (Some 3) q in
    let it = mismatch_found s side.Number wanted found (Some 0) (Some 1) (function_type_in d) (Some 3) q in
    let two : Some 1 ≡ Some (length xs) = sym it ∙ found_count d r (length xs) s wanted found f number in
    let none : 0 ≡ length xs = ap (λ (ys : List ℕ). length ys) (no_arguments i d r xs c same) in
    let one : 1 ≡ length xs = cc in
    absurd (omega arith)
not_one G i _ _ (Shows.argument d r xs k t u o c a not) p q same =
    let number = mismatch_side (side.Argument k) side.Number (Some t) (Some u) (Some 0) (Some 1) (function_type_in d)
    (Some 3) q in cc
not_one G i _ _ _ p q same = cc

pub other_number : (G : Table)
    → ¬ (IsEvidence G with_short_call rule.Y8 7 (evidence.Mismatch side.Number (Some 0) (Some 1) (Some 3)))
other_number G v = not_one G v.inst rule.Y8 (evidence.Mismatch side.Number (Some 0) (Some 1) (Some 3)) v.shows refl refl
    (let e : Some short_call ≡ Some v.inst = v.there in cc)
