-- Worked examples.
use Rattle.std.proofs.Common.{◌≡◌, ◌∙◌, ℕ, List, [], ◌∷◌}
use Rattle.std.proofs.Common.{refl, sym, arith, rules}
use Rattle.std.proofs.lemmas.Option.{none-some, same_Some}
use Rattle.spv_table.specs.Table.{Table}
use Rattle.spv_module.specs.Operand.{PlainInst}
use Rattle.spv_module.specs.declared.fault.Rule.TheVariants.{O14, O19, O21}
use Rattle.spv_type_forms.specs.Example.{inst}
use Rattle.spv_evidence.specs.declared.evidence.Evidence.{Evidence}
use Rattle.spv_evidence.specs.declared.evidence.Evidence.TheVariants.{Late, Operand, Pair}
use Rattle.spv_evidence.specs.declared.evidence.Lister.TheVariants as lister
use Rattle.spv_kernel_operands.specs.Seats as seats
use Rattle.spv_kernel_operands.specs.Scopes.{IsMisscoped}
use Rattle.spv_kernel_operands.specs.Example.{barrier, small, switch}
use Rattle.spv_versions.specs.declared.table.Kind.TheVariants as kind
use Rattle.spv_versions.specs.Table as versions
use Rattle.spv_standard_evidence.specs.Operands.{AreEqual, Shows}
use Rattle.spv_standard_evidence.specs.Versions as late

-- the scope 5
pub high_scope : (G : Table) → Shows G small (barrier 5 2) O14 (Operand 0)
unfolding seats.lines
high_scope G =
    Shows.scopes (IsMisscoped.scope 0 5 record { seat = (0, omega arith, refl); value = refl } (omega arith))

misscoped : (G : Table) (is : List PlainInst) (i : PlainInst) (e : Evidence) → Shows G is i O14 e → IsMisscoped is i
misscoped G is i _ (Shows.scopes m) = m

low : ¬ (IsMisscoped small (barrier 3 2))
unfolding seats.lines
low = search rules

pub low_scope : (G : Table) (e : Evidence) → ¬ (Shows G small (barrier 3 2) O14 e)
low_scope G e s = low (misscoped G small (barrier 3 2) e s)

-- the literal 7, twice
pub equal_literals : (G : Table) → Shows G small (switch 7 7) O19 (Pair 2 4)
equal_literals G = Shows.twice 2 4 refl record { before = omega arith; literal = 7; one = refl; other = refl }

pair : (G : Table) (is : List PlainInst) (i : PlainInst) (j k : ℕ) → Shows G is i O19 (Pair j k)
    → AreEqual i.operands j k
pair G is i _ _ (Shows.twice j k o e) = e

pub labels_are_none : (G : Table) → ¬ (Shows G small (switch 7 7) O19 (Pair 3 5))
labels_are_none G s =
    let e = pair G small (switch 7 7) 3 5 s in
    none-some e.literal e.one

pub other_literals : (G : Table) → ¬ (Shows G small (switch 7 8) O19 (Pair 2 4))
other_literals G s =
    let e = pair G small (switch 7 8) 2 4 s in
    let no : 7 ≡ 8 = same_Some 7 8 (e.one ∙ sym e.other) in
    absurd (omega (arith, no))

-- OpCopyLogical (400), which came with 1.4: line 4 of the table says so, and line 5 does not

pub late_opcode : (G : Table) → late.IsEvidence G 3 (inst 400 [] ∷ []) O21 0 (Late lister.Entry 4)
unfolding versions.lines
late_opcode G = late.IsEvidence.late 0 (inst 400 []) _ refl
    (late.Shows.number lister.Entry kind.Opcode 400 4 late.HasNumberBy.of_opcode record {
      line = _;
      there = refl;
      of = (refl, omega arith, omega arith);
      before = omega arith;
      undeclared = λ name h. absurd (let l = h.1 in omega (arith, l));
    })
