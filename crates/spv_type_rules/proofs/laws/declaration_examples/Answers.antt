use Rattle.std.proofs.Common.{inl, refl, lit<, lit≤}
use Rattle.spv_module.specs.declared.opcode.TheConstants as opcode
use Rattle.spv_module.specs.Operand.{Result, Word}
use Rattle.std.specs.Prelude.{[], ◌∷◌}
use Rattle.spv_type_forms.specs.Example.{inst}
use Rattle.spv_type_rules.proofs.laws.declaration_examples.Goals as goal

pub returns-clause-array : goal.returns-clause-array
returns-clause-array c = (tt, ((8, refl), lit≤ tt))

pub returns-clause-constant : goal.returns-clause-constant
returns-clause-constant c = (8, inl refl, λ _. lit< tt)

pub returns-clause-again : goal.returns-clause-again
returns-clause-again c =
    record {
      once = refl;
      place = 0;
      earlier = lit< tt;
      other = inst opcode.TYPE_INT (Result 1 ∷ Word 8 ∷ Word 0 ∷ []);
      there = refl;
      alike = (refl, refl);
    }
