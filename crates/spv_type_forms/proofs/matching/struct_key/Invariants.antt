use Rattle.std.proofs.Common.{◌≡◌, ◌∷◌, ℕ, List, length, take}
use Rattle.spv_module.specs.Module.{plain_operands}
use Rattle.spv_type_forms.specs.inner.Matching.{AreNumbers}
use Rattle.spv_type_forms.proofs.matching.struct_key.Given as goal

abbrev pub invariant-loop-member : goal.invariant-loop-member
invariant-loop-member l = (ks : List ℕ) × (l.key.items ≡ 1 ∷ ks)
    × AreNumbers l.definitions l.numbers (length l.numbers) (plain_operands (take l.member-index l.members)) ks
