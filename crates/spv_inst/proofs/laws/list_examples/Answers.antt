use Rattle.std.proofs.Common.{[], refl, ◌∷◌}
use Rattle.spv_module.specs.declared.fault.Rule.TheVariants.{I7}
use Rattle.spv_module.specs.Example.{small, string}
use Rattle.spv_inst.proofs.Lists.{dies_not}
use Rattle.spv_inst.proofs.Worked.{string_listed, unknown_dead}
use Rattle.spv_inst.proofs.laws.list_examples.Goals as goal

pub returns : goal.returns
returns c = record {
  listed = string_listed;
  none = λ is l. dies_not small [] is (327741 ∷ 2 ∷ 9 ∷ 8 ∷ 4 ∷ [])
      (327741 ∷ 2 ∷ 9 ∷ 8 ∷ 4 ∷ []) I7 0 4 unknown_dead l refl;
  dead = unknown_dead;
  alive = λ rule k n d. dies_not small [] (string ∷ []) (196615 ∷ 5 ∷ 6513249 ∷ [])
      (196615 ∷ 5 ∷ 6513249 ∷ []) rule k n d string_listed refl;
}
