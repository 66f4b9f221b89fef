-- What `std_types_check` answers of a module whose places are known.
use Rattle.std.specs.Prelude.{◌≡◌, List}
use Rattle.spv_module.specs.Operand.{PlainInst}
use Rattle.spv_module.specs.declared.fault.Stop.{Stop}
use Rattle.spv_module.specs.declared.fault.Stop.TheVariants.{Fault, Memory}
use Rattle.spv_std_types.specs.Broken.{Broken}
use Rattle.spv_extended.specs.declared.reach.Reach.{Reach}
use Rattle.spv_layout.specs.First.{IsFirst}
use Rattle.spv_layout.specs.Place.{first_word_of}
use Rattle.spv_layout.specs.Stage.{of_std_types}

-- What a refusal says: out of memory, or Y10 at the first instruction that breaks it, and the first word of that.
abbrev pub IsRefusal : Reach → List PlainInst → Stop → Type 0
IsRefusal reach is Memory = Unit {0}
IsRefusal reach is (Fault f) = IsFirst (Broken reach is) of_std_types f.rule f.inst × (f.word ≡ first_word_of is f.inst)
