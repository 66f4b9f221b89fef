-- O20 and O23: what is returned, and where a sampled image is made. [OpReturnValue; 2.2.2; OpSampledImage]
use Rattle.std.specs.Prelude.{◌≡◌, ◌⊎◌, ℕ, List, Some, option_and_then, slice_get}
use Rattle.spv_module.specs.declared.opcode.TheConstants as opcode
use Rattle.spv_module.specs.Operand.{PlainInst}
use Rattle.spv_module.specs.Width.{type_of}
use Rattle.spv_layout.specs.Place.{IsOfBlock}
use Rattle.spv_ids.specs.Definition.{IsDefinedAt}
use Rattle.spv_ids.specs.Order.{HasOpcode}
use Rattle.spv_type_forms.specs.declared.form.Form.TheVariants as form
use Rattle.spv_type_forms.specs.Form.{form_of}
use Rattle.spv_kernel_operands.specs.Value.{id_at}

-- Instruction i breaks O20: an OpReturnValue (254) of a value whose type is void. [OpReturnValue]
pub record IsVoidReturn (is : List PlainInst) (i : PlainInst) : Type 0 where
  pub called : i.opcode ≡ opcode.RETURN_VALUE
  pub void : option_and_then (form_of is) (option_and_then (type_of is) (id_at i.operands 0)) ≡ Some form.Void

-- Instruction m is an OpSampledImage (86) of the block of instruction n. [OpSampledImage]
pub record IsMadeBeside (is : List PlainInst) (n m : ℕ) : Type 0 where
  pub called : HasOpcode is m opcode.SAMPLED_IMAGE
  pub block : ℕ
  pub own : IsOfBlock is n block
  pub same : IsOfBlock is m block

-- Instruction n breaks O23: an OpImageSampleExplicitLod (88) or OpImage (100) whose sampled image, its operand 2, is
-- made elsewhere. [OpSampledImage]
pub record IsMadeElsewhere (is : List PlainInst) (n : ℕ) : Type 0 where
  pub inst : PlainInst
  pub there : slice_get is n ≡ Some inst
  pub called : (inst.opcode ≡ opcode.IMAGE_SAMPLE_EXPLICIT_LOD) ⊎ (inst.opcode ≡ opcode.IMAGE)
  pub id : ℕ
  pub used : id_at inst.operands 2 ≡ Some id
  pub elsewhere : (m : ℕ) → IsDefinedAt is id m → ¬ (IsMadeBeside is n m)
