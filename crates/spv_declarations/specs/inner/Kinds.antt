-- Which kinds of instructions there are. (For the code alone.)
use Rattle.std.specs.Prelude.{◌≡◌, ◌<◌, ◌||◌, ◌⊎◌, ℕ, List, Some, Bool, false, true, nat_eq, slice_get}
use Rattle.spv_table.specs.Table.{Table}
use Rattle.spv_module.specs.declared.opcode.TheConstants as opcode
use Rattle.spv_module.specs.Operand.{PlainInst}
use Rattle.spv_type_forms.specs.declared.form.Form.TheVariants as form
use Rattle.spv_type_forms.specs.declared.form.Scalar.TheVariants as scalar
use Rattle.spv_type_forms.specs.Form.{form_in}
use Rattle.spv_capabilities.specs.Capable.{Has}
use Rattle.spv_declarations.specs.Declarations.{HasBytes}
use Rattle.spv_declarations.specs.Entry.{SetsById}
use Rattle.spv_declarations.specs.Given.{Gives, is_of_member}
use Rattle.spv_declarations.specs.declared.capable.TheConstants.{VULKAN_MEMORY_MODEL}
use Rattle.spv_declarations.specs.declared.kinds.Kinds.{Kinds}
use Rattle.spv_declarations.specs.declared.said.TheConstants.{LINKAGE_ATTRIBUTES}
use Rattle.spv_declarations.specs.declared.second.TheConstants.{RESTRICT, ALIASED}
use Rattle.spv_declarations.specs.inner.Early.{is_grouping}
use Rattle.spv_declarations.specs.inner.Initialized.{initialized_by}
use Rattle.spv_declarations.specs.inner.Sets.{IsSaidBefore}

-- the opcodes of kinds that say nothing of ids or members, but OpEntryPoint
abbrev pub is_other : ℕ → Bool
is_other n = (nat_eq n opcode.TYPE_FORWARD_POINTER || nat_eq n opcode.TYPE_INT)
    || (nat_eq n opcode.VARIABLE || nat_eq n opcode.EXECUTION_MODE)

-- the kinds
abbrev pub Enters : PlainInst → Type 0
Enters i = i.opcode ≡ opcode.ENTRY_POINT

abbrev pub IsOfMembers : PlainInst → Type 0
IsOfMembers i = is_of_member i.opcode ≡ true

abbrev pub Groups : PlainInst → Type 0
Groups i = is_grouping i.opcode ≡ true

abbrev pub GivesAny : ℕ → PlainInst → Type 0
GivesAny d i = (x : ℕ) × Gives d i x

abbrev pub Initializes : PlainInst → Type 0
Initializes i = (x class : ℕ) × (initialized_by i ≡ Some (x, class))

abbrev pub Announces : PlainInst → Type 0
Announces i = i.opcode ≡ opcode.TYPE_FORWARD_POINTER

abbrev pub DeclaresBytes : PlainInst → Type 0
DeclaresBytes i = form_in i ≡ Some (form.Scalar (scalar.Int 8))

-- where the mark is not set, no instruction before n is such a one
abbrev pub Misses : Bool → ℕ → List PlainInst → (PlainInst → Type 0) → Type 0
Misses b n is P = b ≡ false → ¬ (IsSaidBefore n is P)

-- the new mark is set where the old one is, and where the instruction is such a one
abbrev pub Marks : Bool → Bool → (PlainInst → Type 0) → PlainInst → Type 0
Marks old new P i = new ≡ false → (old ≡ false) × (¬ (P i))

-- no two instructions before n enter
abbrev pub EnterOnce : ℕ → List PlainInst → Type 0
EnterOnce n is = (j : ℕ) (b : PlainInst) → j < n → slice_get is j ≡ Some b → Enters b → ¬ (IsSaidBefore j is Enters)

-- Of the instructions before n there are none of the kinds that are not set.
pub record AreKinds (is : List PlainInst) (n : ℕ) (k : Kinds) : Type 0 where
  pub entry : Misses k.entry n is Enters
  pub entries : k.entries ≡ false → EnterOnce n is
  pub by_id : Misses k.by_id n is SetsById
  pub members : Misses k.members n is IsOfMembers
  pub groups : Misses k.groups n is Groups
  pub restricted : Misses k.restricted n is (GivesAny RESTRICT)
  pub aliased : Misses k.aliased n is (GivesAny ALIASED)
  pub linked : Misses k.linked n is (GivesAny LINKAGE_ATTRIBUTES)
  pub initialized : Misses k.initialized n is Initializes
  pub forward : Misses k.forward n is Announces
  pub bytes : Misses k.bytes n is DeclaresBytes

-- One instruction more.
pub record Notes (old new : Kinds) (i : PlainInst) : Type 0 where
  pub entry : Marks old.entry new.entry Enters i
  pub entries : new.entries ≡ false → (old.entries ≡ false) × (Enters i → old.entry ≡ false)
  pub by_id : Marks old.by_id new.by_id SetsById i
  pub members : Marks old.members new.members IsOfMembers i
  pub groups : Marks old.groups new.groups Groups i
  pub restricted : Marks old.restricted new.restricted (GivesAny RESTRICT) i
  pub aliased : Marks old.aliased new.aliased (GivesAny ALIASED) i
  pub linked : Marks old.linked new.linked (GivesAny LINKAGE_ATTRIBUTES) i
  pub initialized : Marks old.initialized new.initialized Initializes i
  pub forward : Marks old.forward new.forward Announces i
  pub bytes : Marks old.bytes new.bytes DeclaresBytes i

-- No instruction can break O13: VulkanMemoryModel is not implied; and ints of 8 bits may be declared, or no instruction
-- declares one.
abbrev pub IsCapable : Table → List PlainInst → Bool → Type 0
IsCapable G is bytes = (¬ (Has G is VULKAN_MEMORY_MODEL)) × ((bytes ≡ false) ⊎ HasBytes G is)
