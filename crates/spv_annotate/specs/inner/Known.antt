-- What is known of a module beside its instructions. (For the code alone.)
use Rattle.std.specs.Prelude.{◌≡◌, ℕ, List, Option, Some, None, Bool, if◌then◌else◌, map, nat_eq, nat_lt}
use Rattle.std.specs.List.{list_any}
use Rattle.spv_module.specs.Operand.{PlainInst}
use Rattle.spv_module.specs.declared.opcode.TheConstants.{NAME}
use Rattle.spv_annotate.specs.declared.known.Firsts.{Firsts}
use Rattle.spv_annotate.specs.declared.known.Known.{Known}
use Rattle.spv_annotate.specs.Module.{definition_of, edges_of, naming_of}
use Rattle.spv_annotate.specs.Notes.{opencl_lines}
use Rattle.spv_annotate.specs.Page.{if_asked}
use Rattle.spv_annotate.specs.Values.{AreValues}
use Rattle.spv_annotate.specs.inner.Numbers.{kept}
use Rattle.spv_annotate.specs.inner.Values.{value_in}

-- is an instruction an OpName
abbrev pub is_naming : PlainInst → Bool
is_naming i = nat_eq i.opcode NAME

-- an instruction, if it is one of those up to a number, and is asked for
abbrev pub asked_below : List PlainInst → Option ℕ → ℕ → Option ℕ → Option ℕ
asked_below is asked k None = None
asked_below is asked k (Some n) = if nat_lt n k then if_asked is asked n else None

-- The first instructions that define and name ids are so by the instructions.
pub record AreFirsts (is : List PlainInst) (f : Firsts) : Type 0 where
  pub definitions : (x : ℕ) → kept f.definitions x ≡ definition_of is x
  pub namings : (x : ℕ) → kept f.namings x ≡ naming_of is x

-- What is known is so by the instructions.
pub record IsKnown (is : List PlainInst) (k : Known) : Type 0 where
  pub firsts : AreFirsts is k.firsts.now
  pub named : k.named ≡ list_any is_naming is
  pub edges : k.edges.edges.items ≡ edges_of is
  pub calls : map (λ t. t.now) k.calls.items ≡ opencl_lines
  pub values : AreValues is (value_in k.values)
