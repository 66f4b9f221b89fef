-- Where the names of ids are. (For the code alone.)
use Rattle.std.specs.Prelude.{◌≡◌, ℕ, List, [], Option, Some, None, String, map, option_and_then, option_map, slice_get}
use Rattle.std.specs.Prelude.{string_bytes}
use Rattle.std.specs.declared.alloc.Global.{Global}
use Rattle.std.specs.BTreeMap as tree
use Rattle.std.specs.Ordering.{nat_cmp}
use Rattle.spv_module.specs.Operand.{PlainInst}
use Rattle.spv_pictures.specs.Calls.{entry_lines, entry_names}
use Rattle.spv_names.specs.Names.{name_of, named_by}
use Rattle.spv_names.specs.declared.naming.Naming.{Naming}
use Rattle.spv_names.specs.declared.naming.Naming.TheVariants.{Name}
use Rattle.spv_pictures.specs.declared.calls.Known.{Known}
use Rattle.spv_module.specs.Module.{plain_inst}

-- the name that the instruction at a place gives, if there is one
abbrev pub name_at : Naming → List PlainInst → Option ℕ → Option (List ℕ)
name_at naming is place =
    option_map (λ p. p.1) (option_and_then (named_by naming) (option_and_then (slice_get is) place))

-- each id leads to the place of the first instruction that names it
abbrev pub Finds : Naming → List PlainInst → tree.BTreeMap ℕ ℕ → Type 0
Finds naming is places = (x : ℕ) → name_at naming is (tree.get nat_cmp places x) ≡ name_of naming is x

-- a text, if there is one
abbrev pub text_or_none : Option (String Global) → List ℕ
text_or_none None = []
text_or_none (Some s) = string_bytes s

-- what is kept of an id
abbrev pub kept : tree.BTreeMap ℕ (String Global) → ℕ → List ℕ
kept texts x = text_or_none (tree.get nat_cmp texts x)

-- of each id the lines of the entry points that it is
abbrev pub HasEntries : List PlainInst → tree.BTreeMap ℕ (String Global) → Type 0
HasEntries is texts = (x : ℕ) → kept texts x ≡ entry_lines (entry_names is x)

-- the names of ids and those of entry points are found
pub record AreKnown (k : Known) : Type 0 where
  pub names : Finds Name (map plain_inst k.insts.now) k.names
  pub entries : HasEntries (map plain_inst k.insts.now) k.entries
