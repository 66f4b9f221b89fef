-- What is gathered of a module before its instructions are judged. (For the code alone.)
use Rattle.std.specs.Prelude.{◌≡◌, ◌<◌, ◌↔◌, ℕ, List, Option, Some, Bool, IsTrue, codes, filter_map}
use Rattle.std.specs.Prelude.{length, map, slice_get, take}
use Rattle.std.specs.BTreeSet.{contains}
use Rattle.std.specs.Ordering.{nat_cmp}
use Rattle.spv_table.specs.Table.{Table}
use Rattle.spv_table.specs.Lookups.{number_named}
use Rattle.spv_module.specs.Operand.{PlainInst}
use Rattle.spv_module.specs.Module.{plain_inst}
use Rattle.spv_module.specs.declared.opcode.TheConstants as opcode
use Rattle.spv_layout.specs.declared.place.Place.{Place}
use Rattle.spv_layout.specs.Plan.{IsPlaceOf}
use Rattle.spv_layout.specs.Shape.{FitsShape}
use Rattle.spv_ids.specs.Definition.{IsDefinedAt}
use Rattle.spv_ids.specs.Order.{HasOpcode}
use Rattle.spv_ids.specs.Outcome.{IsDefinitionOf, definition_in}
use Rattle.spv_capabilities.specs.declared.gather.Gathered.{Gathered}
use Rattle.spv_capabilities.specs.declared.surveyed.Survey.TheInside.{Inside}
use Rattle.spv_capabilities.specs.Capable.{Has}
use Rattle.spv_capabilities.specs.inner.Capable.{declared_by}
use Rattle.spv_capabilities.specs.Entry.{called_by, entered_by, imported_by}

-- Some instruction before number `to` names, in this way, the id that instruction f defines.
pub record IsNamedBefore (names : PlainInst → Option ℕ) (is : List PlainInst) (to f : ℕ) : Type 0 where
  pub place : ℕ
  pub below : place < to
  pub inst : PlainInst
  pub there : slice_get is place ≡ Some inst
  pub id : ℕ
  pub named : names inst ≡ Some id
  pub defined : IsDefinedAt is id f

-- Of each instruction it is kept whether one before number `to` names what it defines.
pub record AreMarked (names : PlainInst → Option ℕ) (is : List PlainInst) (to : ℕ)
    (marks : List Bool) : Type 0 where
  pub count : length marks ≡ length is
  pub each : (f : ℕ) (b : Bool) → slice_get marks f ≡ Some b → IsTrue b ↔ IsNamedBefore names is to f

-- an OpEntryPoint before number `to`
pub record IsEntryBefore (is : List PlainInst) (to : ℕ) : Type 0 where
  pub place : ℕ
  pub below : place < to
  pub there : HasOpcode is place opcode.ENTRY_POINT

-- This is gathered of the instructions before number `to`, where the kind LinkageType has that number.
pub record AreGathered (linkage : Option ℕ) (is : List PlainInst) (to : ℕ) (g : Gathered) : Type 0 where
  pub declared : g.declared.items ≡ filter_map declared_by (take to is)
  pub entry : IsTrue g.entry ↔ IsEntryBefore is to
  pub called : AreMarked called_by is to g.called.items
  pub entered : AreMarked entered_by is to g.entered.items
  pub imported : AreMarked (imported_by linkage) is to g.imported.items

-- The instructions of the survey fit their shapes; and it has their places, the definitions of their ids, the
-- capabilities that the module has, and what is gathered.
pub record IsSurvey (s : Inside) : Type 0 where
  pub fits : (n : ℕ) (i : PlainInst) → slice_get (map plain_inst s.insts.now) n ≡ Some i → (G : Table) × FitsShape G i
  pub count : length s.plan.now ≡ length (map plain_inst s.insts.now)
  pub place : (n : ℕ) (p : Place) → slice_get s.plan.now n ≡ Some p → IsPlaceOf (map plain_inst s.insts.now) n p
  pub ids : (x : ℕ) → IsDefinitionOf (map plain_inst s.insts.now) x (definition_in s.ids.now x)
  pub implied : (c : ℕ) → IsTrue (contains nat_cmp s.implied c) ↔ Has s.table.now (map plain_inst s.insts.now) c
  pub capability : s.capability ≡ number_named s.table.now (codes "Capability")
  pub gathered : AreGathered (number_named s.table.now (codes "LinkageType")) (map plain_inst s.insts.now)
      (length (map plain_inst s.insts.now)) s.gathered
