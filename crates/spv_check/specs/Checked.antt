-- What a module keeps that breaks no rule, and what is kept of it. (Own.)
use Rattle.std.specs.Prelude.{◌≡◌, ℕ, List, Some, drop, slice_get, slice_index}
use Rattle.spv_table.specs.Table.{Table}
use Rattle.spv_module.specs.Operand.{PlainInst}
use Rattle.spv_module.specs.Module.{plain_insts}
use Rattle.spv_module.specs.declared.fault.Rule.{Rule}
use Rattle.spv_module.specs.declared.module.Module.{Module}
use Rattle.spv_extended.specs.declared.reach.Reach.{Reach}
use Rattle.spv_extended.specs.Broken as extended_rules
use Rattle.spv_std_types.specs.Broken as std_rules
use Rattle.spv_standard.specs.Broken as standard_rules
use Rattle.spv_extended.specs.Reach.{profile_of}
use Rattle.spv_layout.specs.First.{IsUnbroken}
use Rattle.spv_layout.specs.Place.{IsShort}
use Rattle.spv_layout.specs.Plan.{IsPlan, IsLaidOut}
use Rattle.spv_layout.specs.Stage.{of_branches, of_calls, of_ids, of_roles, of_types, of_values}
use Rattle.spv_layout.specs.declared.place.Place.{Place}
use Rattle.spv_ids.specs.Broken as id_rules
use Rattle.spv_ids.specs.Outcome.{AreIds}
use Rattle.spv_ids.specs.declared.ids.Ids.{Ids}
use Rattle.spv_type_rules.specs.roles.Outcome.{AreInRole}
use Rattle.spv_capabilities.specs.Keeps as capability_rules
use Rattle.spv_ops.specs.Typed.{IsTyped}
use Rattle.spv_type_rules.specs.Keeps as typing_rules
use Rattle.spv_check.specs.types.Broken as type_rules
use Rattle.spv_flow.specs.branches.Broken as flow_rules
use Rattle.spv_flow.specs.calls.Broken as call_rules
use Rattle.spv_check.specs.flow.Outcome.{IsFlow}
use Rattle.spv_check.specs.declared.flow.Flow.{Flow}
use Rattle.spv_check.specs.Broken.{IsSound}
use Rattle.spv_check.specs.Fork.{fork_of}
use Rattle.spv_check.specs.Program.{Program}
use Rattle.spv_check.specs.Reading.{IsReading}

-- All that the layers demand of a module, as far as it is looked at, is kept under the table. [own]
pub record IsKept (G : Table) (reach : Reach) (p : Program) : Type 0 where
  -- it has few enough words
  pub few : IsShort p.insts
  -- each instruction fits its row, which the profile has, and all together are laid out as a module
  pub laid_out : IsLaidOut (profile_of reach) G p.insts
  -- D
  pub ids : IsUnbroken (id_rules.Broken G p.bound p.insts) of_ids
  -- Y1; C, M and E; and the other rules Y
  pub roles : AreInRole G p.insts
  pub capabilities : (r : Rule) (n : ℕ) (i : PlainInst) → slice_get p.insts n ≡ Some i
      → capability_rules.Keeps G p.insts r n i
  pub rules : (r : Rule) (n : ℕ) (i : PlainInst) → slice_get p.insts n ≡ Some i
      → typing_rules.Keeps (IsTyped G p.insts) p.insts r n i
  pub types : IsUnbroken (type_rules.Broken G p.insts) of_roles × IsUnbroken (type_rules.Broken G p.insts) of_types
  -- F, A and G
  pub branches : IsUnbroken (flow_rules.Broken (fork_of reach) G p.insts) of_branches
  pub values : IsUnbroken (flow_rules.Broken (fork_of reach) G p.insts) of_values
  pub calls : IsUnbroken (call_rules.Broken p.insts) of_calls
  -- Y9
  pub extended : (r : Rule) (n : ℕ) → ¬ (extended_rules.Broken reach p.insts r n)
  -- Y10
  pub std_types : (r : Rule) (n : ℕ) → ¬ (std_rules.Broken reach p.insts r n)
  -- O
  pub standard : (r : Rule) (n : ℕ) → ¬ (standard_rules.Broken G reach p.insts r n)

-- The module is that one, and the places, ids and flow are its own.
pub record AreParts (G : Table) (reach : Reach) (p : Program) (m : Module) (places : List Place) (ids : Ids)
    (flow : Flow) : Type 0 where
  pub bound : m.header.bound ≡ p.bound
  pub insts : plain_insts m ≡ p.insts
  pub kept : IsKept G reach p
  pub plan : IsPlan G p.insts places
  pub numbered : AreIds G p.bound p.insts ids
  pub flowing : IsFlow (fork_of reach) G p.insts flow

-- The module is the one list of the words, as far as it is looked at, with the bound that word 3 is, and valid under
-- the table. [own]
pub record IsChecked (G : Table) (reach : Reach) (words : List ℕ) (p : Program) : Type 0 where
  pub reading : IsReading G reach p.insts (drop 5 words)
  pub bound : p.bound ≡ slice_index words 3
  pub sound : IsSound G reach p.bound p.insts

-- The bound and the instructions of a module.
abbrev pub program_of : Module → Program
program_of m = record { bound = m.header.bound; insts = plain_insts m }

-- The module is the one list of some words and valid under the table, and the places, ids and flow are its own. [own]
pub record IsCheckedBy (G : Table) (m : Module) (places : List Place) (ids : Ids) (flow : Flow) : Type 0 where
  pub reach : Reach
  pub words : List ℕ
  pub checked : IsChecked G reach words (program_of m)
  pub parts : AreParts G reach (program_of m) m places ids flow
