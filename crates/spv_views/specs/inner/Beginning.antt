-- The words before an instruction that is malformed. (For the code alone.)
use Rattle.std.specs.Prelude.{◌≡◌, ◌+◌, ◌++◌, ℕ, List, [], drop, length, take}
use Rattle.spv_table.specs.Table.{Table}
use Rattle.spv_module.specs.Operand.{PlainInst}
use Rattle.spv_module.specs.Instruction.{Listing}
use Rattle.spv_module.specs.Malformed.{FailsAt, IsMalformed}
use Rattle.spv_module.specs.Module.{plain_insts}
use Rattle.spv_module.specs.declared.module.Module.{Module}
use Rattle.spv_inst.specs.Outcome.{IsHeaderOf}
use Rattle.spv_module.specs.declared.fault.Rule.{Rule}

-- Up to a place the words spell instructions, and so many behind them one is malformed.
pub record IsOnWay (G : Table) (words : List ℕ) (rule : Rule) (left at : ℕ) : Type 0 where
  pub insts : List PlainInst
  pub part : List ℕ
  pub rest : List ℕ
  pub word : ℕ
  pub listing : Listing G [] insts part
  pub fails : FailsAt G insts rest rule left word
  pub all : drop 5 words ≡ part ++ rest
  pub place : at ≡ 5 + length part

-- Up to a place the words spell instructions, and the one behind them is malformed.
pub record IsDeadAt (G : Table) (words : List ℕ) (rule : Rule) (at : ℕ) : Type 0 where
  pub insts : List PlainInst
  pub part : List ℕ
  pub rest : List ℕ
  pub word : ℕ
  pub listing : Listing G [] insts part
  pub malformed : IsMalformed G insts rest rule word
  pub all : drop 5 words ≡ part ++ rest
  pub place : at ≡ 5 + length part

-- The words before that instruction are these, behind their header.
pub record IsBeginning (G : Table) (words start : List ℕ) : Type 0 where
  pub rule : Rule
  pub place : ℕ
  pub dead : IsDeadAt G words rule place
  pub all : start ≡ take place words

-- A module has the instructions before one that is malformed, and the header of the words.
pub record IsBegun (G : Table) (words : List ℕ) (m : Module) : Type 0 where
  pub header : IsHeaderOf words m.header
  pub rule : Rule
  pub word : ℕ
  pub part : List ℕ
  pub rest : List ℕ
  pub all : drop 5 words ≡ part ++ rest
  pub listed : Listing G [] (plain_insts m) part
  pub malformed : IsMalformed G (plain_insts m) rest rule word
