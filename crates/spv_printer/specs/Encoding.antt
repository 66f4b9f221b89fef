-- What `encode` answers.
use Rattle.std.specs.Prelude.{◌≡◌, ◌≤◌, ◌<◌, ◌+◌, ◌⊎◌, ℕ, List, ◌∷◌, ◌++◌, length}
use Rattle.std.specs.Prelude.{drop, Some}
use Rattle.spv_words.specs.Header.{IsHeader, greatest_length}
use Rattle.spv_table.specs.declared.table.Entry.{Entry}
use Rattle.spv_table.specs.Table.{Table, entry_of, pattern_of}
use Rattle.spv_printer.specs.declared.encode_error.EncodeCode.{EncodeCode}
use Rattle.spv_printer.specs.declared.encode_error.EncodeCode.TheVariants.{N1, N2, N3, Memory}
use Rattle.spv_module.specs.declared.module.Module.{Module}
use Rattle.spv_module.specs.Operand.{PlainInst, start}
use Rattle.spv_module.specs.Spelling.{Match}
use Rattle.spv_module.specs.Instruction.{IsListing}
use Rattle.spv_module.specs.Module.{plain_insts}
use Rattle.spv_inst.specs.Limits.{HeaderFits, greatest_count}
use Rattle.spv_inst.specs.Outcome.{IsHeaderOf}

-- After the instructions before, no words spell the instruction: its opcode has no entry, or no words match its
-- operands. [2.3]
abbrev pub HasNoWords : Table → List PlainInst → PlainInst → Type 0
HasNoWords G before i = (entry : Entry) (us : List ℕ) → entry_of G i.opcode ≡ Some entry
    → ¬ (Match G (start before i.opcode) (pattern_of entry) i.operands us)

-- After the instructions before, which with the header have so many words, some words match the instruction's operands;
-- but the instruction has too many words, or the module would have. [2.3; the module's limit own]
pub record IsTooLong (G : Table) (before : List PlainInst) (written : ℕ) (i : PlainInst) : Type 0 where
  pub further : List ℕ
  pub entry : Entry
  pub known : entry_of G i.opcode ≡ Some entry
  pub matches : Match G (start before i.opcode) (pattern_of entry) i.operands further
  pub long : (greatest_count < length further + 1) ⊎ (greatest_length < written + (length further + 1))

-- what a code says of an instruction; N1 and Memory are told of none [own]
abbrev pub Prevents : EncodeCode → Table → List PlainInst → ℕ → PlainInst → Type 0
Prevents N1 G before written i = ⊥
Prevents N2 G before written i = HasNoWords G before i
Prevents N3 G before written i = IsTooLong G before written i
Prevents Memory G before written i = ⊥

-- The instruction of that number is hindered, and those before it are spelled by words that leave the module short
-- enough. [own]
pub record StopsAt (G : Table) (is : List PlainInst) (code : EncodeCode) (n : ℕ) : Type 0 where
  pub before : List PlainInst
  pub inst : PlainInst
  pub later : List PlainInst
  pub words : List ℕ
  pub all : is ≡ before ++ (inst ∷ later)
  pub number : length before ≡ n
  pub spelled : IsListing G before words
  pub short : 5 + length words ≤ greatest_length
  pub prevented : Prevents code G before (5 + length words) inst

-- What a refusal says of a module: N1 that its header does not fit, N2 and N3 that it stops at that instruction, Memory
-- nothing. [own]
abbrev pub RefusesModule : EncodeCode → Table → Module → ℕ → Type 0
RefusesModule N1 G m n = (n ≡ 0) × (¬ (HeaderFits m.header))
RefusesModule N2 G m n = HeaderFits m.header × StopsAt G (plain_insts m) N2 n
RefusesModule N3 G m n = HeaderFits m.header × StopsAt G (plain_insts m) N3 n
RefusesModule Memory G m n = n ≡ 0

-- The words are the module's: a header that fits, the module's own, and words that spell its instructions. [2.3]
pub record IsImageOf (G : Table) (m : Module) (words : List ℕ) : Type 0 where
  pub header : IsHeader words
  pub same : IsHeaderOf words m.header
  pub spelled : IsListing G (plain_insts m) (drop 5 words)
