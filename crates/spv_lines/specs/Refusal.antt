-- Where the operands of a line fail, and with which code. (Own.)
use Rattle.std.specs.Prelude.{◌≡◌, ◌≢◌, ◌^◌, ◌++◌, ◌⊎◌, ℕ, List, [], ◌∷◌, Option}
use Rattle.std.specs.Prelude.{Some, None, Bool, true, false, not, is_some, nat_le, if◌then◌else◌, map, codes}
use Rattle.spv_table.specs.Table.{Table}
use Rattle.spv_module.specs.Operand.{Plain, Context, and_then, result_in}
use Rattle.spv_module.specs.Shape.{Slot, Shape, AsType, AsResult, AsId, AsWord, AsNumber, AsText, AsValue, AsMask}
use Rattle.spv_module.specs.Shape.{AsParts, AsNothing, shape_of}
use Rattle.spv_module.specs.Spelling.{Takes}
use Rattle.spv_module.specs.Refusal.{IsLeaf}
use Rattle.spv_inst.specs.Flat.{Due, OneOf, MaybeOf, ManyOf}
use Rattle.spv_lines.specs.declared.asm_error.AsmCode.{AsmCode}
use Rattle.spv_lines.specs.declared.asm_error.AsmCode.TheVariants.{S3, S4}
use Rattle.spv_lines.specs.Digits.{IsLarge}
use Rattle.spv_lines.specs.Operand.{IsRead, is_float}
use Rattle.spv_lines.specs.Written.{Piece}
use Rattle.spv_lines.specs.Line.{AreWords}

-- the end of the operands, or the space before the next [own]
pub data IsBreak : List ℕ → Type 0 where
  at_end : IsBreak []
  at_space : (t : List ℕ) → IsBreak (32 ∷ t)

-- where a shape takes a number: what stands in front of its digits, and the least number that is too large [own]
pub record Place : Type 0 where
  pub mark : List ℕ
  pub limit : ℕ

-- the place of a decimal number without anything in front [own]
abbrev pub decimal_place : Bool → ℕ → Option Place
decimal_place true w = None
decimal_place false w = Some (record { mark = []; limit = if nat_le w 32 then 2 ^ 32 else 2 ^ 64 })

-- where a shape takes a number [own]
abbrev pub place_of : Bool → Shape → Option Place
place_of hex AsType = Some (record { mark = codes "%"; limit = 2 ^ 32 })
place_of hex AsResult = Some (record { mark = codes "%"; limit = 2 ^ 32 })
place_of hex AsId = Some (record { mark = codes "%"; limit = 2 ^ 32 })
place_of hex AsWord = Some (record { mark = []; limit = 2 ^ 32 })
place_of hex (AsNumber None) = None
place_of hex (AsNumber (Some w)) = decimal_place hex w
place_of hex AsText = None
place_of hex (AsValue es) = Some (record { mark = codes "#"; limit = 2 ^ 32 })
place_of hex (AsMask es) = Some (record { mark = codes "#"; limit = 2 ^ 32 })
place_of hex (AsParts ss) = None
place_of hex AsNothing = None

-- is a slot of the instruction's result due, which has its place in front [own]
abbrev pub is_front : Shape → Context → Bool
is_front AsResult c = not (is_some (result_in c.operands))
is_front _ c = false

-- Behind one space the rest of a line begins with a well-formed decimal number that is too large for the slot. [own]
pub record IsTooLarge (G : Table) (c : Context) (s : Slot) (t : List ℕ) : Type 0 where
  pub place : Place
  pub digits : List ℕ
  pub rest : List ℕ
  pub behind : is_front (shape_of G c s) c ≡ false
  pub placed : place_of (is_float G c s) (shape_of G c s) ≡ Some place
  pub large : IsLarge place.limit digits
  pub broken : IsBreak rest
  pub all : t ≡ 32 ∷ (place.mark ++ (digits ++ rest))

-- The rest of a line begins with an operand that the slot takes; behind it its parameters are due, and the line goes
-- on. [own]
pub record StandsInLine (G : Table) (r : Option ℕ) (c : Context) (s : Slot) (o : Plain) (ss : List Slot)
    (t rest : List ℕ) : Type 0 where
  pub words : List ℕ
  pub piece : List ℕ
  pub takes : Takes s.kind (shape_of G c s) o words ss
  pub small : AreWords words
  pub written : Piece (IsRead G) G r c s o piece
  pub broken : IsBreak rest
  pub all : t ≡ piece ++ rest

-- Is the line's result still due: it has one, and none of the operands so far is it. [own]
abbrev pub Pends : Option ℕ → Context → Type 0
Pends r c = r ≢ result_in c.operands

-- A slot refuses the rest of a line: a number is too large for its place, or nothing stands there that the slot takes.
-- [own]
pub data SlotRefuses (G : Table) (r : Option ℕ) (c : Context) (s : Slot) (t : List ℕ) : AsmCode → Type 0 where
  large : IsTooLarge G c s t → SlotRefuses G r c s t S4
  wrong : ((o : Plain) (ss : List Slot) (rest : List ℕ) → ¬ (StandsInLine G r c s o ss t rest))
      → ¬ (IsTooLarge G c s t) → SlotRefuses G r c s t S3

-- What is due comes to a refusal of what is left of the line, from left to right. [own]
pub data OperandsFail (G : Table) (r : Option ℕ) : Context → List Due → List ℕ → AsmCode → Type 0 where
  -- nothing is due, and the line goes on, or its result is left
  left : (c : Context) (b : ℕ) (t : List ℕ) → OperandsFail G r c [] (b ∷ t) S3
  unused : (c : Context) → Pends r c → OperandsFail G r c [] [] S3
  refused : (c : Context) (s : Slot) (ds : List Due) (t : List ℕ) (code : AsmCode)
      → IsLeaf (shape_of G c s) → SlotRefuses G r c s t code → OperandsFail G r c (OneOf s ∷ ds) t code
  after : (c : Context) (s : Slot) (ds : List Due) (o : Plain) (ss : List Slot) (t rest : List ℕ) (code : AsmCode)
      → StandsInLine G r c s o ss t rest → OperandsFail G r (and_then c o) (map OneOf ss ++ ds) rest code
      → OperandsFail G r c (OneOf s ∷ ds) t code
  parts : (c : Context) (s : Slot) (ds : List Due) (ss : List Slot) (t : List ℕ) (code : AsmCode)
      → shape_of G c s ≡ AsParts ss → OperandsFail G r c (map OneOf ss ++ ds) t code
      → OperandsFail G r c (OneOf s ∷ ds) t code
  -- an item is absent only where nothing of the line is left
  no_maybe : (c : Context) (s : Slot) (ds : List Due) (code : AsmCode)
      → ¬ (Pends r c) → OperandsFail G r c ds [] code → OperandsFail G r c (MaybeOf s ∷ ds) [] code
  maybe : (c : Context) (s : Slot) (ds : List Due) (t : List ℕ) (code : AsmCode)
      → (t ≢ []) ⊎ Pends r c → OperandsFail G r c (OneOf s ∷ ds) t code
      → OperandsFail G r c (MaybeOf s ∷ ds) t code
  no_many : (c : Context) (s : Slot) (ds : List Due) (code : AsmCode)
      → ¬ (Pends r c) → OperandsFail G r c ds [] code → OperandsFail G r c (ManyOf s ∷ ds) [] code
  many : (c : Context) (s : Slot) (ds : List Due) (t : List ℕ) (code : AsmCode)
      → (t ≢ []) ⊎ Pends r c → OperandsFail G r c (OneOf s ∷ ManyOf s ∷ ds) t code
      → OperandsFail G r c (ManyOf s ∷ ds) t code
