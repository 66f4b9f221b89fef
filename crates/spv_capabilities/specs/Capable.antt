-- The capabilities that a module has, and those that its instructions ask for: C1 and C2. [2.16.1, 3.31; widths and
-- counts own]
use Rattle.std.specs.Prelude.{◌≡◌, ◌≢◌, ◌⊎◌, ℕ, List, [], ◌∷◌, Option, Some, None, codes}
use Rattle.std.specs.Prelude.{filter_map, option_and_then, slice_get, nat_eq, ◌||◌, if◌then◌else◌, IfSome, IsSomeAnd}
use Rattle.std.specs.Prelude.{Bool, false}
use Rattle.std.specs.List.{AllByRecursion}
use Rattle.spv_table.specs.Table.{Table, kind_of, entry_of, enumerant_of}
use Rattle.spv_table.specs.Lookups.{value_named, number_named}
use Rattle.spv_table.specs.Implied.{Implied, capabilities_in}
use Rattle.spv_module.specs.Operand.{Plain, Result, Word, Id, Value, Mask, PlainInst}
use Rattle.spv_module.specs.Spelling.{set_bits}
use Rattle.spv_module.specs.declared.opcode.TheConstants as opcode

-- The module has the capability: those that its OpCapabilities declare (`first_value`) imply it. [3.31, 3.49.5]
abbrev pub first_value : List Plain → Option ℕ
first_value (Value k c ∷ os) = Some c
first_value _ = None

abbrev pub Has : Table → List PlainInst → ℕ → Type 0
Has G is c =
    Implied G (filter_map (λ i. if nat_eq i.opcode opcode.CAPABILITY then first_value i.operands else None) is) c

-- The module has one of the named capabilities. A name that no capability bears is that of none. [3.31]
abbrev pub HasNamed : Table → List PlainInst → List (List ℕ) → Type 0
HasNamed G is [] = ⊥
HasNamed G is (name ∷ names) = IsSomeAnd (value_named (capabilities_in G) name) (Has G is) ⊎ HasNamed G is names

-- What lists these capabilities is covered: it lists none, or the module has one of them. [3.31]
abbrev pub IsCovered : Table → List PlainInst → List (List ℕ) → Type 0
IsCovered G is names = (names ≡ []) ⊎ HasNamed G is names

-- Covered are: the enumerant of a value of a kind, if there is one; that of each set bit of a mask, while that of 0 is
-- not asked for; and an operand of another kind than the one named Capability, if its value or mask is. [3.31]
abbrev pub IsCoveredValue : Table → List PlainInst → ℕ → ℕ → Type 0
IsCoveredValue G is k v =
    IfSome (option_and_then (λ s. enumerant_of s.enumerants v) (kind_of G k)) (λ e. IsCovered G is e.capabilities)

unfoldable pub IsCoveredMask : Table → List PlainInst → ℕ → ℕ → Type 0
IsCoveredMask G is k m = AllByRecursion (IsCoveredValue G is k) (set_bits m)

abbrev pub IsCoveredOperand : Table → List PlainInst → Plain → Type 0
IsCoveredOperand G is (Value k v) = number_named G (codes "Capability") ≢ Some k → IsCoveredValue G is k v
IsCoveredOperand G is (Mask k m) = number_named G (codes "Capability") ≢ Some k → IsCoveredMask G is k m
IsCoveredOperand G is _ = Unit {0}

-- What a type declaration needs, of each list one: an int of 16 bits Int16 (22), of 64 Int64 (11); a float of 16
-- Float16Buffer (8) or Float16 (9), of 64 Float64 (10); a vector of 8 or 16 components Vector16 (7); an image or
-- sampler type ImageBasic (13), an image type whose access qualifier, its ninth operand, is ReadWrite (2)
-- ImageReadWrite (14) too. [3.18, 3.31, 3.49.6]
abbrev pub int_needs : List Plain → List (List ℕ)
int_needs (Result t ∷ Word w ∷ os) = if nat_eq w 16 then (22 ∷ []) ∷ []
    else (if nat_eq w 64 then (11 ∷ []) ∷ [] else [])
int_needs _ = []

abbrev pub float_needs : List Plain → List (List ℕ)
float_needs (Result t ∷ Word w ∷ os) = if nat_eq w 16 then (8 ∷ 9 ∷ []) ∷ []
    else (if nat_eq w 64 then (10 ∷ []) ∷ [] else [])
float_needs _ = []

abbrev pub vector_needs : List Plain → List (List ℕ)
vector_needs (Result t ∷ Id c ∷ Word n ∷ os) = if nat_eq n 8 || nat_eq n 16 then (7 ∷ []) ∷ [] else []
vector_needs _ = []

abbrev pub is_read_write : Option Plain → Bool
is_read_write (Some (Value k access)) = nat_eq access 2
is_read_write _ = false

abbrev pub image_needs : List Plain → List (List ℕ)
image_needs os = (13 ∷ []) ∷ (if is_read_write (slice_get os 8) then (14 ∷ []) ∷ [] else [])

abbrev pub needs_of : PlainInst → List (List ℕ)
needs_of i = if nat_eq i.opcode opcode.TYPE_INT then int_needs i.operands
    else (if nat_eq i.opcode opcode.TYPE_FLOAT then float_needs i.operands
    else (if nat_eq i.opcode opcode.TYPE_VECTOR then vector_needs i.operands
    else (if nat_eq i.opcode opcode.TYPE_IMAGE then image_needs i.operands
    else (if nat_eq i.opcode opcode.TYPE_SAMPLER then (13 ∷ []) ∷ [] else []))))

abbrev pub HasOneOf : Table → List PlainInst → List ℕ → Type 0
HasOneOf G is [] = ⊥
HasOneOf G is (c ∷ cs) = Has G is c ⊎ HasOneOf G is cs

-- C2: the entry of the instruction's opcode is covered, if there is one, and so is each operand; and the module has of
-- each list of capabilities that a type declaration needs one. [3.31]
pub record IsCapable (G : Table) (is : List PlainInst) (i : PlainInst) : Type 0 where
  pub entry : IfSome (entry_of G i.opcode) (λ e. IsCovered G is e.capabilities)
  pub operands : AllByRecursion (IsCoveredOperand G is) i.operands
  pub needs : AllByRecursion (HasOneOf G is) (needs_of i)
