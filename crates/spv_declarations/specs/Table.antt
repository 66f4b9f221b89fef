-- Table T: what a decoration stands on. [3.20; own: O7]
use Rattle.std.specs.Prelude.{◌⊎◌, ℕ, List, [], ◌∷◌, Bool, false, nat_le, ◌&&◌, ◌||◌, IsTrue, IsSomeAnd}
use Rattle.spv_module.specs.Operand.{PlainInst}
use Rattle.spv_module.specs.Width.{definition_of, type_of}
use Rattle.spv_type_forms.specs.declared.form.Sort.TheVariants as sort
use Rattle.spv_type_forms.specs.Definitions.{IsGlobal}
use Rattle.spv_type_forms.specs.Types.{HasSort, IsPointer}
use Rattle.spv_declarations.specs.declared.table.Further.{Further}
use Rattle.spv_declarations.specs.declared.table.Further.TheVariants as further
use Rattle.spv_declarations.specs.declared.table.TheConstants.{TABLE, NEVER_ON_MEMBERS}

-- a line: decorations, each from one to another; opcodes, each from one to another; and what is asked besides [own]
abbrev pub Ranges : Type 0
Ranges = record { now : List (ℕ × ℕ) }

abbrev pub Line : Type 0
Line = Ranges × Ranges × Further

abbrev pub is_within : ℕ × ℕ → ℕ → Bool
is_within r n = nat_le r.0 n && nat_le n r.1

abbrev pub is_among : List (ℕ × ℕ) → ℕ → Bool
is_among [] n = false
is_among (r ∷ rs) n = is_within r n || is_among rs n

-- What a line asks of an id besides its opcode: nothing; that its type is a pointer type; that it is a variable of
-- section 9; that its type is an int type or a vector of ints. [3.20]
abbrev pub IsAsked : List PlainInst → Further → ℕ → Type 0
IsAsked is further.Nothing x = Unit {0}
IsAsked is further.Pointer x = IsSomeAnd (type_of is x) (λ t. (class p : ℕ) × IsPointer is t class p)
IsAsked is further.Global x = IsGlobal is x
IsAsked is further.Ints x = IsSomeAnd (type_of is x) (HasSort sort.Int is)

-- The id is such a one as a line says: its definition has one of the opcodes, and it is what is asked besides. [3.20]
abbrev pub IsSuch : List PlainInst → Line → ℕ → Type 0
IsSuch is l x = IsSomeAnd (definition_of is x) (λ i. IsTrue (is_among l.1.now i.opcode)) × IsAsked is l.2 x

-- a decoration is on some line; the id is such a one as some line of the decoration says [own]
abbrev pub is_listed : List Line → ℕ → Bool
is_listed [] d = false
is_listed (l ∷ ls) d = is_among l.0.now d || is_listed ls d

abbrev pub IsOnSome : List PlainInst → List Line → ℕ → ℕ → Type 0
IsOnSome is [] d x = ⊥
IsOnSome is (l ∷ ls) d x = (IsTrue (is_among l.0.now d) × IsSuch is l x) ⊎ IsOnSome is ls d x

-- the table of src/table.rt [3.20; own]
unfoldable pub lines : List Line
lines = TABLE

unfoldable pub never_on_members : List (ℕ × ℕ)
never_on_members = NEVER_ON_MEMBERS.now

-- The decoration d may stand on the id x: it is on no line, or x is such a one as one of its lines says. [3.20]
abbrev pub StandsOn : List PlainInst → ℕ → ℕ → Type 0
StandsOn is d x = IsTrue (is_listed lines d) → IsOnSome is lines d x

-- The decoration is never one of members. [3.20]
abbrev pub IsNeverOnMembers : ℕ → Type 0
IsNeverOnMembers d = IsTrue (is_among never_on_members d)
