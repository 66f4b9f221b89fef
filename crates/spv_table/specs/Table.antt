-- The table that contracts see: lists in the order of the grammar file, and look-ups that answer the first element with
-- a number or a name. (Own.)
use Rattle.std.specs.Prelude.{◌≡◌, ◌<◌, ◌^◌, ℕ, List, [], ◌∷◌, Option, Some, None, Bool, true}
use Rattle.std.specs.Prelude.{false, not, ◌&&◌, nat_eq, bytes_eq, codes, if◌then◌else◌, map, length}
use Rattle.std.specs.Prelude.{slice_get, option_map}
use Rattle.std.specs.List.{list_all}
use Rattle.spv_table.specs.declared.table.Entry.{Entry}
use Rattle.spv_table.specs.declared.table.Kind.{Kind}
use Rattle.spv_table.specs.declared.table.Enumerant.{Enumerant}
use Rattle.spv_table.specs.declared.table.Category.{Category}
use Rattle.spv_table.specs.declared.table.Category.TheVariants as category
use Rattle.spv_table.specs.declared.table.Quantifier.{Quantifier}
use Rattle.spv_table.specs.declared.table.Quantifier.TheVariants as quantifier

-- a kind, and its enumerants in the order of the file without those that are dropped [own]
pub record Sort : Type 0 where
  pub kind : Kind
  pub enumerants : List Enumerant

-- the kinds, each name once, at the place that is its number; the instructions, each with its opcode [own]
pub record Table : Type 0 where
  pub kinds : List Sort
  pub entries : List (ℕ × Entry)

-- the first element with a number; the kind of a number, the first entry of an opcode, or enumerant of a value [own]
abbrev pub first_with : {A : Type 0} → (A → ℕ) → ℕ → List A → Option A
first_with number n [] = None
first_with number n (a ∷ later) = if nat_eq (number a) n then Some a else first_with number n later

abbrev pub kind_of : Table → ℕ → Option Sort
kind_of G k = slice_get G.kinds k

abbrev pub entry_of : Table → ℕ → Option Entry
entry_of G opcode = option_map (λ e. e.1) (first_with (λ e. e.0) opcode G.entries)

abbrev pub enumerant_of : List Enumerant → ℕ → Option Enumerant
enumerant_of es value = first_with (λ e. e.value) value es

-- an item of a pattern: a kind once, at most once (`?`), or any number of times (`*`); the pattern of an entry [own]
pub data Item : Type 0 where
  One : ℕ → Item
  Maybe : ℕ → Item
  Many : ℕ → Item

abbrev pub quantified : Quantifier → ℕ → Item
quantified quantifier.One k = One k
quantified quantifier.Maybe k = Maybe k
quantified quantifier.Many k = Many k

abbrev pub pattern_of : Entry → List Item
pattern_of e = map (λ i. quantified i.quantifier i.kind) e.operands

-- a kind whose operands are one id or one literal
abbrev pub is_simple_category : Category → Bool
is_simple_category category.Id = true
is_simple_category category.Literal = true
is_simple_category category.BitEnum = false
is_simple_category category.ValueEnum = false
is_simple_category category.Composite = false

abbrev pub is_simple : Option Sort → Bool
is_simple None = false
is_simple (Some s) = is_simple_category s.kind.category

abbrev pub are_bases : Table → List ℕ → Bool
are_bases G [] = false
are_bases G (k ∷ ks) = list_all (λ b. is_simple (kind_of G b)) (k ∷ ks)

-- a Composite has bases, each of a kind of category Id or Literal
abbrev pub is_sound_category : Table → List ℕ → Category → Bool
is_sound_category G bases category.Composite = are_bases G bases
is_sound_category G bases category.Id = true
is_sound_category G bases category.Literal = true
is_sound_category G bases category.BitEnum = true
is_sound_category G bases category.ValueEnum = true

abbrev pub is_sound : Table → Sort → Bool
is_sound G s = is_sound_category G s.kind.bases s.kind.category

-- is a kind that of a result: of category Id, with the name IdResult
abbrev pub is_id : Category → Bool
is_id category.Id = true
is_id category.Literal = false
is_id category.BitEnum = false
is_id category.ValueEnum = false
is_id category.Composite = false

abbrev pub is_result_sort : Sort → Bool
is_result_sort s = is_id s.kind.category && bytes_eq s.kind.name (codes "IdResult")

-- a number is that of no such kind
abbrev pub is_other_sort : Option Sort → Bool
is_other_sort None = true
is_other_sort (Some s) = not (is_result_sort s)

abbrev pub is_other : Table → ℕ → Bool
is_other G k = is_other_sort (kind_of G k)

-- the parameters of a kind's enumerants, and its bases, are all of other kinds
abbrev pub has_other_parts : Table → Sort → Bool
has_other_parts G s =
    list_all (λ (e : Enumerant). list_all (is_other G) e.parameters) s.enumerants && list_all (is_other G) s.kind.bases

-- what holds of every table: each Composite is made of ids and literals, kinds are numbered in 32 bits, and no
-- parameter and no base is of the kind of results
pub record IsWhole (G : Table) : Type 0 where
  pub sound : list_all (is_sound G) G.kinds ≡ true
  pub count : length G.kinds < 2 ^ 32
  pub apart : list_all (has_other_parts G) G.kinds ≡ true
