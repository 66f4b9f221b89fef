-- Which words spell operands of a kind, and of a pattern.
use Rattle.std.specs.Prelude.{◌≡◌, ◌≢◌, ◌<◌, ◌≤◌, ◌*◌, ◌/◌, ◌%◌, ℕ, zero, suc, List}
use Rattle.std.specs.Prelude.{[], ◌∷◌, ◌++◌, Option, Some, nat_eq, filter, map, length, option_map}
use Rattle.std.specs.Prelude.{option_and_then, IsUtf8}
use Rattle.std.specs.List.{AllByRecursion}
use Rattle.spv_table.specs.declared.table.Enumerant.{Enumerant}
use Rattle.spv_table.specs.Table.{Table, enumerant_of, Item, One, Maybe, Many}
use Rattle.spv_module.specs.Operand.{Plain, OfType, Result, Id, Word, Number, Text, Value, Mask, Context, and_then}
use Rattle.spv_module.specs.Operand.{after}
use Rattle.spv_module.specs.Shape.{Slot, alone, Shape, AsType, AsResult, AsId, AsWord, AsNumber, AsText, AsValue}
use Rattle.spv_module.specs.Shape.{AsMask, AsParts, shape_of}

-- the octets of words, four of each, the lowest first [2.2.1]
abbrev pub octets_of : List ℕ → List ℕ
octets_of [] = []
octets_of (w ∷ ws) = (w % 256) ∷ (w / 256 % 256) ∷ (w / 65536 % 256) ∷ (w / 16777216 % 256) ∷ octets_of ws

-- The words' octets are those of a text without a zero octet, a zero octet, and up to three octets more, the padding;
-- all octets are zero. [2.2.1]
pub record HoldsText (ws t padding : List ℕ) : Type 0 where
  pub words : AllByRecursion (λ w. w < 4294967296) ws
  pub octets : octets_of ws ≡ t ++ (0 ∷ padding)
  pub no_zero : AllByRecursion (λ b. b ≢ 0) t
  pub short : length padding < 4

abbrev pub AreZeros : List ℕ → Type 0
AreZeros padding = AllByRecursion (λ b. b ≡ 0) padding

-- the numbers of one bit, from the bit `b` up, `n` of them; the set bits of a word, the smaller first [own]
abbrev pub bits_from : ℕ → ℕ → List ℕ
bits_from zero b = []
bits_from (suc n) b = b ∷ bits_from n (2 * b)

abbrev pub set_bits : ℕ → List ℕ
set_bits x = filter (λ b. nat_eq (x / b % 2) 1) (bits_from 32 1)

-- the parameters of an enumerant, if there is one; of bits, if each has one; of a mask's bits, smaller first [2.3]
abbrev pub parameters_of : List Enumerant → ℕ → Option (List ℕ)
parameters_of es x = option_map (λ e. e.parameters) (enumerant_of es x)

abbrev pub parameters_of_all : List Enumerant → List ℕ → Option (List ℕ)
parameters_of_all es [] = Some []
parameters_of_all es (b ∷ bs) =
    option_and_then (λ ks. option_map (λ js. ks ++ js) (parameters_of_all es bs)) (parameters_of es b)

unfoldable pub mask_parameters : List Enumerant → ℕ → Option (List ℕ)
mask_parameters es x = parameters_of_all es (set_bits x)

-- A kind `k` of that shape takes one operand, of the words; the kinds of its parameters are due after it. [2.3]
pub data Takes (k : ℕ) : Shape → Plain → List ℕ → List Slot → Type 0 where
  result_type : (x : ℕ) → Takes k AsType (OfType x) (x ∷ []) []
  result : (x : ℕ) → Takes k AsResult (Result x) (x ∷ []) []
  id : (x : ℕ) → Takes k AsId (Id x) (x ∷ []) []
  word : (x : ℕ) → Takes k AsWord (Word x) (x ∷ []) []
  narrow : (w x : ℕ) → w ≤ 32 → Takes k (AsNumber (Some w)) (Number x 0 1) (x ∷ []) []
  wide : (w low high : ℕ) → 32 < w → Takes k (AsNumber (Some w)) (Number low high 2) (low ∷ high ∷ []) []
  text : (t ws padding : List ℕ) → HoldsText ws t padding → AreZeros padding → IsUtf8 t → Takes k AsText (Text t) ws []
  value : (es : List Enumerant) (x : ℕ) (ks : List ℕ) → parameters_of es x ≡ Some ks
      → Takes k (AsValue es) (Value k x) (x ∷ []) (map alone ks)
  mask : (es : List Enumerant) (x : ℕ) (ks : List ℕ) → mask_parameters es x ≡ Some ks
      → Takes k (AsMask es) (Mask k x) (x ∷ []) (map alone ks)

mutual
  -- The operands of a kind, and the words that spell them: one operand and those of its parameters, or those of the
  -- bases. [2.3]
  pub data Spells (G : Table) : Context → Slot → List Plain → List ℕ → Type 0 where
    operand : (c : Context) (s : Slot) (o : Plain) (ws : List ℕ) (ss : List Slot) (os : List Plain) (us : List ℕ)
        → Takes s.kind (shape_of G c s) o ws ss → SpellsAll G (and_then c o) ss os us → Spells G c s (o ∷ os) (ws ++ us)
    parts : (c : Context) (s : Slot) (ss : List Slot) (os : List Plain) (us : List ℕ)
        → shape_of G c s ≡ AsParts ss → SpellsAll G c ss os us → Spells G c s os us

  -- The same for kinds in order, each after the operands of those before it.
  pub data SpellsAll (G : Table) : Context → List Slot → List Plain → List ℕ → Type 0 where
    none : (c : Context) → SpellsAll G c [] [] []
    more : (c : Context) (s : Slot) (ss : List Slot) (os ps : List Plain) (us vs : List ℕ)
        → Spells G c s os us → SpellsAll G (after c os) ss ps vs → SpellsAll G c (s ∷ ss) (os ++ ps) (us ++ vs)

-- The operands of a pattern, and all of the further words of an instruction. [2.3]
pub data Match (G : Table) : Context → List Item → List Plain → List ℕ → Type 0 where
  nothing : (c : Context) → Match G c [] [] []
  one : (c : Context) (k : ℕ) (is : List Item) (os ps : List Plain) (us vs : List ℕ)
      → Spells G c (alone k) os us → Match G (after c os) is ps vs → Match G c (One k ∷ is) (os ++ ps) (us ++ vs)
  no_maybe : (c : Context) (k : ℕ) (is : List Item) (os : List Plain)
      → Match G c is os [] → Match G c (Maybe k ∷ is) os []
  maybe : (c : Context) (k : ℕ) (is : List Item) (os ps : List Plain) (us vs : List ℕ) → us ++ vs ≢ []
      → Spells G c (alone k) os us → Match G (after c os) is ps vs → Match G c (Maybe k ∷ is) (os ++ ps) (us ++ vs)
  no_many : (c : Context) (k : ℕ) (is : List Item) (os : List Plain)
      → Match G c is os [] → Match G c (Many k ∷ is) os []
  many : (c : Context) (k : ℕ) (is : List Item) (os ps : List Plain) (us vs : List ℕ) → us ++ vs ≢ []
      → Spells G c (alone k) os us → Match G (after c os) (Many k ∷ is) ps vs
      → Match G c (Many k ∷ is) (os ++ ps) (us ++ vs)
