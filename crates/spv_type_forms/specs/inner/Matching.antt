-- What is kept of types that match. (For the code alone.)
use Rattle.std.specs.Prelude.{◌≡◌, ◌≢◌, ◌<◌, ◌⊎◌, ◌↔◌, ℕ, List, [], ◌∷◌, Option, Some, IsTrue, false, Vec}
use Rattle.std.specs.Prelude.{length, slice_get, unwrap_or}
use Rattle.std.specs.Ordering.{nat_cmp, is_eq}
use Rattle.std.specs.Cmp.Lexicographic.{slice_cmp}
use Rattle.std.specs.Global.{Global}
use Rattle.std.specs.Map.{lookup}
use Rattle.spv_module.specs.Operand.{Plain, Id, PlainInst}
use Rattle.spv_ids.specs.Outcome.{IsOnly}
use Rattle.spv_type_forms.specs.declared.form.Form.TheVariants as form
use Rattle.spv_type_forms.specs.declared.matching.Matching.{Matching}
use Rattle.spv_type_forms.specs.Form.{form_of}
use Rattle.spv_type_forms.specs.Parts.{members_of}
use Rattle.spv_type_forms.specs.Matches.{is_aggregate, Matches}

-- The aggregate u is declared before instruction n, and c is its number among those of the first instructions.
pub record IsNumbered (is : List PlainInst) (cs : List ℕ) (n u c : ℕ) : Type 0 where
  pub aggregate : IsTrue (is_aggregate (form_of is u))
  pub place : ℕ
  pub before : place < n
  pub one : IsOnly is u place
  pub there : slice_get cs place ≡ Some c

-- The number of a type before instruction n: an aggregate's is kept, that of any other type is its id.
abbrev pub IsNumber : List PlainInst → List ℕ → ℕ → ℕ → ℕ → Type 0
IsNumber is cs n u c = ((is_aggregate (form_of is u) ≡ false) × (c ≡ u)) ⊎ IsNumbered is cs n u c

-- the number of the type that a member is; those of members in order
abbrev pub IsMemberNumber : List PlainInst → List ℕ → ℕ → Plain → ℕ → Type 0
IsMemberNumber is cs n o c = (u : ℕ) × (o ≡ Id u) × IsNumber is cs n u c

abbrev pub AreNumbers : List PlainInst → List ℕ → ℕ → List Plain → List ℕ → Type 0
AreNumbers is cs n [] [] = Unit {0}
AreNumbers is cs n [] (c ∷ ks) = ⊥
AreNumbers is cs n (o ∷ ms) [] = ⊥
AreNumbers is cs n (o ∷ ms) (c ∷ ks) = IsMemberNumber is cs n o c × AreNumbers is cs n ms ks

-- The key of an aggregate that instruction n declares: types with one key match.
pub data IsKey (is : List PlainInst) (cs : List ℕ) (n t : ℕ) : List ℕ → Type 0 where
  array : (e l c : ℕ) → form_of is t ≡ Some (form.Array e l) → IsNumber is cs n e c → IsKey is cs n t (0 ∷ l ∷ c ∷ [])
  struct : (ms : List Plain) (ks : List ℕ) → form_of is t ≡ Some form.Struct → members_of is t ≡ Some ms
      → AreNumbers is cs n ms ks → IsKey is cs n t (1 ∷ ks)

-- the number that is kept of a key
abbrev pub found_in : List (Vec ℕ Global × ℕ) → List ℕ → Option ℕ
found_in es k = lookup (λ (v : Vec ℕ Global). is_eq (slice_cmp nat_cmp k v.items)) es

-- These are the numbers of the aggregates that the first instructions declare, and of their keys.
pub record AreMatched (is : List PlainInst) (cs : List ℕ) (found : List ℕ → Option ℕ) : Type 0 where
  -- two have one number if they match, and only then
  pub alike : (t u c d : ℕ) → IsNumbered is cs (length cs) t c → IsNumbered is cs (length cs) u d
      → (c ≡ d) ↔ Matches is t u
  -- a number is the id of an aggregate that is declared among them
  pub own : (t c : ℕ) → IsNumbered is cs (length cs) t c → IsTrue (is_aggregate (form_of is c))
  pub early : (t c m : ℕ) → IsNumbered is cs (length cs) t c → IsOnly is c m → m < length cs
  -- a key that is kept is that of one of them, and each of their keys is kept
  pub kept : (k : List ℕ) (c : ℕ) → found k ≡ Some c
      → (t : ℕ) × (x : IsNumbered is cs (length cs) t c) × IsKey is cs x.place t k
  pub each : (t c : ℕ) (k : List ℕ) (x : IsNumbered is cs (length cs) t c) → IsKey is cs x.place t k
      → found k ≡ Some c

-- A key's number is c: the one that is kept of it, or else a new one, which is kept of it then. Other keys keep theirs.
pub record KeepsKey (old new : List ℕ → Option ℕ) (key : List ℕ) (own c : ℕ) : Type 0 where
  pub answer : c ≡ unwrap_or (old key) own
  pub here : new key ≡ Some c
  pub others : (k : List ℕ) → k ≢ key → new k ≡ old k

-- What is kept is so.
abbrev pub IsMatching : List PlainInst → Matching → Type 0
IsMatching is matching = AreMatched is matching.numbers.items (found_in matching.keys.entries)
