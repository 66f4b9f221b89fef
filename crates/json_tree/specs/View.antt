-- What a tree stands for, in the words of `serde_json`. (Own.)
use Rattle.std.specs.Prelude.{ℕ, zero, suc, ◌-◌, Bool, List, [], ◌∷◌, Option, Some, None, option_map}
use Rattle.std.specs.Prelude.{option_and_then, nat_le, if◌then◌else◌}
use Rattle.std.specs.Borrow.{Bor}
use Rattle.serde_json.specs.Data as serde
use Rattle.serde_json.specs.Data.{Num, Data, Items, Members, no_members, put}
use Rattle.serde_json.specs.Find.{as_str}
use Rattle.serde_json.specs.View.{items_of}

-- What a node of a tree is. The nodes that lie in an array or an object come right after it, in the order of the text;
-- a member is its key, a text, and its value. The number says how many nodes they are.
pub data Content : Type 0 where
  null : Content
  boolean : Bool → Content
  number : Num → Content
  string : List ℕ → Content
  array : ℕ → Content
  object : ℕ → Content

abbrev pub nodes_in : Content → ℕ
nodes_in null = 0
nodes_in (boolean b) = 0
nodes_in (number n) = 0
nodes_in (string s) = 0
nodes_in (array n) = n
nodes_in (object n) = n

-- of values in order, each with the number of nodes in it, the first that take just so many nodes, and those after them
abbrev pub within : List (ℕ × Data) → ℕ → Option (List Data × List (ℕ × Data))
within [] zero = Some ([], [])
within [] (suc n) = None
within (v ∷ vs) zero = Some ([], v ∷ vs)
within (v ∷ vs) (suc n) = if nat_le v.0 n then option_map (λ s. (v.1 ∷ s.0, s.1)) (within vs (n - v.0)) else None

-- texts and values in turn as members
abbrev pub paired : List Data → Option (List (List ℕ × Data))
paired [] = Some []
paired (k ∷ []) = None
paired (k ∷ d ∷ ds) = option_and_then (λ key. option_map (λ ms. (key, d) ∷ ms) (paired ds)) (as_str k)

-- the members go in one after another, so the last value of a key stays
abbrev pub members_from : List (List ℕ × Data) → Members → Members
members_from [] found = found
members_from (m ∷ ms) found = members_from ms (put m.0 m.1 found)

abbrev pub members_of : List (List ℕ × Data) → Members
members_of ms = members_from ms no_members

-- a node before values, of which its own are the first
abbrev pub value_before : Content → List (ℕ × Data) → Option (List (ℕ × Data))
value_before null vs = Some ((0, serde.null) ∷ vs)
value_before (boolean b) vs = Some ((0, serde.boolean b) ∷ vs)
value_before (number n) vs = Some ((0, serde.number n) ∷ vs)
value_before (string s) vs = Some ((0, serde.string s) ∷ vs)
value_before (array n) vs = option_map (λ s. (n, serde.array (items_of s.0)) ∷ s.1) (within vs n)
value_before (object n) vs =
    option_and_then (λ s. option_map (λ ms. (n, serde.object (members_of ms)) ∷ s.1) (paired s.0)) (within vs n)

-- the values that nodes are, one after another, each with the number of nodes in it
abbrev pub values : List Content → Option (List (ℕ × Data))
values [] = Some []
values (c ∷ cs) = option_and_then (value_before c) (values cs)

abbrev pub first_of : Option (List (ℕ × Data)) → Data
first_of None = serde.null
first_of (Some []) = serde.null
first_of (Some (v ∷ vs)) = v.1

-- the value of the first node
abbrev pub view : List Content → Data
view cs = first_of (values cs)

-- the values of the first nodes, which are so many
abbrev pub inside : List Content × ℕ → Option (List Data)
inside p = option_map (λ s. s.0) (option_and_then (λ vs. within vs p.1) (values p.0))

abbrev pub all_or_none : {A : Type 0} → Option (List A) → List A
all_or_none None = []
all_or_none (Some xs) = xs

abbrev pub items_left : List Content × ℕ → List Data
items_left p = all_or_none (inside p)

abbrev pub items_view : List Content × ℕ → Items
items_view p = items_of (items_left p)

abbrev pub members_left : List Content × ℕ → List (List ℕ × Data)
members_left p = all_or_none (option_and_then paired (inside p))

abbrev pub members_view : List Content × ℕ → Members
members_view p = members_of (members_left p)

abbrev pub member_view : Bor (List ℕ) × List Content → List ℕ × Data
member_view m = (m.0.now, view m.1)
