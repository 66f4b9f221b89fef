-- The fronts of patterns: which operands are told by how many there are. (For the code alone.)
use Rattle.std.specs.Prelude.{◌≡◌, ◌+◌, ℕ, List, [], ◌∷◌, Option, Some, None, Bool, true, false}
use Rattle.std.specs.Prelude.{◌&&◌, ◌||◌, nat_eq, nat_le, nat_lt, if◌then◌else◌, min, map, drop}
use Rattle.std.specs.Prelude.{option_map, slice_get, slice_index_or}
use Rattle.spv_table.specs.declared.table.Entry.{Entry}
use Rattle.spv_table.specs.declared.table.Item as declared
use Rattle.spv_table.specs.declared.form.Leaf.TheVariants as leaf
use Rattle.spv_table.specs.declared.form.Form.{Form}
use Rattle.spv_table.specs.declared.form.Form.TheVariants.{Leaf}
use Rattle.spv_table.specs.declared.front.Head.{Head}
use Rattle.spv_table.specs.declared.front.Head.TheVariants.{Nothing, Result, TypeAndResult}
use Rattle.spv_table.specs.declared.front.Front.{Front}
use Rattle.spv_table.specs.declared.front.Ids.{Ids}
use Rattle.spv_table.specs.Table.{Table, Item, One, Maybe, Many, kind_of, entry_of, pattern_of, quantified}
use Rattle.spv_table.specs.inner.Form.{form_at}
use Rattle.spv_table.specs.inner.Results.{is_result_kind}

-- the items of a pattern
abbrev pub items_in : List declared.Item → List Item
items_in is = map (λ i. quantified i.quantifier i.kind) is

-- is a kind an id, and neither that of a result nor that of its type
abbrev pub is_id_form : Form → Bool
is_id_form (Leaf leaf.Id) = true
is_id_form _ = false

abbrev pub is_id_kind : Table → ℕ → Bool
is_id_kind G k = is_id_form (form_at (kind_of G k))

-- is a kind that of a result's type
abbrev pub is_type_form : Form → Bool
is_type_form (Leaf leaf.ResultType) = true
is_type_form _ = false

abbrev pub is_type_kind : Table → ℕ → Bool
is_type_kind G k = is_type_form (form_at (kind_of G k))

-- one more, up to 255
abbrev pub one_more : ℕ → ℕ
one_more n = min (n + 1) 255

-- What an item asks for, and others behind it. One that takes all the operands left comes before no other that has to
-- be there.
abbrev pub ids_before : Table → Item → Ids → Ids
ids_before G (One k) ids = record {
  singles = if is_id_kind G k then one_more ids.singles else 0;
  repeated = is_id_kind G k && ids.repeated;
  least = one_more ids.least;
}
ids_before G (Maybe k) ids = record {
  singles = if is_id_kind G k then one_more ids.singles else 0;
  repeated = is_id_kind G k && ids.repeated;
  least = if nat_eq ids.least 0 then 0 else one_more ids.least;
}
ids_before G (Many k) ids = record {
  singles = 0;
  repeated = is_id_kind G k;
  least = if nat_eq ids.least 0 then 0 else 255;
}

abbrev pub ids_in : Table → List Item → Ids
ids_in G [] = record { singles = 0; repeated = false; least = 0 }
ids_in G (i ∷ is) = ids_before G i (ids_in G is)

-- do items begin with a result
abbrev pub begin_with_result : Table → List Item → Bool
begin_with_result G (One k ∷ is) = is_result_kind G k
begin_with_result G (Maybe k ∷ is) = false
begin_with_result G (Many k ∷ is) = false
begin_with_result G [] = false

-- do they begin with a result's type, and a result behind it
abbrev pub begin_with_both : Table → List Item → Bool
begin_with_both G (One k ∷ is) = is_type_kind G k && begin_with_result G is
begin_with_both G (Maybe k ∷ is) = false
begin_with_both G (Many k ∷ is) = false
begin_with_both G [] = false

-- what they begin with, and how many operands that is
abbrev pub head_in : Table → List Item → Head
head_in G is =
    if begin_with_result G is then Result else (if begin_with_both G is then TypeAndResult else Nothing)

abbrev pub head_len : Head → ℕ
head_len Nothing = 0
head_len Result = 1
head_len TypeAndResult = 2

-- the front of a pattern that has none
abbrev pub no_front : Front
no_front = record { head = Nothing; singles = 0; repeated = false; least = 255 }

abbrev pub front_with : Head → Ids → Front
front_with h ids =
    if nat_eq (min (ids.least + head_len h) 255) 255 then no_front
    else record {
      head = h;
      singles = min (ids.singles + head_len h) 255;
      repeated = ids.repeated;
      least = min (ids.least + head_len h) 255;
    }

abbrev pub front_of : Table → List Item → Front
front_of G is = front_with (head_in G is) (ids_in G (drop (head_len (head_in G is)) is))

-- does a front take so many operands, and no more is due after them
abbrev pub is_taken : Front → ℕ → Bool
is_taken f n = nat_le f.least n && (f.repeated || nat_le n f.singles)

-- the front of an entry's pattern, of the entry at a place, and of an opcode's: past the opcodes of the profile, of
-- which OpModuleProcessed is the greatest, none has a front
abbrev pub entry_front : Table → Option Entry → Front
entry_front G None = no_front
entry_front G (Some e) = front_of G (pattern_of e)

abbrev pub place_front : Table → List (ℕ × Entry) → ℕ → Front
place_front G entries place = entry_front G (option_map (λ e. e.1) (slice_get entries place))

abbrev pub front_at : Table → ℕ → Front
front_at G opcode = if nat_lt opcode 331 then entry_front G (entry_of G opcode) else no_front

-- the fronts of all opcodes, by these, as far as a list goes
pub record AreFronts (G : Table) (fronts : List Front) : Type 0 where
  pub at : (opcode : ℕ) → slice_index_or fronts opcode no_front ≡ front_at G opcode
