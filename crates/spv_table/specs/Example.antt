-- Small tables, for the worked examples.
use Rattle.std.specs.Prelude.{ℕ, List, [], ◌∷◌, codes}
use Rattle.spv_table.specs.declared.table.Category.TheVariants as category
use Rattle.spv_table.specs.declared.table.Enumerant.{Enumerant}
use Rattle.spv_table.specs.Table.{Table}

-- the table of nothing
abbrev pub empty_table : Table
empty_table = record { kinds = []; entries = [] }

-- a capability that lists names
abbrev pub capability : List ℕ → ℕ → List (List ℕ) → Enumerant
capability name value names = record { name = name; value = value; parameters = []; capabilities = names }

-- a table of the kind Capability: 1 lists nothing, 2 lists 1, 3 lists 2, and 4 lists a name that no capability bears
abbrev pub capability_table : Table
capability_table =
    record {
      kinds = record {
        kind = record {
          name = codes "Capability";
          category = category.ValueEnum;
          bases =
              [];
        };
        enumerants =
            capability (codes "A") 1 [] ∷ capability (codes "B") 2 (codes "A" ∷ []) ∷ capability (codes "C") 3
            (codes "B" ∷ []) ∷ capability (codes "D") 4 (codes "X" ∷ []) ∷ [];
      } ∷ [];
      entries = [];
    }
