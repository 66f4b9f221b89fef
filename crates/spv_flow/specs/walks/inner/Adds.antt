-- What is added to a list. (For the code alone.)
use Rattle.std.specs.Prelude.{◌≡◌, ◌++◌, List, Contains}
use Rattle.spv_table.specs.Table.{Table}
use Rattle.spv_flow.specs.declared.walks.code.Code.{Code}
use Rattle.spv_flow.specs.walks.inner.Code.{IsCode}

-- Elements of which P holds were added at the end, and all of which Q holds.
pub record Adds {A : Type 0} (P Q : A → Type 0) (old new : List A) : Type 0 where
  pub added : List A
  pub all : new ≡ old ++ added
  pub sound : (a : A) → Contains added a → P a
  pub complete : (a : A) → Q a → Contains added a

-- Those were added of which P holds, under each table of which the code is.
abbrev pub AddsBy : {A : Type 0} → Code → (Table → A → Type 0) → List A → List A → Type 0
AddsBy {A} c P old new =
    Adds (λ (a : A). (G : Table) → IsCode G c → P G a) (λ (a : A). (G : Table) × IsCode G c × P G a) old new
