-- How the line of an instruction is marked.
use Rattle.std.proofs.Common.{◌≡◌, ℕ, true, false, refl}
use Rattle.std.specs.Prelude.{codes}
use Rattle.spv_table.specs.Lookups.{is_number}
use Rattle.spv_annotate.specs.Page.{Scene, is_walked, line_class}

-- as that of a block of the walk
pub class_walked : (S : Scene) (n : ℕ) → is_number n S.fault ≡ false → is_walked S n ≡ true
    → line_class S n ≡ codes " class=walk"
class_walked S n f w = rw (f, w) refl
