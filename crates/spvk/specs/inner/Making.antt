-- What is made of a module's bytes. (Own.)
use Rattle.std.specs.Prelude.{ℕ, List}
use Rattle.spv_table.specs.Table.{Table}
use Rattle.spv_extended.specs.declared.reach.Reach.{Reach}
use Rattle.spvk.specs.Explain.{IsExplaining}
use Rattle.spvk.specs.Object.{IsTelling}
use Rattle.spvk.specs.Show.{IsShowing}
use Rattle.spvk.specs.declared.making.Making.{Making}
use Rattle.spvk.specs.declared.making.Making.TheVariants.{Lines, Object, Shown}
use Rattle.spvk.specs.declared.text.Text.{Text}

abbrev pub IsMade : Making → Table → Reach → List ℕ → Text → Type 0
IsMade Lines G reach bytes t = IsExplaining G reach bytes t
IsMade Object G reach bytes t = IsTelling G reach bytes t
IsMade Shown G reach bytes t = IsShowing G reach bytes t
