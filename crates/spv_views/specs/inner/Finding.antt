-- What is told of a fault, as the code keeps it. (For the code alone.)
use Rattle.std.specs.Prelude.{ℕ, List, string_bytes}
use Rattle.spv_views.specs.Finding.{Told}
use Rattle.spv_views.specs.declared.finding.Found.{Found}

-- with the blocks of a walk
abbrev pub tells : List ℕ → Found → Told
tells walk f = (f.inst, (string_bytes f.lines, walk))
