use Rattle.std.proofs.Common.{◌≡◌, ◌++◌, flat_map, string_bytes}
use Rattle.spv_pictures.specs.Label.{drawn, marked}
use Rattle.spv_pictures.proofs.label.push_characters.Given as goal

abbrev pub invariant-loop-character : goal.invariant-loop-character
invariant-loop-character l =
    string_bytes l.out ≡ string_bytes l.fn.out ++ flat_map (λ c. flat_map marked (drawn c)) l.yielded
