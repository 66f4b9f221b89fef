-- Which of two broken rules is told. (For the code alone.)
use Rattle.std.specs.Prelude.{◌≡◌, ◌<◌, ◌≤◌, ◌⊎◌, Option, Some, None, IfSome, MatchOption}
use Rattle.spv_layout.specs.First.{rank_of}
use Rattle.spv_standard.specs.declared.found.Found.{Found}

-- one stands at a lower instruction than another; or at the same, and its rule does not come later in the order of
-- rules
abbrev pub ComesBefore : Found → Found → Type 0
ComesBefore a b = (a.inst < b.inst) ⊎ ((a.inst ≡ b.inst) × (rank_of a.rule ≤ rank_of b.rule))

-- none, where there is none; else one of the two, which comes before both
abbrev pub IsEarlier : Option Found → Option Found → Option Found → Type 0
IsEarlier one other result = MatchOption result ((one ≡ None) × (other ≡ None))
    (λ f. ((one ≡ Some f) ⊎ (other ≡ Some f)) × IfSome one (ComesBefore f) × IfSome other (ComesBefore f))
