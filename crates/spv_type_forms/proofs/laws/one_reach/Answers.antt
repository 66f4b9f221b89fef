use Rattle.std.proofs.Common.{◌≡◌, ℕ, List, [], ◌∷◌, refl}
use Rattle.spv_module.specs.Operand.{PlainInst}
use Rattle.spv_type_forms.specs.Reach.{ReachesType}
use Rattle.spv_type_forms.proofs.laws.one_reach.Goals as goal

same : (is : List PlainInst) (ks : List ℕ) (t u v : ℕ) → ReachesType is t ks u → ReachesType is t ks v → u ≡ v
same is [] t u v (ReachesType.itself _) (ReachesType.itself _) = refl
same is (k ∷ ks) t u v (ReachesType.by_part _ _ a _ _ p r) (ReachesType.by_part _ _ b _ _ q s) =
    let e : a ≡ b = cc in
    same is ks b u v (rw (← e) r) s

pub returns : goal.returns
returns c = same
