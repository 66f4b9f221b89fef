-- Texts that are put together from many.
use Rattle.std.proofs.Common.{◌≡◌, ◌++◌, ◌∙◌, List, ℕ, ap, arith, append_assoc, map}
use Rattle.std.proofs.lemmas.List.{length-map}
use Rattle.spv_module.specs.declared.module.Inst.{Inst}
use Rattle.spv_module.specs.Module.{plain_inst}
use Rattle.spv_layout.specs.Place.{AreFew, IsShort}
use Rattle.spv_annotate.proofs.Places.{few_short}

-- one text more in front of the others
pub behind : (out a b mid last : List ℕ) → mid ≡ out ++ a → last ≡ mid ++ b → last ≡ out ++ (a ++ b)
behind out a b mid last e f = f ∙ (ap (λ z. z ++ b) e ∙ append_assoc out a b)

-- five texts, one behind the other
pub whole : (front contents middle body end one two three last : List ℕ) → one ≡ front ++ contents → two ≡ one ++ middle
    → three ≡ two ++ body
    → last ≡ three ++ end → last ≡ front ++ (contents ++ (middle ++ (body ++ end)))
whole front contents middle body end one two three last e f g h =
    let k : last ≡ one ++ (middle ++ (body ++ end)) = behind one middle (body ++ end) two last f
    (behind two body end three last g h) in
    behind front contents (middle ++ (body ++ end)) one last e k

-- a module that is short has few instructions
pub few : (xs : List Inst) → IsShort (map plain_inst xs) → AreFew xs
few xs h = let f = few_short (map plain_inst xs) h in let e = length-map xs plain_inst in omega (arith, f, e)
