use Rattle.std.proofs.Common.{◌≡◌, ◌≤◌, ◌<◌, ℕ, zero, suc, List, [], ◌∷◌, lit<, lit≤, refl, ap, arith, length, take, drop}
use Rattle.std.proofs.lemmas.List.{length-take-le}
use Rattle.std.proofs.lemmas.List.Elements.{All-from_recursion}
use Rattle.spv_words.specs.declared.words.Order.TheVariants.{Little}
use Rattle.spv_words.proofs.Standing.{Octets, words-stand}
use Rattle.spv_words.proofs.laws.stream_examples.Goals as goal

octets : Octets (1 ∷ 0 ∷ 0 ∷ 0 ∷ [])
octets = All-from_recursion (λ b. b < 256) (1 ∷ 0 ∷ 0 ∷ 0 ∷ []) (lit< tt, (lit< tt, (lit< tt, (lit< tt, tt))))

abbrev none_left : List ℕ
none_left = []

abbrev both : List ℕ
both = 5 ∷ 6 ∷ []

no_rest : (k : ℕ) → k ≤ 1 → none_left ≡ drop k both → ⊥
no_rest zero h e = cc
no_rest (suc zero) h e = cc
no_rest (suc (suc k)) h e = omega arith

pub returns-clause-wrote : goal.returns-clause-wrote
returns-clause-wrote c = record { bytes = 1 ∷ 0 ∷ 0 ∷ 0 ∷ []; stands = words-stand Little (1 ∷ 0 ∷ 0 ∷ 0 ∷ []) octets refl; fits = lit≤ tt; front = refl }

pub returns-clause-wrote_nothing : goal.returns-clause-wrote_nothing
returns-clause-wrote_nothing c = λ h.
    let f = h.front in
    let e : [] ≡ take 2 h.bytes = cc in
    let l = length-take-le 2 h.bytes h.fits in
    let z : 0 ≡ length (take 2 h.bytes) = ap length e in
    omega arith

pub returns-clause-gave : goal.returns-clause-gave
returns-clause-gave c = record { given = 1; most = lit≤ tt; rest = refl }

pub returns-clause-gave_both : goal.returns-clause-gave_both
returns-clause-gave_both c = λ h. let f = h.rest in no_rest h.given h.most cc
