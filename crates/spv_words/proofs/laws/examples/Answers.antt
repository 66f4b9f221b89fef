use Rattle.std.proofs.Common.{◌≡◌, ◌<◌, ◌≤◌, ℕ, List, [], ◌∷◌, lit<, lit≤, refl, arith}
use Rattle.spv_words.specs.declared.words.Order.TheVariants.{Little, Big}
use Rattle.spv_words.specs.declared.words.WordError.TheVariants.{W2}
use Rattle.spv_words.specs.Words.{words_of}
use Rattle.spv_words.proofs.Standing.{Octets, words-stand, one_order, module-tells}
use Rattle.spv_words.proofs.Refusal.{Found, found_module, broken_bound}
use Rattle.std.proofs.lemmas.List.Elements.{All-from_recursion}
use Rattle.spv_words.proofs.laws.examples.Goals as goal

abbrev boundless : List ℕ
boundless = 7 ∷ 35 ∷ 2 ∷ 3 ∷ 0 ∷ 1 ∷ 6 ∷ 0 ∷ 0 ∷ 0 ∷ 0 ∷ 7 ∷ 0 ∷ 0 ∷ 0 ∷ 0 ∷ 0 ∷ 0 ∷ 0 ∷ 0 ∷ []

abbrev right : List ℕ
right = 7 ∷ 35 ∷ 2 ∷ 3 ∷ 0 ∷ 1 ∷ 6 ∷ 0 ∷ 0 ∷ 0 ∷ 0 ∷ 7 ∷ 0 ∷ 0 ∷ 0 ∷ 5 ∷ 0 ∷ 0 ∷ 0 ∷ 0 ∷ []

octets : Octets right
octets = All-from_recursion (λ b. b < 256) right (lit< tt, (lit< tt, (lit< tt, (lit< tt, (lit< tt, (lit< tt, (lit< tt, (lit< tt, (lit< tt, (lit< tt, (lit< tt, (lit< tt, (lit< tt, (lit< tt, (lit< tt, (lit< tt, (lit< tt, (lit< tt, (lit< tt, (lit< tt, tt))))))))))))))))))))

boundless_octets : Octets boundless
boundless_octets = All-from_recursion (λ b. b < 256) boundless (lit< tt, (lit< tt, (lit< tt, (lit< tt, (lit< tt, (lit< tt, (lit< tt, (lit< tt, (lit< tt, (lit< tt, (lit< tt, (lit< tt, (lit< tt, (lit< tt, (lit< tt, (lit< tt, (lit< tt, (lit< tt, (lit< tt, (lit< tt, tt))))))))))))))))))))

found_boundless : Found Big boundless
found_boundless = record { size = lit≤ tt; least = lit≤ tt; groups = refl; octets = boundless_octets; magic = refl }

pub returns-clause-module_bytes : goal.returns-clause-module_bytes
returns-clause-module_bytes c =
    found_module Big right
    (record { size = lit≤ tt; least = lit≤ tt; groups = refl; octets = octets; magic = refl }) refl refl (lit≤ tt) (lit≤ tt)

pub returns-clause-bound_first : goal.returns-clause-bound_first
returns-clause-bound_first c = broken_bound Big boundless found_boundless refl refl (λ k. let low : 1 ≤ 0 = k.0 in omega arith)

pub returns-clause-one_order : goal.returns-clause-one_order
returns-clause-one_order c = λ ws m.
    let e : Little ≡ Big = one_order Little Big right ws (words_of Big right) (lit≤ tt) (module-tells Little right ws m) (record { stands = words-stand Big right octets refl; magic = refl }) in
    cc

pub returns-clause-size_second : goal.returns-clause-size_second
returns-clause-size_second c = λ b. let h : 20 ≤ 3 = b.before W2 (lit< tt) in omega arith
