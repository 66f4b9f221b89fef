use Rattle.std.proofs.Common.{◌≡◌, ◌≢◌, ◌<◌, ◌≤◌, ◌++◌, ◌∙◌, ◌+◌, ◌/◌, ℕ, true, false, [], ◌∷◌, flat_map, ap, sym, refl}
use Rattle.std.proofs.Common.{arith, string_bytes}
use Rattle.std.specs.Prelude.{codes}
use Rattle.std.proofs.lemmas.Bool.Decides.{nat_tests}
use lib.Dec.{ltb}
use lib.Utf8.{encode, next}
use Rattle.spv_lines.specs.Plain.{escaped}
use Rattle.spv_pictures.specs.Label.{is_hidden, marked}
use Rattle.spv_pictures.proofs.Added.{on_ok, on_pushed, two}
use Rattle.spv_pictures.proofs.label.push_hidden.Goals as goal

-- a late control character has the byte 194 and its own number
late : (c : ℕ) → 128 ≤ c → c < 160 → encode c ≡ 194 ∷ c ∷ []
unfolding encode
late c l h =
    let x : ltb c 128 ≡ false = grind (arith, nat_tests) in
    let y : ltb c 2048 ≡ true = grind (arith, nat_tests) in
    let a : 192 + c / 64 ≡ 194 = omega arith in
    let b : next c ≡ c = omega arith in
    rw (x, y, a, b) refl

late_marked : (c : ℕ) → 128 ≤ c → c < 160
    → flat_map marked (flat_map escaped (encode c)) ≡ codes "\\\\xc2" ++ flat_map marked (escaped c)
late_marked c l h = ap (λ z. flat_map marked (flat_map escaped z)) (late c l h) ∙ refl

-- the last two
which : (c : ℕ) → is_hidden c ≡ true → 160 ≤ c → c ≢ 65534 → c ≡ 65535
which c h l n = grind (arith, nat_tests)

first_of_two : flat_map marked (flat_map escaped (encode 65534)) ≡ codes "\\\\xef\\\\xbf\\\\xbe"
unfolding encode
first_of_two = refl

second_of_two : flat_map marked (flat_map escaped (encode 65535)) ≡ codes "\\\\xef\\\\xbf\\\\xbf"
unfolding encode
second_of_two = refl

pub returns-then-code-lt160 : goal.returns-then-code-lt160
returns-then-code-lt160 c =
    on_ok c.push_escaped-then-code-lt160.result _ _ c.push_escaped-then-code-lt160.ensures (λ p.
    two (string_bytes c.args.out.now) (codes "\\\\xc2")
    (flat_map marked (escaped c.from-code.result)) _ _ c.in_ok-push_str.ensures.bytes p
    ∙ ap (λ z. string_bytes c.args.out.now ++ z)
    (ap (λ k. codes "\\\\xc2" ++ flat_map marked (escaped k)) c.from-code.ensures
    ∙ sym (late_marked c.args.character (omega arith) (omega arith))))

pub returns-then-code-eq65534 : goal.returns-then-code-eq65534
returns-then-code-eq65534 c =
    let e : c.args.character ≡ 65534 = sym c.from-code.ensures ∙ c.if-code-eq65534.true in
    on_pushed c.push_str-then-code-eq65534.result _ (string_bytes c.push_str-then-code-eq65534.new.self)
    (string_bytes c.args.out.now) (codes "\\\\xef\\\\xbf\\\\xbe") c.push_str-then-code-eq65534.ensures.bytes (λ p.
    p ∙ ap (λ z. string_bytes c.args.out.now ++ z)
    (sym (ap (λ k. flat_map marked (flat_map escaped (encode k))) e ∙ first_of_two)))

pub returns : goal.returns
returns c =
    let n : c.args.character ≢ 65534 = λ e. c.if-code-eq65534.false (c.from-code.ensures ∙ e) in
    let e : c.args.character ≡ 65535 = which c.args.character c.requires (omega arith) n in
    on_pushed c.push_str-2.result _ (string_bytes c.push_str-2.new.self) (string_bytes c.args.out.now)
    (codes "\\\\xef\\\\xbf\\\\xbf") c.push_str-2.ensures.bytes (λ p.
    p ∙ ap (λ z. string_bytes c.args.out.now ++ z)
    (sym (ap (λ k. flat_map marked (flat_map escaped (encode k))) e ∙ second_of_two)))
