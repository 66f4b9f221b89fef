use Rattle.std.proofs.Common.{◌≡◌, ◌++◌, ◌∙◌, ap, List, ℕ, string_bytes, append_assoc}
use Rattle.std.specs.Prelude.{codes, decimal}
use Rattle.spv_printer.proofs.Texts.{on_pushed}
use Rattle.spv_printer.proofs.shown.push_header.Goals as goal

together : (old a b d e f x y z w out : List ℕ) → x ≡ old ++ a → y ≡ x ++ b → z ≡ y ++ d → w ≡ z ++ e → out ≡ w ++ f
    → out ≡ old ++ (a ++ (b ++ (d ++ (e ++ f))))
together old a b d e f x y z w out g h i j k =
    let m : out ≡ ((((old ++ a) ++ b) ++ d) ++ e) ++ f = cc in
    m ∙ simp append_assoc

pub returns : goal.returns
returns c =
    on_pushed c.push_str-3.result _ (string_bytes c.push_str-3.new.self) (string_bytes c.push_decimal-2.new.out)
    (codes "\n; Schema: 0\n") c.push_str-3.ensures.bytes (λ p.
    together (string_bytes c.args.out.now) (codes "; SPIR-V\n; Version: 1.6\n; Generator: ")
    (decimal c.args.header.generator) (codes "\n; Bound: ") (decimal c.args.header.bound) (codes "\n; Schema: 0\n")
    _ _ _ _ _ c.in_ok-push_str.ensures.bytes
    (c.in_ok-push_decimal.ensures ∙ ap (λ n. string_bytes c.push_str.new.self ++ decimal n) c.from.ensures)
    c.in_ok-push_str-2.ensures.bytes (c.in_ok-push_decimal-2.ensures
    ∙ ap (λ n. string_bytes c.push_str-2.new.self ++ decimal n) c.from-2.ensures) p)
