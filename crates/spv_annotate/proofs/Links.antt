-- Links, and what stands behind them.
use Rattle.std.proofs.Common.{◌≡◌, ◌<◌, ◌^◌, ◌++◌, ◌∷◌, ◌∙◌, ℕ, List, ap, append_assoc, refl, subst, sym}
use Rattle.std.specs.Prelude.{codes, decimal}
use Rattle.std.specs.Str.{IsUtf8}
use Rattle.std.proofs.lemmas.Str.{IsUtf8-append}
use Rattle.spv_annotate.specs.Page.{link_to}
use Rattle.spv_annotate.proofs.Buffers.{number_utf8, text_utf8}

pub link_behind : (n : ℕ) (word tail : List ℕ)
    → link_to n word ++ tail ≡ codes "<a href=#" ++ (decimal n ++ (codes ">" ++ (word ++ (codes "</a>" ++ tail))))
link_behind n word tail =
    ap (λ z. codes "<a href=#" ++ z) (append_assoc (decimal n) (62 ∷ (word ++ codes "</a>")) tail
    ∙ ap (λ z. decimal n ++ (62 ∷ z)) (append_assoc word (codes "</a>") tail))

pub link_utf8 : (n : ℕ) (word tail : List ℕ) → n < 2 ^ 64 → IsUtf8 word → IsUtf8 tail → IsUtf8 (link_to n word ++ tail)
link_utf8 n word tail h u v =
    let a = IsUtf8-append (codes "</a>") tail (text_utf8 (codes "</a>") refl) v in
    let b = IsUtf8-append (codes ">") _ (text_utf8 (codes ">") refl) (IsUtf8-append word _ u a) in
    subst IsUtf8 (sym (link_behind n word tail))
    (IsUtf8-append (codes "<a href=#") _ (text_utf8 (codes "<a href=#") refl)
    (IsUtf8-append (decimal n) _ (number_utf8 n h) b))
